-- What decoded values mean in terms of the definitions, and what the functions that encode, decode and write promise.
use Rattle.std.specs.Prelude.{ℕ, ◌+◌, ◌^◌, ◌≤◌, ◌≡◌, true, false, ltb, List, ◌∷◌, ◌++◌, ℤ, Result, Ok, Err, Some, None}
use Rattle.std.specs.Prelude.{Option as StdOption}
use Rattle.std.proofs.Math.Option.{Option}
use Rattle.text_lexical.specs.Numbers.{meant_by}
use Rattle.text_lexical.specs.Promised.{index_of, whole_meant, whole_for}
use Rattle.text_lexical.specs.declared.register.Register.{Register}
use Rattle.text_lexical.specs.declared.number.Whole.{Whole}
use Rattle.instruction.specs.Table.{a-comma, an-opening, a-closing, Form, places}
use Rattle.instruction.specs.Text.{register_text, separator_text, operands_text}
use Rattle.instruction.specs.Words.{fields, field_at, instruction_of}
use Rattle.instruction.specs.Promised.{row_of, parts_of, instruction_meant}
use Rattle.instruction.specs.declared.instruction.Instruction.{Instruction}
use Rattle.instruction.specs.declared.opcode.Mnemonic.{Mnemonic}
use Rattle.instruction.specs.declared.field.Field.{Field}
use Rattle.refusal.specs.Refusals.{answered}
use Rattle.refusal.specs.declared.refusal.Refusal.{Refusal}

-- ---- words

-- The number of a decoded instruction is settled: a 0 has no sign.
abbrev pub DecodedSettled : Result Instruction Refusal → Type 0
DecodedSettled (Ok i) = (parts_of i).operands.number ≡ whole_for (whole_meant (parts_of i).operands.number)
DecodedSettled (Err r) = Unit {0}

-- What a word is decoded to, in every field.
pub record DecodesTo (word : ℕ) (r : Result Instruction Refusal) : Type 0 where
  pub means : answered instruction_meant r ≡ instruction_of word
  pub settled : DecodedSettled r

-- The word of a form's registers and number, with the opcode of a mnemonic.
unfoldable pub form_word : Form → Mnemonic → List ℕ → Option ℤ → ℕ
form_word f m rs n = (row_of m).opcode + fields (places f) rs n

-- A field of a word: it begins no higher than bit 15, has at most twenty-one bits, and ends within the thirty-two of a word.
pub record IsField (f : Field) : Type 0 where
  pub begins : f.bit ≤ 15
  pub narrow : f.range.width ≤ 21
  pub ends : f.bit + f.range.width ≤ 32

-- The number that a field means, where no bit above the field is set.
abbrev pub highest_number : ℕ → Field → StdOption Whole
highest_number word f =
    elim (ltb word (2 ^ (f.bit + f.range.width))) [ true ↦ Some (whole_for (meant_by f.range.signed f.range.width (field_at word f.bit f.range.width))) | false ↦ None ]

-- ---- the texts of forms, in pieces

-- A register with a comma and a space after it; and one in brackets.
abbrev pub next_text : Register → List ℕ
next_text r = register_text (index_of r) ++ separator_text a-comma

abbrev pub base_text : Register → List ℕ
base_text r = separator_text an-opening ++ (register_text (index_of r) ++ separator_text a-closing)

-- A mnemonic with its first register, between a space and a comma.
abbrev pub start_text : Mnemonic → Register → List ℕ
start_text m a = (row_of m).mnemonic ++ 32 ∷ next_text a

-- The text of a form's registers and number, with a mnemonic.
unfoldable pub form_text : Form → Mnemonic → List ℕ → Option ℤ → List ℕ
form_text f m rs n = (row_of m).mnemonic ++ operands_text (places f) rs n
