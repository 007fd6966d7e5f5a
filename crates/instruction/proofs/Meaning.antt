-- What the code's instructions mean: each fits, its word is decoded to it with its number reduced, and what a word is decoded to has
-- that word.
use mathlib.Core.Path.{◌≡◌, refl, sym, ap, ◌∙◌}
use Prim.Native.Nat.{ℕ, ◌<◌}
use mathlib.Core.List.{List, [], ◌∷◌}
use lib.IntN.{ℤ}
use Rattle.text_lexical.specs.Bytes.{value, is_some}
use Rattle.text_lexical.specs.Promised.{whole_meant}
use Rattle.instruction.specs.Table.{Place, reg, num, mark, Form, R, I, Shift, Load, Store, Branch, Jump, System, places, Row}
use Rattle.instruction.specs.Operands.{Instruction as Meant}
use Rattle.instruction.specs.Words.{word_of, instruction_of}
use Rattle.instruction.specs.Promised.{row_for, registers_for, number_for, registers_of, parts_of, instruction_meant}
use Rattle.instruction.specs.declared.instruction.Instruction.{Instruction}
use Rattle.instruction.specs.Fits.{places_of, Regs, number_range, has_number, Fits, reduced_to}
use Rattle.instruction.proofs.Rows.{named-row}
use Rattle.instruction.proofs.Parts.{instruction-row, register-below}
use Rattle.instruction.proofs.Decoding.{decode-encode, encode-decode}

-- ---- it fits

registers-fit : (f : Form) (a b c : ℕ) → a < 16 → b < 16 → c < 16 → Regs (places f) (registers_for (places f) (a ∷ b ∷ c ∷ []))
unfolding places Regs registers_for
registers-fit R a b c ha hb hc = (ha, (hb, (hc, tt)))
registers-fit I a b c ha hb hc = (ha, (hb, tt))
registers-fit Shift a b c ha hb hc = (ha, (hb, tt))
registers-fit Load a b c ha hb hc = (ha, (hb, tt))
registers-fit Store a b c ha hb hc = (ha, (hb, tt))
registers-fit Branch a b c ha hb hc = (ha, (hb, tt))
registers-fit Jump a b c ha hb hc = (ha, tt)
registers-fit System a b c ha hb hc = tt

number_fits : (ps : List Place) (z : ℤ) → is_some (number_for ps z) ≡ has_number ps
unfolding is_some number_for has_number number_range
number_fits [] z = refl
number_fits (num bit width signed ∷ ps) z = refl
number_fits (reg bit ∷ ps) z = number_fits ps z
number_fits (mark m ∷ ps) z = number_fits ps z

-- The meaning of an instruction fits.
pub meant-fits : (i : Instruction) → Fits (instruction_meant i)
meant-fits i =
    let r = row_for (parts_of i).mnemonic in
    let o = (parts_of i).operands in
    record {
      in_table = (named-row (parts_of i).mnemonic r (instruction-row i)).0;
      registers = registers-fit r.form _ _ _ (register-below o.first) (register-below o.second) (register-below o.third);
      number = number_fits (places_of r) _;
    }

-- ---- what it tells

-- Instructions that mean the same have one mnemonic, and the same registers and the same number, where their form has a place for them.
pub meant-tells : (i j : Instruction) → instruction_meant i ≡ instruction_meant j → let ps = places_of (row_for (parts_of i).mnemonic) in
    ((parts_of i).mnemonic ≡ (parts_of j).mnemonic)
    × (registers_for ps (registers_of (parts_of i).operands) ≡ registers_for ps (registers_of (parts_of j).operands))
    × (number_for ps (whole_meant (parts_of i).operands.number) ≡ number_for ps (whole_meant (parts_of j).operands.number))
meant-tells i j e =
    let r = ap (λ (x : Meant). x.row) e in (
      sym (named-row (parts_of i).mnemonic _ (instruction-row i)).1 ∙ ap (λ (x : Row). x.mnemonic) r ∙ (named-row (parts_of j).mnemonic _ (instruction-row j)).1,
      ap (λ (x : Meant). x.registers) e ∙ ap (λ (x : Row). registers_for (places_of x) (registers_of (parts_of j).operands)) (sym r),
      ap (λ (x : Meant). x.number) e ∙ ap (λ (x : Row). number_for (places_of x) (whole_meant (parts_of j).operands.number)) (sym r),
    )

-- ---- its word

-- The word of an instruction is decoded to it, its number reduced.
pub word-decoded : (i : Instruction) → instruction_of (word_of (instruction_meant i)) ≡ value (reduced_to (instruction_meant i))
word-decoded i = decode-encode (instruction_meant i) (meant-fits i)

-- The instruction that a word is decoded to has that word.
pub decoded-word : (w : ℕ) (i : Instruction) → value (instruction_meant i) ≡ instruction_of w → word_of (instruction_meant i) ≡ w
decoded-word w i e = encode-decode w (instruction_meant i) (sym e)
