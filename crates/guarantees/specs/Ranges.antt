-- Numbers that fit: in every accepted call the number of a line is the one that its word is listed with. Quotations are document 02's, c).
use Rattle.std.specs.Prelude.{ℕ, ◌^◌, ◌≡◌, Bool, true, false, List, ◌∷◌, ◌++◌, take, drop, ltb, ℤ}
use Rattle.std.proofs.Math.Option.{Option, none, some}
use Rattle.text_lexical.specs.Bytes.{value}
use Rattle.text_lexical.specs.Numbers.{NumberRange, lies_in, meant_by, little}
use Rattle.text_lexical.specs.Names.{Name}
use Rattle.text.specs.Tokens.{Token, identifier, register, number, hex, binary, directive, comma, colon, opening, closing, tokens}
use Rattle.text.specs.Lines.{lines, content}
use Rattle.instruction.specs.Table.{places}
use Rattle.instruction.specs.Operands.{Draft}
use Rattle.instruction.specs.Words.{instruction_of}
use Rattle.instruction.specs.Fits.{number_range}
use Rattle.image.specs.Assembling.{codes}
use Rattle.guarantees.specs.Calls.{AcceptedCall, filled}
use Rattle.guarantees.specs.Edits.{read_below, place_below}
use Rattle.guarantees.specs.NameSets.{NameSet}

-- A line of a source, among those above and below it, that holds an instruction; and a token of the line.
pub record TokenOf (names : List Name) (source : List ℕ) : Type 0 where
  pub above : List (List ℕ)
  pub line : List ℕ
  pub below : List (List ℕ)
  pub stands : lines source ≡ above ++ (line ∷ below)
  pub label : Option (List ℕ)
  pub draft : Draft
  pub holds : read_below names above line ≡ record { label = label; effect = codes draft }
  pub left : List Token
  pub token : Token
  pub right : List Token
  pub among : tokens names (content line) ≡ some (left ++ (token ∷ right))

-- Where the word of that instruction stands in an image.
abbrev pub place : {names : List Name} {source : List ℕ} → TokenOf names source → ℕ
place {names} t = place_below names t.above

-- What the bits of a pattern mean, if there are no more than a range has.
unfoldable pub bits_meant : NumberRange → ℕ → Option ℤ
bits_meant r n = elim (ltb n (2 ^ r.width)) [ true ↦ some (meant_by r.signed r.width n) | false ↦ none ]

-- What comes out of a number that went in: of a decimal the number itself, and of Hex and Binary, which "are bit patterns", what the bits mean;
-- nothing of one that does not fit.
unfoldable pub comes_out_as : NumberRange → Token → Option ℤ
comes_out_as r (number z) = elim (lies_in r z) [ true ↦ some z | false ↦ none ]
comes_out_as r (hex n) = bits_meant r n
comes_out_as r (binary n) = bits_meant r n
comes_out_as r (identifier s) = none
comes_out_as r (register o) = none
comes_out_as r (directive s) = none
comes_out_as r comma = none
comes_out_as r colon = none
comes_out_as r opening = none
comes_out_as r closing = none

-- Whether a token is a number.
unfoldable pub is_numeric : Token → Bool
is_numeric (number z) = true
is_numeric (hex n) = true
is_numeric (binary n) = true
is_numeric (identifier s) = false
is_numeric (register o) = false
is_numeric (directive s) = false
is_numeric comma = false
is_numeric colon = false
is_numeric opening = false
is_numeric closing = false

-- "A threshold of 70,000 went in and came out negative": the word at the line's place is read as the line's instruction, and its number is what
-- comes out of the token's in the range of the instruction's form.
pub record ComesOut {names : List Name} {source : List ℕ} (image : List ℕ) (t : TokenOf names source) : Type 0 where
  pub range : NumberRange
  pub is_range : number_range (places t.draft.row.form) ≡ some range
  pub word : ℕ
  pub is_there : take 4 (drop (place t) image) ≡ little 4 word
  pub is_read : instruction_of word ≡ value (record { row = t.draft.row; registers = t.draft.registers; number = comes_out_as range t.token })

-- In every call that is not refused, of each number on a line that holds an instruction.
pub record Ranges : Type 0 where
  pub comes_out : (N : NameSet) (source : List ℕ) (c : AcceptedCall N.names source) (t : TokenOf N.names source) → is_numeric t.token ≡ true → ComesOut (filled c) t
