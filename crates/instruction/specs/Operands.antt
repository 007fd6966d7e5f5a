-- An instruction, and how the tokens of a line are read as one. Quotations are document 01's, and document 02's where it is named.
use Rattle.std.specs.Prelude.{ℕ, ◌-◌, Bool, true, false, List, [], ◌∷◌, map, length, drop, eqb, ℤ}
use Rattle.std.proofs.Math.Option.{Option, none, some}
use Rattle.text_lexical.specs.Bytes.{Result, value, refused, lower}
use Rattle.text_lexical.specs.Numbers.{NumberRange}
use Rattle.text.specs.Tokens.{Token, identifier, register, number, hex, binary, directive, comma, colon, opening, closing}
use Rattle.text.specs.Values.{read_number}
use Rattle.text.specs.Lines.{Line}
use Rattle.instruction.specs.Table.{Separator, a-comma, an-opening, a-closing, Place, reg, num, mark, Form, R, I, Shift, Load, Store, Branch, Jump, System, places, Row, row_named}

-- "each has its mnemonic, lowered, the number of the register in each place its form names, and, where the form has one, the
-- number its operand means": the mnemonic's row, the registers in operand order, and the number, not yet reduced.
pub record Instruction : Type 0 where
  pub row : Row
  pub registers : List ℕ
  pub number : Option ℤ

-- The operand that is an instruction's number: exactly this one, or the distance to a label. Document 02, a: "The last operand of jal and
-- the six branches may now be an Identifier, meaning a label anywhere in the source".
pub data Amount : Type 0 where
  exactly : ℤ → Amount
  to : List ℕ → Amount

-- What a line has of an instruction: its number may be the distance to a label, which all lines tell.
pub record Draft : Type 0 where
  pub row : Row
  pub registers : List ℕ
  pub amount : Option Amount

-- The forms whose last operand may be a label.
abbrev pub takes_label : Form → Bool
takes_label Branch = true
takes_label Jump = true
takes_label R = false
takes_label I = false
takes_label Shift = false
takes_label Load = false
takes_label Store = false
takes_label System = false

-- ---- one operand token

-- The spelling of an Identifier.
unfoldable pub read_identifier : Token → Option (List ℕ)
read_identifier (identifier s) = some s
read_identifier (register r) = none
read_identifier (number z) = none
read_identifier (hex n) = none
read_identifier (binary n) = none
read_identifier (directive s) = none
read_identifier comma = none
read_identifier colon = none
read_identifier opening = none
read_identifier closing = none

-- What a Register token names: "17 register expected, 18 no such register".
unfoldable pub read_register : Token → Result ℕ
read_register (register (some n)) = value n
read_register (register none) = refused 18
read_register (identifier s) = refused 17
read_register (number z) = refused 17
read_register (hex n) = refused 17
read_register (binary n) = refused 17
read_register (directive s) = refused 17
read_register comma = refused 17
read_register colon = refused 17
read_register opening = refused 17
read_register closing = refused 17

-- The byte of a mark, and 0 for any other token.
unfoldable pub mark_byte : Token → ℕ
mark_byte comma = 44
mark_byte colon = 58
mark_byte opening = 40
mark_byte closing = 41
mark_byte (identifier s) = 0
mark_byte (register r) = 0
mark_byte (number z) = 0
mark_byte (hex n) = 0
mark_byte (binary n) = 0
mark_byte (directive s) = 0

-- What a token is where a number of a range stands, and perhaps a label: "8 number expected", but "Such operands no longer give 8"
-- (document 02, a), and "35 number out of its range" (document 02, c), which is not asked of a label's distance.
unfoldable pub read_exactly : NumberRange → Token → Result Amount
read_exactly r t = elim (read_number r t) [ value z ↦ value (exactly z) | refused k ↦ refused k ]

unfoldable pub read_amount : NumberRange → Bool → Token → Result Amount
read_amount r false t = read_exactly r t
read_amount r true t = elim (read_identifier t) [ some s ↦ value (to s) | none ↦ read_exactly r t ]

-- ---- the operands

pub record DraftOperands : Type 0 where
  pub registers : List ℕ
  pub amount : Option Amount

unfoldable pub no_operands : DraftOperands
no_operands = record { registers = []; amount = none }

unfoldable pub with_register : ℕ → Result DraftOperands → Result DraftOperands
with_register n (value o) = value (record { registers = n ∷ o.registers; amount = o.amount })
with_register n (refused k) = refused k

unfoldable pub with_amount : Amount → Result DraftOperands → Result DraftOperands
with_amount a (value o) = value (record { registers = o.registers; amount = some a })
with_amount a (refused k) = refused k

-- The byte of a mark between operands, and "19 comma, 20 `(`, 21 `)` expected".
abbrev pub separator_byte : Separator → ℕ
separator_byte a-comma = 44
separator_byte an-opening = 40
separator_byte a-closing = 41

abbrev pub separator_refusal : Separator → ℕ
separator_refusal a-comma = 19
separator_refusal an-opening = 20
separator_refusal a-closing = 21

-- A token at a place, before what follows it: "operands left to right", so its own refusal comes first. A label may stand for the number,
-- or not.
unfoldable pub read_place : Bool → Place → Token → Result DraftOperands → Result DraftOperands
read_place label (reg bit) t rest = elim (read_register t) [ value n ↦ with_register n rest | refused k ↦ refused k ]
read_place label (num bit width signed) t rest =
    elim (read_amount (record { width = width; signed = signed }) label t) [ value a ↦ with_amount a rest | refused k ↦ refused k ]
read_place label (mark m) t rest = elim (eqb (mark_byte t) (separator_byte m)) [ true ↦ rest | false ↦ refused (separator_refusal m) ]

-- The tokens at the places of a form. (That there are as many of them is tested before.)
unfoldable pub read_operands : Bool → List Place → List Token → Result DraftOperands
read_operands label [] ts = value no_operands
read_operands label (p ∷ ps) [] = refused 16
read_operands label (p ∷ ps) (t ∷ ts) = read_place label p t (read_operands label ps ts)

-- ---- the instruction of a line

unfoldable pub made : Row → Result DraftOperands → Result Draft
made r (value o) = value (record { row = r; registers = o.registers; amount = o.amount })
made r (refused k) = refused k

-- "16 wrong operand token count; then operands"; the count is that of all operand tokens.
unfoldable pub read_row : Row → ℕ → List Token → Result Draft
read_row r count ts =
    elim (eqb count (length (places r.form))) [ true ↦ made r (read_operands (takes_label r.form) (places r.form) ts) | false ↦ refused 16 ]

-- "14 mnemonic expected; 15 unknown mnemonic"; "its mnemonic lowered"
unfoldable pub read_mnemonic : Token → ℕ → List Token → Result Draft
read_mnemonic t count ts =
    elim (read_identifier t) [
      | none ↦ refused 14
      | some s ↦ elim (row_named (map lower s)) [ none ↦ refused 15 | some r ↦ read_row r count ts ]
    ]

-- The instruction that a line's tokens, its label taken off, are read as.
unfoldable pub read_instruction : Line → Result Draft
read_instruction l = elim l.first [ [] ↦ refused 14 | t ∷ ts ↦ read_mnemonic t (l.count - 1) ts ]

-- A line without its first k tokens.
unfoldable pub behind : ℕ → Line → Line
behind k l = record { count = l.count - k; first = drop k l.first }
