-- The operands of a form as the code describes them: a list of them, each with the mark that follows it, and where they stand in a word. These
-- definitions follow the code; what a form's operands are is `places` of Table.
use Rattle.std.specs.Prelude.{ℕ, ◌≡◌, Bool, true, false, List, [], ◌∷◌, ◌++◌, Some, None}
use Rattle.std.specs.Prelude.{Option as StdOption}
use Rattle.refusal.specs.Refusals.{refusal_at}
use Rattle.refusal.specs.declared.refusal.Refusal.{Refusal}
use Rattle.instruction.specs.Table.{Separator, a-comma, an-opening, a-closing, Place, reg, num, mark, Form, R, I, Shift, Load, Store, Branch, Jump, System}
use Rattle.instruction.specs.Operands.{separator_byte, separator_refusal}
use Rattle.instruction.specs.declared.form.Operand.{Operand}
use Rattle.instruction.specs.declared.form.Operand.TheVariants.{RegisterComma, NumberOpening, RegisterClosing, Register, Number}
use Rattle.instruction.specs.declared.form.Mark.{Mark}
use Rattle.instruction.specs.declared.form.Layout.{Layout}
use Rattle.instruction.specs.declared.field.Field.{Field}
use Rattle.text_lexical.specs.declared.number.NumberRange.{NumberRange}

-- The operands of each form, left to right.
abbrev pub operand_list : Form → List Operand
operand_list R = RegisterComma ∷ RegisterComma ∷ Register ∷ []
operand_list I = RegisterComma ∷ RegisterComma ∷ Number ∷ []
operand_list Shift = RegisterComma ∷ RegisterComma ∷ Number ∷ []
operand_list Load = RegisterComma ∷ NumberOpening ∷ RegisterClosing ∷ []
operand_list Store = RegisterComma ∷ NumberOpening ∷ RegisterClosing ∷ []
operand_list Branch = RegisterComma ∷ RegisterComma ∷ Number ∷ []
operand_list Jump = RegisterComma ∷ Number ∷ []
operand_list System = []

-- Whether an operand is a number, and the mark after it.
abbrev pub is_number : Operand → Bool
is_number RegisterComma = false
is_number NumberOpening = true
is_number RegisterClosing = false
is_number Register = false
is_number Number = true

abbrev pub mark_for : Separator → Mark
mark_for m = record { byte = separator_byte m; refusal = refusal_at (separator_refusal m) }

abbrev pub mark_of : Operand → StdOption Mark
mark_of RegisterComma = Some (mark_for a-comma)
mark_of NumberOpening = Some (mark_for an-opening)
mark_of RegisterClosing = Some (mark_for a-closing)
mark_of Register = None
mark_of Number = None

-- A field; and a layout, by the bits of the first two registers of a line and by the highest field.
abbrev pub field : ℕ → ℕ → Bool → Field
field bit width signed = record { bit = bit; range = record { width = width; signed = signed } }

abbrev pub layout : ℕ → ℕ → Field → Layout
layout first second highest = record { first = first; second = second; highest = highest }

-- Where the operands of each form stand in its word.
abbrev pub layout_of : Form → Layout
layout_of R = layout 7 11 (field 15 4 false)
layout_of I = layout 7 11 (field 15 17 true)
layout_of Shift = layout 7 11 (field 15 8 false)
layout_of Load = layout 7 11 (field 15 17 true)
layout_of Store = layout 11 7 (field 15 17 true)
layout_of Branch = layout 7 11 (field 15 17 true)
layout_of Jump = layout 7 11 (field 11 21 true)
layout_of System = layout 7 11 (field 0 7 false)

-- The numbers that a form's operand may be: those of its highest field. Forms without a number have one too, which nobody asks.
abbrev pub range_of : Form → NumberRange
range_of f = (layout_of f).highest.range

-- A place for a register, or for a number of a range.
pub data RegisterPlace : Place → Type 0 where
  register_place : {bit : ℕ} → RegisterPlace (reg bit)

pub data NumberPlace (r : NumberRange) : Place → Type 0 where
  number_place : {bit : ℕ} → NumberPlace r (num bit r.width r.signed)

-- One of them, by whether it is a number's.
abbrev pub OperandPlace : NumberRange → Bool → Place → Type 0
OperandPlace r false p = RegisterPlace p
OperandPlace r true p = NumberPlace r p

-- A place for the mark of a byte, and the refusal of another token.
pub data MarkPlace : Place → ℕ → Refusal → Type 0 where
  a_mark : (m : Separator) → MarkPlace (mark m) (separator_byte m) (refusal_at (separator_refusal m))

-- The place of a mark that follows an operand, if one does.
pub data MarkPlaces : StdOption Mark → List Place → Type 0 where
  no_mark : MarkPlaces None []
  one_mark : {p : Place} {m : Mark} → MarkPlace p m.byte m.refusal → MarkPlaces (Some m) (p ∷ [])

-- The places of a form from an operand on, and the operands for them, with numbers of a range.
pub data Ahead (r : NumberRange) : List Place → List Operand → Type 0 where
  no_more : Ahead r [] []
  operand : {o : Operand} {os : List Operand} {p : Place} {ms ps qs : List Place} → OperandPlace r (is_number o) p → MarkPlaces (mark_of o) ms
      → Ahead r ps os → qs ≡ p ∷ (ms ++ ps) → Ahead r qs (o ∷ os)
