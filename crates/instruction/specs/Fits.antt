-- When an instruction fits: its row is one of the table, and it has the registers and the number that the row's form asks for. And
-- what its word keeps of it.
use Rattle.std.specs.Prelude.{ℕ, ◌<◌, ◌≡◌, Bool, List, [], ◌∷◌, ℤ}
use Rattle.std.proofs.Math.Option.{Option, none, some}
use Rattle.text_lexical.specs.Bytes.{is_some}
use Rattle.text_lexical.specs.Numbers.{NumberRange, meant_by}
use Rattle.instruction.specs.Table.{Place, reg, num, mark, places, Row, row_named}
use Rattle.instruction.specs.Operands.{Instruction}
use Rattle.instruction.specs.Words.{reduced}

-- A row of the table is the one that its mnemonic names.
abbrev pub InTable : Row → Type 0
InTable r = row_named r.mnemonic ≡ some r

-- The places of a row's form.
abbrev pub places_of : Row → List Place
places_of r = places r.form

-- As many registers as places for them, each one of sixteen.
unfoldable pub Regs : List Place → List ℕ → Type 0
Regs [] [] = Unit {0}
Regs [] (r ∷ rs) = ⊥
Regs (reg bit ∷ ps) [] = ⊥
Regs (reg bit ∷ ps) (r ∷ rs) = (r < 16) × Regs ps rs
Regs (num bit width signed ∷ ps) rs = Regs ps rs
Regs (mark m ∷ ps) rs = Regs ps rs

-- The range of the number, where there is a place for one.
unfoldable pub number_range : List Place → Option NumberRange
number_range [] = none
number_range (num bit width signed ∷ ps) = some (record { width = width; signed = signed })
number_range (reg bit ∷ ps) = number_range ps
number_range (mark m ∷ ps) = number_range ps

-- There is one.
unfoldable pub has_number : List Place → Bool
has_number ps = is_some (number_range ps)

-- A range's width; 0 where there is none.
unfoldable pub width_of : Option NumberRange → ℕ
width_of none = 0
width_of (some f) = f.width

-- The width of the number's field.
unfoldable pub number_width : List Place → ℕ
number_width ps = width_of (number_range ps)

-- An instruction fits.
pub record Fits (i : Instruction) : Type 0 where
  -- its row is one of the table
  pub in_table : InTable i.row
  -- it has the registers that its form names
  pub registers : Regs (places_of i.row) i.registers
  -- and a number exactly if its form has one
  pub number : is_some i.number ≡ has_number (places_of i.row)

-- What a field keeps of a number: the number that its bits mean. It is the same as the number modulo 2 to the field's width
-- (`modulo-reduced`).
unfoldable pub reduced_in : Option NumberRange → Option ℤ → Option ℤ
reduced_in none n = none
reduced_in (some f) n = some (meant_by f.signed f.width (reduced f.width n))

-- What a word keeps of an instruction: its row, its registers, and of its number what the field keeps.
unfoldable pub reduced_to : Instruction → Instruction
reduced_to i = record { row = i.row; registers = i.registers; number = reduced_in (number_range (places_of i.row)) i.number }
