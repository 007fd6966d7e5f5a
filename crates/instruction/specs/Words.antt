-- The word of an instruction, and the instruction of a word. Quotations are document 01's.
use Rattle.std.specs.Prelude.{ℕ, ◌+◌, ◌*◌, ◌/◌, ◌%◌, ◌^◌, max, true, false, List, [], ◌∷◌, ltb, ℤ}
use Rattle.std.proofs.Math.Option.{Option, none, some}
use Rattle.text_lexical.specs.Bytes.{Result, value, refused}
use Rattle.text_lexical.specs.Numbers.{residue, meant_by}
use Rattle.instruction.specs.Table.{Place, reg, num, mark, places, Row, row_coded}
use Rattle.instruction.specs.Operands.{Instruction}

-- ---- from an instruction to its word

-- A number, if there is one, modulo 2^k.
unfoldable pub modulo : ℕ → Option ℤ → Option ℕ
modulo k none = none
modulo k (some z) = some (residue k z)

-- The number, reduced to so many bits; 0 where there is none.
unfoldable pub reduced : ℕ → Option ℤ → ℕ
reduced width none = 0
reduced width (some z) = residue width z

-- Registers and number, each at its place's bit.
unfoldable pub fields : List Place → List ℕ → Option ℤ → ℕ
fields [] rs n = 0
fields (reg bit ∷ ps) [] n = fields ps [] n
fields (reg bit ∷ ps) (r ∷ rs) n = r * 2 ^ bit + fields ps rs n
fields (num bit width signed ∷ ps) rs n = reduced width n * 2 ^ bit + fields ps rs n
fields (mark m ∷ ps) rs n = fields ps rs n

-- "Bits 6:0 are the opcode"
unfoldable pub word_of : Instruction → ℕ
word_of i = i.row.opcode + fields (places i.row.form) i.registers i.number

-- ---- from a word to its instruction

-- So many bits of a word, from a bit on.
unfoldable pub field_at : ℕ → ℕ → ℕ → ℕ
field_at w bit width = w / 2 ^ bit % 2 ^ width

unfoldable pub registers_in : ℕ → List Place → List ℕ
registers_in w [] = []
registers_in w (reg bit ∷ ps) = field_at w bit 4 ∷ registers_in w ps
registers_in w (num bit width signed ∷ ps) = registers_in w ps
registers_in w (mark m ∷ ps) = registers_in w ps

unfoldable pub number_in : ℕ → List Place → Option ℤ
number_in w [] = none
number_in w (num bit width signed ∷ ps) = some (meant_by signed width (field_at w bit width))
number_in w (reg bit ∷ ps) = number_in w ps
number_in w (mark m ∷ ps) = number_in w ps

-- The lowest bit above the opcode and all fields: it and those above it are unused. ("31:19 zero", "31:23 zero", "rest zero")
unfoldable pub unused_from : List Place → ℕ
unused_from [] = 7
unused_from (reg bit ∷ ps) = max (bit + 4) (unused_from ps)
unused_from (num bit width signed ∷ ps) = max (bit + width) (unused_from ps)
unused_from (mark m ∷ ps) = unused_from ps

unfoldable pub taken : Row → ℕ → Instruction
taken r w = record { row = r; registers = registers_in w (places r.form); number = number_in w (places r.form) }

-- "30 unknown opcode, 31 an unused bit set"
unfoldable pub instruction_of : ℕ → Result Instruction
instruction_of w =
    elim (row_coded (w % 128)) [
      | none ↦ refused 30
      | some r ↦ elim (ltb w (2 ^ unused_from (places r.form))) [ true ↦ value (taken r w) | false ↦ refused 31 ]
    ]
