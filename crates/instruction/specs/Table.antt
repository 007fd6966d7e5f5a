-- The forms of operands and the table of the fifty mnemonics. Quotations are document 01's, and document 02's where it is named.
use Rattle.std.specs.Prelude.{ℕ, Bool, true, false, List, [], ◌∷◌, eqb}
use Prim.Native.String.{String}
use Rattle.std.proofs.Math.Option.{Option}
use Rattle.text_lexical.specs.Bytes.{bytes, same, find}

-- The marks between operands.
pub data Separator : Type 0 where
  a-comma an-opening a-closing : Separator

-- What stands at a place of a form: a register, whose number goes to a bit and the three above it ("Registers are 4 bits
-- wide"); a number, which goes to a bit and takes so many bits, and is read and listed as signed or not; or a mark.
pub data Place : Type 0 where
  reg : (bit : ℕ) → Place
  num : (bit width : ℕ) (signed : Bool) → Place
  mark : Separator → Place

pub data Form : Type 0 where
  R I Shift Load Store Branch Jump System : Form

-- The places of a form, left to right. "Operand tokens: 5, loads and stores 6, jal 3, ecall and ebreak none."
unfoldable pub places : Form → List Place
-- "R forms `rd, rs1, rs2`: bits 7, 11, 15 up"
places R = reg 7 ∷ mark a-comma ∷ reg 11 ∷ mark a-comma ∷ reg 15 ∷ []
-- "`rd, rs1, n`: 7, 11; n modulo 2^17 at 15"
places I = reg 7 ∷ mark a-comma ∷ reg 11 ∷ mark a-comma ∷ num 15 17 true ∷ []
-- "slli srli srai: n modulo 256"; "for shifts in 0..255" (document 02, c)
places Shift = reg 7 ∷ mark a-comma ∷ reg 11 ∷ mark a-comma ∷ num 15 8 false ∷ []
-- "loads `rd, n(rs1)`: as addi"
places Load = reg 7 ∷ mark a-comma ∷ num 15 17 true ∷ mark an-opening ∷ reg 11 ∷ mark a-closing ∷ []
-- "stores `rs2, n(rs1)`: rs1 at 7, rs2 at 11, n at 15"
places Store = reg 11 ∷ mark a-comma ∷ num 15 17 true ∷ mark an-opening ∷ reg 7 ∷ mark a-closing ∷ []
-- "branches `rs1, rs2, n`: 7, 11, n at 15"
places Branch = reg 7 ∷ mark a-comma ∷ reg 11 ∷ mark a-comma ∷ num 15 17 true ∷ []
-- "jal `rd, n`: rd at 7, n modulo 2^21 at 11"
places Jump = reg 7 ∷ mark a-comma ∷ num 11 21 true ∷ []
-- "ecall, ebreak: rest zero"
places System = []

pub record Row : Type 0 where
  pub mnemonic : List ℕ
  pub opcode : ℕ
  pub form : Form

unfoldable pub row : String → ℕ → Form → Row
row mnemonic opcode form = record { mnemonic = bytes mnemonic; opcode = opcode; form = form }

-- "the opcode of `opcode.rs`; fifty mnemonics", by ascending opcode
unfoldable pub table : List Row
table =
    row "add" 0x00 R ∷ row "sub" 0x01 R ∷ row "mul" 0x02 R ∷ row "mulh" 0x03 R
    ∷ row "divu" 0x04 R ∷ row "remu" 0x05 R ∷ row "div" 0x06 R ∷ row "rem" 0x07 R ∷ row "addi" 0x08 I
    ∷ row "and" 0x10 R ∷ row "or" 0x11 R ∷ row "xor" 0x12 R ∷ row "andi" 0x13 I ∷ row "ori" 0x14 I ∷ row "xori" 0x15 I
    ∷ row "sll" 0x18 R ∷ row "srl" 0x19 R ∷ row "sra" 0x1A R
    ∷ row "slli" 0x1B Shift ∷ row "srli" 0x1C Shift ∷ row "srai" 0x1D Shift
    ∷ row "sltu" 0x20 R ∷ row "sgeu" 0x21 R ∷ row "slt" 0x22 R ∷ row "sge" 0x23 R ∷ row "seq" 0x24 R ∷ row "sne" 0x25 R
    ∷ row "cmov" 0x26 R ∷ row "cmovz" 0x27 R ∷ row "cmovnz" 0x28 R
    ∷ row "lb" 0x30 Load ∷ row "lbu" 0x31 Load ∷ row "lh" 0x32 Load ∷ row "lhu" 0x33 Load ∷ row "lw" 0x34 Load ∷ row "ld" 0x35 Load
    ∷ row "sb" 0x38 Store ∷ row "sh" 0x39 Store ∷ row "sw" 0x3A Store ∷ row "sd" 0x3B Store
    ∷ row "beq" 0x40 Branch ∷ row "bne" 0x41 Branch ∷ row "blt" 0x42 Branch ∷ row "bge" 0x43 Branch
    ∷ row "bltu" 0x44 Branch ∷ row "bgeu" 0x45 Branch
    ∷ row "jal" 0x48 Jump ∷ row "jalr" 0x49 I ∷ row "ecall" 0x50 System ∷ row "ebreak" 0x51 System ∷ []

-- The row of a mnemonic, and of an opcode.
unfoldable pub row_named : List ℕ → Option Row
row_named s = find (λ r. same r.mnemonic s) table

unfoldable pub row_coded : ℕ → Option Row
row_coded opcode = find (λ r. eqb r.opcode opcode) table
