-- What the code's values mean in terms of the definitions, and what its functions promise.
use Rattle.std.specs.Prelude.{ℕ, ◌≡◌, Bool, true, false, List, [], ◌∷◌, map, length, take, drop, get_or, ℤ, Some, None}
use Rattle.std.specs.Prelude.{Option as StdOption}
use Rattle.std.proofs.Math.Option.{Option, none, some}
use Rattle.text_lexical.specs.Bytes.{bytes, same, find}
use Rattle.text_lexical.specs.Promised.{index_of, register_at, whole_meant, whole_for}
use Rattle.text_lexical.specs.declared.register.Register.{Register}
use Rattle.text_lexical.specs.declared.register.Register.TheVariants.{R0}
use Rattle.text_lexical.specs.declared.number.Whole.{Whole}
use Rattle.text_lexical.specs.declared.number.Whole.TheVariants.{NotNegative}
use Rattle.instruction.specs.Table.{Place, reg, num, mark, Form, R, I, Shift, Load, Store, Branch, Jump, System, places, Row, row_named}
use Rattle.instruction.specs.Operands.{Instruction as Meant, Amount as MeantAmount, exactly, to, Draft as MeantDraft, DraftOperands}
use Rattle.instruction.specs.declared.instruction.Instruction.{Instruction}
use Rattle.instruction.specs.declared.instruction.Instruction.TheVariants.{Add, Sub, Mul, Mulh, Divu, Remu, Div, Rem, Addi, And, Or, Xor, Andi, Ori, Xori, Sll, Srl, Sra, Slli, Srli, Srai, Sltu, Sgeu, Slt, Sge, Seq, Sne, Cmov, Cmovz, Cmovnz, Lb, Lbu, Lh, Lhu, Lw, Ld, Sb, Sh, Sw, Sd, Beq, Bne, Blt, Bge, Bltu, Bgeu, Jal, Jalr, Ecall, Ebreak}
use Rattle.instruction.specs.declared.instruction.Operands.{Operands}
use Rattle.instruction.specs.declared.instruction.Target.{Target}
use Rattle.instruction.specs.declared.instruction.Amount.{Amount}
use Rattle.instruction.specs.declared.instruction.Amount.TheVariants.{Number, Label}
use Rattle.instruction.specs.declared.instruction.Draft.{Draft}
use Rattle.instruction.specs.declared.form.Form.{Form as CodeForm}
use Rattle.instruction.specs.declared.form.Form.TheVariants as F
use Rattle.instruction.specs.declared.opcode.Mnemonic.{Mnemonic}
use Rattle.instruction.specs.declared.opcode.Mnemonic.TheVariants as M

-- ---- the table

-- What a spelling without a row stands for.
abbrev pub no_row : Row
no_row = record { mnemonic = []; opcode = 0; form = System }

-- A row of the table by its mnemonic.
unfoldable pub row_for : List ℕ → Row
row_for s = elim (row_named s) [ some r ↦ r | none ↦ no_row ]

-- The spelling of each mnemonic of the code's, and the row that it names.
abbrev pub spelling : Mnemonic → List ℕ
spelling M.Add = bytes "add"
spelling M.Sub = bytes "sub"
spelling M.Mul = bytes "mul"
spelling M.Mulh = bytes "mulh"
spelling M.Divu = bytes "divu"
spelling M.Remu = bytes "remu"
spelling M.Div = bytes "div"
spelling M.Rem = bytes "rem"
spelling M.Addi = bytes "addi"
spelling M.And = bytes "and"
spelling M.Or = bytes "or"
spelling M.Xor = bytes "xor"
spelling M.Andi = bytes "andi"
spelling M.Ori = bytes "ori"
spelling M.Xori = bytes "xori"
spelling M.Sll = bytes "sll"
spelling M.Srl = bytes "srl"
spelling M.Sra = bytes "sra"
spelling M.Slli = bytes "slli"
spelling M.Srli = bytes "srli"
spelling M.Srai = bytes "srai"
spelling M.Sltu = bytes "sltu"
spelling M.Sgeu = bytes "sgeu"
spelling M.Slt = bytes "slt"
spelling M.Sge = bytes "sge"
spelling M.Seq = bytes "seq"
spelling M.Sne = bytes "sne"
spelling M.Cmov = bytes "cmov"
spelling M.Cmovz = bytes "cmovz"
spelling M.Cmovnz = bytes "cmovnz"
spelling M.Lb = bytes "lb"
spelling M.Lbu = bytes "lbu"
spelling M.Lh = bytes "lh"
spelling M.Lhu = bytes "lhu"
spelling M.Lw = bytes "lw"
spelling M.Ld = bytes "ld"
spelling M.Sb = bytes "sb"
spelling M.Sh = bytes "sh"
spelling M.Sw = bytes "sw"
spelling M.Sd = bytes "sd"
spelling M.Beq = bytes "beq"
spelling M.Bne = bytes "bne"
spelling M.Blt = bytes "blt"
spelling M.Bge = bytes "bge"
spelling M.Bltu = bytes "bltu"
spelling M.Bgeu = bytes "bgeu"
spelling M.Jal = bytes "jal"
spelling M.Jalr = bytes "jalr"
spelling M.Ecall = bytes "ecall"
spelling M.Ebreak = bytes "ebreak"

abbrev pub row_of : Mnemonic → Row
row_of m = row_for (spelling m)

-- The mnemonics in the order of the table, and the one whose row has a spelling; Ebreak, where none has it.
unfoldable pub mnemonics : List Mnemonic
mnemonics =
    M.Add ∷ M.Sub ∷ M.Mul ∷ M.Mulh ∷ M.Divu ∷ M.Remu ∷ M.Div ∷ M.Rem ∷ M.Addi ∷ M.And
    ∷ M.Or ∷ M.Xor ∷ M.Andi ∷ M.Ori ∷ M.Xori ∷ M.Sll ∷ M.Srl ∷ M.Sra ∷ M.Slli ∷ M.Srli
    ∷ M.Srai ∷ M.Sltu ∷ M.Sgeu ∷ M.Slt ∷ M.Sge ∷ M.Seq ∷ M.Sne ∷ M.Cmov ∷ M.Cmovz ∷ M.Cmovnz
    ∷ M.Lb ∷ M.Lbu ∷ M.Lh ∷ M.Lhu ∷ M.Lw ∷ M.Ld ∷ M.Sb ∷ M.Sh ∷ M.Sw ∷ M.Sd
    ∷ M.Beq ∷ M.Bne ∷ M.Blt ∷ M.Bge ∷ M.Bltu ∷ M.Bgeu ∷ M.Jal ∷ M.Jalr ∷ M.Ecall ∷ M.Ebreak ∷ []

unfoldable pub mnemonic_for : List ℕ → Mnemonic
mnemonic_for s = elim (find (λ m. same (row_of m).mnemonic s) mnemonics) [ some m ↦ m | none ↦ M.Ebreak ]

-- The form of each of the code's.
abbrev pub form_meant : CodeForm → Form
form_meant F.R = R
form_meant F.I = I
form_meant F.Shift = Shift
form_meant F.Load = Load
form_meant F.Store = Store
form_meant F.Branch = Branch
form_meant F.Jump = Jump
form_meant F.System = System

-- The row of a mnemonic that was looked for.
abbrev pub found_meant : StdOption Mnemonic → Option Row
found_meant (Some m) = some (row_of m)
found_meant None = none

-- ---- instructions

abbrev pub no_number_lem : Whole
no_number_lem = NotNegative 0

abbrev pub operands : Register → Register → Register → Whole → Operands
operands a b c n = record { first = a; second = b; third = c; number = n }

-- Operands from a list of registers.
abbrev pub operands_with : List Register → Whole → Operands
operands_with rs n = operands (get_or rs 0 R0) (get_or rs 1 R0) (get_or rs 2 R0) n

-- A mnemonic and operands.
pub record Named : Type 0 where
  pub mnemonic : List ℕ
  pub operands : Operands

abbrev pub of : Mnemonic → Register → Register → Register → Whole → Named
of m a b c n = record { mnemonic = spelling m; operands = operands a b c n }

-- An instruction's mnemonic, and its registers and number in operand order; R0 and 0 where it has none.
abbrev pub parts_of : Instruction → Named
parts_of (Add d a b) = of M.Add d a b no_number_lem
parts_of (Sub d a b) = of M.Sub d a b no_number_lem
parts_of (Mul d a b) = of M.Mul d a b no_number_lem
parts_of (Mulh d a b) = of M.Mulh d a b no_number_lem
parts_of (Divu d a b) = of M.Divu d a b no_number_lem
parts_of (Remu d a b) = of M.Remu d a b no_number_lem
parts_of (Div d a b) = of M.Div d a b no_number_lem
parts_of (Rem d a b) = of M.Rem d a b no_number_lem
parts_of (Addi d a n) = of M.Addi d a R0 n
parts_of (And d a b) = of M.And d a b no_number_lem
parts_of (Or d a b) = of M.Or d a b no_number_lem
parts_of (Xor d a b) = of M.Xor d a b no_number_lem
parts_of (Andi d a n) = of M.Andi d a R0 n
parts_of (Ori d a n) = of M.Ori d a R0 n
parts_of (Xori d a n) = of M.Xori d a R0 n
parts_of (Sll d a b) = of M.Sll d a b no_number_lem
parts_of (Srl d a b) = of M.Srl d a b no_number_lem
parts_of (Sra d a b) = of M.Sra d a b no_number_lem
parts_of (Slli d a n) = of M.Slli d a R0 n
parts_of (Srli d a n) = of M.Srli d a R0 n
parts_of (Srai d a n) = of M.Srai d a R0 n
parts_of (Sltu d a b) = of M.Sltu d a b no_number_lem
parts_of (Sgeu d a b) = of M.Sgeu d a b no_number_lem
parts_of (Slt d a b) = of M.Slt d a b no_number_lem
parts_of (Sge d a b) = of M.Sge d a b no_number_lem
parts_of (Seq d a b) = of M.Seq d a b no_number_lem
parts_of (Sne d a b) = of M.Sne d a b no_number_lem
parts_of (Cmov d a b) = of M.Cmov d a b no_number_lem
parts_of (Cmovz d a b) = of M.Cmovz d a b no_number_lem
parts_of (Cmovnz d a b) = of M.Cmovnz d a b no_number_lem
parts_of (Lb d a n) = of M.Lb d a R0 n
parts_of (Lbu d a n) = of M.Lbu d a R0 n
parts_of (Lh d a n) = of M.Lh d a R0 n
parts_of (Lhu d a n) = of M.Lhu d a R0 n
parts_of (Lw d a n) = of M.Lw d a R0 n
parts_of (Ld d a n) = of M.Ld d a R0 n
parts_of (Sb a b n) = of M.Sb b a R0 n
parts_of (Sh a b n) = of M.Sh b a R0 n
parts_of (Sw a b n) = of M.Sw b a R0 n
parts_of (Sd a b n) = of M.Sd b a R0 n
parts_of (Beq a b n) = of M.Beq a b R0 n
parts_of (Bne a b n) = of M.Bne a b R0 n
parts_of (Blt a b n) = of M.Blt a b R0 n
parts_of (Bge a b n) = of M.Bge a b R0 n
parts_of (Bltu a b n) = of M.Bltu a b R0 n
parts_of (Bgeu a b n) = of M.Bgeu a b R0 n
parts_of (Jal d n) = of M.Jal d R0 R0 n
parts_of (Jalr d a n) = of M.Jalr d a R0 n
parts_of Ecall = of M.Ecall R0 R0 R0 no_number_lem
parts_of Ebreak = of M.Ebreak R0 R0 R0 no_number_lem

-- The operands that a form has a place for; R0 and 0 for the others.
abbrev pub keep : Form → Operands → Operands
keep R o = operands o.first o.second o.third no_number_lem
keep I o = operands o.first o.second R0 o.number
keep Shift o = operands o.first o.second R0 o.number
keep Load o = operands o.first o.second R0 o.number
keep Store o = operands o.first o.second R0 o.number
keep Branch o = operands o.first o.second R0 o.number
keep Jump o = operands o.first R0 R0 o.number
keep System o = operands R0 R0 R0 no_number_lem

-- Registers as many as a form has places for them, and its number, where it has one.
unfoldable pub registers_for : List Place → List ℕ → List ℕ
registers_for [] rs = []
registers_for (reg bit ∷ ps) [] = []
registers_for (reg bit ∷ ps) (r ∷ rs) = r ∷ registers_for ps rs
registers_for (num bit width signed ∷ ps) rs = registers_for ps rs
registers_for (mark m ∷ ps) rs = registers_for ps rs

unfoldable pub number_for : List Place → ℤ → Option ℤ
number_for [] z = none
number_for (num bit width signed ∷ ps) z = some z
number_for (reg bit ∷ ps) z = number_for ps z
number_for (mark m ∷ ps) z = number_for ps z

abbrev pub registers_of : Operands → List ℕ
registers_of o = index_of o.first ∷ index_of o.second ∷ index_of o.third ∷ []

-- The operands of an instruction by themselves.
pub record MeantOperands : Type 0 where
  pub registers : List ℕ
  pub number : Option ℤ

-- The operands that a form takes of the code's.
abbrev pub operands_meant : List Place → Operands → MeantOperands
operands_meant ps o = record { registers = registers_for ps (registers_of o); number = number_for ps (whole_meant o.number) }

-- The operands of the code's that stand for some: R0 and 0 where there are none.
abbrev pub whole_or : Option ℤ → Whole
whole_or none = no_number_lem
whole_or (some z) = whole_for z

abbrev pub operands_for : MeantOperands → Operands
operands_for o =
    operands (register_at (get_or o.registers 0 0)) (register_at (get_or o.registers 1 0)) (register_at (get_or o.registers 2 0)) (whole_or o.number)

-- Operands of the code's are settled by what a form takes of them.
abbrev pub SettledFor : List Place → Operands → Type 0
SettledFor ps o = o ≡ operands_for (operands_meant ps o)

-- ---- drafts

-- An amount of the code's, by what a label that it names is spelled.
abbrev pub amount_meant : (Target → List ℕ) → Amount → MeantAmount
amount_meant spells (Number w) = exactly (whole_meant w)
amount_meant spells (Label t) = to (spells t)

-- The part of a source where a label is spelled.
abbrev pub spelled_in : List ℕ → Target → List ℕ
spelled_in s t = take t.length (drop t.start s)

-- Whether a label stands for the number.
abbrev pub names_label : Amount → Bool
names_label (Number w) = false
names_label (Label t) = true

-- The amount, where a form has a place for it.
unfoldable pub amount_for : List Place → MeantAmount → Option MeantAmount
amount_for [] a = none
amount_for (num bit width signed ∷ ps) a = some a
amount_for (reg bit ∷ ps) a = amount_for ps a
amount_for (mark m ∷ ps) a = amount_for ps a

-- What a form takes of registers and an amount.
abbrev pub taken_for : (Target → List ℕ) → List Place → List Register → Amount → DraftOperands
taken_for spells ps rs a = record { registers = registers_for ps (map index_of rs); amount = amount_for ps (amount_meant spells a) }

abbrev pub draft_meant : (Target → List ℕ) → Draft → MeantDraft
draft_meant spells d =
    let ps = places (row_of d.mnemonic).form in
    record { row = row_of d.mnemonic; registers = registers_for ps (map index_of d.registers); amount = amount_for ps (amount_meant spells d.amount) }

-- The code's amount for one, whose label, if it is one, stands at a place; a 0 where there is none.
abbrev pub amount_back : ℕ → Option MeantAmount → Amount
amount_back start none = Number no_number_lem
amount_back start (some (exactly z)) = Number (whole_for z)
amount_back start (some (to u)) = Label (record { start = start; length = length u })

-- The code's draft for one; R0 where there is no register.
abbrev pub draft_for : ℕ → MeantDraft → Draft
draft_for start d =
    record {
      mnemonic = mnemonic_for d.row.mnemonic;
      registers = register_at (get_or d.registers 0 0) ∷ register_at (get_or d.registers 1 0) ∷ register_at (get_or d.registers 2 0) ∷ [];
      amount = amount_back start d.amount;
    }

-- Where an amount's label stands; 0 where it is none.
abbrev pub label_start : Amount → ℕ
label_start (Number w) = 0
label_start (Label t) = t.start

-- No part of a draft is free.
abbrev pub DraftSettled : (Target → List ℕ) → Draft → Type 0
DraftSettled spells d = d ≡ draft_for (label_start d.amount) (draft_meant spells d)

-- A row of the table with operands of the code's.
abbrev pub row_meant : Row → Operands → Meant
row_meant r o =
    record { row = r; registers = registers_for (places r.form) (registers_of o); number = number_for (places r.form) (whole_meant o.number) }

-- The same by the mnemonic.
pub record Parts : Type 0 where
  pub mnemonic : Mnemonic
  pub operands : Operands

abbrev pub parts_meant : Parts → Meant
parts_meant p = row_meant (row_of p.mnemonic) p.operands

-- They are settled by the row's form: no field is free.
abbrev pub Settled : Parts → Type 0
Settled p = SettledFor (places (row_of p.mnemonic).form) p.operands

-- The instruction of the definitions that the code's means: the row is the one that its mnemonic names. Whether a 0 has a sign is not
-- looked at: -0 means 0.
abbrev pub instruction_meant : Instruction → Meant
instruction_meant i = row_meant (row_for (parts_of i).mnemonic) (parts_of i).operands
