-- The row that an instruction's mnemonic names, and the numbers of its registers.
use mathlib.Core.Path.{◌≡◌}
use Prim.Native.Nat.{◌<◌}
use mathlib.Core.Option.{some}
use borrow.Author.Rules.{rules}
use Rattle.text_lexical.specs.Bytes.{bytes, same, find}
use Rattle.text_lexical.specs.Promised.{index_of}
use Rattle.text_lexical.specs.declared.register.Register.{Register}
use Rattle.instruction.specs.Table.{row, table, row_named}
use Rattle.instruction.specs.Promised.{row_for, parts_of}
use Rattle.instruction.specs.declared.instruction.Instruction.{Instruction}

-- The mnemonic of an instruction names a row of the table.
pub instruction-row : (i : Instruction) → row_named (parts_of i).mnemonic ≡ some (row_for (parts_of i).mnemonic)
unfolding row_for row_named find same table row bytes
instruction-row i = search rules

-- A register's number is below sixteen.
pub register-below : (r : Register) → index_of r < 16
register-below r = search rules
