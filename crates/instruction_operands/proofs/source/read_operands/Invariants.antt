use lib.ListN.{drop}
use Rattle.instruction.specs.Table.{places}
use Rattle.instruction.specs.Operands.{takes_label}
use Rattle.instruction.specs.Forms.{range_of}
use Rattle.instruction_operands.specs.Sources.{form_of}
use Rattle.instruction_operands.proofs.Sources.{UpTo}
use Rattle.instruction_operands.proofs.source.read_operands.Given as goal

-- What has been taken and read of the operands, and which are left to read.
abbrev pub invariant-loop-operand : goal.invariant-loop-operand
invariant-loop-operand g l =
    let S = g.S.OperandSource in
    let f = form_of l.fn.mnemonic in
    UpTo S.Took S.Spells S.Stands (range_of f) (takes_label f) (places f) l.initial.source l.source l.count l.registers l.amount (drop l.operand-index l.operand-items)
