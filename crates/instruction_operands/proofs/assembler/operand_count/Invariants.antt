use lib.ListN.{drop}
use Rattle.instruction.specs.Table.{places}
use Rattle.instruction.specs.Promised.{form_meant}
use Rattle.instruction.specs.Forms.{range_of}
use Rattle.instruction.proofs.Forms.{Counting}
use Rattle.instruction_operands.proofs.assembler.operand_count.Given as goal

-- So many tokens are counted before the operand.
abbrev pub invariant-loop-operand : goal.invariant-loop-operand
invariant-loop-operand l = Counting (range_of (form_meant l.fn.form)) (places (form_meant l.fn.form)) l.count (drop l.operand-index l.operand-items)
