-- `instruction_operands::assembler::operand_count` meets its contract.
use Rattle.std.proofs.Common.{arith, sym, ◌∙◌}
use Rattle.instruction.specs.Promised.{form_meant}
use Rattle.instruction.proofs.Forms.{counting-begin, form-ahead}
use Rattle.instruction_operands.proofs.Line.{counts-operand, counts-mark, counts-few, counts-end}
use Rattle.instruction_operands.proofs.assembler.operand_count.Goals as goal
use Rattle.instruction_operands.proofs.assembler.operand_count.Goals.{then-is_some, else-is_some}

pub loop-operand-init : goal.loop-operand-init
loop-operand-init c = rw c.operands-operand-items.ensures (counting-begin (form-ahead (form_meant c.args.form)))

pub overflow_add-count : goal.overflow_add-count
overflow_add-count c = omega (arith, counts-few (form_meant c.args.form) c.operands-operand-items.result.now c.loop-operand.operand-index c.loop-operand.invariant)

pub overflow_add-count-then-is_some : goal.overflow_add-count-then-is_some
overflow_add-count-then-is_some c = omega (arith, counts-few (form_meant c.args.form) c.operands-operand-items.result.now c.loop-operand.operand-index c.loop-operand.invariant)

pub loop-operand-preserved : goal.loop-operand-preserved
loop-operand-preserved c =
    elim c.if-is_some.branch [
      | then-is_some w ↦ rw w.count-is
          (counts-mark (form_meant c.args.form) c.operands-operand-items.result.now c.loop-operand.operand-index c.loop-operand.invariant _ c.loop-operand-test.true (rw c.mark.ensures at (sym c.is_some.ensures ∙ w.if-is_some.true)))
      | else-is_some w ↦ rw w.count-is
          (counts-operand (form_meant c.args.form) c.operands-operand-items.result.now c.loop-operand.operand-index c.loop-operand.invariant _ c.loop-operand-test.true (rw c.mark.ensures at (sym c.is_some.ensures ∙ w.if-is_some.false)))
    ]

pub returns : goal.returns
returns c = counts-end (form_meant c.args.form) c.operands-operand-items.result.now c.loop-operand.operand-index c.loop-operand.invariant (omega arith)
