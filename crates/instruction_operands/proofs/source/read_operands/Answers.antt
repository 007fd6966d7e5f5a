-- `instruction_operands::source::read_operands` meets its contract.
use Rattle.std.proofs.Common.{rules, arith, ◌≡◌, sym, ap, ◌∙◌, ◌+◌}
use Rattle.std.specs.Prelude.{Err}
use lib.ListN.{get_or, drop}
use Rattle.instruction.specs.Table.{places}
use Rattle.instruction.specs.Operands.{takes_label}
use Rattle.instruction.specs.Forms.{operand_list, range_of}
use Rattle.instruction.specs.declared.form.Operand.TheVariants.{RegisterComma}
use Rattle.instruction_operands.specs.Sources.{form_of}
use Rattle.instruction_operands.proofs.Sources.{MarkAhead, up-begin, next-up, room-ahead, register-next, amount-next, operand-refused, mark-none, mark-next, mark-refused, up-end}
use Rattle.instruction_operands.proofs.source.read_operands.Goals as goal
use Rattle.instruction_operands.proofs.source.read_operands.Goals.{then-is_number+in_ok-amount, else-is_number+in_ok-registers, in-Some+in_ok-mark, in_default}

pub loop-operand-init : goal.loop-operand-init
loop-operand-init g c =
    rw c.default.ensures (up-begin g.met.S.OperandSource.laws g.S.OperandSource.Stands (form_of c.args.mnemonic) (c.operands-operand-items.ensures ∙ ap operand_list c.form-form.ensures))

pub returns-in_err-amount : goal.returns-in_err-amount
returns-in_err-amount g c =
    let passed : c.from_residual.result ≡ Err c.in_err-amount.field-0.0 = search rules in
    let label = c.takes_label-label.ensures ∙ ap takes_label c.form-form.ensures in
    let range = c.range.ensures.value ∙ ap range_of c.form-form.ensures in
    let q = next-up c.operands-operand-items.result.now c.loop-operand.operand-index RegisterComma c.loop-operand-test.true c.loop-operand.invariant in
    rw passed (operand-refused g.met.S.OperandSource.laws g.S.OperandSource.Stands q (sym c.is_number.ensures ∙ c.if-is_number.true) (rw (label, range) at c.in_err-amount.ensures))

pub returns-in_err-registers : goal.returns-in_err-registers
returns-in_err-registers g c =
    let passed : c.from_residual-in_err-registers.result ≡ Err c.in_err-registers.field-0.0 = search rules in
    let q = next-up c.operands-operand-items.result.now c.loop-operand.operand-index RegisterComma c.loop-operand-test.true c.loop-operand.invariant in
    rw passed (operand-refused g.met.S.OperandSource.laws g.S.OperandSource.Stands q (sym c.is_number.ensures ∙ c.if-is_number.false) (c.in_err-registers.ensures (takes_label (form_of c.args.mnemonic))))

-- there is room for the register
pub bounds-registers-count : goal.bounds-registers-count
bounds-registers-count g c =
    let q = next-up c.operands-operand-items.result.now c.loop-operand.operand-index RegisterComma c.loop-operand-test.true c.loop-operand.invariant in
    room-ahead g.met.S.OperandSource.laws g.S.OperandSource.Stands q (sym c.is_number.ensures ∙ c.if-is_number.false)

pub overflow_add-count : goal.overflow_add-count
overflow_add-count g c = omega (arith, bounds-registers-count g c)

pub returns-in_err-mark : goal.returns-in_err-mark
returns-in_err-mark g c =
    let L = g.met.S.OperandSource.laws in
    let O = g.S.OperandSource in
    let f = form_of c.args.mnemonic in
    let passed : c.from_residual-in_err-mark.result ≡ Err c.in_err-mark.field-0.0 = search rules in
    let label = c.takes_label-label.ensures ∙ ap takes_label c.form-form.ensures in
    let q = next-up c.operands-operand-items.result.now c.loop-operand.operand-index RegisterComma c.loop-operand-test.true c.loop-operand.invariant in
    let ahead : MarkAhead O.Took O.Spells O.Stands (range_of f) (takes_label f) (places f) c.args.source.now c.if-is_number.source c.if-is_number.count c.if-is_number.registers c.if-is_number.amount
    (get_or c.operands-operand-items.result.now c.loop-operand.operand-index RegisterComma) (drop (c.loop-operand.operand-index + 1) c.operands-operand-items.result.now)
    = elim c.if-is_number.branch [
      | then-is_number+in_ok-amount w ↦ rw (w.source-is, w.registers-is, w.count-is, w.amount-is)
          (amount-next L O.Stands w.in_ok-amount.amount q (sym c.is_number.ensures ∙ w.if-is_number.true) (rw (label, w.range.ensures.value ∙ ap range_of c.form-form.ensures) at w.in_ok-amount.ensures))
      | else-is_number+in_ok-registers w ↦ rw (w.source-is, w.registers-is, w.count-is, w.amount-is)
          (register-next L O.Stands w.in_ok-registers.field-0 q (sym c.is_number.ensures ∙ w.if-is_number.false) w.in_ok-registers.ensures)
    ] in
    rw passed (mark-refused L O.Stands ahead (sym c.mark.ensures ∙ c.in-Some.is) (c.in_err-mark.ensures (takes_label f)))

pub loop-operand-preserved : goal.loop-operand-preserved
loop-operand-preserved g c =
    let L = g.met.S.OperandSource.laws in
    let O = g.S.OperandSource in
    let f = form_of c.args.mnemonic in
    let label = c.takes_label-label.ensures ∙ ap takes_label c.form-form.ensures in
    let q = next-up c.operands-operand-items.result.now c.loop-operand.operand-index RegisterComma c.loop-operand-test.true c.loop-operand.invariant in
    let ahead : MarkAhead O.Took O.Spells O.Stands (range_of f) (takes_label f) (places f) c.args.source.now c.if-is_number.source c.if-is_number.count c.if-is_number.registers c.if-is_number.amount
    (get_or c.operands-operand-items.result.now c.loop-operand.operand-index RegisterComma) (drop (c.loop-operand.operand-index + 1) c.operands-operand-items.result.now)
    = elim c.if-is_number.branch [
      | then-is_number+in_ok-amount w ↦ rw (w.source-is, w.registers-is, w.count-is, w.amount-is)
          (amount-next L O.Stands w.in_ok-amount.amount q (sym c.is_number.ensures ∙ w.if-is_number.true) (rw (label, w.range.ensures.value ∙ ap range_of c.form-form.ensures) at w.in_ok-amount.ensures))
      | else-is_number+in_ok-registers w ↦ rw (w.source-is, w.registers-is, w.count-is, w.amount-is)
          (register-next L O.Stands w.in_ok-registers.field-0 q (sym c.is_number.ensures ∙ w.if-is_number.false) w.in_ok-registers.ensures)
    ] in
    elim c.match-mark.branch [
      | in-Some+in_ok-mark w ↦ rw w.source-is (mark-next L O.Stands ahead (sym c.mark.ensures ∙ w.in-Some.is) w.in_ok-mark.ensures)
      | in_default w ↦ rw w.source-is (mark-none L O.Stands ahead (sym c.mark.ensures ∙ w.in_default.is))
    ]

pub returns : goal.returns
returns g c = up-end g.met.S.OperandSource.laws g.S.OperandSource.Stands c.args.mnemonic c.operands-operand-items.result.now c.loop-operand.operand-index (omega (arith, c.loop-operand-test.false)) c.loop-operand.invariant
