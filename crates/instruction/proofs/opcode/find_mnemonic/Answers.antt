-- `instruction::opcode::find_mnemonic` meets its contract.
use mathlib.Core.Path.{sym, ◌∙◌}
use Rattle.instruction.proofs.Lookup.{key-row, slot-empty, slot-other}
use Rattle.instruction.proofs.opcode.find_mnemonic.Goals as goal

pub returns-in_err-mnemonic : goal.returns-in_err-mnemonic
returns-in_err-mnemonic c = rw c.from_residual.ensures (slot-empty c.args.key c.in_err-mnemonic.was)

pub returns-then-key : goal.returns-then-key
returns-then-key c = rw (← sym c.key.ensures ∙ c.if-key.true) (sym (key-row c.in_ok-mnemonic.mnemonic))

pub returns : goal.returns
returns c = slot-other c.args.key c.in_ok-mnemonic.mnemonic c.in_ok-mnemonic.was (λ e. c.if-key.false (c.key.ensures ∙ e))
