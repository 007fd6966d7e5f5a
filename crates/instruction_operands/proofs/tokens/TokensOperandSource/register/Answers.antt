-- `instruction_operands::tokens`: a line's tokens give a register as they promise.
use Rattle.std.proofs.Common.{rules, ◌≡◌}
use Rattle.std.specs.Prelude.{Err}
use Rattle.refusal.specs.declared.refusal.Refusal.TheVariants.{OperandCount}
use Rattle.instruction_operands.proofs.Taking.{none-left, register-next}
use Rattle.instruction_operands.proofs.tokens.TokensOperandSource.register.Goals as goal

pub returns-in_err-take : goal.returns-in_err-take
returns-in_err-take c =
    let (none, count) = c.in_err-take.ensures in
    let passed : c.from_residual.result ≡ Err OperandCount = search (rules, count) in
    rw passed (none-left c.args.self.now _ none)

pub returns : goal.returns
returns c = let (u, e) = c.in_ok-take.ensures in register-next c.args.self.now c.take.new.self c.in_ok-take.field-0 u e _ c.extract_register.ensures
