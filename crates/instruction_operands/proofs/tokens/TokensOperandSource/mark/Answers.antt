-- `instruction_operands::tokens`: a line's tokens give a mark as they promise.
use Rattle.std.proofs.Common.{rules, ◌≡◌, sym, ◌∙◌}
use Rattle.std.specs.Prelude.{Err}
use Rattle.refusal.specs.declared.refusal.Refusal.TheVariants.{OperandCount}
use Rattle.instruction_operands.proofs.Taking.{none-left, mark-found, mark-missing}
use Rattle.instruction_operands.proofs.tokens.TokensOperandSource.mark.Goals as goal

pub returns-in_err-take : goal.returns-in_err-take
returns-in_err-take c =
    let (none, count) = c.in_err-take.ensures in
    let passed : c.from_residual.result ≡ Err OperandCount = search (rules, count) in
    rw passed (none-left c.args.self.now _ none)

pub returns-then-not-is_mark : goal.returns-then-not-is_mark
returns-then-not-is_mark c =
    let (u, e) = c.in_ok-take.ensures in
    mark-missing c.args.self.now c.take.new.self c.in_ok-take.field-0 u e c.args.mark c.requires (sym c.if-not-is_mark.true ∙ c.is_mark.ensures)

pub returns : goal.returns
returns c =
    let (u, e) = c.in_ok-take.ensures in
    mark-found c.args.self.now c.take.new.self c.in_ok-take.field-0 u e c.args.mark c.requires (sym c.if-not-is_mark.false ∙ c.is_mark.ensures)
