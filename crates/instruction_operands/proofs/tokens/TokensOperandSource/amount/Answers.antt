-- `instruction_operands::tokens`: a line's tokens give a number, or a label, as they promise.
use Rattle.std.proofs.Common.{rules, ◌≡◌, sym, ◌∙◌}
use mathlib.Core.Bool.{true, true≢false}
use Rattle.std.specs.Prelude.{Err}
use Rattle.refusal.specs.declared.refusal.Refusal.TheVariants.{OperandCount}
use Rattle.text.specs.declared.lexer.Kind.TheVariants.{Identifier}
use Rattle.text.proofs.Identifiers.{identifier-is, identifier-not}
use Rattle.instruction_operands.proofs.Taking.{none-left, label-next, number-next, amount-refused}
use Rattle.instruction_operands.proofs.tokens.TokensOperandSource.amount.Goals as goal
use Rattle.instruction_operands.proofs.tokens.TokensOperandSource.amount.Goals.{else-label-via-then-label+else-eq, else-label-via-else-label}

pub returns-in_err-token : goal.returns-in_err-token
returns-in_err-token c =
    let (none, count) = c.in_err-token.ensures in
    let passed : c.from_residual.result ≡ Err OperandCount = search (rules, count) in
    rw passed (none-left c.args.self.now _ none c.args.label)

pub returns-then-eq : goal.returns-then-eq
returns-then-eq c =
    let (text, left) = c.in_ok-token.ensures in
    label-next c.args.self.now c.take.new.self c.in_ok-token.token text left c.args.range c.args.label c.if-label.true (identifier-is c.in_ok-token.token.kind (sym c.eq.ensures ∙ c.if-eq.true))

pub returns-in_err-number : goal.returns-in_err-number
returns-in_err-number c =
    let (text, left) = c.in_ok-token.ensures in
    let other : c.args.label ≡ true → c.in_ok-token.token.kind ≡ Identifier → ⊥ = elim c.else-label.branch [
      | else-label-via-then-label+else-eq w ↦ λ l. identifier-not c.in_ok-token.token.kind (sym w.eq.ensures ∙ w.if-eq.false)
      | else-label-via-else-label w ↦ λ l e. true≢false (sym l ∙ w.if-label.false)
    ] in
    let passed : c.from_residual-in_err-number.result ≡ Err c.in_err-number.field-0.0 = search rules in
    rw passed (amount-refused c.args.self.now c.take.new.self c.in_ok-token.token text left c.args.range c.args.label c.in_err-number.field-0.0 (sym c.in_err-number.was ∙ c.extract_number.ensures) other)

pub returns : goal.returns
returns c =
    let (text, left) = c.in_ok-token.ensures in
    number-next c.args.self.now c.take.new.self c.in_ok-token.token text left c.args.range c.args.label c.in_ok-number.number (sym c.in_ok-number.was ∙ c.extract_number.ensures)
