-- `text::lexer::ending_at` meets its contract.
use Rattle.std.proofs.Common.{arith, ap, sym, ◌∙◌, Some}
use Rattle.text.proofs.Endings.{line-here, comment-here, other-here}
use Rattle.text.proofs.lexer.ending_at.Goals as goal

pub returns-then-text-stop : goal.returns-then-text-stop
returns-then-text-stop c = line-here c.args.text.now c.args.at c.run_end-stop.result c.requires c.run_end-stop.ensures (λ m. absurd (omega arith))

pub returns-in-35 : goal.returns-in-35
returns-in-35 c =
    ap Some c.line_end.ensures ∙ comment-here c.args.text.now c.args.at c.run_end-stop.result c.requires c.run_end-stop.ensures c.in-35.is

pub returns-in_default : goal.returns-in_default
returns-in_default c =
    other-here c.args.text.now c.args.at c.run_end-stop.result c.requires c.run_end-stop.ensures c.if-text-stop.false (sym c.has.ensures ∙ c.if-has.true) (λ e. omega arith)

pub returns-in_default-2 : goal.returns-in_default-2
returns-in_default-2 c =
    line-here c.args.text.now c.args.at c.run_end-stop.result c.requires c.run_end-stop.ensures (λ m. sym c.has.ensures ∙ c.if-has.false)
