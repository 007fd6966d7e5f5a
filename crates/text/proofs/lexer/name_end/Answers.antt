-- `text::lexer::name_end` meets its contract.
use Rattle.std.proofs.Common.{sym, ◌∙◌}
use Rattle.text.specs.Promised.{name_end}
use Rattle.text.proofs.Fronts.{no-name-past}
use Rattle.text.proofs.lexer.name_end.Goals as goal
use Rattle.text.proofs.lexer.name_end.Goals.{then-text-at-via-then-text-at, then-text-at-via-else-text-at+then-not-is_name_start}

pub returns-then-text-at : goal.returns-then-text-at
unfolding name_end
returns-then-text-at c =
    elim c.then-text-at.branch [
      | then-text-at-via-then-text-at w ↦ rw (name_end, no-name-past c.args.text.now c.args.at w.if-text-at.true)
      | then-text-at-via-else-text-at+then-not-is_name_start w ↦ rw (name_end, sym w.is_name_start.ensures ∙ w.if-not-is_name_start.true)
    ]

pub returns : goal.returns
unfolding name_end
returns c = rw (name_end, sym c.is_name_start.ensures ∙ c.if-not-is_name_start.false, c.run_end.ensures)
