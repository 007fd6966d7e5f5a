-- `image_passes::first_pass::go_on` meets its contract.
use Rattle.std.proofs.Common.{◌≡◌, refl, ap, ◌∙◌, length, List, ℕ}
use Rattle.std.specs.Prelude.{Ok, Err}
use Rattle.std.specs.Result.{result_and}
use Rattle.image_passes.specs.Promised.{Entry, line_after, followed}
use Rattle.image_passes.specs.declared.first_pass.LabelLine.{LabelLine}
use Rattle.image_passes.proofs.first_pass.go_on.Goals as goal

-- A label's refusal comes before what the rest of its line comes to.
label-first : (s : List ℕ) (p : LabelLine) (e : Entry) → line_after (length s) p.line (result_and e p.rest) ≡ followed s p e
unfolding line_after
label-first s p (Ok u) = refl
label-first s p (Err r) = refl

pub returns : goal.returns
returns c =
    c.after_line.ensures ∙ ap (line_after (length c.args.source.now) c.args.at.line) c.and.ensures ∙ label-first c.args.source.now c.args.at c.args.entered
