-- `image_passes::second_pass::in_reach` meets its contract.
use Rattle.std.proofs.Common.{rules, ◌≡◌, refl, sym, ◌∙◌}
use mathlib.Core.Bool.{true, false, true≢false}
use Rattle.text_lexical.specs.Promised.{whole_meant}
use Rattle.instruction.specs.declared.form.Form.TheVariants.{Branch}
use Rattle.image_passes.proofs.Resolving.{reach-any, reach-branch}
use Rattle.image_passes.proofs.second_pass.in_reach.Goals as goal

pub returns-then-ne : goal.returns-then-ne
returns-then-ne c = c.if-ne.true ∙ reach-any c.args.form (whole_meant c.args.distance) (λ e. let x : true ≡ false = sym c.if-ne.true ∙ c.ne.ensures ∙ rw e refl in true≢false x)

pub returns-else-ne : goal.returns-else-ne
returns-else-ne c =
    let e : c.args.form ≡ Branch = search rules in
    let w : c.range.result ≡ record { width = 17; signed = true } = rw (c.range.ensures.value, e) refl in
    rw w at c.holds.ensures ∙ reach-branch c.args.form (whole_meant c.args.distance) e
