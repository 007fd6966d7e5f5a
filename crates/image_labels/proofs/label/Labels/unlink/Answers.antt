-- `image_labels::label::Labels::unlink` meets its contract.
use Rattle.std.proofs.Common.{ℕ, ◌≡◌, ◌∙◌, refl, sym, ap, arith, List, ◌++◌, take, drop, length-take}
use Rattle.image_labels.specs.declared.label.Label.{Label}
use Rattle.image_labels.specs.Tree.{unlinked}
use Rattle.image_labels.proofs.Finding.{unlinked-more, unlinked-front}
use Rattle.image_labels.proofs.label.Labels.unlink.Goals as goal

pub loop-entry-init : goal.loop-entry-init
unfolding unlinked
loop-entry-init c = refl

pub loop-entry-preserved : goal.loop-entry-preserved
loop-entry-preserved c =
    rw (c.plain.ensures, c.loop-entry.invariant) (unlinked-more c.loop-entry.entry-index (take c.args.self.now.count c.args.self.now.table.now) (omega arith))

pub returns-clause-table : goal.returns-clause-table
returns-clause-table c =
    let t = c.args.self.now.table.now in
    let all : c.loop-entry.entry-index ≡ c.args.self.now.count = omega (arith, length-take c.args.self.now.count t, c.requires) in
    ap (λ (l : List Label). l ++ drop c.args.self.now.count t) (c.loop-entry.invariant ∙ ap (λ (n : ℕ). unlinked n (take c.args.self.now.count t)) all)
    ∙ sym (unlinked-front c.args.self.now.count t c.requires)
