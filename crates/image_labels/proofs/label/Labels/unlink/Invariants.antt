-- The loop's invariant: the first entries are labels.
use Rattle.std.proofs.Common.{◌≡◌}
use Rattle.image_labels.specs.Tree.{unlinked}
use Rattle.image_labels.proofs.label.Labels.unlink.Given as goal

abbrev pub invariant-loop-entry : goal.invariant-loop-entry
invariant-loop-entry l = l.entry-items ≡ unlinked l.entry-index l.initial.entry-items
