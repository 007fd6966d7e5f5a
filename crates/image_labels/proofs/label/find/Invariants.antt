-- The loop's invariant: where the search stands.
use Rattle.image_labels.specs.Tree.{span}
use Rattle.image_labels.proofs.Finding.{Seeking, left}
use Rattle.image_labels.proofs.label.find.Given as goal

abbrev pub invariant-loop-search : goal.invariant-loop-search
invariant-loop-search l = Seeking l.source l.table l.roots l.count (span l.start l.«length») l.search

abbrev pub decreases-loop-search : goal.decreases-loop-search
decreases-loop-search l = left l.count l.search
