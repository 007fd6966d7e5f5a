-- The loop's invariant: where the walk reads on, and the labels that have been entered.
use Rattle.text_lexical.specs.Names.{present}
use Rattle.image_assembler.proofs.Walks.{Walking, left}
use Rattle.image_assembler.proofs.assembler.walk.Given as goal

abbrev pub invariant-loop-verdict : goal.invariant-loop-verdict
invariant-loop-verdict l = Walking present l.fn.labels l.labels l.cursor

abbrev pub decreases-loop-verdict : goal.decreases-loop-verdict
decreases-loop-verdict l = left l.source l.cursor
