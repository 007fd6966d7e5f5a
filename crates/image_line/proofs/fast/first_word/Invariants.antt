use lib.ListN.{length}
use Prim.Native.Nat.{◌-◌}
use Rattle.text_lexical.specs.Names.{present}
use Rattle.image_line.specs.Promised.{OptionalLabel}
use Rattle.image_line.proofs.fast.first_word.Given as goal

-- Nothing has been read yet, or a label.
abbrev pub invariant-loop-at : goal.invariant-loop-at
invariant-loop-at l = OptionalLabel present l.source l.start l.label l.at

abbrev pub decreases-loop-at : goal.decreases-loop-at
decreases-loop-at l = length l.source - l.at
