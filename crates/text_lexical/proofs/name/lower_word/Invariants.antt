-- The loop's invariant: the bytes so far are packed, and parts of a name.
use Rattle.std.proofs.Common.{◌≡◌, ◌-◌, true}
use Rattle.text_lexical.specs.Bytes.{name_part, every}
use Rattle.text_lexical.specs.Words.{part}
use Rattle.text_lexical.proofs.Words.{Spelling}
use Rattle.text_lexical.proofs.name.lower_word.Given as goal

abbrev pub invariant-loop-i : goal.invariant-loop-i
invariant-loop-i l = Spelling l.text l.at l.packed l.i × (every name_part (part l.text l.at (l.i - l.at)) ≡ true)
