-- The tokens read so far, with those that are found from the reader's place on, are the line's.
use Rattle.std.proofs.Common.{◌≡◌, ◌-◌, length}
use Rattle.text_lexical.specs.Names.{present}
use Rattle.text.proofs.Recording.{Reading}
use Rattle.text.proofs.parser.tokenize.Given as goal

abbrev pub invariant-loop-end : goal.invariant-loop-end
invariant-loop-end l = (l.reader.text.now ≡ l.text) × Reading present l.text l.start l.tokens l.count l.reader.position

abbrev pub decreases-loop-end : goal.decreases-loop-end
decreases-loop-end l = length l.text - l.reader.position
