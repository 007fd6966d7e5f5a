-- The loop's invariant: the largest byte passed is up to 127 where every one is.
use Rattle.std.proofs.Common.{◌≡◌, take}
use Rattle.text_lexical.specs.Bytes.{every, ascii}
use Rattle.text_lexical.proofs.bytes.AsciiClass.has_all.Given as goal

abbrev pub invariant-loop-b : goal.invariant-loop-b
invariant-loop-b l = ascii l.most ≡ every ascii (take l.b-index l.block)
