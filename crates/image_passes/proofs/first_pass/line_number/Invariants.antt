-- The loop's invariant: the line ends among the bytes passed are counted.
use Rattle.std.proofs.Common.{◌≡◌, ◌+◌, take}
use Rattle.std.specs.Prelude.{not, count_by}
use Rattle.text_lexical.specs.Bytes.{inside}
use Rattle.image_passes.proofs.first_pass.line_number.Given as goal

abbrev pub invariant-loop-byte : goal.invariant-loop-byte
invariant-loop-byte l = l.line ≡ 1 + count_by (λ b. not (inside b)) (take l.byte-index l.byte-items)
