-- The loops' invariants: the hash of what is left, from the hash so far on, is that of all.
use Rattle.std.proofs.Common.{◌≡◌, drop}
use Rattle.image_labels.specs.Tree.{hash_from}
use Rattle.image_labels.proofs.Hashing.{hash_threes}
use Rattle.image_labels.proofs.tree.hash.Given as goal

abbrev pub invariant-loop-chunk : goal.invariant-loop-chunk
invariant-loop-chunk l = hash_threes l.hash (drop l.chunk-index l.chunks) ≡ hash_threes l.initial.hash l.chunks

-- less than three bytes are left
abbrev pub invariant-loop-byte : goal.invariant-loop-byte
invariant-loop-byte l = hash_from l.hash (drop l.byte-index l.rest) ≡ hash_from l.initial.hash l.rest
