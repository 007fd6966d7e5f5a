-- `image_labels::tree::hash` meets its contract.
use Rattle.std.proofs.Common.{◌∙◌, sym, ap, arith}
use Rattle.image_labels.specs.Tree.{hash_from, mixed, hash_of}
use Rattle.image_labels.specs.declared.tree.Digest.{Digest}
use Rattle.image_labels.proofs.Hashing.{hash-threes-done, hash-one, hash-done, hash-all}
use Rattle.image_labels.proofs.tree.hash.Goals as goal

pub loop-byte-preserved : goal.loop-byte-preserved
loop-byte-preserved c =
    let l = c.loop-byte in
    rw (c.mix-hash-in-loop-byte.ensures, c.from.ensures) (sym (hash-one l.hash c.as_chunks.result.1.now l.byte-index (omega arith) (omega arith)) ∙ l.invariant)

pub returns : goal.returns
returns c =
    let rest = c.as_chunks.result.1.now in
    let threes = c.loop-chunk in
    let bytes = c.loop-byte in
    c.mix.ensures
    ∙ ap (λ (h : Digest). mixed h 0)
    (sym (hash-done bytes.hash rest bytes.byte-index (omega arith)) ∙ bytes.invariant
    ∙ ap (λ (h : Digest). hash_from h rest) (sym (hash-threes-done threes.hash c.as_chunks.result.0.now threes.chunk-index (omega arith)) ∙ threes.invariant))
    ∙ hash-all c.part.result.now c.as_chunks.ensures.front c.as_chunks.ensures.back ∙ ap hash_of c.part.ensures
