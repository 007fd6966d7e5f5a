-- `image_labels::tree::begin` meets its contract.
use Rattle.image_labels.specs.Tree.{first_path, key_of, span}
use Rattle.image_labels.proofs.Named.{spelled-long}
use Rattle.image_labels.proofs.tree.begin.Goals as goal

pub returns : goal.returns
unfolding first_path key_of
returns c =
    let a = c.args in
    let l = span a.start a.«length» in
    rw (c.first_stage.ensures, c.place_before.ensures, c.slot-bucket.ensures.value, c.hash-hash.ensures, spelled-long a.source.now l c.requires.enterable.in_text)
