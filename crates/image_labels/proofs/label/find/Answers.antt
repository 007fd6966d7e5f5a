-- `image_labels::label::find` meets its contract.
use Rattle.std.proofs.Common.{◌<◌, sym, subst}
use Rattle.image_labels.specs.Tree.{span}
use Rattle.image_labels.specs.declared.tree.Search.{Search}
use Rattle.image_labels.proofs.Finding.{left, seek-begin, seek-visitable, seek-visit, seek-nearer, seek-end}
use Rattle.image_labels.proofs.label.find.Goals as goal

pub loop-search-init : goal.loop-search-init
loop-search-init c =
    let a = c.args in
    rw c.begin-search.ensures (seek-begin a.source.now a.table.now a.roots.now a.count (span a.start a.«length») c.requires.tree c.requires.enterable)

pub visit-search-requires : goal.visit-search-requires
visit-search-requires c =
    let a = c.args in
    seek-visitable a.source.now a.table.now a.roots.now a.count (span a.start a.«length») c.requires.tree c.requires.enterable
    c.loop-search.search c.loop-search.invariant c.in-At.is

pub loop-search-smaller : goal.loop-search-smaller
loop-search-smaller c =
    let a = c.args in
    let Nearer : Search → Type 0 = λ q. left a.count q < left a.count c.loop-search.search in
    subst Nearer (sym c.visit-search.ensures)
    (seek-nearer a.source.now a.table.now a.roots.now a.count (span a.start a.«length») c.requires.tree c.requires.enterable
    c.loop-search.search c.loop-search.invariant c.in-At.is)

pub loop-search-preserved : goal.loop-search-preserved
loop-search-preserved c =
    let a = c.args in
    rw c.visit-search.ensures
    (seek-visit a.source.now a.table.now a.roots.now a.count (span a.start a.«length») c.requires.tree c.requires.enterable
    c.loop-search.search c.loop-search.invariant c.in-At.is)

pub returns : goal.returns
returns c =
    let a = c.args in
    rw c.found.ensures
    (seek-end a.source.now a.table.now a.roots.now a.count a.start a.«length» c.requires.tree c.requires.enterable
    c.loop-search.search c.loop-search.invariant c.in_default.not-At)
