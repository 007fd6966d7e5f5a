-- `image_labels::label::Labels::enter` meets its contract.
use Rattle.std.proofs.Common.{rules, ◌≡◌, ◌∙◌, refl, sym, Err}
use Rattle.image_labels.proofs.Finding.{enter-known, bucket-inside, enter-full, enter-new, new-tree}
use Rattle.image_labels.proofs.label.Labels.enter.Goals as goal

pub returns-in_default-clause-enters : goal.returns-in_default-clause-enters
returns-in_default-clause-enters c = enter-known c.find.ensures c.in_default.not-Err

pub returns-in_err-append-clause-enters : goal.returns-in_err-append-clause-enters
returns-in_err-append-clause-enters c =
    let passed : c.from_residual.result ≡ Err c.in_err-append.field-0.0 = search rules in
    rw passed (enter-full c.in-Err.ensures c.requires.enterable.near c.append.ensures.stored (sym c.append.ensures.value ∙ c.in_err-append.was))

pub set_root-requires-clause-bucket_in_roots : goal.set_root-requires-clause-bucket_in_roots
set_root-requires-clause-bucket_in_roots c = bucket-inside c.in-Err.ensures c.requires.enterable.near c.requires.tree.rootable.some

pub returns-in-Some-clause-enters : goal.returns-in-Some-clause-enters
returns-in-Some-clause-enters c =
    enter-new c.in-Err.ensures c.requires.enterable.near c.append.ensures.stored (sym c.append.ensures.value ∙ c.in_ok-append.was) c.in-Some.is

pub returns-in-Some-clause-tree_after : goal.returns-in-Some-clause-tree_after
returns-in-Some-clause-tree_after c =
    new-tree c.in-Err.ensures c.requires.enterable.near c.append.ensures.stored (sym c.append.ensures.value ∙ c.in_ok-append.was) c.in-Some.is refl

pub returns-in-None-clause-enters : goal.returns-in-None-clause-enters
returns-in-None-clause-enters c =
    enter-new c.in-Err.ensures c.requires.enterable.near c.append.ensures.stored (sym c.append.ensures.value ∙ c.in_ok-append.was) c.in-None.is

pub returns-in-None-clause-tree_after : goal.returns-in-None-clause-tree_after
returns-in-None-clause-tree_after c =
    new-tree c.in-Err.ensures c.requires.enterable.near c.append.ensures.stored (sym c.append.ensures.value ∙ c.in_ok-append.was) c.in-None.is c.set_root.ensures
