-- `image_labels::label::Labels::address_of` meets its contract.
use Rattle.std.proofs.Common.{◌∙◌, sym, ap, arith}
use Rattle.std.proofs.Math.Option.{some}
use Rattle.image_labels.specs.declared.label.Label.{Label}
use Rattle.image_labels.proofs.Finding.{found-there, address-there, address-missing}
use Rattle.image_labels.proofs.label.Labels.address_of.Goals as goal

pub returns-in_default : goal.returns-in_default
returns-in_default c = sym (address-missing c.in_default.ensures)

pub offset_bounds-self-place : goal.offset_bounds-self-place
offset_bounds-self-place c = omega (arith, (found-there c.in-Ok.ensures).0, c.requires.enterable.few)

pub bounds-self-place : goal.bounds-self-place
bounds-self-place c = omega (arith, (found-there c.in-Ok.ensures).0, c.requires.tree.in_table)

pub returns : goal.returns
returns c = ap (λ (l : Label). some l.address) c.plain.ensures ∙ sym (address-there c.in-Ok.ensures)
