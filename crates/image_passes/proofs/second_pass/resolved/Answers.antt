-- `image_passes::second_pass::resolved` meets its contract.
use Prim.Native.Nat.{ℕ}
use mathlib.Core.Path.{◌≡◌, sym, ap, ap₂, ◌∙◌}
use native.Mathlib.Omega.{arith}
use mathlib.Core.Option.{some}
use mathlib.Core.List.{List}
use lib.IntN.{ℤ}
use Rattle.text_lexical.specs.Names.{present}
use Rattle.text_lexical.specs.Promised.{whole_meant, whole_for}
use Rattle.text_lexical.specs.declared.number.Whole.{Whole}
use Rattle.text_lexical.proofs.Numbers.{whole-meant}
use Rattle.instruction.specs.Operands.{to}
use Rattle.instruction.specs.Operands.{Draft as MeantDraft}
use Rattle.instruction.specs.Promised.{form_meant, row_of, spelled_in, draft_meant}
use Rattle.instruction.specs.declared.form.Form.{Form as CodeForm}
use Rattle.instruction.specs.declared.instruction.Draft.{Draft}
use Rattle.image.specs.Assembling.{most_bytes, distance, in_reach}
use Rattle.image_passes.specs.Promised.{addresses}
use Rattle.image_passes.proofs.Resolving.{number-own, label-meant, number-unknown, number-far, number-near}
use Rattle.image_passes.proofs.second_pass.resolved.Goals as goal
use Rattle.image_passes.proofs.second_pass.resolved.Goals.{In-Label}

pub returns-in-Number : goal.returns-in-Number
returns-in-Number c =
    let s = c.args.labels.now.source.now in
    number-own (addresses present s) c.args.words (draft_meant (spelled_in s) c.args.draft) _ (sym c.in-Number.is ∙ ap (λ (d : Draft). d.amount) c.requires.settled)

pub address_of-requires-clause-enterable : goal.address_of-requires-clause-enterable
unfolding most_bytes
address_of-requires-clause-enterable c =
    let inside = rw c.in-Label.is at c.requires.label_in_text in
    record { in_text = inside; short = c.requires.entered.short; few = c.requires.entered.few; near = omega arith }

-- The label that the draft names, and where it was looked up.
abbrev source : In-Label → List ℕ
source c = c.args.labels.now.source.now

abbrev meant : In-Label → MeantDraft
meant c = draft_meant (spelled_in (source c)) c.args.draft

abbrev name : In-Label → List ℕ
name c = spelled_in (source c) c.in-Label.label

named : (c : In-Label) → (meant c).amount ≡ some (to (name c))
named c = label-meant (spelled_in (source c)) c.args.draft c.requires.settled c.in-Label.is

pub returns-in_default : goal.returns-in_default
returns-in_default c =
    let l = (goal.at.returns-in_default c).In-Label in
    number-unknown (addresses present (source l)) c.args.words (meant l) (named l) (c.in_default.ensures ∙ c.requires.entered.addressed (name l))

-- Whether the form has room for the distance.
reaches : (form : CodeForm) (number : Whole) (d : Draft) (z : ℤ) → form_meant form ≡ (row_of d.mnemonic).form → number ≡ whole_for z
    → in_reach (form_meant form) (whole_meant number) ≡ in_reach (row_of d.mnemonic).form z
reaches form number d z e k = ap₂ in_reach e (ap whole_meant k ∙ whole-meant z)

pub returns-then-in_reach : goal.returns-then-in_reach
returns-then-in_reach c =
    let l = (goal.at.returns-then-in_reach c).In-Label in
    let near = reaches _ _ c.args.draft (distance c.args.words c.in-Some.address) c.form.ensures c.distance-number.ensures in
    rw c.distance-number.ensures
    (number-near (addresses present (source l)) c.args.words (meant l) (named l) (c.in-Some.ensures ∙ c.requires.entered.addressed (name l)) (sym c.if-in_reach.true ∙ c.in_reach.ensures ∙ near))

pub returns-else-in_reach : goal.returns-else-in_reach
returns-else-in_reach c =
    let l = (goal.at.returns-else-in_reach c).In-Label in
    let far = reaches _ _ c.args.draft (distance c.args.words c.in-Some.address) c.form.ensures c.distance-number.ensures in
    number-far (addresses present (source l)) c.args.words (meant l) (named l) (c.in-Some.ensures ∙ c.requires.entered.addressed (name l)) (sym c.if-in_reach.false ∙ c.in_reach.ensures ∙ far)
