-- The number of a draft: its own, or the distance to the label that it names.
use Prim.Native.Nat.{ℕ, ◌-◌, ◌≤◌, ◌<◌}
use mathlib.Core.Path.{◌≡◌, refl, sym, ap, ap₂, ◌∙◌}
use native.Mathlib.Omega.{arith}
use mathlib.Core.Bool.{true, false}
use mathlib.Core.Option.{Option, none, some}
use mathlib.Core.List.{List, [], ◌∷◌, map}
use lib.IntN.{ℤ}
use borrow.Author.Tests.{le-leb, lt-leb}
use Rattle.std.specs.Prelude.{Result, Ok, Err}
use Rattle.refusal.specs.Refusals.{refusals, refusal_at}
use Rattle.refusal.specs.declared.refusal.Refusal.{Refusal}
use Rattle.refusal.specs.declared.refusal.Refusal.TheVariants.{NoSuchLabel, LabelTooFar}
use Rattle.text_lexical.specs.Numbers.{lies_in}
use Rattle.text_lexical.specs.Promised.{index_of, whole_meant, whole_for}
use Rattle.text_lexical.specs.declared.number.Whole.{Whole}
use Rattle.text_lexical.specs.declared.number.Whole.TheVariants.{NotNegative, Negative}
use Rattle.text_lexical.specs.declared.register.Register.{Register}
use Rattle.text_lexical.proofs.Numbers.{whole-meant, whole_minus}
use Rattle.instruction.specs.Table.{Place, reg, num, mark, places}
use Rattle.instruction.specs.Operands.{exactly, to}
use Rattle.instruction.specs.Operands.{Amount as MeantAmount, Draft as MeantDraft}
use Rattle.instruction.specs.Promised.{form_meant, row_of, operands_with, registers_for, number_for, registers_of, whole_or, amount_meant, amount_for, draft_meant, amount_back, label_start, DraftSettled, parts_meant}
use Rattle.instruction.specs.declared.form.Form.{Form as CodeForm}
use Rattle.instruction.specs.declared.form.Form.TheVariants.{R, I, Shift, Load, Store, Branch, Jump, System}
use Rattle.instruction.specs.declared.instruction.Amount.{Amount}
use Rattle.instruction.specs.declared.instruction.Amount.TheVariants.{Number, Label as LabelAmount}
use Rattle.instruction.specs.declared.instruction.Draft.{Draft}
use Rattle.instruction.specs.declared.instruction.Target.{Target}
use Rattle.image.specs.Assembling.{address_after, distance, in_reach, amount_fault, draft_fault}
use Rattle.image.specs.Meaning.{resolved, settled}
use Rattle.image_passes.specs.Promised.{number_of_draft}

-- ---- a distance

module _ (words address : ℕ) where
  pub distance-on : address_after words ≤ address → ◌≡◌ {A = Whole} (NotNegative (address - address_after words)) (whole_for (distance words address))
  unfolding distance
  distance-on h = rw (distance, le-leb (address_after words) address h)

  pub distance-back : address < address_after words → ◌≡◌ {A = Whole} (Negative (address_after words - address)) (whole_for (distance words address))
  unfolding distance
  distance-back h =
      let own = address_after words in
      rw (distance, lt-leb own address h)
      (sym (whole_minus (own - address) (omega (arith, h))))

-- It is tested for a branch alone.
pub reach-any : (f : CodeForm) (z : ℤ) → (f ≡ Branch → ⊥) → true ≡ in_reach (form_meant f) z
unfolding in_reach
reach-any R z h = refl
reach-any I z h = refl
reach-any Shift z h = refl
reach-any Load z h = refl
reach-any Store z h = refl
reach-any Branch z h = absurd (h refl)
reach-any Jump z h = refl
reach-any System z h = refl

pub reach-branch : (f : CodeForm) (z : ℤ) → f ≡ Branch → lies_in (record { width = 17; signed = true }) z ≡ in_reach (form_meant f) z
unfolding lies_in in_reach
reach-branch f z e = rw e refl

-- ---- the amount of a draft

-- A form has a place for an amount, or not.
data Kept (a : MeantAmount) : Option MeantAmount → Type 0 where
  kept : Kept a (some a)
  dropped : Kept a none

amount-kept : (ps : List Place) (a : MeantAmount) → Kept a (amount_for ps a)
unfolding amount_for
amount-kept [] a = dropped
amount-kept (num bit width signed ∷ ps) a = kept
amount-kept (reg bit ∷ ps) a = amount-kept ps a
amount-kept (mark m ∷ ps) a = amount-kept ps a

not-label : {X : Type 0} {w : Whole} {t : Target} → ◌≡◌ {A = Amount} (Number w) (LabelAmount t) → X
not-label e = let y : ◌≡◌ {A = ℕ} 0 1 = cc in absurd (omega arith)

-- A label that is named has a place: of an amount that has none a 0 stands in the code.
pub label-kept : (ps : List Place) (u : List ℕ) (at : ℕ) {t : Target} → LabelAmount t ≡ amount_back at (amount_for ps (to u)) → amount_for ps (to u) ≡ some (to u)
label-kept ps u at e = go (amount_for ps (to u)) (amount-kept ps (to u)) e
  where
    go : (o : Option MeantAmount) {t : Target} → Kept (to u) o → LabelAmount t ≡ amount_back at o → o ≡ some (to u)
    go _ kept e = refl
    go _ dropped e = not-label (sym e)

pub label-meant : (spells : Target → List ℕ) (d : Draft) {t : Target} → DraftSettled spells d → d.amount ≡ LabelAmount t → (draft_meant spells d).amount ≡ some (to (spells t))
label-meant spells d {t} is e =
    let ps = places (row_of d.mnemonic).form in
    let x : d.amount ≡ amount_back (label_start d.amount) (amount_for ps (amount_meant spells d.amount)) = ap (λ (y : Draft). y.amount) is in
    let y : amount_for ps (amount_meant spells d.amount) ≡ amount_for ps (to (spells t)) = ap (λ (a : Amount). amount_for ps (amount_meant spells a)) e in
    y ∙ label-kept ps (spells t) (label_start d.amount) (sym e ∙ x ∙ ap (amount_back (label_start d.amount)) y)

module _ (a : List ℕ → Option ℕ) (words : ℕ) (d : MeantDraft) where
  -- A number is its own,
  pub number-own : (at : ℕ) {w : Whole} → Number w ≡ amount_back at d.amount → Ok w ≡ number_of_draft a words d
  unfolding number_of_draft draft_fault amount_fault settled resolved
  number-own at {w} e = go d.amount e
    where
      go : (o : Option MeantAmount) → Number w ≡ amount_back at o → Ok w ≡ number_of_draft a words (record { row = d.row; registers = d.registers; amount = o })
      go none e = cc
      go (some (exactly z)) e = cc
      go (some (to u)) e = not-label e

  -- and a label that is named leads to its address, if there is one,
  module _ {u : List ℕ} (e : d.amount ≡ some (to u)) where
    pub number-unknown : none ≡ a u → Err NoSuchLabel ≡ number_of_draft a words d
    unfolding number_of_draft draft_fault amount_fault settled resolved refusals
    number-unknown k = rw (number_of_draft, draft_fault, e, amount_fault, ← k)

    module _ {address : ℕ} (k : some address ≡ a u) where
      -- if it is not too far.
      pub number-far : false ≡ in_reach d.row.form (distance words address) → Err LabelTooFar ≡ number_of_draft a words d
      unfolding number_of_draft draft_fault amount_fault settled resolved refusals
      number-far l = rw (number_of_draft, draft_fault, e, amount_fault, ← k, ← l)

      pub number-near : true ≡ in_reach d.row.form (distance words address) → Ok (whole_for (distance words address)) ≡ number_of_draft a words d
      unfolding number_of_draft draft_fault amount_fault settled resolved
      number-near l = rw (number_of_draft, draft_fault, e, amount_fault, ← k, ← l) (rw (settled, e, resolved, ← k))

  -- So an answer tells whether the label is refused.
  pub number-good : {w : Whole} → Ok w ≡ number_of_draft a words d → (draft_fault a words d ≡ none) × (w ≡ whole_or (settled a words d).number)
  unfolding number_of_draft
  number-good {w} e = go (draft_fault a words d) e
    where
      go : (o : Option ℕ) → ◌≡◌ {A = Result Whole Refusal} (Ok w) (elim o [ some n ↦ Err (refusal_at n) | none ↦ Ok (whole_or (settled a words d).number) ]) → (o ≡ none) × (w ≡ whole_or (settled a words d).number)
      go none e = (refl, cc)
      go (some n) e = let y : ◌≡◌ {A = ℕ} 0 1 = cc in absurd (omega arith)

  pub number-bad : {f : Refusal} → Err f ≡ number_of_draft a words d → (n : ℕ) × ((draft_fault a words d ≡ some n) × (f ≡ refusal_at n))
  unfolding number_of_draft
  number-bad {f} e = go (draft_fault a words d) e
    where
      go : (o : Option ℕ) → ◌≡◌ {A = Result Whole Refusal} (Err f) (elim o [ some n ↦ Err (refusal_at n) | none ↦ Ok (whole_or (settled a words d).number) ]) → (n : ℕ) × ((o ≡ some n) × (f ≡ refusal_at n))
      go none e = let y : ◌≡◌ {A = ℕ} 0 1 = cc in absurd (omega arith)
      go (some n) e = (n, (refl, cc))

-- ---- the instruction of a draft

-- The number that is left of one where a form has a place for it.
number-left : (f : MeantAmount → ℤ) (ps : List Place) (x : MeantAmount) (w : Whole) → w ≡ whole_or (elim (amount_for ps x) [ some y ↦ some (f y) | none ↦ none ])
    → number_for ps (whole_meant w) ≡ elim (amount_for ps x) [ some y ↦ some (f y) | none ↦ none ]
unfolding amount_for number_for
number-left f [] x w e = refl
number-left f (num bit width signed ∷ ps) x w e = ap (λ (z : ℤ). some z) (ap whole_meant e ∙ whole-meant (f x))
number-left f (reg bit ∷ ps) x w e = number-left f ps x w e
number-left f (mark m ∷ ps) x w e = number-left f ps x w e

three-of : (rs : List Register) {x y z : Register} (w : Whole) → rs ≡ x ∷ y ∷ z ∷ [] → registers_of (operands_with rs w) ≡ map index_of rs
three-of rs w e = rw e

-- A draft with its number is the instruction that it is settled as.
pub draft-word : (a : List ℕ → Option ℕ) (words : ℕ) (spells : Target → List ℕ) (d : Draft) → DraftSettled spells d → {w : Whole} → Ok w ≡ number_of_draft a words (draft_meant spells d)
    → parts_meant (record { mnemonic = d.mnemonic; operands = operands_with d.registers w }) ≡ settled a words (draft_meant spells d)
unfolding settled
draft-word a words spells d is {w} n =
    let ps = places (row_of d.mnemonic).form in
    let three : registers_of (operands_with d.registers w) ≡ map index_of d.registers = three-of d.registers w (ap (λ (y : Draft). y.registers) is) in
    ap₂ (λ (rs : List ℕ) (z : Option ℤ). record { row = row_of d.mnemonic; registers = registers_for ps rs; number = z }) three
    (number-left (resolved a words) ps (amount_meant spells d.amount) w (number-good a words (draft_meant spells d) n).1)
