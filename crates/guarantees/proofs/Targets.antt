-- Labels that instructions name are resolved, in every call that is not refused.
use Prim.Native.Nat.{ℕ, ◌+◌}
use mathlib.Core.Path.{◌≡◌, refl, sym, ap, ◌∙◌}
use native.Mathlib.Omega.{arith}
use mathlib.Core.Bool.{Bool, true, false, true≢false}
use mathlib.Core.Option.{some}
use mathlib.Core.List.{List, [], ◌∷◌, ◌++◌}
use lib.ListN.{length, length-append}
use lib.Dec.{leb}
use Rattle.text_lexical.specs.Numbers.{is_signed}
use Rattle.text_lexical.specs.Names.{Name}
use Rattle.image.specs.Program.{image_length}
use Rattle.image.specs.Assembling.{State, refusing, Effect, nothing, sets, codes, faulty, Read, reads, words_of, address_of, address_in, distance, Assembled as Reading, accepted, rejected, reading, fitted, assembling}
use Rattle.image.specs.Meaning.{settled, coded_in, is_accepted}
use Rattle.image.specs.Lent.{entered}
use Rattle.image.proofs.Walking.{words_in, coded-length}
use Rattle.image.proofs.Targets.{Reaches, branch-within, accepted-reaches, accepted-entered, accepted-number, accepted-jal}
use Rattle.image.proofs.Placed.{placed-instruction}
use Rattle.guarantees.specs.Targets.{drafted_by, drafted, NamesLabel, words_before, IsResolved, Targets}
use Rattle.guarantees.proofs.Calls.{accepts}

-- ---- so many instructions

drafted-one : (e : Effect) → length (drafted_by e) ≡ words_of e
unfolding drafted_by words_of
drafted-one nothing = refl
drafted-one (sets s) = refl
drafted-one (codes d) = refl
drafted-one (faulty n) = refl

pub drafted-length : (rs : List Read) → length (drafted rs) ≡ words_in rs
unfolding drafted words_in
drafted-length [] = refl
drafted-length (r ∷ rs) = omega (arith, length-append (drafted_by r.effect) (drafted rs), drafted-one r.effect, drafted-length rs)

-- ---- an accepted source

-- What accepts a source with buffers accepts it without, and with the same labels.
abbrev AcceptedAs : List Name → List ℕ → ℕ → Reading → Type 0
AcceptedAs names source room (accepted st) = reading names source room ≡ accepted st
AcceptedAs names source room (rejected r) = Unit {0}

fitted-as : (names : List Name) (source : List ℕ) (room size : ℕ) → AcceptedAs names source room (assembling names source room size)
unfolding assembling fitted refusing
fitted-as names source room size = go (reading names source room) refl
  where
    by-room : (st : State) → reading names source room ≡ accepted st → (v : Bool)
        → AcceptedAs names source room (elim v [ true ↦ accepted st | false ↦ refusing 23 0 0 st.labels (some (image_length st.words)) ])
    by-room st e true = e
    by-room st e false = tt

    go : (a : Reading) → reading names source room ≡ a → AcceptedAs names source room (fitted size a)
    go (rejected r) e = tt
    go (accepted st) e = by-room st e (leb (image_length st.words) size)

module _ (names : List Name) (source : List ℕ) (room : ℕ) (n : NamesLabel names source) where
  abbrev own : ℕ
  own = words_in n.above

  here : own ≡ words_before n
  here = sym (drafted-length n.above)

  -- By the address of its label, where the instruction's number is the distance to it.
  by-address : (st : State) (q : Reaches (address_in 0 (reads names source)) own n.draft.row.form n.spelling) → address_of st.labels n.spelling ≡ some q.address
      → (settled (address_in 0 (reads names source)) own n.draft).number ≡ some (distance own q.address) → is_signed 21 (distance own q.address) ≡ true
      → IsResolved st.labels n
  unfolding settled words_of
  by-address st q entered number near =
      let same : distance (words_before n) q.address ≡ distance own q.address = λ j. distance (sym here j) q.address in
      record {
        address = q.address;
        is_entered = entered;
        before = coded_in (address_in 0 (reads names source)) 0 n.above;
        after = coded_in (address_in 0 (reads names source)) (own + 1) n.below;
        is_instruction = placed-instruction names source n.above (record { label = n.label; effect = codes n.draft }) n.below n.stands n.draft refl
            ∙ (λ j. coded_in (address_in 0 (reads names source)) 0 n.above ++ (record { row = n.draft.row; registers = n.draft.registers; number = (number ∙ (λ i. some (distance (here i) q.address))) j } ∷ coded_in (address_in 0 (reads names source)) (own + 1) n.below));
        place = coded-length (address_in 0 (reads names source)) 0 n.above ∙ here;
        fits_17 = λ b. ap (is_signed 17) same ∙ branch-within (address_in 0 (reads names source)) own n.draft.row.form n.spelling q b;
        fits_21 = ap (is_signed 21) same ∙ near;
      }

  resolves : (a : Reading) → AcceptedAs names source room a → is_accepted a ≡ true → IsResolved (entered a) n
  unfolding is_accepted entered
  resolves (rejected r) e h = absurd (true≢false (sym h))
  resolves (accepted st) e h =
      let r : Read = record { label = n.label; effect = codes n.draft } in
      by-address st (accepted-reaches names source room st e n.above r n.below n.stands n.draft refl n.spelling n.names_it)
      (accepted-entered names source room st e n.above r n.below n.stands n.draft refl n.spelling n.names_it)
      (accepted-number names source room st e n.above r n.below n.stands n.draft refl n.spelling n.names_it)
      (accepted-jal names source room st e n.above r n.below n.stands n.draft refl n.spelling n.names_it)

pub targets : Targets
targets = record {
  resolved = λ names source table image table' image' r p k n.
      let a = assembling names source (length table) (length image) in
      resolves names source (length table) n a (fitted-as names source (length table) (length image)) (accepts a _ p.answer k);
}
