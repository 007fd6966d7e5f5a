-- The roots of the trees, once a label has been made one, or not.
use Prim.Native.Nat.{ℕ, suc, ◌+◌, ◌<◌}
use Rattle.std.specs.Prelude.{Some, None}
use Rattle.std.specs.Prelude.{Option as Maybe}
use mathlib.Core.Path.{◌≡◌, refl, sym, ap, subst, ◌∙◌}
use native.Mathlib.Omega.{arith}
use native.Mathlib.Numerals.{add-one}
use mathlib.Core.Bool.{Bool, true, false}
use mathlib.Core.List.{List}
use lib.Dec.{eqb}
use lib.ListN.{length, set, length-set}
use lib.Seq.{get_or-set_same, get_or-set_other}
use borrow.Author.Tests.{eqb-true, eqb-false}
use Rattle.image_labels.specs.Tree.{place_before, hash_of, slot_of, root_at, root_of, with_root_at, with_root}
use Rattle.image_labels.proofs.Hashing.{slot-inside}

module _ (roots : List ℕ) (n : ℕ) (u : List ℕ) where
  abbrev slot : ℕ
  slot = slot_of (hash_of u) (length roots)

  pub with-root-empty : root_of roots u ≡ None → with_root roots n u ≡ set roots slot (n + 1)
  unfolding with_root_at
  with-root-empty f = rw (with_root_at, f)

  with-root-there : {i : ℕ} → root_of roots u ≡ Some i → with_root roots n u ≡ roots
  unfolding with_root_at
  with-root-there f = rw (with_root_at, f)

  pub with-root-same : (root_of roots u ≡ None → ⊥) → with_root roots n u ≡ roots
  with-root-same f = go (root_of roots u) refl
    where
      go : (m : Maybe ℕ) → root_of roots u ≡ m → with_root roots n u ≡ roots
      go None e = absurd (f e)
      go (Some i) e = with-root-there e

  -- There was a root, or not.
  either-root : (X : List ℕ → Type 0) → (root_of roots u ≡ None → X (set roots slot (n + 1))) → X roots → X (with_root roots n u)
  either-root X a b = go (root_of roots u) refl
    where
      go : (m : Maybe ℕ) → root_of roots u ≡ m → X (with_root roots n u)
      go None e = subst X (sym (with-root-empty e)) (a e)
      go (Some i) e = subst X (sym (with-root-there e)) b

  pub with-root-long : length (with_root roots n u) ≡ length roots
  with-root-long = either-root (λ rs. length rs ≡ length roots) (λ _. length-set roots slot (n + 1)) refl

  -- The root that is set.
  set-there : 0 < length roots → root_at (set roots slot (n + 1)) slot ≡ Some n
  set-there some = ap place_before (get_or-set_same roots slot (n + 1) 0 (slot-inside (hash_of u) (length roots) some) ∙ add-one n)

  -- The spelling has a root then; what had one has the same.
  pub with-root-new : 0 < length roots → root_of roots u ≡ None → root_of (with_root roots n u) u ≡ Some n
  with-root-new some f = ap (λ (k : ℕ). root_at (with_root roots n u) (slot_of (hash_of u) k)) with-root-long ∙ ap (λ (rs : List ℕ). root_at rs slot) (with-root-empty f) ∙ set-there some

  pub with-root-kept : (w : List ℕ) → (root_of roots w ≡ None → ⊥) → root_of (with_root roots n u) w ≡ root_of roots w
  with-root-kept w f = either-root (λ rs. root_of rs w ≡ root_of roots w)
      (λ none. ap (λ (k : ℕ). root_at (set roots slot (n + 1)) (slot_of (hash_of w) k)) (length-set roots slot (n + 1))
      ∙ ap place_before (get_or-set_other roots slot (slot_of (hash_of w) (length roots)) (n + 1) 0 (λ e. f (ap (root_at roots) e ∙ none)))) refl

  pub with-root-rooted : 0 < length roots → ((i j : ℕ) → root_at roots i ≡ Some j → j < n) → (i j : ℕ) → root_at (with_root roots n u) i ≡ Some j → j < suc n
  with-root-rooted some g i j = either-root (λ rs. root_at rs i ≡ Some j → j < suc n) (λ _. at (eqb i slot) refl) (λ e. let h = g i j e in omega arith)
    where
      at : (b : Bool) → eqb i slot ≡ b → root_at (set roots slot (n + 1)) i ≡ Some j → j < suc n
      at true y e =
          let h : ◌≡◌ {A = Maybe ℕ} (Some n) (Some j) = sym (set-there some) ∙ ap (root_at (set roots slot (n + 1))) (sym (eqb-true _ _ y)) ∙ e in
          let k : n ≡ j = cc in omega arith
      at false y e = let h = g i j (sym (ap place_before (get_or-set_other roots slot i (n + 1) 0 (eqb-false _ _ y))) ∙ e) in omega arith
