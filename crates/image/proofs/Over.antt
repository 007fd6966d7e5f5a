-- Laws of a slice whose front is written over.
use Prim.Native.Nat.{ℕ, suc, ◌+◌, ◌≤◌, ◌<◌}
use mathlib.Core.Path.{◌≡◌, refl, sym, ap, ◌∙◌}
use native.Mathlib.Omega.{arith}
use native.Mathlib.Numerals.{add-one}
use mathlib.Core.List.{List, [], ◌∷◌, ◌++◌, append_assoc}
use lib.ListN.{length, take, drop, set, length-append, length-drop}
use lib.Seq.{drop-drop, drop-append-add, take_at, set_split}
use Rattle.text_writer.specs.Promised.{put, Written}
use Rattle.image.specs.Lent.{over}

module _ {A : Type 0} (xs old : List A) where
  pub take-over : take (length xs) (over xs old) ≡ xs
  unfolding over
  take-over = take_at xs (drop (length xs) old) (length xs) refl

  pub length_over : length xs ≤ length old → length (over xs old) ≡ length old
  unfolding over
  length_over h = length-append xs (drop (length xs) old) ∙ omega (arith, length-drop (length xs) old)

  -- One more behind it.
  pub over-more : (x : A) → length xs < length old → set (over xs old) (length xs) x ≡ over (xs ++ (x ∷ [])) old
  unfolding over
  over-more x h =
      let l = xs ++ drop (length xs) old in
      let n : length xs < length l = omega (arith, length-append xs (drop (length xs) old), length-drop (length xs) old) in
      let d : drop (suc (length xs)) l ≡ drop (length (xs ++ (x ∷ []))) old =
      drop-suc ∙ ap (λ (k : ℕ). drop k old) (sym (length-append xs (x ∷ []) ∙ add-one (length xs))) in
      set_split l (length xs) x n ∙ rw (take_at xs (drop (length xs) old) (length xs) refl, d) (sym (append_assoc xs (x ∷ []) _))
    where
      drop-suc : drop (suc (length xs)) (xs ++ drop (length xs) old) ≡ drop (suc (length xs)) old
      drop-suc = rw (← add-one (length xs)) (drop-append-add xs (drop (length xs) old) 1 ∙ drop-drop 1 (length xs) old)

-- A text that is written at the front of a buffer.
pub written_over : {old : List ℕ} {s : List ℕ} {q : ℕ} {new : List ℕ} → Written old 0 s q new → new ≡ over s old
unfolding put over
written_over {old} {s} w = let e : 0 + length s ≡ length s = omega arith in w.holds ∙ ap (λ (n : ℕ). s ++ drop n old) e
