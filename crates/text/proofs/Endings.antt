-- Where reading a line ends: what `ending_at` answers, and what follows from its answer.
use mathlib.Core.Path.{◌≡◌, refl, sym, ap, ◌∙◌}
use Prim.Native.Nat.{ℕ, ◌+◌, ◌≤◌, ◌<◌}
use native.Mathlib.Omega.{arith}
use mathlib.Core.Bool.{Bool, true, false}
use mathlib.Core.Logic.{inl, inr}
use mathlib.Core.List.{List, [], ◌∷◌}
use lib.ListN.{length, take, drop, get_or, length-drop}
use lib.Dec.{eqb}
use borrow.Author.Tests.{not-false, eqb-true}
use Rattle.std.specs.Prelude.{Some, None}
use Rattle.std.specs.Prelude.{Option as Maybe}
use Rattle.text_lexical.specs.Bytes.{every, before, run, inside, margin}
use Rattle.text_lexical.proofs.Tests.{split, no_both}
use Rattle.text_lexical.proofs.Strings.{run-over, run-le, run-no, run_end, take-run, every-run, every-mono}
use Rattle.text.specs.Places.{rest_at, left_at, end_at, StartsAt}
use Rattle.text.specs.Promised.{ending_at}
use Rattle.text.proofs.Left.{margin-inside, nothing_left, something-left, end_on, indent-at}

-- A run of bytes that do not end the line goes on within it.
pub run-within : (p : ℕ → Bool) → ((b : ℕ) → p b ≡ true → inside b ≡ true) → (s : List ℕ) (at stop : ℕ) → at ≤ length s → stop ≡ at + run p (drop at s)
    → (at ≤ stop) × (stop ≤ length s) × (end_at s stop ≡ end_at s at)
run-within p f s at stop l q =
    let n = run-le p (drop at s) in
    let k = length-drop at s in
    let i : every inside (take (run p (drop at s)) (drop at s)) ≡ true = rw (take-run p (drop at s)) (every-mono p inside f (before p (drop at s)) (every-run p (drop at s))) in
    (omega arith, omega arith, ap (end_at s) q ∙ end_on s at (run p (drop at s)) (omega arith) i)

-- So does margin.
pub margin-on : (s : List ℕ) (at stop : ℕ) → at ≤ length s → stop ≡ at + run margin (drop at s) → (at ≤ stop) × (stop ≤ length s) × (end_at s stop ≡ end_at s at)
margin-on s at stop l q = run-within margin margin-inside s at stop l q

-- Past it the content of a line starts.
pub past-margin : (s : List ℕ) (from start : ℕ) → from ≤ length s → start ≡ from + run margin (drop from s) → StartsAt s start
past-margin s from start l q = record { in_text = (margin-on s from start l q).1; no_indent = indent-at s start ∙ rw q (run-over margin s from) }

-- ---- where a line ends

newline-outside : (b : ℕ) → b ≡ 10 → inside b ≡ false
unfolding inside
newline-outside b e = rw e

outside-newline : (b : ℕ) → inside b ≡ false → b ≡ 10
unfolding inside
outside-newline b e = eqb-true b 10 (not-false (eqb b 10) e)

-- Where the line ends, as a run.
pub end-run : (s : List ℕ) (at : ℕ) → end_at s at ≡ at + run inside (drop at s)
unfolding end_at rest_at run
end-run s at = refl

-- It ends at byte 10 and at the text's end.
ends-here : (s : List ℕ) (stop : ℕ) → (stop < length s → inside (get_or s stop 0) ≡ false) → end_at s stop ≡ stop
ends-here s stop f =
    end-run s stop ∙ split stop (length s) (λ m. omega (arith, run-no inside s stop m (f m))) (λ m. omega (arith, run_end inside s stop m))

-- ---- the answers

module _ (s : List ℕ) (at stop : ℕ) (l : at ≤ length s) (q : stop ≡ at + run margin (drop at s)) where
  ended : left_at s at ≡ [] → Some (end_at s stop) ≡ ending_at s at
  unfolding ending_at
  ended n = ap Some (margin-on s at stop l q).2 ∙ rw (ending_at, n)

  -- The line's end: byte 10, or the text's end.
  pub line-here : (stop < length s → inside (get_or s stop 0) ≡ false) → Some stop ≡ ending_at s at
  line-here f = ap Some (sym (ends-here s stop f)) ∙ ended (nothing_left s at l (λ m. inl (rw q at (outside-newline _ (f (rw q m))))))

  -- A comment, up to whose end the line goes on.
  pub comment-here : get_or s stop 0 ≡ 35 → Some (stop + run inside (drop stop s)) ≡ ending_at s at
  comment-here e = ap Some (sym (end-run s stop)) ∙ ended (nothing_left s at l (λ m. inr (rw q at e)))

  pub other-here : stop < length s → inside (get_or s stop 0) ≡ true → (get_or s stop 0 ≡ 35 → ⊥) → None ≡ ending_at s at
  unfolding ending_at
  other-here m i g = go (left_at s at) refl
    where
      f : get_or s stop 0 ≡ 10 → ⊥
      f n = no_both i (newline-outside (get_or s stop 0) n)

      go : (u : List ℕ) → left_at s at ≡ u → ◌≡◌ {A = Maybe ℕ} None (elim u [ [] ↦ Some (end_at s at) | b ∷ v ↦ None ])
      go [] e = absurd (something-left s at (rw q at m) (rw q at f) (rw q at g) e)
      go (b ∷ v) e = refl

-- ---- what follows from an answer

-- Nothing is left of the line, which ends there; or something is left.
abbrev pub Ended : List ℕ → ℕ → Maybe ℕ → Type 0
Ended s at (Some end) = (left_at s at ≡ []) × (end ≡ end_at s at)
Ended s at None = left_at s at ≡ [] → ⊥

pub ending-is : (s : List ℕ) (at : ℕ) (r : Maybe ℕ) → r ≡ ending_at s at → Ended s at r
unfolding ending_at
ending-is s at r e = rw e (go (left_at s at) refl)
  where
    go : (u : List ℕ) → left_at s at ≡ u → Ended s at (elim u [ [] ↦ Some (end_at s at) | b ∷ v ↦ None ])
    go [] n = (n, refl)
    go (b ∷ v) n = λ z. let k : ◌≡◌ {A = List ℕ} (b ∷ v) [] = sym n ∙ z in let y : ◌≡◌ {A = ℕ} 0 1 = cc in absurd (omega arith)
