-- Tests on numbers and bytes, and what follows from their answers.
use mathlib.Core.Path.{◌≡◌, refl, sym, ◌∙◌, subst}
use Prim.Native.Nat.{ℕ, zero, suc, ◌+◌, ◌≤◌, ◌<◌}
use native.Mathlib.Omega.{arith}
use native.Mathlib.Nat.{lt_of_not-le}
use native.Mathlib.Decide.{dec_le}
use mathlib.Core.Bool.{Bool, true, false, ◌||◌, true≢false, and-eq-true_iff}
use lib.Dec.{leb}
use borrow.Author.Tests.{leb-true, le-leb}
use Rattle.text_lexical.specs.Bytes.{between}

-- One order or the other.
pub split {ℓ} : {X : Type ℓ} (a b : ℕ) → (a < b → X) → (b ≤ a → X) → X
split a b f g = elim (dec_le b a) [ yes h ↦ g h | no h ↦ f (lt_of_not-le h) ]

pub by-test {ℓ} : {X : Type ℓ} (v : Bool) → (v ≡ true → X) → (v ≡ false → X) → X
by-test true f g = f refl
by-test false f g = g refl

pub not-true : (v : Bool) → (v ≡ true → ⊥) → v ≡ false
not-true true f = absurd (f refl)
not-true false f = refl

pub no_both {ℓ} : {X : Type ℓ} {v : Bool} → v ≡ true → v ≡ false → X
no_both t f = absurd (true≢false (sym t ∙ f))

pub or_left : (a b : Bool) → a ≡ true → (a || b) ≡ true
or_left a b h = rw h

pub or_right : (a b : Bool) → b ≡ true → (a || b) ≡ true
or_right true b h = refl
or_right false b h = h

pub or_elim {ℓ} : {X : Type ℓ} (a b : Bool) → (a || b) ≡ true → (a ≡ true → X) → (b ≡ true → X) → X
or_elim true b h f g = f refl
or_elim false b h f g = g h

-- A test with `false` behind it: both hold.
pub both : (v w : Bool) → ◌≡◌ {A = Bool} (elim v [ true ↦ w | false ↦ false ]) true → (v ≡ true) × (w ≡ true)
both true w h = (refl, h)
both false w h = (h, absurd (true≢false (sym h)))

pub and_both : (v w : Bool) → v ≡ true → w ≡ true → ◌≡◌ {A = Bool} (elim v [ true ↦ w | false ↦ false ]) true
and_both v w hv hw = rw hv hw

-- ---- ranges of bytes

pub between-true : (lo hi b : ℕ) → between lo hi b ≡ true → (lo ≤ b) × (b ≤ hi)
unfolding between
between-true lo hi b h =
    let r = (and-eq-true_iff (leb lo b) (leb b hi)).0 h in
    (leb-true lo b r.0, leb-true b hi r.1)

pub true-between : (lo hi b : ℕ) → lo ≤ b → b ≤ hi → between lo hi b ≡ true
unfolding between
true-between lo hi b l h = rw (le-leb lo b l, le-leb b hi h)

-- ---- runs of numbers

-- What holds of each of k numbers from one on.
abbrev pub Each : (ℕ → Type 0) → ℕ → ℕ → Type 0
Each P lo zero = Unit {0}
Each P lo (suc k) = P lo × Each P (suc lo) k

-- It holds of a number that is one of them.
pub in-run : (P : ℕ → Type 0) (lo k n : ℕ) → lo ≤ n → n < lo + k → Each P lo k → P n
in-run P lo zero n l h e = absurd (omega arith)
in-run P lo (suc k) n l h e =
    split lo n (λ m. in-run P (suc lo) k n m (omega arith) e.1) (λ m. let q : lo ≡ n = omega arith in subst P q e.0)

-- A test of each number below one, by computing.
unfoldable pub each_below : (ℕ → Bool) → ℕ → Bool
each_below q zero = true
each_below q (suc k) = elim (q k) [ true ↦ each_below q k | false ↦ false ]

pub below-each : (q : ℕ → Bool) (k : ℕ) → each_below q k ≡ true → (n : ℕ) → n < k → q n ≡ true
unfolding each_below
below-each q zero h n l = absurd (omega arith)
below-each q (suc k) h n l =
    let (hk, hs) = both (q k) (each_below q k) h in
    split n k (λ m. below-each q k hs n m) (λ m. let e : n ≡ k = omega arith in rw e hk)
