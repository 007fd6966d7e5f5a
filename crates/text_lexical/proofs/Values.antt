-- Laws of the value of digits: where it passes 64 bits, and digits at a place of a text, one by one.
use mathlib.Core.Path.{◌≡◌, refl, sym, ap, ◌∙◌}
use Prim.Native.Nat.{ℕ, ◌+◌, ◌-◌, ◌*◌, ◌^◌, ◌≤◌, ◌<◌}
use native.Mathlib.Omega.{arith}
use mathlib.Core.Bool.{Bool, true, false, ◌&&◌, and-eq-true_iff}
use mathlib.Core.List.{List, [], ◌∷◌}
use lib.ListN.{length, take, drop, get_or, length-take, length-drop, drop_of_length-le, take-append-drop}
use lib.Seq.{drop-cons, drop-drop}
use lib.Dec.{leb, ltb, eqb}
use borrow.Author.Tests.{lt-ltb, le-ltb, le-leb, leb-true, ltb-true, eqb-true}
use Rattle.std.specs.Char.{digit_value as rank}
use Rattle.std.specs.Prelude.{Option as CodeOption, Some, None, SomeIff, MatchOption}
use Rattle.text_lexical.specs.Bytes.{between, digit, hex_digit, binary_digit, every, before, run}
use Rattle.text_lexical.specs.Numbers.{digit_value, value_from, value_of}
use Rattle.text_lexical.specs.Promised.{fitting, base_of, is_digit_of, digit_of, digits_at}
use Rattle.text_lexical.specs.declared.number.Radix.{Radix}
use Rattle.text_lexical.specs.declared.number.Radix.TheVariants.{Binary, Decimal, Hex}
use Rattle.text_lexical.specs.declared.number.Digits.{Digits}
use Rattle.text_lexical.proofs.Tests.{split, by-test, not-true, no_both, between-true, each_below, below-each}
use Rattle.text_lexical.proofs.Strings.{every_append, every-cons, ends, before-append, part-more}
use Rattle.text_lexical.proofs.Numbers.{value_from-append}

pub fitting-some : (n : ℕ) → n < 2 ^ 64 → fitting n ≡ Some n
unfolding fitting
fitting-some n h = rw (fitting, lt-ltb n (2 ^ 64) h)

pub fitting-none : (n : ℕ) → 2 ^ 64 ≤ n → fitting n ≡ None
unfolding fitting
fitting-none n h = rw (fitting, le-ltb n (2 ^ 64) h)

-- A number that is found exactly where it fits.
pub fitted : (n m : ℕ) (r : CodeOption ℕ) → m ≡ n → SomeIff r (m < 2 ^ 64) m → r ≡ fitting n
fitted n m None e h = sym (fitting-none n (split n (2 ^ 64) (λ l. absurd (h (omega arith))) (λ l. l)))
fitted n m (Some x) e (l, q) = sym (fitting-some n (omega arith) ∙ ap Some (omega arith))

-- A digit more leaves no value smaller.
grows : (radix : Radix) (n d : ℕ) → 2 ^ 64 ≤ n → 2 ^ 64 ≤ n * base_of radix + d
grows Binary n d h = omega arith
grows Decimal n d h = omega arith
grows Hex n d h = omega arith

-- What an answer says of the value.
pub fits-is : (n v : ℕ) → Some v ≡ fitting n → (n ≡ v) × (n < 2 ^ 64)
fits-is n v e =
    split n (2 ^ 64)
    (λ h. let q : Some v ≡ Some n = e ∙ fitting-some n h in (cc, h))
    (λ h. let q : Some v ≡ None = e ∙ fitting-none n h in let z : ◌≡◌ {A = ℕ} 0 1 = cc in absurd (omega arith))

pub large_is : (n : ℕ) → None ≡ fitting n → 2 ^ 64 ≤ n
large_is n e =
    split n (2 ^ 64)
    (λ h. let q : None ≡ Some n = e ∙ fitting-some n h in let z : ◌≡◌ {A = ℕ} 0 1 = cc in absurd (omega arith))
    (λ h. h)

-- ---- the library's digits

-- The library's value of a byte is that of a digit of the radix, or is not below its base.
agrees : Radix → ℕ → Bool
agrees radix b = elim (is_digit_of radix b) [ true ↦ ltb (rank b) (base_of radix) && eqb (rank b) (digit_value b) | false ↦ leb (base_of radix) (rank b) ]

all-agree : (radix : Radix) → each_below (agrees radix) 256 ≡ true
unfolding each_below agrees binary_digit digit hex_digit between digit_value
all-agree Binary = refl
all-agree Decimal = refl
all-agree Hex = refl

pub library-digit : (radix : Radix) (b : ℕ) → b < 256 → (r : CodeOption ℕ) → SomeIff r (rank b < base_of radix) (rank b) → r ≡ digit_of radix b
unfolding agrees digit_of
library-digit radix b l r h = go (is_digit_of radix b) refl (below-each (agrees radix) 256 (all-agree radix) b l) r h
  where
    go : (v : Bool) → is_digit_of radix b ≡ v → ◌≡◌ {A = Bool} (elim v [ true ↦ ltb (rank b) (base_of radix) && eqb (rank b) (digit_value b) | false ↦ leb (base_of radix) (rank b) ]) true
        → (r : CodeOption ℕ) → SomeIff r (rank b < base_of radix) (rank b) → r ≡ digit_of radix b
    go true e t (Some x) (m, q) = let (y, z) = (and-eq-true_iff _ _).0 t in rw (digit_of, e, q, eqb-true (rank b) (digit_value b) z)
    go true e t None n = let (y, z) = (and-eq-true_iff _ _).0 t in absurd (n (ltb-true (rank b) (base_of radix) y))
    go false e t (Some x) (m, q) = absurd (let k = leb-true (base_of radix) (rank b) t in omega arith)
    go false e t None n = rw (digit_of, e)

-- A digit's value is found where it is one.
pub digit-some : (radix : Radix) (b d : ℕ) → Some d ≡ digit_of radix b → (is_digit_of radix b ≡ true) × (d ≡ digit_value b)
unfolding digit_of
digit-some radix b d e = by-test (is_digit_of radix b) (λ t. let q : Some d ≡ Some (digit_value b) = rw (digit_of, t) at e in (t, cc)) (λ f. let q : Some d ≡ None = rw (digit_of, f) at e in let z : ◌≡◌ {A = ℕ} 0 1 = cc in absurd (omega arith))

pub digit-none : (radix : Radix) (b : ℕ) → None ≡ digit_of radix b → is_digit_of radix b ≡ false
unfolding digit_of
digit-none radix b e = not-true (is_digit_of radix b) (λ t. let q : None ≡ Some (digit_value b) = rw (digit_of, t) at e in let z : ◌≡◌ {A = ℕ} 0 1 = cc in omega arith)

-- A decimal digit is one of ten bytes, and its value the byte's number among them.
pub decimal-some : (b d : ℕ) → Some d ≡ digit_of Decimal b → (48 ≤ b) × (b ≤ 57) × (d ≡ b - 48)
unfolding digit digit_value
decimal-some b d e =
    let (t, q) = digit-some Decimal b d e in
    let (l, h) = between-true 48 57 b t in
    (l, h, rw (digit_value, le-leb b 57 h) at q)

pub decimal-none : (b : ℕ) → None ≡ digit_of Decimal b → 48 ≤ b → b ≤ 57 → ⊥
unfolding digit between
decimal-none b e l h = no_both (rw (le-leb 48 b l, le-leb b 57 h)) (digit-none Decimal b e)

-- ---- digits at a place of a text, byte by byte

-- Digits that have been passed, and the value of them all.
pub record Passed (radix : Radix) (s : List ℕ) (begin : ℕ) (value : CodeOption ℕ) (end : ℕ) : Type 0 where
  pub digits : every (is_digit_of radix) (take (end - begin) (drop begin s)) ≡ true
  pub value-is : value ≡ fitting (value_of (base_of radix) (take (end - begin) (drop begin s)))

pub passed_none : (radix : Radix) (s : List ℕ) (begin : ℕ) → Passed radix s begin (Some 0) begin
unfolding every value_of value_from fitting
passed_none radix s begin = let z : begin - begin ≡ 0 = omega arith in record { digits = rw z refl; value-is = rw z refl }

module _ (radix : Radix) (s : List ℕ) (begin end : ℕ) (on : begin ≤ end) where
  -- No digit more: this is where they end, and their value.
  pub passed-end : (value : CodeOption ℕ) → Passed radix s begin value end → end ≤ length s → (end < length s → is_digit_of radix (get_or s end 0) ≡ false)
      → ◌≡◌ {A = Digits} (record { value = value; end = end }) (digits_at s begin radix)
  unfolding run ends
  passed-end value q l f =
      let m : begin + (end - begin) ≡ end = omega arith in
      let t : ends (is_digit_of radix) (drop end s) ≡ true =
      split end (length s) (λ k. rw (drop-cons s end 0 k, ends, f k)) (λ k. rw (drop_of_length-le s k)) in
      let b : before (is_digit_of radix) (drop begin s) ≡ take (end - begin) (drop begin s) =
      rw (take-append-drop (end - begin) (drop begin s)) at
      (before-append (is_digit_of radix) (take (end - begin) (drop begin s)) (drop (end - begin) (drop begin s)) q.digits (rw (drop-drop (end - begin) begin s, m) t)) in
      let n : length (take (end - begin) (drop begin s)) ≡ end - begin = rw (length-take (end - begin) (drop begin s), length-drop begin s) (omega arith) in
      rw (b, n, m, q.value-is)

  module _ (l : end < length s) (d : ℕ) (h : Some d ≡ digit_of radix (get_or s end 0)) where
    more : value_of (base_of radix) (take (end + 1 - begin) (drop begin s)) ≡ value_of (base_of radix) (take (end - begin) (drop begin s)) * base_of radix + d
    unfolding value_of value_from
    more = rw (part-more s begin end on l, (digit-some radix (get_or s end 0) d h).1) (value_from-append (base_of radix) 0 (take (end - begin) (drop begin s)) (get_or s end 0 ∷ []))

    digits-more : every (is_digit_of radix) (take (end - begin) (drop begin s)) ≡ true → every (is_digit_of radix) (take (end + 1 - begin) (drop begin s)) ≡ true
    unfolding every
    digits-more e = rw (part-more s begin end on l) (every_append (is_digit_of radix) _ (get_or s end 0 ∷ []) e (every-cons (is_digit_of radix) (get_or s end 0) [] (digit-some radix (get_or s end 0) d h).0 refl))

    passed-more : (v : ℕ) → Passed radix s begin (Some v) end → Passed radix s begin (fitting (v * base_of radix + d)) (end + 1)
    passed-more v q = record { digits = digits-more q.digits; value-is = ap fitting (rw (more, (fits-is _ v q.value-is).0)) }

    passed_over : Passed radix s begin None end → Passed radix s begin None (end + 1)
    passed_over q =
        record {
          digits = digits-more q.digits;
          value-is = sym (fitting-none _ (rw more (grows radix _ d (large_is _ q.value-is))));
        }

    -- A digit more, of a value that fits so far or of one that is too large.
    pub passed-step : (o r : CodeOption ℕ) → Passed radix s begin o end → MatchOption o (r ≡ None) (λ v. r ≡ fitting (v * base_of radix + d)) → Passed radix s begin r (end + 1)
    passed-step None r q e = rw e (passed_over q)
    passed-step (Some v) r q e = rw e (passed-more v q)
