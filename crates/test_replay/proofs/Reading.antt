-- Laws of reading from a place on: up to an empty line, and the digits of a number.
use Rattle.std.proofs.Common.{◌≡◌, ℕ, suc, ◌+◌, ◌-◌, ◌*◌, ◌^◌, ◌<◌, ◌≤◌, true, false, ◌&&◌, eqb, List, [], ◌∷◌, length, get_or, drop, sym, ◌∙◌, le_trans, add-zero, mul-le-mul_left, lt_of_not-le, mul-one, add-one, arith, drop_of_length-le, drop-cons}
use Rattle.std.specs.Prelude.{Some, None}
use native.Mathlib.Nat.{min-eq_left, min-eq_right, min-le_right}
use native.Mathlib.Decide.{dec_le}
use Rattle.test_replay.specs.List.{behind, through_empty, digit_value, digits, value_from, fitted, number_at}

-- ---- up to an empty line

module _ (front : ℕ) (s : List ℕ) (i : ℕ) where
  pub through-more : i < length s → (eqb front 10 && eqb (get_or s i 0) 10) ≡ false
      → through_empty front (drop i s) ≡ suc (through_empty (get_or s i 0) (drop (suc i) s))
  unfolding through_empty
  through-more h e = rw (drop-cons s i 0 h, through_empty, e)

  pub through-found : i < length s → (eqb front 10 && eqb (get_or s i 0) 10) ≡ true → through_empty front (drop i s) ≡ 1
  unfolding through_empty
  through-found h e = rw (drop-cons s i 0 h, through_empty, e)

  pub through-end : length s ≤ i → through_empty front (drop i s) ≡ 0
  unfolding through_empty
  through-end h = rw (drop_of_length-le s h)

-- ---- values in 64 bits

pub fits : (n : ℕ) → n < 2 ^ 64 → fitted n ≡ n
unfolding fitted
fits n h = min-eq_left (omega arith)

pub fits_not : (n : ℕ) → 2 ^ 64 - 1 ≤ n → fitted n ≡ 2 ^ 64 - 1
unfolding fitted
fits_not n h = min-eq_right h

fitted-small : (n : ℕ) → fitted n < 2 ^ 64
unfolding fitted
fitted-small n = omega (arith, min-le_right n (2 ^ 64 - 1))

-- The value is no less than what was read.
value-ge : (radix : ℕ) → 0 < radix → (a : ℕ) (ds : List ℕ) → a ≤ value_from radix a ds
unfolding value_from
value-ge radix p a [] = omega arith
value-ge radix p a (d ∷ ds) =
    let m : a * 1 ≤ a * radix = mul-le-mul_left a p in
    omega (arith, value-ge radix p (a * radix + d) ds, mul-one a)

-- What was read may be cut to 64 bits before the digits behind it are.
value-fitted : (radix : ℕ) → 0 < radix → (a : ℕ) (ds : List ℕ) → fitted (value_from radix (fitted a) ds) ≡ fitted (value_from radix a ds)
value-fitted radix p a ds =
    elim (dec_le (2 ^ 64 - 1) a) [
      | yes h ↦ rw (fits_not a h) (fits_not _ (value-ge radix p (2 ^ 64 - 1) ds) ∙ sym (fits_not _ (le_trans h (value-ge radix p a ds))))
      | no h ↦ rw (fits a (omega (arith, lt_of_not-le h)))
    ]

-- ---- digits

module _ (radix : ℕ) (s : List ℕ) (i : ℕ) where
  digits_more : {d : ℕ} → i < length s → digit_value radix (get_or s i 0) ≡ Some d → digits radix (drop i s) ≡ d ∷ digits radix (drop (suc i) s)
  unfolding digits
  digits_more h e = rw (drop-cons s i 0 h, digits, e)

  pub digits-stop : i < length s → digit_value radix (get_or s i 0) ≡ None → digits radix (drop i s) ≡ []
  unfolding digits
  digits-stop h e = rw (drop-cons s i 0 h, digits, e)

  pub digits-end : length s ≤ i → digits radix (drop i s) ≡ []
  unfolding digits
  digits-end h = rw (drop_of_length-le s h)

-- ---- a number

-- A value that was read and the digits left at a place have the value of all digits of the number, and end where it ends.
pub record Unread (radix : ℕ) (s : List ℕ) (from value at : ℕ) : Type 0 where
  pub small : value < 2 ^ 64
  pub means : fitted (value_from radix value (digits radix (drop at s))) ≡ fitted (value_from radix 0 (digits radix (drop from s)))
  pub ends : at + length (digits radix (drop at s)) ≡ from + length (digits radix (drop from s))

module _ {radix : ℕ} {s : List ℕ} {from value at : ℕ} (u : Unread radix s from value at) where
  -- A digit more.
  pub unread-more : {d : ℕ} → 0 < radix → at < length s → digit_value radix (get_or s at 0) ≡ Some d → Unread radix s from (fitted (value * radix + d)) (at + 1)
  unfolding value_from
  unread-more {d} p h l =
      let e = digits_more radix s at h l in
      rw (add-one at) (record {
        small = fitted-small (value * radix + d);
        means = value-fitted radix p (value * radix + d) (digits radix (drop (suc at) s)) ∙ rw e at u.means;
        ends = omega (arith, rw e at u.ends);
      })

  -- No digit more.
  pub unread-none : digits radix (drop at s) ≡ [] → record { value = value; next = behind at 1 } ≡ number_at radix s from
  unfolding value_from number_at
  unread-none e = rw (← u.means, ← u.ends, e, fits value u.small, add-zero at)
