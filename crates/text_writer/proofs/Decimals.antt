-- Laws of printed decimals: their last digit, their length, and how the library prints them.
use mathlib.Core.Path.{◌≡◌, refl, sym, ap, ◌∙◌}
use mathlib.Core.List.{List, [], ◌∷◌, ◌++◌}
use Prim.Native.Nat.{ℕ, zero, suc, ◌+◌, ◌/◌, ◌%◌, ◌*◌, ◌^◌, ◌≤◌, ◌<◌}
use native.Mathlib.Omega.{arith}
use lib.ListN.{length, take, drop, length-append, take-append-drop}
use borrow.Author.Tests.{lt-ltb, le-ltb}
use Rattle.text_lexical.specs.Numbers.{decimal_in, decimal}
use native.Mathlib.Nat.{mod-eq_of_lt, pow-suc}
use Rattle.std.specs.Fmt.{decimal as std_decimal}
use Rattle.std.proofs.lemmas.Fmt.{decimal_by_steps}
use Rattle.text_lexical.proofs.Numbers.{decimal-length}
use Rattle.text_lexical.proofs.Tests.{split}
use Rattle.text_writer.specs.Promised.{put, Written}

-- ---- the last digit

-- The digits do not depend on how many are allowed for, where they suffice.
decimal_in-same : (j k n : ℕ) → n ≤ j → n ≤ k → decimal_in j n ≡ decimal_in k n
unfolding decimal_in
decimal_in-same zero zero n hj hk = refl
decimal_in-same zero (suc k) n hj hk = rw (decimal_in, lt-ltb n 10 (omega arith))
decimal_in-same (suc j) zero n hj hk = rw (decimal_in, lt-ltb n 10 (omega arith))
decimal_in-same (suc j) (suc k) n hj hk =
    split n 10 (λ l. rw (decimal_in, lt-ltb n 10 l)) (λ l. rw (decimal_in, le-ltb n 10 l, decimal_in-same j k (n / 10) (omega arith) (omega arith)))

pub decimal-one : (n : ℕ) → n < 10 → decimal n ≡ (48 + n % 10) ∷ []
unfolding decimal decimal_in
decimal-one n h = decimal_in-same n (suc n) n (omega arith) (omega arith) ∙ rw (decimal_in, lt-ltb n 10 h)

pub decimal-more : (n : ℕ) → 10 ≤ n → decimal n ≡ decimal (n / 10) ++ ((48 + n % 10) ∷ [])
unfolding decimal decimal_in
decimal-more n h =
    decimal_in-same n (suc n) n (omega arith) (omega arith)
    ∙ rw (decimal_in, le-ltb n 10 h, decimal_in-same n (n / 10) (n / 10) (omega arith) (omega arith))

-- There is one digit more than a tenth of the number has.
pub decimal-longer : (n : ℕ) → 10 ≤ n → length (decimal n) ≡ length (decimal (n / 10)) + 1
decimal-longer n h = ap length (decimal-more n h) ∙ length-append (decimal (n / 10)) _

-- ---- as the library prints

-- The library's decimals are the document's, for numbers of 64 bits.
pub decimal-std : (n : ℕ) → n < 2 ^ 64 → std_decimal n ≡ decimal n
decimal-std =
    decimal_by_steps (λ n ds. ds ≡ decimal n) (λ n h. rw (decimal-one n h, ap (λ d. 48 + d) (mod-eq_of_lt h)) refl)
    (λ n ds h e. rw (decimal-more n h, e) refl)

ten-power : (k : ℕ) → 0 < 10 ^ k
ten-power zero = omega arith
ten-power (suc k) = omega (arith, pow-suc 10 k, ten-power k)

-- A number from 10^k on, below 10^(k+1), has k + 1 digits.
decimal-least : (k n : ℕ) → 10 ^ k ≤ n → k < length (decimal n)
decimal-least zero n h = split n 10 (λ l. omega (arith, ap length (decimal-one n l))) (λ l. omega (arith, decimal-longer n l))
decimal-least (suc k) n h =
    let p = pow-suc 10 k in
    let q = ten-power k in
    let r = decimal-least k (n / 10) (omega arith) in
    omega (arith, decimal-longer n (omega arith))

pub decimal-powers : (k n : ℕ) → 10 ^ k ≤ n → n < 10 * 10 ^ k → length (decimal n) ≡ k + 1
decimal-powers k n h l = omega (arith, decimal-least k n h, decimal-length k n (omega (arith, pow-suc 10 k)))

-- A number of one digit is that digit.
pub decimal-digit : (n : ℕ) → n < 10 → decimal n ≡ (48 + n) ∷ []
decimal-digit n h = decimal-one n h ∙ ap (λ (d : ℕ). (48 + d) ∷ []) (mod-eq_of_lt h)

-- Digits that end at a place, with the rest of a buffer before and after them, are written.
pub written-digits : (l : List ℕ) (at start n : ℕ) (m : List ℕ) → n < 2 ^ 64 → at + length (decimal n) ≤ length l
    → start + length (std_decimal n) ≡ at + length (decimal n)
    → drop start m ≡ std_decimal n ++ drop (at + length (decimal n)) l → take start m ≡ take start l
    → Written l at (decimal n) (at + length (decimal n)) m
unfolding put
written-digits l at start n m small room starts written before =
    let e = decimal-std n small in
    let s : start ≡ at = omega (arith, ap length e) in
    record {
      ends = refl;
      holds = sym (take-append-drop start m) ∙ rw (written, before, s, e) refl;
    }
