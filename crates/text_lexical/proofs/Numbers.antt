-- Laws of numbers: a printed decimal read again, its length and its bytes; reduction and signed readings, for any width; signs and magnitudes.
use mathlib.Core.Path.{◌≡◌, refl, sym, ap, ◌∙◌}
use Prim.Native.Nat.{ℕ, zero, suc, ◌+◌, ◌-◌, ◌*◌, ◌/◌, ◌%◌, ◌^◌, ◌≤◌, ◌<◌}
use native.Mathlib.Nat.{div-add-mod', suc-mul, mul-add-mod_self_right, pow-suc, mod-lt, mod-eq_of_lt}
use native.Mathlib.Numerals.{unary_clauses}
use native.Mathlib.Omega.{arith}
use mathlib.Core.Logic.{◌↔◌}
use mathlib.Core.Bool.{Bool, true, false, true≢false}
use mathlib.Core.List.{List, [], ◌∷◌, ◌++◌}
use lib.ListN.{length, length-append}
use lib.IntN.{ℤ, pos, negsuc, nat_abs, ◌+ℤ◌, ◌-ℤ◌, ◌*ℤ◌, +ℤ_assoc, +ℤ_comm, +ℤ-neg_ℤ_cancel, -ℤ-+ℤ_cancel, *ℤ_comm, *ℤ-zero, suc_ℤ-*ℤ}
use lib.Pow.{pow_pos}
use lib.Dec.{ltb}
use borrow.Author.Tests.{lt-ltb, le-ltb, le-leb}
use Rattle.text_lexical.specs.Bytes.{digit, every}
use Rattle.text_lexical.specs.Numbers.{digit_value, value_from, value_of, minus, is_negative, residue, meant_by, decimal_in, decimal}
use Rattle.text_lexical.specs.Promised.{whole_meant, whole_for, remainder, Reduced}
use Rattle.text_lexical.specs.declared.number.Whole.TheVariants.{Negative}
use Rattle.text_lexical.proofs.Tests.{split, true-between}
use Rattle.text_lexical.proofs.Strings.{every_append, every-cons}

-- ---- decimals

digit_value_lem : (d : ℕ) → d < 10 → digit_value (48 + d) ≡ d
unfolding digit_value
digit_value_lem d h = rw (digit_value, le-leb (48 + d) 57 (omega arith)) (omega arith)

pub value_from-append : (radix a : ℕ) (s t : List ℕ) → value_from radix a (s ++ t) ≡ value_from radix (value_from radix a s) t
unfolding value_from
value_from-append radix a [] t = refl
value_from-append radix a (d ∷ s) t = value_from-append radix (a * radix + digit_value d) s t

decimal_in-value : (k n : ℕ) → n ≤ k → value_from 10 0 (decimal_in k n) ≡ n
unfolding value_from decimal_in
decimal_in-value zero n h = rw (digit_value_lem (n % 10) (omega arith)) (omega arith)
decimal_in-value (suc k) n h =
    split n 10 (λ l. rw (decimal_in, lt-ltb n 10 l, digit_value_lem (n % 10) (omega arith)) (omega arith))
    (λ l. rw (decimal_in, le-ltb n 10 l, value_from-append 10 0 (decimal_in k (n / 10)), decimal_in-value k (n / 10) (omega arith), digit_value_lem (n % 10) (omega arith)) (omega arith))

-- A printed decimal, read again.
pub decimal-value : (n : ℕ) → value_of 10 (decimal n) ≡ n
unfolding value_of decimal
decimal-value n = decimal_in-value n n (omega arith)

decimal_in-length : (j k n : ℕ) → n < 10 ^ suc j → length (decimal_in k n) ≤ suc j
unfolding decimal_in
decimal_in-length j zero n h = omega arith
decimal_in-length zero (suc k) n h = rw (decimal_in, lt-ltb n 10 h) (omega arith)
decimal_in-length (suc j) (suc k) n h =
    split n 10 (λ l. rw (decimal_in, lt-ltb n 10 l) (omega arith))
    (λ l. rw (decimal_in, le-ltb n 10 l, length-append) (omega (arith, decimal_in-length j k (n / 10) (omega (arith, pow-suc 10 (suc j))))))

-- A number below 10^(j+1) has at most j + 1 digits.
pub decimal-length : (j n : ℕ) → n < 10 ^ suc j → length (decimal n) ≤ suc j
unfolding decimal
decimal-length j n h = decimal_in-length j n n h

pub digit-byte : (d : ℕ) → d < 10 → digit (48 + d) ≡ true
unfolding digit
digit-byte d h = true-between 48 57 (48 + d) (omega arith) (omega arith)

-- A string of digits, one at least.
pub record Digits (s : List ℕ) : Type 0 where
  pub head : ℕ
  pub tail : List ℕ
  pub shape : s ≡ head ∷ tail
  pub digits : every digit (head ∷ tail) ≡ true

one-digit : (n : ℕ) → Digits ((48 + n % 10) ∷ [])
unfolding every
one-digit n = record { head = 48 + n % 10; tail = []; shape = refl; digits = every-cons digit (48 + n % 10) [] (digit-byte (n % 10) (omega arith)) refl }

decimal_in-digits : (k n : ℕ) → Digits (decimal_in k n)
unfolding decimal_in one-digit
decimal_in-digits zero n = one-digit n
decimal_in-digits (suc k) n =
    split n 10 (λ l. rw (decimal_in, lt-ltb n 10 l) (one-digit n)) (λ l. rw (decimal_in, le-ltb n 10 l) (behind (decimal_in-digits k (n / 10))))
  where
    behind : Digits (decimal_in k (n / 10)) → Digits (decimal_in k (n / 10) ++ ((48 + n % 10) ∷ []))
    behind d =
        record {
          head = d.head;
          tail = d.tail ++ ((48 + n % 10) ∷ []);
          shape = ap (λ (x : List ℕ). x ++ ((48 + n % 10) ∷ [])) d.shape;
          digits = every_append digit (d.head ∷ d.tail) _ d.digits (one-digit n).digits;
        }

pub decimal-digits : (n : ℕ) → Digits (decimal n)
unfolding decimal
decimal-digits n = decimal_in-digits n n

-- ---- reduction, for any width

-- With a bit more there are twice as many numbers.
pub twice : (k : ℕ) → 0 < k → 2 ^ k ≡ 2 ^ (k - 1) + 2 ^ (k - 1)
twice zero h = absurd (let f : ⊥ = omega arith in f)
twice (suc n) h = simp unary_clauses (omega arith)

pub residue-lt : (k : ℕ) (z : ℤ) → residue k z < 2 ^ k
unfolding residue
residue-lt k (pos n) = mod-lt n (pow_pos k)
residue-lt k (negsuc n) = omega (arith, mod-lt n (pow_pos k))

pub residue-small : (k n : ℕ) → n < 2 ^ k → residue k (pos n) ≡ n
unfolding residue
residue-small k n h = mod-eq_of_lt h

-- The reading of k bits, signed or not, leaves those bits.
pub residue-meant : (s : Bool) (k v : ℕ) → v < 2 ^ k → residue k (meant_by s k v) ≡ v
unfolding meant_by residue
residue-meant false k v h = mod-eq_of_lt h
residue-meant true k v h =
    split (v + v) (2 ^ k) (λ l. rw (meant_by, lt-ltb (v + v) (2 ^ k) l) (mod-eq_of_lt h))
    (λ l. rw (meant_by, le-ltb (v + v) (2 ^ k) l, mod-eq_of_lt {n = 2 ^ k - suc v} {m = 2 ^ k} (omega (arith, pow_pos k))) (omega arith))

-- A number below 0 is not 0.
pub negative-some : (z : ℤ) → is_negative z ≡ true → 1 ≤ nat_abs z
unfolding is_negative
negative-some (pos n) h = absurd (true≢false (sym h))
negative-some (negsuc n) h = omega arith

-- What a number below 0 leaves, as the code finds it, and what any other does.
pub remainder-negative : (most : ℕ) (z : ℤ) → is_negative z ≡ true → remainder (suc most) z ≡ most - (nat_abs z - 1) % suc most
unfolding is_negative
remainder-negative most (pos n) h = absurd (true≢false (sym h))
remainder-negative most (negsuc n) h = let e : suc n - 1 ≡ n = omega arith in rw e (omega arith)

pub remainder-other : (most : ℕ) (z : ℤ) → is_negative z ≡ false → remainder (suc most) z ≡ nat_abs z % suc most
unfolding is_negative
remainder-other most (pos n) h = refl
remainder-other most (negsuc n) h = absurd (true≢false h)

-- A remainder modulo a power of two is the residue of that width.
remainder-residue : (k : ℕ) (z : ℤ) → remainder (2 ^ k) z ≡ residue k z
unfolding residue
remainder-residue k (pos n) = refl
remainder-residue k (negsuc n) = refl

pub reduced : (m r : ℕ) (z : ℤ) → r ≡ remainder m z → Reduced m z r
reduced m r z e =
    record { exact = e; at_width = λ k q. e ∙ ap (λ (x : ℕ). remainder x z) q ∙ remainder-residue k z }

-- ---- whole numbers by sign and magnitude

-- The one that is read for a number means it.
pub whole-meant : (z : ℤ) → whole_meant (whole_for z) ≡ z
unfolding minus
whole-meant (pos n) = refl
whole-meant (negsuc n) = refl

-- -n is negative, unless it is 0,
pub whole_minus : (n : ℕ) → 0 < n → whole_for (minus n) ≡ Negative n
unfolding minus
whole_minus zero h = absurd (omega arith)
whole_minus (suc n) h = refl

-- and it has that sign and that magnitude.
pub negative_minus : (n : ℕ) → is_negative (minus n) ≡ ltb 0 n
unfolding is_negative minus
negative_minus zero = refl
negative_minus (suc n) = sym (lt-ltb 0 (suc n) (omega arith))

pub abs_minus : (n : ℕ) → nat_abs (minus n) ≡ n
unfolding minus
abs_minus zero = refl
abs_minus (suc n) = refl

-- ---- two numbers leave the same if and only if 2^k divides their difference

times-suc : (a : ℤ) (m : ℕ) → a *ℤ pos (suc m) ≡ a *ℤ pos m +ℤ a
times-suc a m = *ℤ_comm a (pos (suc m)) ∙ suc_ℤ-*ℤ (pos m) a ∙ ap (λ (x : ℤ). x +ℤ a) (*ℤ_comm (pos m) a)

sum-times : (a b : ℤ) (m : ℕ) → (a +ℤ b) *ℤ pos m ≡ a *ℤ pos m +ℤ b *ℤ pos m
sum-times a b zero = rw (*ℤ-zero (a +ℤ b), *ℤ-zero a, *ℤ-zero b)
sum-times a b (suc m) =
    rw (times-suc (a +ℤ b) m, times-suc a m, times-suc b m, sum-times a b m) (mixed (a *ℤ pos m) (b *ℤ pos m))
  where
    mixed : (x y : ℤ) → (x +ℤ y) +ℤ (a +ℤ b) ≡ (x +ℤ a) +ℤ (y +ℤ b)
    mixed x y = rw (+ℤ_assoc x y (a +ℤ b), ← +ℤ_assoc y a b, +ℤ_comm y a, +ℤ_assoc a y b, +ℤ_assoc x a (y +ℤ b))

negative-times : (a m r : ℕ) → r < m → negsuc a *ℤ pos m +ℤ pos r ≡ negsuc (a * m + (m - suc r))
negative-times a m r h =
    let e : suc a * m ≡ suc (a * m + (m - 1)) = omega (arith, suc-mul a m) in
    rw (e, lt-ltb r (suc (a * m + (m - 1))) (omega arith)) (ap negsuc (omega arith))

-- A number is a multiple of 2^k and what it leaves,
divided : (k : ℕ) (z : ℤ) → (q : ℤ) × (z ≡ q *ℤ pos (2 ^ k) +ℤ pos (residue k z))
unfolding residue
divided k (pos n) = (pos (n / 2 ^ k), ap pos (sym (div-add-mod' n (2 ^ k))))
divided k (negsuc n) =
    let l = mod-lt n (pow_pos k) in
    let e = negative-times (n / 2 ^ k) (2 ^ k) (2 ^ k - suc (n % 2 ^ k)) (omega arith) in
    (negsuc (n / 2 ^ k), sym (e ∙ ap negsuc (omega (arith, div-add-mod' n (2 ^ k)))))

-- and leaves no other number below 2^k.
leaves : (k : ℕ) (q : ℤ) (r : ℕ) → r < 2 ^ k → residue k (q *ℤ pos (2 ^ k) +ℤ pos r) ≡ r
unfolding residue
leaves k (pos a) r h = mul-add-mod_self_right a (2 ^ k) r ∙ mod-eq_of_lt h
leaves k (negsuc a) r h =
    let l : 2 ^ k - suc r < 2 ^ k = omega arith in
    rw (negative-times a (2 ^ k) r h, mul-add-mod_self_right a (2 ^ k) (2 ^ k - suc r), mod-eq_of_lt l) (omega arith)

times_more : (k : ℕ) (d w : ℤ) → d *ℤ pos (2 ^ k) +ℤ w ≡ (d +ℤ (divided k w).0) *ℤ pos (2 ^ k) +ℤ pos (residue k w)
times_more k d w =
    let (p, e) = divided k w in
    ap (λ (x : ℤ). d *ℤ pos (2 ^ k) +ℤ x) e ∙ rw (sum-times d p (2 ^ k), +ℤ_assoc (d *ℤ pos (2 ^ k)) (p *ℤ pos (2 ^ k)) (pos (residue k w)))

pub residue-iff : (k : ℕ) (z w : ℤ) → (residue k z ≡ residue k w) ↔ ((q : ℤ) × (z -ℤ w ≡ q *ℤ pos (2 ^ k)))
residue-iff k z w = (there, λ (q, e). back q e)
  where
    there : residue k z ≡ residue k w → (q : ℤ) × (z -ℤ w ≡ q *ℤ pos (2 ^ k))
    there e =
        let (q, h) = divided k z in
        let d = q -ℤ (divided k w).0 in
        let s : z ≡ d *ℤ pos (2 ^ k) +ℤ w = h ∙ rw (e, times_more k d w, -ℤ-+ℤ_cancel q (divided k w).0) in
        (d, ap (λ (x : ℤ). x -ℤ w) s ∙ +ℤ-neg_ℤ_cancel (d *ℤ pos (2 ^ k)) w)

    back : (q : ℤ) → z -ℤ w ≡ q *ℤ pos (2 ^ k) → residue k z ≡ residue k w
    back q e =
        let s : z ≡ q *ℤ pos (2 ^ k) +ℤ w = sym (-ℤ-+ℤ_cancel z w) ∙ ap (λ (x : ℤ). x +ℤ w) e in
        ap (residue k) (s ∙ times_more k q w) ∙ leaves k (q +ℤ (divided k w).0) (residue k w) (residue-lt k w)
