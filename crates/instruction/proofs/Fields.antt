-- Fields of a word, at any bits and of any widths: a value is added where a word has nothing and is read back, every other
-- field stays as it was, and fields without a gap between them tell the word.
use mathlib.Core.Path.{◌≡◌, ap, ◌∙◌}
use Prim.Native.Nat.{ℕ, ◌+◌, ◌-◌, ◌*◌, ◌/◌, ◌%◌, ◌^◌, ◌≤◌, ◌<◌}
use native.Mathlib.Nat.{mod-lt, add_comm, add-mul-mod_self_right, add-mul-div_right, div-eq_of_lt, div-lt_iff_lt-mul, zero-mod, div-add-mod'}
use native.Mathlib.Omega.{arith}
use mathlib.Core.Bool.{Bool, true, ◌||◌}
use lib.Dec.{leb}
use lib.Pow.{pow_pos, pow_mono, pow-add, mod-pow-add, mod-mod-pow, shr-shr, field}
use lib.Arith.{digits_div, digits_mod}
use borrow.Author.Tests.{leb-true}
use Rattle.text_lexical.proofs.Tests.{or_left, or_right, or_elim}
use Rattle.instruction.specs.Words.{field_at}

-- Two fields have no bit in common.
unfoldable pub disjoint : (b k b' k' : ℕ) → Bool
disjoint b k b' k' = leb (b + k) b' || leb (b' + k') b

-- Either way round.
pub disjoint-sym : (b k b' k' : ℕ) → disjoint b k b' k' ≡ true → disjoint b' k' b k ≡ true
unfolding disjoint
disjoint-sym b k b' k' h =
    or_elim (leb (b + k) b') (leb (b' + k') b) h (λ l. or_right (leb (b' + k') b) (leb (b + k) b') l) (λ l. or_left (leb (b' + k') b) (leb (b + k) b') l)

-- A field is below the power of its width.
pub field_lt : (w b k : ℕ) → field_at w b k < 2 ^ k
unfolding field_at
field_lt w b k = mod-lt (w / 2 ^ b) (pow_pos k)

-- A number below a power has nothing in a field apart from its bits.
pub field-empty : (x c b k : ℕ) → x < 2 ^ c → disjoint b k 0 c ≡ true → field_at x b k ≡ 0
unfolding disjoint field_at
field-empty x c b k h d =
    or_elim (leb (b + k) 0) (leb (0 + c) b) d
    (λ l. let n = leb-true (b + k) 0 l in let z : k ≡ 0 = omega arith in rw z (omega arith))
    (λ l. let n = leb-true (0 + c) b l in let m : 2 ^ c ≤ 2 ^ b = pow_mono {i = c} {j = b} (omega arith) in rw (div-eq_of_lt {n = x} {m = 2 ^ b} (omega arith)) (zero-mod (2 ^ k)))

-- Numbers with the same bits from c on have the same fields there.
above : (x y b k c : ℕ) → c ≤ b → x / 2 ^ c ≡ y / 2 ^ c → field_at x b k ≡ field_at y b k
unfolding field_at
above x y b k c l e =
    let s : b ≡ c + (b - c) = omega arith in
    rw (s, ← shr-shr x c (b - c), e, shr-shr y c (b - c))

-- Numbers with the same bits below c have the same fields there.
below : (x y b k c : ℕ) → b + k ≤ c → x % 2 ^ c ≡ y % 2 ^ c → field_at x b k ≡ field_at y b k
unfolding field_at
below x y b k c l e =
    let s : c - (k + b) + (k + b) ≡ c = omega arith in
    rw (← field x k b, ← field y k b, ← mod-mod-pow x (c - (k + b)) (k + b), ← mod-mod-pow y (c - (k + b)) (k + b), s, e)

module _ (x b k v : ℕ) (e : field_at x b k ≡ 0) (h : v < 2 ^ k) where
  -- the bits from the field on
  put-from : (x + v * 2 ^ b) / 2 ^ b ≡ x / 2 ^ b / 2 ^ k * 2 ^ k + v
  unfolding field_at
  put-from = omega (arith, add-mul-div_right x v (pow_pos b), div-add-mod' (x / 2 ^ b) (2 ^ k))

  -- What is added where nothing is, is read back.
  pub put-read : field_at (x + v * 2 ^ b) b k ≡ v
  unfolding field_at
  put-read = rw put-from (digits_mod (x / 2 ^ b / 2 ^ k) h)

  put-above : (x + v * 2 ^ b) / 2 ^ (b + k) ≡ x / 2 ^ (b + k)
  put-above = rw (← shr-shr (x + v * 2 ^ b), ← shr-shr x, put-from) (digits_div (x / 2 ^ b / 2 ^ k) h)

  -- Every other field stays as it was.
  pub put_other : (b' k' : ℕ) → disjoint b k b' k' ≡ true → field_at (x + v * 2 ^ b) b' k' ≡ field_at x b' k'
  unfolding disjoint
  put_other b' k' d =
      or_elim (leb (b + k) b') (leb (b' + k') b) d
      (λ l. above (x + v * 2 ^ b) x b' k' (b + k) (leb-true (b + k) b' l) put-above)
      (λ l. below (x + v * 2 ^ b) x b' k' b (leb-true (b' + k') b l) (add-mul-mod_self_right x v (2 ^ b)))

  -- No bit above the field is set that was not.
  pub put-bound : (t : ℕ) → b + k ≤ t → x < 2 ^ t → x + v * 2 ^ b < 2 ^ t
  put-bound t l m =
      let s : t ≡ t - (b + k) + (b + k) = omega arith in
      let p : 2 ^ t ≡ 2 ^ (t - (b + k)) * 2 ^ (b + k) = ap (λ (j : ℕ). 2 ^ j) s ∙ pow-add 2 (t - (b + k)) (b + k) in
      rw p ((div-lt_iff_lt-mul (pow_pos (b + k))).0 (rw put-above ((div-lt_iff_lt-mul (pow_pos (b + k))).1 (rw p at m))))

-- Two numbers with the same bits below a field and in it have the same bits up to its end.
pub field-up : (x y b k : ℕ) → x % 2 ^ b ≡ y % 2 ^ b → field_at x b k ≡ field_at y b k → x % 2 ^ (b + k) ≡ y % 2 ^ (b + k)
unfolding field_at
field-up x y b k e f = rw (add_comm b k, mod-pow-add x k b, mod-pow-add y k b, e, f)
