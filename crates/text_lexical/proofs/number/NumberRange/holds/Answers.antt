-- `text_lexical::number::NumberRange::holds` meets its contract.
use Prim.Native.Nat.{suc, ◌-◌, ◌^◌, ◌≤◌, ◌<◌}
use mathlib.Core.Path.{◌≡◌, refl, sym, ◌∙◌}
use mathlib.Core.Bool.{Bool, true, false, true≢false}
use native.Mathlib.Omega.{arith}
use lib.Dec.{leb, ltb}
use lib.IntN.{ℤ, pos, negsuc, nat_abs}
use borrow.Author.Tests.{lt-leb}
use Rattle.text_lexical.specs.Numbers.{NumberRange, is_negative, is_signed, is_unsigned, lies_in}
use Rattle.text_lexical.specs.Promised.{whole_meant, range_meant, below_zero}
use Rattle.text_lexical.proofs.Numbers.{twice}
use Rattle.text_lexical.proofs.number.NumberRange.holds.Goals as goal

-- A number below zero is one of a range if it is at most as far from zero as there are such numbers,
negative : (r : NumberRange) (z : ℤ) → is_negative z ≡ true → leb (nat_abs z) (below_zero r) ≡ lies_in r z
unfolding is_negative lies_in is_signed is_unsigned below_zero
negative r (pos n) h = absurd (true≢false (sym h))
negative r (negsuc n) h = go r.signed
  where
    go : (s : Bool) → leb (suc n) (elim s [ true ↦ 2 ^ (r.width - 1) | false ↦ 0 ]) ≡ elim s [ true ↦ ltb n (2 ^ (r.width - 1)) | false ↦ false ]
    go true = refl
    go false = lt-leb (suc n) 0 (omega arith)

-- and any other if it is nearer than the rest are many.
from_zero : (r : NumberRange) (z : ℤ) → 0 < r.width → is_negative z ≡ false → ltb (nat_abs z) (2 ^ r.width - below_zero r) ≡ lies_in r z
unfolding is_negative lies_in is_signed is_unsigned below_zero
from_zero r (pos n) some h = go r.signed
  where
    go : (s : Bool) → ltb n (2 ^ r.width - elim s [ true ↦ 2 ^ (r.width - 1) | false ↦ 0 ]) ≡ elim s [ true ↦ ltb n (2 ^ (r.width - 1)) | false ↦ ltb n (2 ^ r.width) ]
    go true = let e : 2 ^ r.width - 2 ^ (r.width - 1) ≡ 2 ^ (r.width - 1) = omega (arith, twice r.width some) in rw e refl
    go false = let e : 2 ^ r.width - 0 ≡ 2 ^ r.width = omega arith in rw e refl
from_zero r (negsuc n) some h = absurd (true≢false h)

-- There are no more below zero than in all.
fewer : (r : NumberRange) → 0 < r.width → below_zero r ≤ 2 ^ r.width
unfolding below_zero
fewer r some = go r.signed
  where
    go : (s : Bool) → elim s [ true ↦ 2 ^ (r.width - 1) | false ↦ 0 ] ≤ 2 ^ r.width
    go true = omega (arith, twice r.width some)
    go false = omega arith

pub overflow_sub-result : goal.overflow_sub-result
overflow_sub-result c = omega (arith, c.from.ensures, c.size.ensures, c.below_zero-2.ensures, fewer (range_meant c.args.self) c.requires.some_bits)

pub returns : goal.returns
returns c =
    let size : c.from.result ≡ 2 ^ c.args.self.width = c.from.ensures ∙ c.size.ensures in
    rw (c.magnitude-2.ensures, size, c.below_zero-2.ensures)
    (from_zero (range_meant c.args.self) (whole_meant c.args.number) c.requires.some_bits (sym c.is_negative.ensures ∙ c.if-is_negative.false))

pub returns-then-is_negative : goal.returns-then-is_negative
returns-then-is_negative c =
    rw (c.magnitude.ensures, c.below_zero.ensures) (negative (range_meant c.args.self) (whole_meant c.args.number) (sym c.is_negative.ensures ∙ c.if-is_negative.true))
