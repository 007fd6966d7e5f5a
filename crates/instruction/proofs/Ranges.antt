-- The number that the bits of a field mean lies in the field's range, and so does the number that a word keeps of an instruction.
use mathlib.Core.Path.{◌≡◌, sym, ap, ◌∙◌}
use Prim.Native.Nat.{ℕ, zero, suc, ◌+◌, ◌-◌, ◌^◌, ◌≤◌, ◌<◌}
use native.Mathlib.Nat.{mod-eq_of_lt}
use native.Mathlib.Omega.{arith}
use mathlib.Core.Bool.{Bool, true, false, true≢false}
use mathlib.Core.Option.{Option, none, some}
use lib.IntN.{ℤ, pos, negsuc}
use lib.Pow.{pow_mono}
use borrow.Author.Tests.{ltb-true, lt-ltb, le-ltb}
use Rattle.text_lexical.specs.Bytes.{is_some}
use Rattle.text_lexical.specs.Numbers.{NumberRange, residue, is_signed, is_unsigned, lies_in, meant_by}
use Rattle.text_lexical.proofs.Tests.{split}
use Rattle.text_lexical.proofs.Numbers.{twice, residue-small}
use Rattle.text.proofs.Tokens.{Within64}
use Rattle.instruction.specs.Table.{Form, R, I, Shift, Load, Store, Branch, Jump, System, places}
use Rattle.instruction.specs.Fits.{number_range, width_of, reduced_in}
use Rattle.instruction.proofs.Placing.{reduced-lt}

-- A field has at most twice as many numbers as one with a bit less.
half : (k : ℕ) → 2 ^ k ≤ 2 ^ (k - 1) + 2 ^ (k - 1)
half zero = omega arith
half (suc n) = omega (arith, twice (suc n) (omega arith))

-- The number that the bits of a field mean lies in the field's range.
pub meant-lies : (s : Bool) (k v : ℕ) → v < 2 ^ k → lies_in (record { width = k; signed = s }) (meant_by s k v) ≡ true
unfolding lies_in is_signed is_unsigned meant_by
meant-lies false k v h = lt-ltb v (2 ^ k) h
meant-lies true k v h =
    split (v + v) (2 ^ k) (λ l. rw (meant_by, lt-ltb (v + v) (2 ^ k) l) (lt-ltb v (2 ^ (k - 1)) (omega (arith, half k))))
    (λ l. rw (meant_by, le-ltb (v + v) (2 ^ k) l) (lt-ltb (2 ^ k - suc v) (2 ^ (k - 1)) (omega (arith, half k))))

-- A field with a bit keeps each number of its range as it is.
pub lies-kept : (r : NumberRange) (z : ℤ) → 0 < r.width → lies_in r z ≡ true → meant_by r.signed r.width (residue r.width z) ≡ z
unfolding lies_in is_signed is_unsigned meant_by residue
lies-kept r z h l = go r.signed z l
  where
    k : ℕ
    k = r.width

    halves : 2 ^ k ≡ 2 ^ (k - 1) + 2 ^ (k - 1)
    halves = twice r.width h

    go : (s : Bool) (z : ℤ) → elim s [ true ↦ is_signed k z | false ↦ is_unsigned k z ] ≡ true → meant_by s k (residue k z) ≡ z
    go true (pos n) l =
        let l = ltb-true n (2 ^ (k - 1)) l in
        ap (meant_by true k) (residue-small k n (omega (arith, halves))) ∙ rw (meant_by, lt-ltb (n + n) (2 ^ k) (omega (arith, halves)))
    go true (negsuc n) l =
        let l = ltb-true n (2 ^ (k - 1)) l in
        let v = 2 ^ k - suc n in
        let back : 2 ^ k - suc v ≡ n = omega (arith, halves) in
        let kept : residue k (negsuc n) ≡ v = ap (λ (x : ℕ). 2 ^ k - suc x) (mod-eq_of_lt (omega (arith, halves))) in
        ap (meant_by true k) kept ∙ rw (meant_by, le-ltb (v + v) (2 ^ k) (omega (arith, halves))) (ap negsuc back)
    go false (pos n) l = ap pos (residue-small k n (ltb-true n (2 ^ k) l))
    go false (negsuc n) l = absurd (true≢false (sym l))

-- A number of a range of 21 bits or fewer is one that a token can be.
pub lies-within : (r : NumberRange) (z : ℤ) → r.width ≤ 21 → lies_in r z ≡ true → Within64 z
unfolding lies_in is_signed is_unsigned Within64
lies-within r z l h = go r.signed z h
  where
    m : 2 ^ r.width ≤ 2 ^ 21
    m = pow_mono l

    n : 2 ^ (r.width - 1) ≤ 2 ^ 21
    n = pow_mono {i = r.width - 1} {j = 21} (omega arith)

    go : (s : Bool) (z : ℤ) → elim s [ true ↦ is_signed r.width z | false ↦ is_unsigned r.width z ] ≡ true → Within64 z
    go true (pos a) h = omega (arith, ltb-true a _ h, n)
    go true (negsuc a) h = omega (arith, ltb-true a _ h, n)
    go false (pos a) h = omega (arith, ltb-true a _ h, m)
    go false (negsuc a) h = absurd (true≢false (sym h))

-- A number lies in a range, if there are both.
unfoldable pub Lies : Option NumberRange → Option ℤ → Type 0
Lies none n = Unit {0}
Lies (some r) none = Unit {0}
Lies (some r) (some z) = lies_in r z ≡ true

-- Where there is no range, none is asked for.
pub lies-unasked : (o : Option NumberRange) (n : Option ℤ) → is_some o ≡ false → Lies o n
unfolding is_some Lies
lies-unasked none n h = tt
lies-unasked (some r) n h = absurd (true≢false h)

-- What a field keeps of a number lies in the field's range.
pub reduced-lies : (o : Option NumberRange) (n : Option ℤ) → Lies o (reduced_in o n)
unfolding reduced_in Lies
reduced-lies none n = tt
reduced-lies (some f) n = meant-lies f.signed f.width _ (reduced-lt f.width n)

-- The range of each form that has a number has a bit.
pub form-bits : (f : Form) (r : NumberRange) → number_range (places f) ≡ some r → 0 < r.width
unfolding places number_range width_of
form-bits R r e = cc
form-bits I r e = omega (arith, ap width_of e)
form-bits Shift r e = omega (arith, ap width_of e)
form-bits Load r e = omega (arith, ap width_of e)
form-bits Store r e = omega (arith, ap width_of e)
form-bits Branch r e = omega (arith, ap width_of e)
form-bits Jump r e = omega (arith, ap width_of e)
form-bits System r e = cc
