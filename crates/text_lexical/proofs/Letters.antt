-- The letters of a spelling are the bytes of its key below the highest, which is 1.
use mathlib.Core.Path.{◌≡◌, refl, ap, ap₂, ◌∙◌}
use mathlib.Core.Bool.{true}
use mathlib.Core.List.{List, [], ◌∷◌}
use Prim.Native.Nat.{ℕ, zero, suc, ◌+◌, ◌*◌, ◌/◌, ◌%◌, ◌^◌, ◌≤◌, ◌<◌}
use native.Mathlib.Nat.{pow-suc, div-div-eq-div-mul}
use native.Mathlib.Omega.{arith}
use lib.ListN.{length, take}
use lib.Pow.{pow_mono, pow-add}
use Rattle.std.specs.Int.{to_le_bytes, w64}
use lib.Dec.{ltb}
use Rattle.text_lexical.specs.Bytes.{every}
use Rattle.text_lexical.specs.Numbers.{little}
use Rattle.text_lexical.specs.Promised.{packed}
use Rattle.text_lexical.specs.Words.{LettersOf}
use Rattle.text_lexical.specs.declared.name.Letters.{Letters}
use Rattle.text_lexical.proofs.Keys.{Below, every-below}
use Rattle.text_lexical.proofs.Tests.{split}

-- ---- the highest byte

byte-more : (n : ℕ) → 2 ^ (8 * suc n) ≡ 256 * 2 ^ (8 * n)
byte-more n = ap (λ (x : ℕ). 2 ^ x) (omega arith) ∙ pow-add 2 8 (8 * n)

-- There is one byte that is the highest of a number that is not 0.
highest : (n i j : ℕ) → 2 ^ (8 * i) ≤ n → n < 256 * 2 ^ (8 * i) → 2 ^ (8 * j) ≤ n → n < 256 * 2 ^ (8 * j) → i ≡ j
highest n i j a b c d =
    split i j
    (λ l. absurd (omega (arith, byte-more i, pow_mono {i = 8 * suc i} {j = 8 * j} (omega arith))))
    (λ l. split j i (λ m. absurd (omega (arith, byte-more j, pow_mono {i = 8 * suc j} {j = 8 * i} (omega arith)))) (λ m. omega arith))

-- That of a key stands after the letters, and is 1.
pub record Bits (s : List ℕ) : Type 0 where
  pub least : 2 ^ (8 * length s) ≤ packed s
  pub below : packed s < 2 * 2 ^ (8 * length s)

bits : (s : List ℕ) → Below s → Bits s
unfolding packed
bits [] h = record { least = omega arith; below = omega arith }
bits (b ∷ s) h =
    let r = bits s (λ i. h (suc i)) in
    let e = byte-more (length s) in
    record { least = omega (arith, e, r.least); below = omega (arith, e, r.below, h 0) }

-- ---- the bytes

-- A number's bytes, the lowest first, as the library lists them.
eight-bytes : (n : ℕ) → to_le_bytes w64 n ≡ little 8 n
unfolding little
eight-bytes n = simp div-div-eq-div-mul

little-packed : (k : ℕ) (s : List ℕ) → Below s → length s ≤ k → take (length s) (little k (packed s)) ≡ s
unfolding little packed
little-packed k [] h l = refl
little-packed zero (b ∷ s) h l = absurd (omega arith)
little-packed (suc k) (b ∷ s) h l =
    let r : (b + 256 * packed s) % 256 ≡ b = omega (arith, h 0) in
    let q : (b + 256 * packed s) / 256 ≡ packed s = omega (arith, h 0) in
    ap₂ (λ (x y : ℕ). x ∷ take (length s) (little k y)) r q
    ∙ ap (λ (x : List ℕ). b ∷ x) (little-packed k s (λ i. h (suc i)) (omega arith))

-- ---- the letters of a key

-- They are the spelling that has the key.
pub letters-spell : (s : List ℕ) (l : Letters) → length s ≤ 7 → every (λ b. ltb b 256) s ≡ true → LettersOf (packed s) l → take l.length l.bytes ≡ s
letters-spell s l n e h =
    let t = bits s (every-below s e) in
    let m : l.length ≡ length s = highest (packed s) l.length (length s) h.reaches h.within t.least (omega (arith, t.below)) in
    rw (h.bytes_are, m) (little-packed 8 s (every-below s e) (omega arith))

-- By the highest bit of a key, which stands in its highest byte.
pub letters-of : (k r : ℕ) (bytes : List ℕ) → 2 ^ r ≤ k → k < 2 * 2 ^ r → r < 64 → bytes ≡ to_le_bytes w64 k → LettersOf k (record { bytes = bytes; length = r / 8 })
letters-of k r bytes a b n c =
    record {
      bytes_are = c ∙ eight-bytes k;
      few = omega arith;
      reaches = omega (arith, pow_mono {i = 8 * (r / 8)} {j = r} (omega arith));
      within = omega (arith, pow-suc 2 r, byte-more (r / 8), pow_mono {i = suc r} {j = 8 * suc (r / 8)} (omega arith));
    }
