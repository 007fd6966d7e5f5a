-- Keys: a spelling of at most seven bytes is told by its key, a longer one has none, and an entry of a list is found by it.
use mathlib.Core.Path.{◌≡◌, refl, sym, ap, ◌∙◌}
use Prim.Native.Nat.{ℕ, zero, suc, ◌≤◌, ◌<◌}
use native.Mathlib.Omega.{arith}
use mathlib.Core.Bool.{Bool, true, false}
use mathlib.Core.List.{List, [], ◌∷◌, map}
use mathlib.Core.Option.{Option, none}
use lib.ListN.{length, get_or, get_or-map}
use lib.Dec.{leb, ltb, eqb}
use borrow.Author.Tests.{le-leb, lt-leb, eqb-true, eqb-false, leb-true, ltb-true}
use Rattle.std.specs.Prelude.{Some, None}
use Rattle.std.specs.Prelude.{Option as CodeOption}
use Rattle.text_lexical.specs.Bytes.{between, lower, same, find, every, each}
use Rattle.text_lexical.specs.Promised.{packed, key_of}
use Rattle.text_lexical.proofs.Tests.{split, by-test, both, not-true, between-true}
use Rattle.text_lexical.proofs.Strings.{every-head, every-tail, same-eq, eq-same}

-- Every byte is below 256.
abbrev pub Below : List ℕ → Type 0
Below s = (i : ℕ) → get_or s i 0 < 256

below-tail : (b : ℕ) (s : List ℕ) → Below (b ∷ s) → Below s
below-tail b s h i = h (suc i)

pub key-long : (s : List ℕ) → 7 < length s → key_of s ≡ None
unfolding key_of
key-long s h = rw (key_of, lt-leb (length s) 7 h)

pub key-short : (s : List ℕ) → length s ≤ 7 → key_of s ≡ Some (packed s)
unfolding key_of
key-short s h = rw (key_of, le-leb (length s) 7 h)

pub packed-pos : (s : List ℕ) → 0 < packed s
unfolding packed
packed-pos [] = omega arith
packed-pos (b ∷ s) = omega (arith, packed-pos s)

packed-eq : (s t : List ℕ) → Below s → Below t → packed s ≡ packed t → s ≡ t
unfolding packed
packed-eq [] [] hs ht e = refl
packed-eq [] (c ∷ t) hs ht e = absurd (omega (arith, packed-pos t))
packed-eq (b ∷ s) [] hs ht e = absurd (omega (arith, packed-pos s))
packed-eq (b ∷ s) (c ∷ t) hs ht e =
    let h : b ≡ c = omega (arith, hs 0, ht 0) in
    let r : packed s ≡ packed t = omega (arith, hs 0, ht 0) in
    rw (h, packed-eq s t (below-tail b s hs) (below-tail c t ht) r)

-- A spelling with a key has at most seven bytes, and its key has them; one without has more.
Keyed : List ℕ → CodeOption ℕ → Type 0
Keyed s (Some k) = (length s ≤ 7) × (k ≡ packed s)
Keyed s None = 7 < length s

keyed : (s : List ℕ) (o : CodeOption ℕ) → o ≡ key_of s → Keyed s o
unfolding Keyed
keyed s o e =
    split (length s) 8
    (λ l. rw (e, key-short s (omega arith)) (omega arith, refl))
    (λ l. rw (e, key-long s (omega arith)) (omega arith))

-- Two spellings are the same if their bytes make the same number.
pub same_key : (s t : List ℕ) → Below s → Below t → same s t ≡ eqb (packed s) (packed t)
same_key s t hs ht =
    by-test (eqb (packed s) (packed t))
    (λ e. rw e (eq-same s t (packed-eq s t hs ht (eqb-true (packed s) (packed t) e))))
    (λ e. rw e (not-true (same s t) (λ z. eqb-false (packed s) (packed t) e (ap packed (same-eq s t z)))))

-- Two spellings, the first of at most seven bytes, have one key
pub keys-same : (s t : List ℕ) → length s ≤ 7 → Below s → Below t → key_of s ≡ key_of t → same s t ≡ true
unfolding Keyed
keys-same s t l hs ht e =
    let (m, p) = keyed t (Some (packed s)) (sym (key-short s l) ∙ e) in
    eq-same s t (packed-eq s t hs ht p)

-- exactly where they are the same.
pub same-keys : (s t : List ℕ) → same s t ≡ true → key_of s ≡ key_of t
same-keys s t e = ap key_of (same-eq s t e)

-- ---- entries found by the key of their spelling

-- A spelling of at most seven bytes.
unfoldable pub is_keyed : List ℕ → Bool
is_keyed s = elim (leb (length s) 7) [ true ↦ every (λ b. ltb b 256) s | false ↦ false ]

pub every-below : (s : List ℕ) → every (λ b. ltb b 256) s ≡ true → Below s
every-below [] h i = omega arith
every-below (b ∷ s) h zero = ltb-true b 256 (every-head (λ b. ltb b 256) b s h)
every-below (b ∷ s) h (suc i) = every-below s (every-tail (λ b. ltb b 256) b s h) i

unfoldable pub by_key : {A : Type 0} → (A → List ℕ) → List A → ℕ → Option A
by_key spell l k = find (λ a. eqb (packed (spell a)) k) l

-- An entry is found by its key,
pub found-by-key : {A : Type 0} (spell : A → List ℕ) (l : List A) → each (λ a. is_keyed (spell a)) l ≡ true → (s : List ℕ) → Below s → (k : ℕ) → Some k ≡ key_of s
    → find (λ a. same (spell a) s) l ≡ by_key spell l k
unfolding by_key find each is_keyed Keyed
found-by-key spell [] ok s h k q = refl
found-by-key spell (a ∷ l) ok s h k q =
    let (ka, kl) = both (is_keyed (spell a)) (each (λ a. is_keyed (spell a)) l) ok in
    let (n, b) = both (leb (length (spell a)) 7) _ ka in
    let e : same (spell a) s ≡ eqb (packed (spell a)) k = same_key (spell a) s (every-below (spell a) b) h ∙ ap (eqb (packed (spell a))) (sym (keyed s (Some k) q).1) in
    by-test (eqb (packed (spell a)) k) (λ t. rw (find, e, t)) (λ t. rw (find, e, t) (found-by-key spell l kl s h k q))

-- and none by a spelling without one.
pub none-without-key : {A : Type 0} (spell : A → List ℕ) (l : List A) → each (λ a. is_keyed (spell a)) l ≡ true → (s : List ℕ) → None ≡ key_of s
    → find (λ a. same (spell a) s) l ≡ none
unfolding find each is_keyed Keyed
none-without-key spell [] ok s q = refl
none-without-key spell (a ∷ l) ok s q =
    let (ka, kl) = both (is_keyed (spell a)) (each (λ a. is_keyed (spell a)) l) ok in
    let (n, b) = both (leb (length (spell a)) 7) _ ka in
    let e : same (spell a) s ≡ false = not-true (same (spell a) s) (λ z. omega (arith, keyed s None q, leb-true (length (spell a)) 7 n, ap length (same-eq (spell a) s z))) in
    rw (find, e) (none-without-key spell l kl s q)

-- ---- lower case

-- Lower case leaves a byte a byte.
pub lower-below : (b : ℕ) → b < 256 → lower b < 256
unfolding lower
lower-below b h =
    by-test (between 65 90 b) (λ e. let r = between-true 65 90 b e in rw (lower, e) (omega arith)) (λ e. rw (lower, e) h)

-- The byte at a place, in lower case.
pub lower-at : (s : List ℕ) (i : ℕ) → get_or (map lower s) i 0 ≡ lower (get_or s i 0)
unfolding lower between
lower-at s i = get_or-map lower s i 0

pub lowered-below : (s : List ℕ) → Below s → Below (map lower s)
lowered-below s h i = rw (lower-at s i) (lower-below (get_or s i 0) (h i))
