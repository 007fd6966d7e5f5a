-- A token is found by one look at its first byte and a run of bytes after it: `scan` finds the longest match, whatever the
-- set of names, if only its spellings are Identifiers.
use mathlib.Core.Path.{◌≡◌, refl, sym, ap, ◌∙◌, subst}
use Prim.Native.Nat.{ℕ, zero, suc, ◌+◌, ◌-◌, ◌≤◌, ◌<◌}
use native.Mathlib.Omega.{arith}
use native.Mathlib.Nat.{add-suc, add-zero}
use mathlib.Core.Bool.{Bool, true, false, true≢false}
use mathlib.Core.Option.{Option, none, some}
use mathlib.Core.List.{List, [], ◌∷◌}
use lib.ListN.{length, take}
use lib.Dec.{eqb}
use borrow.Author.Tests.{eqb-true, ne_eqb, le-leb, lt-leb}
use Rattle.text_lexical.specs.Bytes.{digit, hex_digit, binary_digit, between, letter, mark, name_start, name_part, every, one_or_more, same, before, find, is_some, each, run}
use Rattle.text_lexical.specs.Names.{Name, named}
use Rattle.text_lexical.proofs.Tests.{by-test, not-true, no_both, or_elim, between-true}
use Rattle.text_lexical.proofs.Strings.{same-eq, take-run, every-run, run-le, past-run, found}
use Rattle.text.specs.Tokens.{is_identifier, is_register, is_number, is_prefixed, is_hex, is_binary, is_directive, is_mark, Class, Register, Identifier, Number, Hex, Binary, Directive, Mark, is_in, classes, class_of, Match, longest}

unfoldable pub matching : ℕ → Class → Match
matching n c = record { size = n; class = c }

-- a word, as a register if it is one
unfoldable pub word_class : Bool → Class
word_class true = Register
word_class false = Identifier

-- one byte, and one more at least
unfoldable pub at_least_one : Class → ℕ → Option Match
at_least_one c zero = none
at_least_one c (suc n) = some (matching (suc (suc n)) c)

-- `0x` or `0b` and digits, or else decimal digits
unfoldable pub radix_or : Class → ℕ → Match
radix_or c zero = matching 1 Number
radix_or c (suc n) = matching (suc (suc (suc n))) c

unfoldable pub digit_scan : ℕ → List ℕ → Match
digit_scan b [] = matching 1 Number
digit_scan b (x ∷ h) =
    elim (eqb b 48) [
      | false ↦ matching (suc (run digit (x ∷ h))) Number
      | true ↦ elim (eqb x 120) [
        | true ↦ radix_or Hex (run hex_digit h)
        | false ↦ elim (eqb x 98) [ true ↦ radix_or Binary (run binary_digit h) | false ↦ matching (suc (run digit (x ∷ h))) Number ]
      ]
    ]

unfoldable pub dot_scan : List ℕ → Option Match
dot_scan [] = none
dot_scan (b ∷ s) = elim (name_start b) [ true ↦ some (matching (suc (suc (run name_part s))) Directive) | false ↦ none ]

unfoldable pub scan : List Name → List ℕ → Option Match
scan names [] = none
scan names (b ∷ s) =
    elim (name_start b) [
      | true ↦ some (matching (suc (run name_part s)) (word_class (is_register names (b ∷ before name_part s))))
      | false ↦ elim (digit b) [
        | true ↦ some (digit_scan b s)
        | false ↦ elim (eqb b 45) [
          | true ↦ at_least_one Number (run digit s)
          | false ↦ elim (eqb b 46) [
            | true ↦ dot_scan s
            | false ↦ elim (mark b) [ true ↦ some (matching 1 Mark) | false ↦ none ]
          ]
        ]
      ]
    ]

-- ---- what a first byte tells

pub digit-from : (b : ℕ) → digit b ≡ true → 48 ≤ b
unfolding digit
digit-from b h = (between-true 48 57 b h).0

pub digit-not-start : (b : ℕ) → digit b ≡ true → name_start b ≡ false
unfolding digit name_start letter between
digit-not-start b h =
    let r = between-true 48 57 b h in
    rw (name_start, lt-leb 97 b (omega arith), lt-leb 65 b (omega arith), ne_eqb b 95 (λ e. omega arith))

-- ---- the longest match, by its length

-- Beginnings in no class are skipped.
pub longest-down : (names : List Name) (s : List ℕ) (n k : ℕ) → ((i : ℕ) → i < k → class_of names (take (suc (n + i)) s) ≡ none)
    → longest names s (n + k) ≡ longest names s n
unfolding longest
longest-down names s n zero h = rw add-zero
longest-down names s n (suc k) h = rw (add-suc n k) (above ∙ longest-down names s n k (λ i l. h i (omega arith)))
  where
    above : longest names s (suc (n + k)) ≡ longest names s (n + k)
    above = rw (longest, h k (omega arith))

pub longest-is : (names : List Name) (b : ℕ) (t : List ℕ) (n : ℕ) (c : Class) → n ≤ length t → class_of names (b ∷ take n t) ≡ some c
    → ((j : ℕ) → n < j → j ≤ length t → class_of names (b ∷ take j t) ≡ none)
    → longest names (b ∷ t) (length (b ∷ t)) ≡ some (matching (suc n) c)
unfolding longest matching
longest-is names b t n c l h f =
    let e : suc (length t) ≡ suc n + (length t - n) = omega arith in
    ap (longest names (b ∷ t)) e
    ∙ longest-down names (b ∷ t) (suc n) (length t - n) (λ i k. f (suc n + i) (omega arith) (omega arith))
    ∙ rw (longest, h)

pub longest-none : (names : List Name) (b : ℕ) (t : List ℕ) → ((j : ℕ) → j ≤ length t → class_of names (b ∷ take j t) ≡ none)
    → longest names (b ∷ t) (length (b ∷ t)) ≡ none
unfolding longest
longest-none names b t f =
    let e : suc (length t) ≡ 0 + suc (length t) = omega arith in
    ap (longest names (b ∷ t)) e ∙ longest-down names (b ∷ t) 0 (suc (length t)) (λ i k. f (0 + i) (omega arith))

-- ---- what a first byte leaves

pub start-from : (b : ℕ) → name_start b ≡ true → 65 ≤ b
unfolding name_start letter
start-from b h =
    or_elim (letter b) _ h
    (λ k. or_elim (between 97 122 b) _ k (λ e. let r = between-true 97 122 b e in omega arith) (λ e. let r = between-true 65 90 b e in omega arith))
    (λ e. let q = eqb-true b 95 e in omega arith)

high_digit : (b : ℕ) → 58 ≤ b → digit b ≡ false
unfolding digit between
high_digit b l = rw (le-leb 48 b (omega arith), lt-leb b 57 (omega arith))

no_number : (b : ℕ) (u : List ℕ) → eqb b 45 ≡ false → digit b ≡ false → is_number (b ∷ u) ≡ false
unfolding is_number one_or_more every
no_number b u e h = rw (is_number, e, every, h)

no-radix : (x : ℕ) (p : ℕ → Bool) (b : ℕ) (u : List ℕ) → eqb b 48 ≡ false → is_prefixed x p (b ∷ u) ≡ false
unfolding is_prefixed
no-radix x p b [] e = refl
no-radix x p b (c ∷ u) e = rw (is_prefixed, e)

no-directive : (b : ℕ) (u : List ℕ) → eqb b 46 ≡ false → is_directive (b ∷ u) ≡ false
unfolding is_directive
no-directive b u e = rw (is_directive, e)

no_mark : (b : ℕ) (u : List ℕ) → mark b ≡ false → is_mark (b ∷ u) ≡ false
unfolding is_mark
no_mark b [] e = e
no_mark b (c ∷ u) e = refl

no-identifier : (b : ℕ) (u : List ℕ) → name_start b ≡ false → is_identifier (b ∷ u) ≡ false
unfolding is_identifier
no-identifier b u e = rw (is_identifier, e)

mark_is : (b : ℕ) → (b ≡ 44 → ⊥) → (b ≡ 58 → ⊥) → (b ≡ 40 → ⊥) → (b ≡ 41 → ⊥) → mark b ≡ false
unfolding mark
mark_is b f g h k = rw (ne_eqb b 44 f, ne_eqb b 58 g, ne_eqb b 40 h, ne_eqb b 41 k)

zero-digit : digit 48 ≡ true
unfolding digit between
zero-digit = refl

-- ---- the class of a string, by the tests

module _ (names : List Name) (ok : each (λ n. is_identifier n.spelling) names ≡ true) where
  -- a Register is spelled like an Identifier
  pub register-identifier : (s : List ℕ) → is_register names s ≡ true → is_identifier s ≡ true
  unfolding is_register named is_some
  register-identifier s h = go (find (λ n. same n.spelling s) names) refl h
    where
      go : (o : Option Name) → find (λ n. same n.spelling s) names ≡ o → is_some o ≡ true → is_identifier s ≡ true
      go none e g = absurd (true≢false (sym g))
      go (some n) e g =
          let (p, q) = found (λ m. same m.spelling s) (λ m. is_identifier m.spelling) names n e ok in
          rw (same-eq n.spelling s p) at q

  no_register : (s : List ℕ) → is_identifier s ≡ false → is_register names s ≡ false
  no_register s h = not-true (is_register names s) (λ e. no_both (register-identifier s e) h)

  number-class : (s : List ℕ) → is_identifier s ≡ false → is_number s ≡ true → class_of names s ≡ some Number
  unfolding class_of classes find is_in
  number-class s h i = rw (find, no_register s h, find, h, find, i)

  no-class-of : (s : List ℕ) → is_identifier s ≡ false → is_number s ≡ false → is_hex s ≡ false → is_binary s ≡ false
      → is_directive s ≡ false → is_mark s ≡ false → class_of names s ≡ none
  unfolding class_of classes find is_in
  no-class-of s i n x y d m = rw (find, no_register s i, find, i, find, n, find, x, find, y, find, d, find, m)

  hex-class : (s : List ℕ) → is_identifier s ≡ false → is_number s ≡ false → is_hex s ≡ true → class_of names s ≡ some Hex
  unfolding class_of classes find is_in
  hex-class s i n x = rw (find, no_register s i, find, i, find, n, find, x)

  binary-class : (s : List ℕ) → is_identifier s ≡ false → is_number s ≡ false → is_hex s ≡ false → is_binary s ≡ true → class_of names s ≡ some Binary
  unfolding class_of classes find is_in
  binary-class s i n x y = rw (find, no_register s i, find, i, find, n, find, x, find, y)

  directive-class : (s : List ℕ) → is_identifier s ≡ false → is_number s ≡ false → is_hex s ≡ false → is_binary s ≡ false
      → is_directive s ≡ true → class_of names s ≡ some Directive
  unfolding class_of classes find is_in
  directive-class s i n x y d = rw (find, no_register s i, find, i, find, n, find, x, find, y, find, d)

  mark-class : (s : List ℕ) → is_identifier s ≡ false → is_number s ≡ false → is_hex s ≡ false → is_binary s ≡ false
      → is_directive s ≡ false → is_mark s ≡ true → class_of names s ≡ some Mark
  unfolding class_of classes find is_in
  mark-class s i n x y d m = rw (find, no_register s i, find, i, find, n, find, x, find, y, find, d, find, m)

  -- ---- a word

  start-yes : (b : ℕ) (u : List ℕ) → name_start b ≡ true → every name_part u ≡ true → class_of names (b ∷ u) ≡ some (word_class (is_register names (b ∷ u)))
  unfolding class_of classes find is_in is_identifier word_class
  start-yes b u hb hu = by-test (is_register names (b ∷ u)) (λ e. rw (find, e, word_class)) (λ e. rw (find, e, find, is_identifier, hb, hu))

  start-no : (b : ℕ) (u : List ℕ) → name_start b ≡ true → every name_part u ≡ false → class_of names (b ∷ u) ≡ none
  unfolding is_identifier
  start-no b u hb hu =
      let l = start-from b hb in
      no-class-of (b ∷ u) (rw (is_identifier, hb, hu)) (no_number b u (ne_eqb b 45 (λ e. omega arith)) (high_digit b (omega arith)))
      (no-radix 120 hex_digit b u (ne_eqb b 48 (λ e. omega arith))) (no-radix 98 binary_digit b u (ne_eqb b 48 (λ e. omega arith)))
      (no-directive b u (ne_eqb b 46 (λ e. omega arith)))
      (no_mark b u (mark_is b (λ e. omega arith) (λ e. omega arith) (λ e. omega arith) (λ e. omega arith)))

  word-scan : (b : ℕ) (t : List ℕ) → name_start b ≡ true
      → longest names (b ∷ t) (length (b ∷ t)) ≡ some (matching (suc (run name_part t)) (word_class (is_register names (b ∷ before name_part t))))
  word-scan b t h =
      longest-is names b t (run name_part t) _ (run-le name_part t)
      (rw (take-run name_part t) (start-yes b (before name_part t) h (every-run name_part t)))
      (λ j g l. start-no b (take j t) h (past-run name_part t j g l))

  -- ---- digits, with no 0x or 0b

  number_of : (b : ℕ) (u : List ℕ) → digit b ≡ true → is_number (b ∷ u) ≡ every digit u
  unfolding is_number one_or_more every
  number_of b u h = let l = digit-from b h in rw (is_number, ne_eqb b 45 (λ e. omega arith), every, h)

  -- what else is false of a string that begins with a digit
  digit-facts : (b : ℕ) (u : List ℕ) → digit b ≡ true → (is_identifier (b ∷ u) ≡ false) × (is_directive (b ∷ u) ≡ false) × (is_mark (b ∷ u) ≡ false)
  unfolding digit
  digit-facts b u h =
      let r = between-true 48 57 b h in (
        no-identifier b u (digit-not-start b h),
        no-directive b u (ne_eqb b 46 (λ e. omega arith)),
        no_mark b u (mark_is b (λ e. omega arith) (λ e. omega arith) (λ e. omega arith) (λ e. omega arith)),
      )

  decimal-scan : (b : ℕ) (t : List ℕ) → digit b ≡ true
      → ((j : ℕ) → (is_hex (b ∷ take j t) ≡ false) × (is_binary (b ∷ take j t) ≡ false))
      → longest names (b ∷ t) (length (b ∷ t)) ≡ some (matching (suc (run digit t)) Number)
  decimal-scan b t h f =
      longest-is names b t (run digit t) Number (run-le digit t)
      (rw (take-run digit t) (number-class _ (digit-facts b (before digit t) h).0 (number_of b (before digit t) h ∙ every-run digit t)))
      (λ j g l. let d = digit-facts b (take j t) h in
      no-class-of (b ∷ take j t) d.0 (number_of b (take j t) h ∙ past-run digit t j g l) (f j).0 (f j).1 d.1 d.2)

  -- ---- 0x and 0b

  some-false : (p : ℕ → Bool) (s : List ℕ) → every p s ≡ false → one_or_more p s ≡ false
  unfolding one_or_more
  some-false p [] e = refl
  some-false p (b ∷ s) e = e

  radix-eq : (x : ℕ) (p : ℕ → Bool) (b y : ℕ) (u : List ℕ) → eqb b 48 ≡ true → eqb y x ≡ true → is_prefixed x p (b ∷ y ∷ u) ≡ one_or_more p u
  unfolding is_prefixed
  radix-eq x p b y u e f = rw (is_prefixed, e, f)

  some-take : (p : ℕ → Bool) (h : List ℕ) (j : ℕ) → run p h < j → j ≤ length h → one_or_more p (take j h) ≡ false
  some-take p h j g l = some-false p (take j h) (past-run p h j g l)

  some-none : (p : ℕ → Bool) (h : List ℕ) (j : ℕ) → run p h ≡ 0 → j ≤ length h → one_or_more p (take j h) ≡ false
  unfolding one_or_more
  some-none p h zero e l = refl
  some-none p h (suc j) e l = some-take p h (suc j) (omega arith) l

  some-run : (p : ℕ → Bool) (h : List ℕ) (n : ℕ) → run p h ≡ suc n → one_or_more p (take (run p h) h) ≡ true
  unfolding one_or_more run
  some-run p h n e = rw (take-run p h) (nonempty (before p h) e (every-run p h))
    where
      nonempty : (s : List ℕ) → length s ≡ suc n → every p s ≡ true → one_or_more p s ≡ true
      nonempty [] k g = absurd (omega arith)
      nonempty (b ∷ s) k g = g

  radix-scan : (x : ℕ) (p : ℕ → Bool) (c : Class) (b y : ℕ) (h : List ℕ) → eqb b 48 ≡ true → eqb y x ≡ true
      → class_of names (b ∷ []) ≡ some Number
      → ((u : List ℕ) → is_prefixed x p (b ∷ y ∷ u) ≡ true → class_of names (b ∷ y ∷ u) ≡ some c)
      → ((u : List ℕ) → is_prefixed x p (b ∷ y ∷ u) ≡ false → class_of names (b ∷ y ∷ u) ≡ none)
      → longest names (b ∷ y ∷ h) (length (b ∷ y ∷ h)) ≡ some (radix_or c (run p h))
  unfolding radix_or
  radix-scan x p c b y h eb ey one yes' no' = go (run p h) refl
    where
      none-past : (j : ℕ) → j ≤ length h → one_or_more p (take j h) ≡ false → class_of names (b ∷ take (suc j) (y ∷ h)) ≡ none
      none-past j l e = no' (take j h) (radix-eq x p b y (take j h) eb ey ∙ e)

      by-pred : (Q : ℕ → Type 0) (m : ℕ) → ((j : ℕ) → m ≤ j → j ≤ length h → Q (suc j)) → (j : ℕ) → m < j → j ≤ suc (length h) → Q j
      by-pred Q m f zero g l = absurd (omega arith)
      by-pred Q m f (suc j) g l = f j (omega arith) (omega arith)

      go : (k : ℕ) → run p h ≡ k → longest names (b ∷ y ∷ h) (length (b ∷ y ∷ h)) ≡ some (radix_or c k)
      go zero e = longest-is names b (y ∷ h) 0 Number (omega arith) one (by-pred (λ j. class_of names (b ∷ take j (y ∷ h)) ≡ none) 0 (λ j g l. none-past j l (some-none p h j e l)))
      go (suc n) e =
          let r = run-le p h in
          longest-is names b (y ∷ h) (suc (suc n)) c (omega arith)
          (subst (λ (k : ℕ). class_of names (b ∷ take (suc k) (y ∷ h)) ≡ some c) e (yes' (take (run p h) h) (radix-eq x p b y (take (run p h) h) eb ey ∙ some-run p h n e)))
          (by-pred (λ j. class_of names (b ∷ take j (y ∷ h)) ≡ none) (suc (suc n)) (λ j g l. none-past j l (some-take p h j (omega arith) l)))

  no-radix-second : (x : ℕ) (p : ℕ → Bool) (b y : ℕ) (u : List ℕ) → eqb y x ≡ false → is_prefixed x p (b ∷ y ∷ u) ≡ false
  unfolding is_prefixed
  no-radix-second x p b y u e = by-test (eqb b 48) (λ k. rw (is_prefixed, k, e)) (λ k. rw (is_prefixed, k))

  -- a second byte that is no digit
  not-decimal : (b y : ℕ) (u : List ℕ) → digit b ≡ true → digit y ≡ false → is_number (b ∷ y ∷ u) ≡ false
  unfolding every
  not-decimal b y u hb hy = number_of b (y ∷ u) hb ∙ rw (every, hy)

  one-digit : (b : ℕ) → digit b ≡ true → class_of names (b ∷ []) ≡ some Number
  unfolding every
  one-digit b h = number-class (b ∷ []) (digit-facts b [] h).0 (number_of b [] h)

  letter-eqs : (y x z : ℕ) → eqb y x ≡ true → 58 ≤ x → (x ≡ z → ⊥) → (digit y ≡ false) × (eqb y z ≡ false)
  letter-eqs y x z e l f = let q = eqb-true y x e in (high_digit y (omega arith), ne_eqb y z (λ k. f (sym q ∙ k)))

  digit-scan : (b : ℕ) (t : List ℕ) → digit b ≡ true → longest names (b ∷ t) (length (b ∷ t)) ≡ some (digit_scan b t)
  unfolding digit_scan run before is_prefixed
  digit-scan b [] hb = decimal-scan b [] hb (λ j. (none-at j 120 hex_digit, none-at j 98 binary_digit))
    where
      none-at : (j x : ℕ) (p : ℕ → Bool) → is_prefixed x p (b ∷ take j []) ≡ false
      none-at zero x p = refl
      none-at (suc j) x p = refl
  digit-scan b (y ∷ h) hb =
      by-test (eqb b 48)
      (λ eb. by-test (eqb y 120)
      (λ ey. let q = letter-eqs y 120 98 ey (omega arith) (λ k. omega arith) in
      rw (digit_scan, eb, ey) (radix-scan 120 hex_digit Hex b y h eb ey (one-digit b hb)
      (λ u r. hex-class (b ∷ y ∷ u) (digit-facts b (y ∷ u) hb).0 (not-decimal b y u hb q.0) r)
      (λ u r. let d = digit-facts b (y ∷ u) hb in
      no-class-of (b ∷ y ∷ u) d.0 (not-decimal b y u hb q.0) r (no-radix-second 98 binary_digit b y u q.1) d.1 d.2)))
      (λ ny. by-test (eqb y 98)
      (λ ey. let q = letter-eqs y 98 120 ey (omega arith) (λ k. omega arith) in
      rw (digit_scan, eb, ny, ey) (radix-scan 98 binary_digit Binary b y h eb ey (one-digit b hb)
      (λ u r. binary-class (b ∷ y ∷ u) (digit-facts b (y ∷ u) hb).0 (not-decimal b y u hb q.0) (no-radix-second 120 hex_digit b y u ny) r)
      (λ u r. let d = digit-facts b (y ∷ u) hb in
      no-class-of (b ∷ y ∷ u) d.0 (not-decimal b y u hb q.0) (no-radix-second 120 hex_digit b y u ny) r d.1 d.2)))
      (λ my. rw (digit_scan, eb, ny, my) (decimal-scan b (y ∷ h) hb (λ j. (second j 120 hex_digit ny, second j 98 binary_digit my))))))
      (λ nb. rw (digit_scan, nb) (decimal-scan b (y ∷ h) hb (λ j. (no-radix 120 hex_digit b (take j (y ∷ h)) nb, no-radix 98 binary_digit b (take j (y ∷ h)) nb))))
    where
      second : (j x : ℕ) (p : ℕ → Bool) → eqb y x ≡ false → is_prefixed x p (b ∷ take j (y ∷ h)) ≡ false
      second zero x p e = refl
      second (suc j) x p e = no-radix-second x p b y (take j h) e

  -- ---- the other first bytes

  -- what is false of a string whose first byte begins neither a word nor a number
  other-facts : (b : ℕ) (u : List ℕ) → name_start b ≡ false → digit b ≡ false → eqb b 45 ≡ false
      → (is_identifier (b ∷ u) ≡ false) × (is_number (b ∷ u) ≡ false) × (is_hex (b ∷ u) ≡ false) × (is_binary (b ∷ u) ≡ false)
  other-facts b u hs hd hm =
      let z : eqb b 48 ≡ false = not-true (eqb b 48) (λ e. true≢false (sym zero-digit ∙ ap digit (sym (eqb-true b 48 e)) ∙ hd)) in
      (no-identifier b u hs, no_number b u hm hd, no-radix 120 hex_digit b u z, no-radix 98 binary_digit b u z)

  minus-scan : (t : List ℕ) → longest names (45 ∷ t) (length (45 ∷ t)) ≡ at_least_one Number (run digit t)
  unfolding at_least_one is_number mark name_start letter between
  minus-scan t = go (run digit t) refl
    where
      yes' : (u : List ℕ) → one_or_more digit u ≡ true → class_of names (45 ∷ u) ≡ some Number
      yes' u e = number-class (45 ∷ u) (no-identifier 45 u refl) e

      no' : (u : List ℕ) → one_or_more digit u ≡ false → class_of names (45 ∷ u) ≡ none
      no' u e = no-class-of (45 ∷ u) (no-identifier 45 u refl) e (no-radix 120 hex_digit 45 u refl) (no-radix 98 binary_digit 45 u refl) (no-directive 45 u refl) (no_mark 45 u refl)

      go : (k : ℕ) → run digit t ≡ k → longest names (45 ∷ t) (length (45 ∷ t)) ≡ at_least_one Number k
      go zero e = longest-none names 45 t (λ j l. no' (take j t) (some-none digit t j e l))
      go (suc n) e =
          longest-is names 45 t (suc n) Number (omega (arith, run-le digit t))
          (subst (λ (k : ℕ). class_of names (45 ∷ take k t) ≡ some Number) e (yes' (take (run digit t) t) (some-run digit t n e)))
          (λ j g l. no' (take j t) (some-take digit t j (omega arith) l))

  dot-yes : (u : List ℕ) → is_identifier u ≡ true → class_of names (46 ∷ u) ≡ some Directive
  unfolding is_directive name_start letter between digit
  dot-yes u e = directive-class (46 ∷ u) (no-identifier 46 u refl) (no_number 46 u refl refl) (no-radix 120 hex_digit 46 u refl) (no-radix 98 binary_digit 46 u refl) e

  dot-no : (u : List ℕ) → is_identifier u ≡ false → class_of names (46 ∷ u) ≡ none
  unfolding is_directive name_start letter between digit mark
  dot-no u e = no-class-of (46 ∷ u) (no-identifier 46 u refl) (no_number 46 u refl refl) (no-radix 120 hex_digit 46 u refl) (no-radix 98 binary_digit 46 u refl) e (no_mark 46 u refl)

  dot-scan : (t : List ℕ) → longest names (46 ∷ t) (length (46 ∷ t)) ≡ dot_scan t
  unfolding dot_scan is_identifier
  dot-scan [] = longest-none names 46 [] (λ j l. empty j)
    where
      empty : (j : ℕ) → class_of names (46 ∷ take j []) ≡ none
      empty zero = dot-no [] refl
      empty (suc j) = dot-no [] refl
  dot-scan (c ∷ s) =
      by-test (name_start c)
      (λ e. rw (dot_scan, e) (longest-is names 46 (c ∷ s) (suc (run name_part s)) Directive (omega (arith, run-le name_part s))
      (rw (take-run name_part s) (dot-yes (c ∷ before name_part s) (rw (is_identifier, e) (every-run name_part s))))
      (past e)))
      (λ e. rw (dot_scan, e) (longest-none names 46 (c ∷ s) (λ j l. nothing e j)))
    where
      past : name_start c ≡ true → (j : ℕ) → suc (run name_part s) < j → j ≤ suc (length s) → class_of names (46 ∷ take j (c ∷ s)) ≡ none
      past e zero g l = absurd (omega arith)
      past e (suc j) g l = dot-no (c ∷ take j s) (rw (is_identifier, e) (past-run name_part s j (omega arith) (omega arith)))

      nothing : name_start c ≡ false → (j : ℕ) → class_of names (46 ∷ take j (c ∷ s)) ≡ none
      nothing e zero = dot-no [] refl
      nothing e (suc j) = dot-no (c ∷ take j s) (no-identifier c (take j s) e)

  mark-scan : (b : ℕ) (t : List ℕ) → name_start b ≡ false → digit b ≡ false → eqb b 45 ≡ false → eqb b 46 ≡ false → mark b ≡ true
      → longest names (b ∷ t) (length (b ∷ t)) ≡ some (matching 1 Mark)
  unfolding is_mark
  mark-scan b t hs hd hm hp hk =
      let f = other-facts b [] hs hd hm in
      longest-is names b t 0 Mark (omega arith) (mark-class (b ∷ []) f.0 f.1 f.2 f.3 (no-directive b [] hp) hk)
      (λ j g l. let k = other-facts b (take j t) hs hd hm in
      no-class-of (b ∷ take j t) k.0 k.1 k.2 k.3 (no-directive b (take j t) hp) (two t j g l))
    where
      two : (t : List ℕ) (j : ℕ) → 0 < j → j ≤ length t → is_mark (b ∷ take j t) ≡ false
      two t zero g l = absurd (omega arith)
      two [] (suc j) g l = absurd (omega arith)
      two (c ∷ t) (suc j) g l = refl

  -- the scan finds the longest match
  pub longest-scan : (s : List ℕ) → longest names s (length s) ≡ scan names s
  unfolding longest scan
  longest-scan [] = refl
  longest-scan (b ∷ t) =
      by-test (name_start b) (λ e. rw (scan, e) (word-scan b t e))
      (λ n. by-test (digit b) (λ e. rw (scan, n, e) (digit-scan b t e))
      (λ d. by-test (eqb b 45) (λ e. rw (scan, n, d, e) (let q = eqb-true b 45 e in rw q (minus-scan t)))
      (λ m. by-test (eqb b 46) (λ e. rw (scan, n, d, m, e) (let q = eqb-true b 46 e in rw q (dot-scan t)))
      (λ p. by-test (mark b) (λ e. rw (scan, n, d, m, p, e) (mark-scan b t n d m p e))
      (λ e. rw (scan, n, d, m, p, e) (longest-none names b t (λ j l. let k = other-facts b (take j t) n d m in
      no-class-of (b ∷ take j t) k.0 k.1 k.2 k.3 (no-directive b (take j t) p) (no_mark b (take j t) e))))))))
