-- What is left to read of a line, from a place on: laws of blanks, of tokens, of the end, and of the line's beginning.
use mathlib.Core.Path.{◌≡◌, refl, sym, ap, ap₂, ◌∙◌}
use Prim.Native.Nat.{ℕ, zero, suc, ◌+◌, ◌-◌, ◌≤◌, ◌<◌}
use native.Mathlib.Omega.{arith}
use mathlib.Core.Bool.{Bool, true, false, not, ◌||◌, true≢false, and-eq-true_iff}
use mathlib.Core.Logic.{◌⊎◌, inl, inr}
use mathlib.Core.Option.{Option, none, some}
use mathlib.Core.List.{List, [], ◌∷◌, ◌++◌}
use lib.ListN.{length, take, drop, get_or, length-drop, take-append-drop, drop_of_length-le}
use lib.Seq.{take-take, drop-cons, drop-drop, get_or-drop}
use lib.Dec.{eqb}
use borrow.Author.Tests.{eqb-true, ne_eqb, le-leb, lt-leb}
use Rattle.text_lexical.specs.Bytes.{between, digit, hex_digit, binary_digit, blank, edge, mark, name_start, name_part, every, one_or_more, before, after, find, each, run, inside, margin}
use Rattle.text_lexical.specs.Names.{Name}
use Rattle.text_lexical.proofs.Tests.{by-test, not-true, no_both, or_elim, both, between-true, split}
use Rattle.text_lexical.proofs.Strings.{every-head, every-tail, every-cons, every-mono, every_take, every-run, take-run, run-le, past-run, run-stop, run_past}
use Rattle.text.specs.Tokens.{is_identifier, is_number, is_prefixed, is_directive, is_mark, Class, Register, Identifier, Number, Hex, Binary, Directive, Mark, is_in, classes, class_of, Match, longest, Token, Sized, sized, matched, front, infront, tokens, token_of}
use Rattle.text.specs.Lines.{kept_byte, trim_end, trim, cut, content, indent}
use Rattle.text.specs.Places.{rest_at, left_at, end_at, Uncut}
use Rattle.text.proofs.Scanning.{longest-down, register-identifier, start-from, digit-from}
use Rattle.text.proofs.Tokens.{tokens-nil, tokens-blank, tokens-front, tokens-bad}

-- ---- bytes that stand in tokens

-- A byte that neither ends nor pads a line, and begins no comment.
unfoldable pub solid : ℕ → Bool
solid b = not (edge b || eqb b 35)

pub high-solid : (b : ℕ) → 36 ≤ b → solid b ≡ true
unfolding solid edge between
high-solid b l = rw (le-leb 9 b (omega arith), lt-leb b 13 (omega arith), ne_eqb b 32 (λ e. omega arith), ne_eqb b 35 (λ e. omega arith))

start-high : (b : ℕ) → name_start b ≡ true → 36 ≤ b
start-high b h = omega (arith, start-from b h)

digit-high : (b : ℕ) → digit b ≡ true → 36 ≤ b
digit-high b h = omega (arith, digit-from b h)

part-high : (b : ℕ) → name_part b ≡ true → 36 ≤ b
unfolding name_part
part-high b h = or_elim (name_start b) _ h (start-high b) (digit-high b)

hex-high : (b : ℕ) → hex_digit b ≡ true → 36 ≤ b
unfolding hex_digit
hex-high b h =
    or_elim (digit b) _ h (digit-high b)
    (λ k. or_elim (between 97 102 b) _ k (λ e. let r = between-true 97 102 b e in omega arith) (λ e. let r = between-true 65 70 b e in omega arith))

binary-high : (b : ℕ) → binary_digit b ≡ true → 36 ≤ b
unfolding binary_digit
binary-high b h = let r = between-true 48 49 b h in omega arith

mark-high : (b : ℕ) → mark b ≡ true → 36 ≤ b
unfolding mark
mark-high b h =
    or_elim (eqb b 44) _ h (λ e. let q = eqb-true b 44 e in omega arith)
    (λ k. or_elim (eqb b 58) _ k (λ e. let q = eqb-true b 58 e in omega arith)
    (λ m. or_elim (eqb b 40) _ m (λ e. let q = eqb-true b 40 e in omega arith) (λ e. let q = eqb-true b 41 e in omega arith)))

pub start-solid : (b : ℕ) → name_start b ≡ true → solid b ≡ true
start-solid b h = high-solid b (start-high b h)

pub digit-solid : (b : ℕ) → digit b ≡ true → solid b ≡ true
digit-solid b h = high-solid b (digit-high b h)

pub mark-solid : (b : ℕ) → mark b ≡ true → solid b ≡ true
mark-solid b h = high-solid b (mark-high b h)

class-solid : (p : ℕ → Bool) → ((b : ℕ) → p b ≡ true → 36 ≤ b) → (s : List ℕ) → every p s ≡ true → every solid s ≡ true
class-solid p f s h = every-mono p solid (λ b e. high-solid b (f b e)) s h

one-solid : (p : ℕ → Bool) → ((b : ℕ) → p b ≡ true → 36 ≤ b) → (s : List ℕ) → one_or_more p s ≡ true → every solid s ≡ true
unfolding one_or_more
one-solid p f [] h = absurd (true≢false (sym h))
one-solid p f (b ∷ s) h = class-solid p f (b ∷ s) h

identifier-solid : (s : List ℕ) → is_identifier s ≡ true → every solid s ≡ true
unfolding is_identifier
identifier-solid [] h = absurd (true≢false (sym h))
identifier-solid (b ∷ s) h =
    let (hb, hs) = both (name_start b) (every name_part s) h in
    every-cons solid b s (high-solid b (start-high b hb)) (class-solid name_part part-high s hs)

number-solid : (s : List ℕ) → is_number s ≡ true → every solid s ≡ true
unfolding is_number
number-solid [] h = absurd (true≢false (sym h))
number-solid (b ∷ s) h =
    by-test (eqb b 45)
    (λ e. let q = eqb-true b 45 e in every-cons solid b s (high-solid b (omega arith)) (one-solid digit digit-high s (rw (is_number, e) at h)))
    (λ e. one-solid digit digit-high (b ∷ s) (rw (is_number, e) at h))

prefixed-solid : (x : ℕ) (p : ℕ → Bool) → 36 ≤ x → ((b : ℕ) → p b ≡ true → 36 ≤ b) → (s : List ℕ) → is_prefixed x p s ≡ true → every solid s ≡ true
unfolding is_prefixed
prefixed-solid x p l f [] h = absurd (true≢false (sym h))
prefixed-solid x p l f (a ∷ []) h = absurd (true≢false (sym h))
prefixed-solid x p l f (a ∷ b ∷ s) h =
    let (ha, k) = both (eqb a 48) _ h in
    let (hb, hs) = both (eqb b x) (one_or_more p s) k in
    let ea = eqb-true a 48 ha in
    let eb = eqb-true b x hb in
    every-cons solid a (b ∷ s) (high-solid a (omega arith)) (every-cons solid b s (high-solid b (omega arith)) (one-solid p f s hs))

directive-solid : (s : List ℕ) → is_directive s ≡ true → every solid s ≡ true
unfolding is_directive
directive-solid [] h = absurd (true≢false (sym h))
directive-solid (b ∷ s) h =
    let (hb, hs) = both (eqb b 46) (is_identifier s) h in
    let e = eqb-true b 46 hb in
    every-cons solid b s (high-solid b (omega arith)) (identifier-solid s hs)

marks-solid : (s : List ℕ) → is_mark s ≡ true → every solid s ≡ true
unfolding is_mark every
marks-solid [] h = absurd (true≢false (sym h))
marks-solid (b ∷ []) h = every-cons solid b [] (high-solid b (mark-high b h)) refl
marks-solid (b ∷ c ∷ s) h = absurd (true≢false (sym h))

-- the match of k + 1 bytes, if they are in a class, or another
picked : ℕ → Option Class → Option Match → Option Match
picked k (some c) m = some (record { size = suc k; class = c })
picked k none m = m

longest-suc : (names : List Name) (s : List ℕ) (k : ℕ) → longest names s (suc k) ≡ picked k (class_of names (take (suc k) s)) (longest names s k)
unfolding longest picked
longest-suc names s k = go (class_of names (take (suc k) s))
  where
    go : (o : Option Class) → ◌≡◌ {A = Option Match} (elim o [ some c ↦ some (record { size = suc k; class = c }) | none ↦ longest names s k ]) (picked k o (longest names s k))
    go (some c) = refl
    go none = refl

-- a match takes no more bytes than there are
unfoldable pub Within : ℕ → Option Match → Type 0
Within n none = Unit {0}
Within n (some m) = (0 < m.size) × (m.size ≤ n)

pub longest-within : (names : List Name) (s : List ℕ) (k : ℕ) → Within k (longest names s k)
unfolding Within picked longest
longest-within names s zero = tt
longest-within names s (suc k) = rw (longest-suc names s k) (go (class_of names (take (suc k) s)) (longest names s k) (longest-within names s k))
  where
    go : (o : Option Class) (m : Option Match) → Within k m → Within (suc k) (picked k o m)
    go (some c) m w = (omega arith, omega arith)
    go none none w = tt
    go none (some m) w = (w.0, omega (arith, w.1))

module _ (names : List Name) (ok : each (λ n. is_identifier n.spelling) names ≡ true) where
  -- every byte of a token is solid
  class-bytes : (c : Class) (s : List ℕ) → is_in names c s ≡ true → every solid s ≡ true
  unfolding is_in
  class-bytes Register s h = identifier-solid s (register-identifier names ok s h)
  class-bytes Identifier s h = identifier-solid s h
  class-bytes Number s h = number-solid s h
  class-bytes Hex s h = prefixed-solid 120 hex_digit (omega arith) hex-high s h
  class-bytes Binary s h = prefixed-solid 98 binary_digit (omega arith) binary-high s h
  class-bytes Directive s h = directive-solid s h
  class-bytes Mark s h = marks-solid s h

  no-class : (s : List ℕ) → every solid s ≡ false → class_of names s ≡ none
  unfolding class_of classes find
  no-class s h = rw (find, no Register, find, no Identifier, find, no Number, find, no Hex, find, no Binary, find, no Directive, find, no Mark)
    where
      no : (c : Class) → is_in names c s ≡ false
      no c = not-true (is_in names c s) (λ e. no_both (class-bytes c s e) h)

  -- the longest match lies in the solid bytes in front
  longest-solid : (s : List ℕ) → longest names s (length s) ≡ longest names (before solid s) (length (before solid s))
  unfolding run longest
  longest-solid s =
      let n = run-le solid s in
      let e : length s ≡ run solid s + (length s - run solid s) = omega arith in
      ap (longest names s) e
      ∙ longest-down names s (run solid s) (length s - run solid s) (λ i l. no-class (take (suc (run solid s + i)) s) (past-run solid s (suc (run solid s + i)) (omega arith) (omega arith)))
      ∙ same-front (run solid s) (omega arith)
    where
      same-front : (k : ℕ) → k ≤ run solid s → longest names s k ≡ longest names (before solid s) k
      same-front zero h = refl
      same-front (suc k) h =
          let e : take (suc k) s ≡ take (suc k) (before solid s) = sym (take-take (suc k) (run solid s) s h) ∙ ap (take (suc k)) (take-run solid s) in
          longest-suc names s k ∙ ap₂ (picked k) (ap (class_of names) e) (same-front k (omega arith)) ∙ sym (longest-suc names (before solid s) k)

  -- so what a text begins with is told by the solid bytes in front
  front-solid : (s : List ℕ) → front names s ≡ front names (before solid s)
  unfolding front matched Within run
  front-solid s = ap (matched names s) (longest-solid s) ∙ same-token (longest names u (length u)) (longest-within names u (length u))
    where
      u : List ℕ
      u = before solid s

      same-token : (m : Option Match) → Within (length u) m → matched names s m ≡ matched names u m
      same-token none w = refl
      same-token (some m) w =
          ap (λ (x : List ℕ). sized m.size (token_of names m.class x))
          (sym (take-take m.size (run solid s) s w.1) ∙ ap (take m.size) (take-run solid s))

  -- a token found takes a byte at least, and only solid ones
  front-within : (s : List ℕ) (t : Token) (n : ℕ) → front names s ≡ some (record { token = t; size = n }) → (0 < n) × (n ≤ run solid s)
  unfolding front Within run sized matched
  front-within s t n h = go (longest names u (length u)) (longest-within names u (length u)) (sym (front-solid s) ∙ h)
    where
      u : List ℕ
      u = before solid s

      by_token : (m : Match) → Within (length u) (some m) → (o : Option Token) → sized m.size o ≡ some (record { token = t; size = n }) → (0 < n) × (n ≤ length u)
      by_token m w none g = let z : ◌≡◌ {A = ℕ} 0 1 = cc in absurd (omega arith)
      by_token m w (some x) g =
          let r : ◌≡◌ {A = Sized} (record { token = x; size = m.size }) (record { token = t; size = n }) = cc in
          rw (← ap (λ (y : Sized). y.size) r) w

      go : (m : Option Match) → Within (length u) m → matched names u m ≡ some (record { token = t; size = n }) → (0 < n) × (n ≤ length u)
      go none w g = let z : ◌≡◌ {A = ℕ} 0 1 = cc in absurd (omega arith)
      go (some m) w g = by_token m w (token_of names m.class (take m.size u)) g

-- ---- what is left of a text's first line

left : List ℕ → List ℕ
left t = trim_end (cut (before inside t))

solid-parts : (b : ℕ) → solid b ≡ true → (edge b ≡ false) × (eqb b 35 ≡ false) × (inside b ≡ true)
unfolding solid inside edge between
solid-parts b h =
    let n = not-false-or (edge b) (eqb b 35) h in
    (n.0, n.1, rw (ne_eqb b 10 (λ e. no_both (edge-ten b e) n.0)))
  where
    not-false-or : (v w : Bool) → not (v || w) ≡ true → (v ≡ false) × (w ≡ false)
    not-false-or false false h = (refl, refl)
    not-false-or true w h = absurd (true≢false (sym h))
    not-false-or false true h = absurd (true≢false (sym h))

    edge-ten : (b : ℕ) → b ≡ 10 → edge b ≡ true
    edge-ten b e = rw e

kept-plain : (b : ℕ) (t : List ℕ) → edge b ≡ false → kept_byte b t ≡ b ∷ t
unfolding kept_byte
kept-plain b [] h = rw (kept_byte, h)
kept-plain b (c ∷ t) h = refl

kept_more : (b : ℕ) (c : ℕ) (t : List ℕ) → kept_byte b (c ∷ t) ≡ b ∷ c ∷ t
unfolding kept_byte
kept_more b c t = refl

kept-nil : (b : ℕ) (t : List ℕ) → kept_byte b t ≡ [] → t ≡ []
kept-nil b [] h = refl
kept-nil b (c ∷ t) h = let z : ◌≡◌ {A = List ℕ} (b ∷ c ∷ t) [] = sym (kept_more b c t) ∙ h in let y : ◌≡◌ {A = ℕ} 0 1 = cc in absurd (omega arith)

kept-none : (b : ℕ) → edge b ≡ true → kept_byte b [] ≡ []
unfolding kept_byte
kept-none b h = rw (kept_byte, h)

-- a byte that neither ends the line nor begins a comment
left-cons : (b : ℕ) (t : List ℕ) → inside b ≡ true → eqb b 35 ≡ false → left (b ∷ t) ≡ kept_byte b (left t)
unfolding left before cut trim_end
left-cons b t hi hc = rw (before, hi, before, hc)

left-solid : (b : ℕ) (t : List ℕ) → solid b ≡ true → left (b ∷ t) ≡ b ∷ left t
left-solid b t h =
    let (he, hc, hi) = solid-parts b h in
    left-cons b t hi hc ∙ kept-plain b (left t) he

-- the line's end, or a comment
left-stop : (b : ℕ) (t : List ℕ) → (b ≡ 10) ⊎ (b ≡ 35) → left (b ∷ t) ≡ []
unfolding left before cut trim_end inside
left-stop b t (inl e) = rw e
left-stop b t (inr e) = rw e

margin-parts : (b : ℕ) → margin b ≡ true → (edge b ≡ true) × (inside b ≡ true) × (eqb b 35 ≡ false)
unfolding margin edge between
margin-parts b h =
    let (hi, he) = (and-eq-true_iff (inside b) (edge b)).0 h in
    (he, hi, ne_eqb b 35 (λ e. true≢false (sym he ∙ rw e)))

left-margin : (b : ℕ) (t : List ℕ) → margin b ≡ true → left (b ∷ t) ≡ kept_byte b (left t)
left-margin b t h = let (he, hi, hc) = margin-parts b h in left-cons b t hi hc

-- ---- solid bytes in front

left-empty : left [] ≡ []
unfolding left before cut trim_end
left-empty = refl

-- what begins a line whose first byte is not solid: nothing, or that byte
Begins : ℕ → List ℕ → Type 0
Begins b [] = Unit {0}
Begins b (c ∷ s) = c ≡ b

kept-begins : (b : ℕ) (t : List ℕ) → Begins b (kept_byte b t)
unfolding Begins kept_byte
kept-begins b (c ∷ t) = refl
kept-begins b [] = by-test (edge b) (λ e. rw (kept_byte, e) tt) (λ e. rw (kept_byte, e) refl)

left-begins : (b : ℕ) (t : List ℕ) → Begins b (left (b ∷ t))
unfolding Begins inside
left-begins b t =
    by-test (eqb b 10) (λ e. rw (left-stop b t (inl (eqb-true b 10 e))) tt)
    (λ n. by-test (eqb b 35) (λ e. rw (left-stop b t (inr (eqb-true b 35 e))) tt)
    (λ c. rw (left-cons b t (rw n) c) (kept-begins b (left t))))

begins-none : (b : ℕ) (s : List ℕ) → solid b ≡ false → Begins b s → before solid s ≡ []
unfolding Begins before
begins-none b [] h e = refl
begins-none b (c ∷ s) h e = rw (before, e, h)

left-before : (t : List ℕ) → before solid (left t) ≡ before solid t
unfolding before
left-before [] = rw left-empty
left-before (b ∷ t) =
    by-test (solid b) (λ e. ap (before solid) (left-solid b t e) ∙ rw (before, e) (ap (λ (x : List ℕ). b ∷ x) (left-before t)))
    (λ e. begins-none b (left (b ∷ t)) e (left-begins b t) ∙ rw (before, e))

left-drop : (n : ℕ) (t : List ℕ) → n ≤ run solid t → drop n (left t) ≡ left (drop n t)
unfolding run before
left-drop zero t h = refl
left-drop (suc n) [] h = absurd (omega arith)
left-drop (suc n) (b ∷ t) h =
    by-test (solid b)
    (λ e. ap (drop (suc n)) (left-solid b t e) ∙ left-drop n t (omega (arith, rw (before, e) at h)))
    (λ e. absurd (omega (arith, rw (before, e) at h)))

-- ---- blanks, and the end of a line

pub blank-margin : (b : ℕ) → blank b ≡ true → margin b ≡ true
unfolding blank margin edge between inside
blank-margin b h = or_elim (eqb b 9) _ h (λ e. rw (eqb-true b 9 e)) (λ e. rw (eqb-true b 32 e))

left-blank : (names : List Name) (b : ℕ) (t : List ℕ) → blank b ≡ true → tokens names (left (b ∷ t)) ≡ tokens names (left t)
left-blank names b t h = ap (tokens names) (left-margin b t (blank-margin b h)) ∙ go (left t)
  where
    go : (s : List ℕ) → tokens names (kept_byte b s) ≡ tokens names s
    go [] = ap (tokens names) (kept-none b (margin-parts b (blank-margin b h)).0)
    go (c ∷ s) = ap (tokens names) (kept_more b c s) ∙ tokens-blank names b (c ∷ s) h

-- Nothing stands in front, or what ends a line.
abbrev Ends : List ℕ → Type 0
Ends [] = Unit {0}
Ends (b ∷ t) = (b ≡ 10) ⊎ (b ≡ 35)

-- Only margin before the end: nothing is left.
left_ended : (m v : List ℕ) → every margin m ≡ true → Ends v → left (m ++ v) ≡ []
left_ended [] [] h e = left-empty
left_ended [] (b ∷ v) h e = left-stop b v e
left_ended (b ∷ m) v h e =
    left-margin b (m ++ v) (every-head margin b m h)
    ∙ ap (kept_byte b) (left_ended m v (every-tail margin b m h) e)
    ∙ kept-none b (margin-parts b (every-head margin b m h)).0

-- Margin before a solid byte: something is left.
left-some : (m : List ℕ) (b : ℕ) (v : List ℕ) → every margin m ≡ true → solid b ≡ true → left (m ++ b ∷ v) ≡ [] → ⊥
left-some [] b v h e q =
    let z : ◌≡◌ {A = List ℕ} (b ∷ left v) [] = sym (left-solid b v e) ∙ q in
    let y : ◌≡◌ {A = ℕ} 0 1 = cc in
    absurd (omega arith)
left-some (c ∷ m) b v h e q =
    left-some m b v (every-tail margin c m h) e (kept-nil c (left (m ++ b ∷ v)) (sym (left-margin c (m ++ b ∷ v) (every-head margin c m h)) ∙ q))

-- ---- what is read of it

-- blanks in front are passed over
left-blanks : (names : List Name) (t : List ℕ) → tokens names (left t) ≡ tokens names (left (drop (run blank t) t))
unfolding run before
left-blanks names [] = refl
left-blanks names (b ∷ t) =
    by-test (blank b) (λ e. left-blank names b t e ∙ left-blanks names t ∙ rw (before, e)) (λ e. rw (before, e))

pub edge-blank : (b : ℕ) → edge b ≡ false → blank b ≡ false
unfolding edge blank between
edge-blank b h = not-true (blank b) (λ e. no_both (or_elim (eqb b 9) _ e (λ k. rw (eqb-true b 9 k)) (λ k. rw (eqb-true b 32 k))) h)

-- A solid byte is no blank.
pub solid-plain : (b : ℕ) → solid b ≡ true → blank b ≡ false
solid-plain b h = edge-blank b (solid-parts b h).0

-- Neither blanks nor margin end a line.
pub margin-inside : (b : ℕ) → margin b ≡ true → inside b ≡ true
margin-inside b h = (margin-parts b h).1

pub blank-inside : (b : ℕ) → blank b ≡ true → inside b ≡ true
blank-inside b h = margin-inside b (blank-margin b h)

module _ (names : List Name) (ok : each (λ n. is_identifier n.spelling) names ≡ true) where
  -- what is left begins as the text does
  left-front : (t : List ℕ) → front names (left t) ≡ front names t
  left-front t = front-solid names ok (left t) ∙ ap (front names) (left-before t) ∙ sym (front-solid names ok t)

  -- a token in front, and what follows it
  left-found : (t : List ℕ) (m : Token) (n : ℕ) → front names t ≡ some (record { token = m; size = n })
      → tokens names (left t) ≡ infront m (tokens names (left (drop n t)))
  unfolding run before
  left-found [] m n h = let (p, q) = front-within names ok [] m n h in absurd (omega arith)
  left-found (b ∷ t) m zero h = let (p, q) = front-within names ok (b ∷ t) m zero h in absurd (omega arith)
  left-found (b ∷ t) m (suc n) h =
      let (p, q) = front-within names ok (b ∷ t) m (suc n) h in
      by-test (solid b)
      (λ e. let (he, hc, hi) = solid-parts b e in
      ap (tokens names) (left-solid b t e)
      ∙ tokens-front names b (left t) m n (edge-blank b he) (ap (front names) (sym (left-solid b t e)) ∙ left-front (b ∷ t) ∙ h)
      ∙ ap (λ (x : List ℕ). infront m (tokens names x)) (left-drop n t (omega (arith, rw (before, e) at q))))
      (λ e. absurd (omega (arith, rw (before, e) at q)))

-- ---- at a place of a text

left_is : (s : List ℕ) (at : ℕ) → left_at s at ≡ left (drop at s)
unfolding left_at rest_at left
left_is s at = refl

-- Blanks are passed over.
pub blanks_at : (names : List Name) (s : List ℕ) (from : ℕ) → tokens names (left_at s from) ≡ tokens names (left_at s (from + run blank (drop from s)))
blanks_at names s from =
    ap (tokens names) (left_is s from) ∙ left-blanks names (drop from s)
    ∙ ap (λ (x : List ℕ). tokens names (left x)) (drop-drop (run blank (drop from s)) from s) ∙ ap (tokens names) (sym (left_is s (from + run blank (drop from s))))

-- What is left begins as the text does from there on.
pub front_at : (names : List Name) → each (λ n. is_identifier n.spelling) names ≡ true → (s : List ℕ) (at : ℕ) → front names (left_at s at) ≡ front names (drop at s)
front_at names ok s at = ap (front names) (left_is s at) ∙ left-front names ok (drop at s)

-- If anything is left, the byte at the place is.
pub left-byte : (s : List ℕ) (at b : ℕ) (l : List ℕ) → left_at s at ≡ b ∷ l → (at < length s) × (b ≡ get_or s at 0)
unfolding Begins
left-byte s at b l e =
    split at (length s)
    (λ h. let q : left (get_or s at 0 ∷ drop (suc at) s) ≡ b ∷ l = ap left (sym (drop-cons s at 0 h)) ∙ sym (left_is s at) ∙ e in
    (h, rw q at (left-begins (get_or s at 0) (drop (suc at) s))))
    (λ h. let q : ◌≡◌ {A = List ℕ} [] (b ∷ l) = sym left-empty ∙ ap left (sym (drop_of_length-le s h)) ∙ sym (left_is s at) ∙ e in
    let z : ◌≡◌ {A = ℕ} 0 1 = cc in absurd (omega arith))

-- A solid byte is left.
pub solid-left : (s : List ℕ) (at : ℕ) → at < length s → solid (get_or s at 0) ≡ true → left_at s at ≡ [] → ⊥
solid-left s at l h e =
    let q : ◌≡◌ {A = List ℕ} (get_or s at 0 ∷ left (drop (suc at) s)) [] = sym (left-solid (get_or s at 0) (drop (suc at) s) h) ∙ ap left (sym (drop-cons s at 0 l)) ∙ sym (left_is s at) ∙ e in
    let z : ◌≡◌ {A = ℕ} 0 1 = cc in
    absurd (omega arith)

-- A token found is in front of what is read behind it.
pub found-at : (names : List Name) → each (λ n. is_identifier n.spelling) names ≡ true → (s : List ℕ) (at : ℕ) (m : Token) (n : ℕ)
    → front names (drop at s) ≡ some (record { token = m; size = n }) → tokens names (left_at s at) ≡ infront m (tokens names (left_at s (at + n)))
found-at names ok s at m n h =
    ap (tokens names) (left_is s at) ∙ left-found names ok (drop at s) m n h
    ∙ ap (λ (x : List ℕ). infront m (tokens names (left x))) (drop-drop n at s) ∙ ap (λ (x : List ℕ). infront m (tokens names x)) (sym (left_is s (at + n)))

-- A token takes a byte at least, and none that ends a line.
pub found-solid : (names : List Name) → each (λ n. is_identifier n.spelling) names ≡ true → (s : List ℕ) (m : Token) (n : ℕ)
    → front names s ≡ some (record { token = m; size = n }) → (0 < n) × (n ≤ length s) × (every inside (take n s) ≡ true)
found-solid names ok s m n h =
    let (p, q) = front-within names ok s m n h in
    (p, omega (arith, run-le solid s), every-mono solid inside (λ b e. (solid-parts b e).2) (take n s) (solid-take n s q))
  where
    solid-take : (n : ℕ) (s : List ℕ) → n ≤ run solid s → every solid (take n s) ≡ true
    solid-take n s q = rw (sym (take-take n (run solid s) s q) ∙ ap (take n) (take-run solid s)) (every_take solid n (before solid s) (every-run solid s))

-- ---- where no comment begins

pub run-held : (p : ℕ → Bool) (s : List ℕ) (i : ℕ) → i < run p s → p (get_or s i 0) ≡ true
unfolding run before
run-held p [] i h = absurd (omega arith)
run-held p (b ∷ s) zero h = by-test (p b) (λ e. e) (λ e. absurd (omega (arith, rw (before, e) at h)))
run-held p (b ∷ s) (suc i) h = by-test (p b) (λ e. run-held p s i (omega (arith, rw (before, e) at h))) (λ e. absurd (omega (arith, rw (before, e) at h)))

-- Within a run of bytes of which `#` is none,
pub run-uncut : (p : ℕ → Bool) → p 35 ≡ false → (s : List ℕ) (at : ℕ) → Uncut s at (at + run p (drop at s))
run-uncut p f s at i l h e =
    let n : at + (i - at) ≡ i = omega arith in
    let q : get_or (drop at s) (i - at) 0 ≡ 35 = get_or-drop at s (i - at) 0 ∙ ap (λ (x : ℕ). get_or s x 0) n ∙ e in
    true≢false (sym (run-held p (drop at s) (i - at) (omega arith)) ∙ ap p q ∙ f)

-- so also within a token,
pub found-uncut : (names : List Name) → each (λ n. is_identifier n.spelling) names ≡ true → (s : List ℕ) (at : ℕ) (m : Token) (n : ℕ)
    → front names (drop at s) ≡ some (record { token = m; size = n }) → Uncut s at (at + n)
unfolding solid edge between
found-uncut names ok s at m n h i l k e = let (p, q) = front-within names ok (drop at s) m n h in run-uncut solid refl s at i l (omega arith) e

-- and on from there, where none begins from there on.
pub uncut_on : (s : List ℕ) (from at to : ℕ) → Uncut s from at → Uncut s at to → Uncut s from to
uncut_on s from at to f g i l h e = split i at (λ m. f i l m e) (λ m. g i m h e)

-- The margin in front, and what stands behind it.
margin-split : (t : List ℕ) → before margin t ++ drop (run margin t) t ≡ t
margin-split t = ap (λ (x : List ℕ). x ++ drop (run margin t) t) (sym (take-run margin t)) ∙ take-append-drop (run margin t) t

-- Margin up to the text's end, the line's end or a comment: nothing is left.
pub nothing_left : (s : List ℕ) (at : ℕ) → at ≤ length s
    → (at + run margin (drop at s) < length s → (get_or s (at + run margin (drop at s)) 0 ≡ 10) ⊎ (get_or s (at + run margin (drop at s)) 0 ≡ 35))
    → left_at s at ≡ []
nothing_left s at l h =
    let t = drop at s in
    let k = run margin t in
    left_is s at ∙ ap left (sym (margin-split t)) ∙ left_ended (before margin t) (drop k t) (every-run margin t) (ends-behind)
  where
    ends-behind : Ends (drop (run margin (drop at s)) (drop at s))
    ends-behind =
        split (at + run margin (drop at s)) (length s)
        (λ m. rw (drop-drop (run margin (drop at s)) at s, drop-cons s (at + run margin (drop at s)) 0 m) (h m))
        (λ m. rw (drop-drop (run margin (drop at s)) at s, drop_of_length-le s m) tt)

-- Then no token is read.
pub none_read : (names : List Name) (s : List ℕ) (at : ℕ) → left_at s at ≡ [] → tokens names (left_at s at) ≡ some []
none_read names s at e = ap (tokens names) e ∙ tokens-nil names

-- No token in front of what is left.
pub left-read-bad : (names : List Name) → each (λ n. is_identifier n.spelling) names ≡ true → (s : List ℕ) (at : ℕ) → (left_at s at ≡ [] → ⊥)
    → blank (get_or s at 0) ≡ false → front names (drop at s) ≡ none → tokens names (left_at s at) ≡ none
left-read-bad names ok s at some_left hb f = go (left_at s at) refl
  where
    go : (l : List ℕ) → left_at s at ≡ l → tokens names (left_at s at) ≡ none
    go [] e = absurd (some_left e)
    go (b ∷ l) e =
        let (h, q) = left-byte s at b l e in
        ap (tokens names) e ∙ tokens-bad names b l (ap blank q ∙ hb) (ap (front names) (sym e) ∙ front_at names ok s at ∙ f)

-- A byte that is no margin, and neither ends the line nor begins a comment.
other-solid : (b : ℕ) → margin b ≡ false → (b ≡ 10 → ⊥) → (b ≡ 35 → ⊥) → solid b ≡ true
unfolding margin inside solid
other-solid b h n k =
    let i : not (eqb b 10) ≡ true = rw (ne_eqb b 10 n) in
    let e : edge b ≡ false = rw i at h in
    rw (e, ne_eqb b 35 k)

-- Margin before anything else: something is left.
pub something-left : (s : List ℕ) (at : ℕ) → at + run margin (drop at s) < length s
    → (get_or s (at + run margin (drop at s)) 0 ≡ 10 → ⊥) → (get_or s (at + run margin (drop at s)) 0 ≡ 35 → ⊥) → left_at s at ≡ [] → ⊥
something-left s at m n k e =
    let t = drop at s in
    let r = run margin t in
    let g : get_or t r 0 ≡ get_or s (at + r) 0 = get_or-drop at s r 0 in
    let stop : margin (get_or s (at + r) 0) ≡ false = rw (← g) (run-stop margin t (rw (length-drop at s) (omega arith))) in
    let q : before margin t ++ get_or s (at + r) 0 ∷ drop (suc (at + r)) s ≡ t
    = ap (λ (x : List ℕ). before margin t ++ x) (sym (drop-drop r at s ∙ drop-cons s (at + r) 0 m)) ∙ margin-split t in
    left-some (before margin t) (get_or s (at + r) 0) (drop (suc (at + r)) s) (every-run margin t) (other-solid (get_or s (at + r) 0) stop n k)
    (ap left q ∙ sym (left_is s at) ∙ e)

-- ---- the end of a line

-- It is the same from every place of the line.
pub end_on : (s : List ℕ) (at k : ℕ) → at + k ≤ length s → every inside (take k (drop at s)) ≡ true → end_at s (at + k) ≡ end_at s at
unfolding end_at rest_at run
end_on s at k l h =
    let e = run_past inside k (drop at s) (rw (length-drop at s) (omega arith)) h in
    let d : run inside (drop k (drop at s)) ≡ run inside (drop (at + k) s) = ap (run inside) (drop-drop k at s) in
    omega arith

-- ---- the beginning of a line

cut-cons : (b : ℕ) (t : List ℕ) → eqb b 35 ≡ false → cut (b ∷ t) ≡ b ∷ cut t
unfolding cut before
cut-cons b t h = rw (before, h)

cut-hash : (b : ℕ) (t : List ℕ) → eqb b 35 ≡ true → cut (b ∷ t) ≡ []
unfolding cut before
cut-hash b t h = rw (before, h)

hash-plain : (b : ℕ) → eqb b 35 ≡ true → edge b ≡ false
unfolding edge between
hash-plain b h = rw (eqb-true b 35 h)

cut-nothing : trim_end (cut []) ≡ []
unfolding trim_end cut before
cut-nothing = refl

-- trimming before the cut loses nothing more
trim-cut : (t : List ℕ) → trim_end (cut (trim_end t)) ≡ trim_end (cut t)
unfolding trim_end
trim-cut [] = refl
trim-cut (b ∷ t) =
    by-test (eqb b 35)
    (λ h. ap (λ (x : List ℕ). trim_end (cut x)) (kept-plain b (trim_end t) (hash-plain b h)) ∙ ap trim_end (cut-hash b (trim_end t) h ∙ sym (cut-hash b t h)))
    (λ h. go h (trim_end t) (trim-cut t) ∙ ap trim_end (sym (cut-cons b t h)))
  where
    go : eqb b 35 ≡ false → (u : List ℕ) → trim_end (cut u) ≡ trim_end (cut t) → trim_end (cut (kept_byte b u)) ≡ kept_byte b (trim_end (cut t))
    go h [] e =
        by-test (edge b)
        (λ d. ap (λ (x : List ℕ). trim_end (cut x)) (kept-none b d) ∙ cut-nothing ∙ sym (kept-none b d) ∙ ap (kept_byte b) (sym cut-nothing ∙ e))
        (λ d. ap (λ (x : List ℕ). trim_end (cut x)) (kept-plain b [] d) ∙ ap trim_end (cut-cons b [] h) ∙ ap (kept_byte b) e)
    go h (c ∷ u) e = ap (λ (x : List ℕ). trim_end (cut x)) (kept_more b c u) ∙ ap trim_end (cut-cons b (c ∷ u) h) ∙ ap (kept_byte b) e

-- Nothing stands in front, or a byte that is no edge.
Plain : List ℕ → Type 0
Plain [] = Unit {0}
Plain (b ∷ t) = edge b ≡ false

after-plain : (l : List ℕ) → Plain (after edge l)
unfolding Plain after
after-plain [] = tt
after-plain (b ∷ l) = by-test (edge b) (λ e. rw (after, e) (after-plain l)) (λ e. rw (after, e) e)

after_same : (l : List ℕ) → Plain l → after edge l ≡ l
unfolding Plain after
after_same [] p = refl
after_same (b ∷ l) p = rw (after, p)

plain-trimmed : (l : List ℕ) → Plain l → Plain (trim_end l)
unfolding Plain trim_end
plain-trimmed [] p = tt
plain-trimmed (b ∷ l) p = rw (kept-plain b (trim_end l) p) p

plain-cut : (l : List ℕ) → Plain l → Plain (cut l)
unfolding Plain cut before
plain-cut [] p = tt
plain-cut (b ∷ l) p = by-test (eqb b 35) (λ e. rw (before, e) tt) (λ e. rw (before, e) p)

content-left : (l : List ℕ) → content l ≡ trim_end (cut (after edge l))
unfolding content trim
content-left l =
    let m = after edge l in
    ap trim_end (after_same (cut (trim_end m)) (plain-cut (trim_end m) (plain-trimmed m (after-plain l)))) ∙ trim-cut m

-- an edge of a line is margin
margin-edge : (b : ℕ) → inside b ≡ true → margin b ≡ edge b
unfolding margin
margin-edge b i = rw i

margin-outside : (b : ℕ) → inside b ≡ false → margin b ≡ false
unfolding margin
margin-outside b i = rw i

-- what stands behind the margin in front
after-margin : (t : List ℕ) → after edge (before inside t) ≡ before inside (drop (run margin t) t)
unfolding after before run
after-margin [] = refl
after-margin (b ∷ t) =
    by-test (inside b)
    (λ i. by-test (edge b)
    (λ e. rw (before, i, after, e, before, margin-edge b i ∙ e) (after-margin t))
    (λ e. rw (before, i, after, e, before, margin-edge b i ∙ e, before, i)))
    (λ i. rw (before, i, before, margin-outside b i, before, i))

-- The content of the line from a place on is what is left behind its margin.
pub content-at : (s : List ℕ) (from : ℕ) → content (rest_at s from) ≡ left_at s (from + run margin (drop from s))
unfolding rest_at left_at
content-at s from =
    content-left (before inside (drop from s))
    ∙ ap (λ (x : List ℕ). trim_end (cut x)) (after-margin (drop from s) ∙ ap (before inside) (drop-drop (run margin (drop from s)) from s))

edge-margin : (t : List ℕ) → run edge (before inside t) ≡ run margin t
unfolding run before
edge-margin [] = refl
edge-margin (b ∷ t) =
    by-test (inside b)
    (λ i. by-test (edge b)
    (λ e. rw (before, i, before, e, before, margin-edge b i ∙ e) (ap suc (edge-margin t)))
    (λ e. rw (before, i, before, e, before, margin-edge b i ∙ e)))
    (λ i. rw (before, i, before, margin-outside b i))

pub indent-at : (s : List ℕ) (from : ℕ) → indent (rest_at s from) ≡ run margin (drop from s)
unfolding indent rest_at
indent-at s from = edge-margin (drop from s)
