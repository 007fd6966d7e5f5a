-- Laws of lines: a text of whole lines is taken apart again, and a line that is all content is its own content.
use mathlib.Core.Path.{◌≡◌, refl, sym, ap, ◌∙◌}
use Prim.Native.Nat.{ℕ, suc, ◌+◌, ◌≤◌, ◌<◌}
use native.Mathlib.Omega.{arith}
use mathlib.Core.Bool.{Bool, true, false, not}
use mathlib.Core.Option.{some}
use mathlib.Core.List.{List, [], ◌∷◌, ◌++◌, append_assoc}
use lib.ListN.{length, drop, get_or, length-drop}
use lib.Seq.{drop-drop, get_or-drop}
use lib.Dec.{eqb}
use borrow.Author.Tests.{not-true, not-false, eqb-true, ne_eqb, le-leb, lt-leb}
use Rattle.text_lexical.specs.Bytes.{between, digit, ascii, edge, before, after, every, run, inside}
use Rattle.text_lexical.specs.Numbers.{decimal}
use Rattle.text_lexical.specs.Names.{Name}
use Rattle.text_lexical.proofs.Tests.{by-test, both, between-true, true-between}
use Rattle.text_lexical.proofs.Strings.{every-head, every-tail, every-mono, before-all, run-stop}
use Rattle.text_lexical.proofs.Numbers.{decimal-digits}
use Rattle.text.specs.Tokens.{Token, tokens}
use Rattle.text.specs.Lines.{extended, lines, kept_byte, trim_end, trim, cut, content, line_of, record_of, read_line}
use Rattle.text.specs.Places.{rest_at, end_at}

-- A byte that begins no comment.
unfoldable pub uncommented : ℕ → Bool
uncommented b = not (eqb b 35)

pub lines_cons : (t s : List ℕ) → every inside t ≡ true → lines (t ++ 10 ∷ s) ≡ t ∷ lines s
unfolding lines every inside extended
lines_cons [] s h = refl
lines_cons (b ∷ t) s h = rw (lines, not-true (eqb b 10) (every-head inside b t h), lines_cons t s (every-tail inside b t h))

-- A text has a line, if only an empty one,
lines-some : (s : List ℕ) → (l : List ℕ) × (ls : List (List ℕ)) × (lines s ≡ l ∷ ls)
unfolding lines extended
lines-some [] = ([], [], refl)
lines-some (b ∷ s) =
    let (l, ls, e) = lines-some s in
    by-test (eqb b 10) (λ h. ([], lines s, rw (lines, h))) (λ h. (b ∷ l, ls, rw (lines, h, e)))

-- and a byte 10 at its end adds an empty one.
pub lines-ended : (s : List ℕ) → lines (s ++ (10 ∷ [])) ≡ lines s ++ ([] ∷ [])
unfolding lines extended
lines-ended [] = refl
lines-ended (b ∷ s) =
    let (l, ls, e) = lines-some s in
    by-test (eqb b 10)
    (λ h. rw (lines, h) (ap (λ (ms : List (List ℕ)). [] ∷ ms) (lines-ended s)))
    (λ h. rw (lines, h) (ap (extended b) (lines-ended s) ∙ rw e))

-- ---- the line at a place

first-line : (t : List ℕ) → run inside t < length t → lines t ≡ before inside t ∷ lines (drop (suc (run inside t)) t)
unfolding lines inside before run extended
first-line [] h = absurd (omega arith)
first-line (b ∷ t) h =
    by-test (eqb b 10)
    (λ e. rw (lines, inside, before, e))
    (λ e. let k : suc (run inside t) < suc (length t) = rw (before, inside, e) at h in rw (lines, inside, before, e, first-line t (omega arith)))

only-line : (t : List ℕ) → length t ≤ run inside t → lines t ≡ before inside t ∷ []
unfolding lines inside before run extended
only-line [] h = refl
only-line (b ∷ t) h =
    by-test (eqb b 10)
    (λ e. let k : suc (length t) ≤ 0 = rw (before, inside, e) at h in absurd (omega arith))
    (λ e. let k : suc (length t) ≤ suc (run inside t) = rw (before, inside, e) at h in rw (lines, inside, before, e, only-line t (omega arith)))

-- A line that ends before the text does has others behind it; byte 10 stands at its end.
pub line_at : (s : List ℕ) (at : ℕ) → at ≤ length s → end_at s at < length s → lines (drop at s) ≡ rest_at s at ∷ lines (drop (suc (end_at s at)) s)
unfolding end_at rest_at run
line_at s at l h =
    let e : at + suc (run inside (drop at s)) ≡ suc (end_at s at) = omega arith in
    first-line (drop at s) (omega (arith, length-drop at s)) ∙ ap (λ (x : List ℕ). rest_at s at ∷ lines x) (drop-drop (suc (run inside (drop at s))) at s ∙ ap (λ (n : ℕ). drop n s) e)

pub line-end : (s : List ℕ) (at : ℕ) → at ≤ length s → end_at s at < length s → get_or s (end_at s at) 0 ≡ 10
unfolding end_at rest_at run inside
line-end s at l h =
    let g : get_or (drop at s) (run inside (drop at s)) 0 ≡ get_or s (at + run inside (drop at s)) 0 = get_or-drop at s (run inside (drop at s)) 0 in
    let e : not (eqb (get_or s (end_at s at) 0) 10) ≡ false = rw (← g) (run-stop inside (drop at s) (omega (arith, length-drop at s))) in
    eqb-true (get_or s (end_at s at) 0) 10 (not-false (eqb (get_or s (end_at s at) 0) 10) e)

-- One that does not is the last.
pub last_line : (s : List ℕ) (at : ℕ) → at ≤ length s → length s ≤ end_at s at → lines (drop at s) ≡ rest_at s at ∷ []
unfolding end_at rest_at run
last_line s at l h = only-line (drop at s) (omega (arith, length-drop at s))

-- The last byte of a string is no edge.
pub record Closed (s : List ℕ) : Type 0 where
  pub init : List ℕ
  pub last : ℕ
  pub back : s ≡ init ++ (last ∷ [])
  pub plain : edge last ≡ false

pub closed-append : (s t : List ℕ) → Closed t → Closed (s ++ t)
closed-append s t c =
    record {
      init = s ++ c.init;
      last = c.last;
      back = ap (λ (x : List ℕ). s ++ x) c.back ∙ sym (append_assoc s c.init (c.last ∷ []));
      plain = c.plain;
    }

pub closed-every : (q : ℕ → Bool) → ((b : ℕ) → q b ≡ true → edge b ≡ false) → (a : ℕ) (t : List ℕ) → every q (a ∷ t) ≡ true → Closed (a ∷ t)
closed-every q f a [] h = record { init = []; last = a; back = refl; plain = f a (every-head q a [] h) }
closed-every q f a (b ∷ t) h = closed-append (a ∷ []) (b ∷ t) (closed-every q f b t (every-tail q a (b ∷ t) h))

-- Neither its first byte nor its last one is an edge.
pub record Trimmed (s : List ℕ) : Type 0 where
  pub head : ℕ
  pub tail : List ℕ
  pub front : s ≡ head ∷ tail
  pub plain : edge head ≡ false
  pub closed : Closed s

trim_end-last : (s : List ℕ) (z : ℕ) → edge z ≡ false → trim_end (s ++ (z ∷ [])) ≡ s ++ (z ∷ [])
unfolding trim_end kept_byte
trim_end-last [] z h = rw (kept_byte, h)
trim_end-last (b ∷ []) z h = rw (trim_end-last [] z h)
trim_end-last (b ∷ c ∷ s) z h = rw (trim_end-last (c ∷ s) z h)

trim-id : (s : List ℕ) → Trimmed s → trim s ≡ s
unfolding trim after
trim-id s t =
    let c = t.closed in
    let a : after edge s ≡ s = ap (after edge) t.front ∙ rw (after, t.plain) (sym t.front) in
    ap trim_end (a ∙ c.back) ∙ trim_end-last c.init c.last c.plain ∙ sym c.back

pub content-id : (s : List ℕ) → Trimmed s → every uncommented s ≡ true → content s ≡ s
unfolding content cut uncommented
content-id s t h = ap (λ (x : List ℕ). trim (cut x)) (trim-id s t) ∙ ap trim (before-all uncommented s h) ∙ trim-id s t

-- ---- bytes of a listed line

-- A byte that neither ends a line, nor begins a comment, nor is refused.
unfoldable pub visible : ℕ → Bool
visible b = elim (between 32 126 b) [ true ↦ not (eqb b 35) | false ↦ false ]

visible-parts : (b : ℕ) → visible b ≡ true → (between 32 126 b ≡ true) × (not (eqb b 35) ≡ true)
unfolding visible
visible-parts b h = both (between 32 126 b) (not (eqb b 35)) h

pub visible-inside : (b : ℕ) → visible b ≡ true → inside b ≡ true
unfolding inside
visible-inside b h = let r = between-true 32 126 b (visible-parts b h).0 in rw (ne_eqb b 10 (λ e. omega arith))

pub visible-uncommented : (b : ℕ) → visible b ≡ true → uncommented b ≡ true
unfolding uncommented
visible-uncommented b h = (visible-parts b h).1

pub visible-ascii : (b : ℕ) → visible b ≡ true → ascii b ≡ true
unfolding ascii
visible-ascii b h = let r = between-true 32 126 b (visible-parts b h).0 in le-leb b 127 (omega arith)

-- Bytes from 36 to 126 are visible and no edge.
pub high-visible : (b : ℕ) → 36 ≤ b → b ≤ 126 → visible b ≡ true
unfolding visible
high-visible b l h = rw (visible, true-between 32 126 b (omega arith) (omega arith), ne_eqb b 35 (λ e. omega arith))

pub high-plain : (b : ℕ) → 33 ≤ b → edge b ≡ false
unfolding edge between
high-plain b l = rw (le-leb 9 b (omega arith), lt-leb b 13 (omega arith), ne_eqb b 32 (λ e. omega arith))

pub digit-visible : (b : ℕ) → digit b ≡ true → visible b ≡ true
unfolding digit
digit-visible b h = let r = between-true 48 57 b h in high-visible b (omega arith) (omega arith)

pub digit-plain : (b : ℕ) → digit b ≡ true → edge b ≡ false
unfolding digit
digit-plain b h = let r = between-true 48 57 b h in high-plain b (omega arith)

pub decimal-visible : (n : ℕ) → every visible (decimal n) ≡ true
decimal-visible n = let d = decimal-digits n in rw d.shape (every-mono digit visible digit-visible (d.head ∷ d.tail) d.digits)

pub decimal-closed : (n : ℕ) → Closed (decimal n)
decimal-closed n = let d = decimal-digits n in rw d.shape (closed-every digit digit-plain d.head d.tail d.digits)

-- The record of a line that is all content.
pub read-visible : (names : List Name) (s : List ℕ) (ts : List Token) → Trimmed s → every visible s ≡ true → tokens names s ≡ some ts
    → read_line names s ≡ some (line_of ts)
unfolding read_line record_of
read-visible names s ts t h e = rw (content-id s t (every-mono visible uncommented visible-uncommented s h), e)
