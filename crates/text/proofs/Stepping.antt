-- The next token of a line: what is found at a place, past blanks, and how the line goes on from there.
use mathlib.Core.Path.{◌≡◌, refl, sym, ap, ◌∙◌}
use Prim.Native.Nat.{ℕ, ◌+◌, ◌-◌, ◌≤◌, ◌<◌}
use native.Mathlib.Omega.{arith}
use mathlib.Core.Bool.{true, false}
use mathlib.Core.List.{List, [], ◌∷◌}
use mathlib.Core.Option.{Option, none, some}
use lib.ListN.{length, take, drop, get_or, length-drop}
use lib.Seq.{get_or-take, get_or-drop}
use lib.Dec.{eqb}
use borrow.Author.Tests.{eqb-true, eqb-false}
use Rattle.std.specs.Prelude.{Some}
use Rattle.text_lexical.specs.Bytes.{blank, run}
use Rattle.text_lexical.specs.Names.{Name}
use Rattle.text_lexical.proofs.Tests.{by-test}
use Rattle.text_lexical.proofs.Strings.{run-over, run-no, run-stop}
use Rattle.text.specs.Tokens.{Token as Meant, Sized, longest, matched, front, infront, tokens}
use Rattle.text.specs.NameSets.{Naming}
use Rattle.text.specs.Places.{left_at, end_at, Uncut}
use Rattle.text.specs.Promised.{kind_for, meant, found_at, token_at, stands_at, past, scan_at, number_start, mark_kind}
use Rattle.text.specs.declared.lexer.Kind.{Kind}
use Rattle.text.specs.declared.lexer.Kind.TheVariants.{Number, Negative}
use Rattle.text.specs.declared.lexer.Token.{Token}
use Rattle.text.specs.declared.lexer.Scan.{Scan}
use Rattle.text.specs.declared.lexer.Scan.TheVariants.{Found, Bad, End}
use Rattle.text.proofs.Left.{solid, digit-solid, high-solid, mark-solid, solid-plain, blank-inside, blanks_at, front_at, left-byte, solid-left, found-at, found-solid, nothing_left, none_read, left-read-bad, end_on, run-uncut, found-uncut, uncut_on}
use Rattle.text.proofs.Endings.{run-within}
use Rattle.text.proofs.Meanings.{front-means, kind-sign}
use Rattle.text.proofs.Marks.{marked}
use Rattle.text.proofs.Fronts.{at-found, mark-front, number-digit}

-- ---- places

from-blank : (s : List ℕ) (from at : ℕ) → from ≤ length s → at ≡ from + run blank (drop from s) → end_at s at ≡ end_at s from
from-blank s from at l q = (run-within blank blank-inside s from at l q).2

-- Past the blanks no blank stands.
pub past-blank : (s : List ℕ) (from at : ℕ) → from ≤ length s → at ≡ from + run blank (drop from s) → at < length s → blank (get_or s at 0) ≡ false
past-blank s from at l q m = rw (q, ← get_or-drop from s (run blank (drop from s)) 0) (run-stop blank (drop from s) (rw (length-drop from s) (omega arith)))

-- There no run of blanks begins.
pub past-blanks : (s : List ℕ) (from at : ℕ) → at ≡ from + run blank (drop from s) → run blank (drop at s) ≡ 0
past-blanks s from at q = rw q (run-over blank s from)

-- The place past the blanks, if anything stands there.
past-in : (s : List ℕ) (from : ℕ) → past s from < length s → (from ≤ length s) × (blank (get_or s (past s from) 0) ≡ false)
past-in s from l = (omega arith, past-blank s from (past s from) (omega arith) refl l)

-- Where it leads: on, within the same line.
abbrev pub Leads : List ℕ → ℕ → Scan → Type 0
Leads s from (Found t next) = (t.start ≡ past s from) × (t.start + t.length ≡ next) × (0 < t.length) × (from < next) × (next ≤ length s) × (end_at s next ≡ end_at s from)
Leads s from Bad = Unit {0}
Leads s from (End e) = from ≤ length s → e ≡ end_at s from

abbrev UncutIf : List ℕ → ℕ → Scan → Type 0
UncutIf s from (Found t next) = Uncut s from next
UncutIf s from Bad = Unit {0}
UncutIf s from (End e) = Unit {0}

Signs : List ℕ → Scan → Type 0
Signs s (Found t next) = (n : ℕ) → (t.kind ≡ Negative n → get_or s t.start 0 ≡ 45) × (t.kind ≡ Number n → get_or s t.start 0 ≡ 45 → ⊥)
Signs s Bad = Unit {0}
Signs s (End e) = Unit {0}

-- ---- what stands at a place, by any set of names

module _ (names : List Name) where
  stands-end : (s : List ℕ) (at : ℕ) → left_at s at ≡ [] → End (end_at s at) ≡ stands_at names s at
  unfolding stands_at
  stands-end s at e = rw (stands_at, e)

  stands-token : (s : List ℕ) (at : ℕ) → (left_at s at ≡ [] → ⊥) → token_at names s at ≡ stands_at names s at
  unfolding stands_at
  stands-token s at f = go (left_at s at) refl
    where
      go : (l : List ℕ) → left_at s at ≡ l → token_at names s at ≡ elim l [ [] ↦ End (end_at s at) | b ∷ m ↦ token_at names s at ]
      go [] e = absurd (f e)
      go (b ∷ m) e = refl

  -- Where no blank stands, that is what is found.
  scan-here : (s : List ℕ) (at : ℕ) → run blank (drop at s) ≡ 0 → stands_at names s at ≡ scan_at names s at
  unfolding scan_at
  scan-here s at z = let e : past s at ≡ at = omega arith in rw e

  -- ---- a token, or none, at a solid byte

  pub solid-step : (s : List ℕ) (at : ℕ) (r : Scan) → at < length s → solid (get_or s at 0) ≡ true → r ≡ token_at names s at → r ≡ scan_at names s at
  solid-step s at r l h e = e ∙ stands-token s at (solid-left s at l h) ∙ scan-here s at (run-no blank s at l (solid-plain (get_or s at 0) h))

  -- A number begins with no blank.
  pub number_step : (s : List ℕ) (at : ℕ) (r : Scan) → at < length s → number_start (get_or s at 0) ≡ true → r ≡ token_at names s at → r ≡ scan_at names s at
  number_step s at r l h e =
      by-test (eqb (get_or s at 0) 45)
      (λ t. solid-step s at r l (high-solid (get_or s at 0) (omega (arith, eqb-true (get_or s at 0) 45 t))) e)
      (λ f. solid-step s at r l (digit-solid (get_or s at 0) (number-digit (get_or s at 0) h (eqb-false (get_or s at 0) 45 f))) e)

  -- A token past blanks.
  nothing-bad : (s : List ℕ) (at : ℕ) → left_at s at ≡ [] → Bad ≡ token_at names s at
  unfolding token_at front longest matched
  nothing-bad s at e = rw (token_at, e)

  pub token_step : (s : List ℕ) (from at : ℕ) (t : Token) (next : ℕ) → at ≡ from + run blank (drop from s) → Found t next ≡ token_at names s at → Found t next ≡ scan_at names s from
  unfolding scan_at
  token_step s from at t next q e =
      e ∙ stands-token s at (λ z. let f : Found t next ≡ Bad = e ∙ sym (nothing-bad s at z) in let y : ◌≡◌ {A = ℕ} 0 1 = cc in absurd (omega arith))
      ∙ ap (stands_at names s) q

  -- Nothing is left of the line, which ends there.
  pub end_step : (s : List ℕ) (at end : ℕ) → run blank (drop at s) ≡ 0 → left_at s at ≡ [] → end ≡ end_at s at → End end ≡ scan_at names s at
  end_step s at end z n q = ap End q ∙ stands-end s at n ∙ scan-here s at z

  -- Something is left, and no token.
  pub bad-step : (s : List ℕ) (at : ℕ) → run blank (drop at s) ≡ 0 → token_at names s at ≡ Bad → (left_at s at ≡ [] → ⊥) → Bad ≡ scan_at names s at
  bad-step s at z t f = sym t ∙ stands-token s at f ∙ scan-here s at z

  -- ---- past blanks

  pub blank_step : (s : List ℕ) (from at : ℕ) (r : Scan) → at ≡ from + run blank (drop from s) → r ≡ scan_at names s at → r ≡ scan_at names s from
  unfolding scan_at
  blank_step s from at r q e = e ∙ sym (scan-here s at (past-blanks s from at q)) ∙ ap (stands_at names s) q

  -- At the text's end there is no token.
  pub end-bad : (s : List ℕ) (at : ℕ) → at ≤ length s → length s ≤ at → token_at names s at ≡ Bad
  end-bad s at l h = sym (nothing-bad s at (nothing_left s at l (λ m. absurd (omega arith))))

  -- ---- what is found next, and how the line goes on from there

  -- What is found is the token that the text begins with past the blanks, or none, or the line's end.
  data Finds (s : List ℕ) (from : ℕ) : Scan → Type 0 where
    a-token : (t : Sized) → front names (drop (past s from) s) ≡ some t → Finds s from (found_at s (past s from) (some t))
    no-token : front names (drop (past s from) s) ≡ none → (left_at s (past s from) ≡ [] → ⊥) → Finds s from Bad
    the_end : left_at s (past s from) ≡ [] → Finds s from (End (end_at s (past s from)))

  -- What is read of the line from a place on, by what is found next.
  abbrev pub after : List ℕ → Scan → Option (List Meant)
  after s (Found t next) = infront (meant s t) (tokens names (left_at s next))
  after s Bad = none
  after s (End e) = some []

  -- What is found next: what is read of the line by it, and where it leads.
  pub record Stepped (s : List ℕ) (from : ℕ) (r : Scan) : Type 0 where
    pub means : tokens names (left_at s from) ≡ after s r
    pub leads : Leads s from r

  module _ (ok : Naming names) where
    -- ---- a mark

    pub mark-step : (s : List ℕ) (at : ℕ) (k : Kind) → at < length s → Some k ≡ mark_kind (get_or s at 0)
        → Found (record { kind = k; start = at; length = at + 1 - at }) (at + 1) ≡ scan_at names s at
    mark-step s at k l e =
        let m = marked (get_or s at 0) k e in
        let one : at + 1 - at ≡ 1 = omega arith in
        let u = take (at + 1 - at) (drop at s) in
        solid-step s at _ l (mark-solid (get_or s at 0) m.is_mark)
        (at-found names ok s at (at + 1) k (omega arith) (ap (λ (x : Meant). kind_for x u) (m.means u) ∙ m.made u)
        (mark-front names ok s at m.token l m.is_mark m.token-is ∙ rw (one, m.means (take 1 (drop at s)))))

    -- ---- how the line goes on

    finds : (s : List ℕ) (from : ℕ) → Finds s from (scan_at names s from)
    unfolding scan_at stands_at token_at
    finds s from = go (left_at s (past s from)) refl
      where
        at : ℕ
        at = past s from

        token : (o : Option Sized) → front names (left_at s at) ≡ o → (left_at s at ≡ [] → ⊥) → Finds s from (found_at s at o)
        token none e n = no-token (sym (front_at names ok.identifiers s at) ∙ e) n
        token (some t) e n = a-token t (sym (front_at names ok.identifiers s at) ∙ e)

        go : (l : List ℕ) → left_at s at ≡ l
            → Finds s from (elim l [ [] ↦ End (end_at s at) | b ∷ m ↦ found_at s at (front names (left_at s at)) ])
        go [] e = the_end e
        go (b ∷ l) e = token (front names (left_at s at)) refl (λ z. let k : ◌≡◌ {A = List ℕ} (b ∷ l) [] = sym e ∙ z in let y : ◌≡◌ {A = ℕ} 0 1 = cc in absurd (omega arith))

    means : (s : List ℕ) (from : ℕ) (r : Scan) → Finds s from r → tokens names (left_at s from) ≡ after s r
    means s from _ (a-token t e) =
        blanks_at names s from ∙ found-at names ok.identifiers s (past s from) t.token t.size e
        ∙ ap (λ (m : Meant). infront m (tokens names (left_at s (past s from + t.size)))) (sym (front-means names ok (drop (past s from) s) t e))
    means s from _ (no-token e n) = blanks_at names s from ∙ go (left_at s (past s from)) refl
      where
        go : (l : List ℕ) → left_at s (past s from) ≡ l → tokens names (left_at s (past s from)) ≡ none
        go [] q = absurd (n q)
        go (b ∷ l) q = left-read-bad names ok.identifiers s (past s from) n (past-in s from (left-byte s (past s from) b l q).0).1 e
    means s from _ (the_end e) = blanks_at names s from ∙ none_read names s (past s from) e

    leads : (s : List ℕ) (from : ℕ) (r : Scan) → Finds s from r → Leads s from r
    leads s from _ (a-token t e) =
        let at = past s from in
        let (p, n, i) = found-solid names ok.identifiers (drop at s) t.token t.size e in
        let d = length-drop at s in
        let l = (past-in s from (omega arith)).0 in
        (refl, refl, p, omega arith, omega arith, end_on s at t.size (omega arith) i ∙ from-blank s from at l refl)
    leads s from _ (no-token e n) = tt
    leads s from _ (the_end e) = λ l. from-blank s from (past s from) l refl

    pub stepped : (s : List ℕ) (from : ℕ) (r : Scan) → r ≡ scan_at names s from → Stepped s from r
    stepped s from r e = rw e (record { means = means s from (scan_at names s from) (finds s from); leads = leads s from (scan_at names s from) (finds s from) })

    -- No comment begins before the token that is found, nor within it.
    blanks-uncut : (s : List ℕ) (from : ℕ) → Uncut s from (past s from)
    unfolding blank
    blanks-uncut s from = run-uncut blank refl s from

    uncuts : (s : List ℕ) (from : ℕ) (r : Scan) → Finds s from r → UncutIf s from r
    uncuts s from _ (a-token t e) =
        let at = past s from in uncut_on s from at (at + t.size) (blanks-uncut s from) (found-uncut names ok.identifiers s at t.token t.size e)
    uncuts s from _ (no-token e n) = tt
    uncuts s from _ (the_end e) = tt

    pub uncut : (s : List ℕ) (from : ℕ) (t : Token) (next : ℕ) → Found t next ≡ scan_at names s from → Uncut s from next
    uncut s from t next e = rw (← e) at (uncuts s from (scan_at names s from) (finds s from))

    -- ---- the sign of a number

    signs : (s : List ℕ) (from : ℕ) (r : Scan) → Finds s from r → Signs s r
    unfolding Signs
    signs s from _ (a-token t e) = λ n.
        let at = past s from in
        let (p, l, i) = found-solid names ok.identifiers (drop at s) t.token t.size e in
        let z : at + 0 ≡ at = omega arith in
        let b : get_or (take t.size (drop at s)) 0 0 ≡ get_or s at 0 = get_or-take t.size (drop at s) 0 0 p ∙ get_or-drop at s 0 0 ∙ ap (λ (x : ℕ). get_or s x 0) z in
        rw b at (kind-sign t.token (take t.size (drop at s)) n)
    signs s from _ (no-token e n) = tt
    signs s from _ (the_end e) = tt

    -- A decimal number is Negative exactly if its first byte is `-`, whatever its value: `-0` is Negative and `0` is not.
    pub sign-settled : (s : List ℕ) (from : ℕ) (t : Token) (next n : ℕ) → Found t next ≡ scan_at names s from
        → (t.kind ≡ Negative n → get_or s t.start 0 ≡ 45) × (t.kind ≡ Number n → get_or s t.start 0 ≡ 45 → ⊥)
    unfolding Signs
    sign-settled s from t next n e = rw (← e) at (signs s from (scan_at names s from) (finds s from)) n
