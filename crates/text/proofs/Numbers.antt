-- The number whose token stands at a place: what is found there, and that nothing is where the byte begins no number.
use mathlib.Core.Path.{◌≡◌, refl, ap, ◌∙◌}
use Prim.Native.Nat.{ℕ, suc, ◌<◌}
use native.Mathlib.Omega.{arith}
use mathlib.Core.Bool.{Bool, true, false}
use mathlib.Core.Option.{Option, none, some}
use mathlib.Core.List.{List, [], ◌∷◌}
use lib.ListN.{length, drop, get_or, drop_of_length-le}
use lib.Seq.{drop-cons}
use lib.Dec.{eqb}
use borrow.Author.Tests.{ne_eqb}
use Rattle.std.specs.Prelude.{Some, None, Ok, Err}
use Rattle.std.specs.Prelude.{Result as Answer}
use Rattle.refusal.specs.declared.refusal.Refusal.{Refusal}
use Rattle.text_lexical.specs.Bytes.{mark, name_start, name_part, before, run}
use Rattle.text_lexical.specs.Names.{Name, named}
use Rattle.text_lexical.specs.declared.number.Whole.{Whole}
use Rattle.text_lexical.specs.declared.number.NumberRange.{NumberRange}
use Rattle.text_lexical.proofs.Tests.{split, by-test}
use Rattle.text.specs.Tokens.{is_register, Directive, register, comma, colon, opening, closing, register_token, mark_token, token_of, sized, matched, front}
use Rattle.text.specs.NameSets.{Naming}
use Rattle.text.specs.Places.{left_at}
use Rattle.text.specs.Promised.{extracted, found_at, token_at, number_with, number_of, number_at, number_start, scan_if}
use Rattle.text.specs.Values.{read_number}
use Rattle.text.specs.declared.lexer.Scan.{Scan}
use Rattle.text.specs.declared.lexer.Scan.TheVariants.{Found, Bad, End}
use Rattle.text.specs.declared.lexer.Token.{Token}
use Rattle.text.specs.declared.parser.NumberAt.{NumberAt}
use Rattle.text.proofs.Scanning.{matching, word_class, dot_scan, scan}
use Rattle.text.proofs.Tokens.{front-scan}
use Rattle.text.proofs.Left.{front_at}
use Rattle.text.proofs.Fronts.{begins-with, begins-otherwise, no-number-start}

-- ---- what is found

-- Where no token is found, or one that is no number of the range, there is none.
pub no-token : (range : NumberRange) (r : Scan) → ((t : Token) (next : ℕ) → r ≡ Found t next → ⊥) → None ≡ number_of range r
no-token range (Found t next) f = absurd (f t next refl)
no-token range Bad f = refl
no-token range (End e) f = refl

pub no-number : (next : ℕ) (x : Answer Whole Refusal) → ((w : Whole) → x ≡ Ok w → ⊥) → None ≡ number_with x next
no-number next (Ok w) f = absurd (f w refl)
no-number next (Err r) f = refl

-- A number that is found is that of a token.
pub number-found : (names : List Name) (s : List ℕ) (at : ℕ) (range : NumberRange) (n : NumberAt) → Some n ≡ number_at names s at range
    → (t : Token) × (Found t n.end ≡ token_at names s at) × (Ok n.number ≡ extracted range t.kind)
unfolding number_at
number-found names s at range n e = by-scan (token_at names s at) refl e
  where
    by-number : (t : Token) (next : ℕ) (x : Answer Whole Refusal) → Found t next ≡ token_at names s at → x ≡ extracted range t.kind → Some n ≡ number_with x next
        → (t : Token) × (Found t n.end ≡ token_at names s at) × (Ok n.number ≡ extracted range t.kind)
    by-number t next (Ok w) f k e = let q : n ≡ record { number = w; end = next } = cc in rw q (t, f, k)
    by-number t next (Err r) f k e = let z : ◌≡◌ {A = ℕ} 0 1 = cc in absurd (omega arith)

    by-scan : (r : Scan) → r ≡ token_at names s at → Some n ≡ number_of range r → (t : Token) × (Found t n.end ≡ token_at names s at) × (Ok n.number ≡ extracted range t.kind)
    by-scan (Found t next) f e = by-number t next (extracted range t.kind) f refl e
    by-scan Bad f e = let z : ◌≡◌ {A = ℕ} 0 1 = cc in absurd (omega arith)
    by-scan (End x) f e = let z : ◌≡◌ {A = ℕ} 0 1 = cc in absurd (omega arith)

-- ---- where there is none

module _ (names : List Name) (s : List ℕ) (at : ℕ) (range : NumberRange) where
  -- A register is no number.
  register-none : (n : ℕ) (r : Option ℕ) → None ≡ number_of range (found_at s at (sized n (some (register r))))
  unfolding sized read_number
  register-none n none = refl
  register-none n (some k) = refl

  -- A word, which is a register or an identifier, is no number.
  word-none : (n : ℕ) (u : List ℕ) (b : Bool) → None ≡ number_of range (found_at s at (sized n (token_of names (word_class b) u)))
  unfolding word_class token_of register_token sized read_number
  word-none n u false = refl
  word-none n u true = go (named names u)
    where
      go : (o : Option Name) → None ≡ number_of range (found_at s at (sized n (register_token o)))
      go none = refl
      go (some m) = register-none n m.number

  -- A mark is no number.
  mark-none : (n : ℕ) (u : List ℕ) → None ≡ number_of range (found_at s at (sized n (mark_token u)))
  unfolding mark_token sized read_number
  mark-none n [] = refl
  mark-none n (b ∷ u) = go (eqb b 44) (eqb b 58) (eqb b 40)
    where
      go : (x y z : Bool) → None ≡ number_of range (found_at s at (sized n (elim x [
        | true ↦ some comma
        | false ↦ elim y [
          | true ↦ some colon
          | false ↦ elim z [ true ↦ some opening | false ↦ some closing ]
        ]
      ])))
      go true y z = refl
      go false true z = refl
      go false false true = refl
      go false false false = refl

  -- What begins with a point is no number.
  dot-none : (b : ℕ) (t : List ℕ) → None ≡ number_of range (found_at s at (matched names (b ∷ t) (dot_scan t)))
  unfolding dot_scan matched matching token_of sized read_number
  dot-none b [] = refl
  dot-none b (c ∷ u) = go (name_start c)
    where
      go : (x : Bool) → None ≡ number_of range (found_at s at (matched names (b ∷ c ∷ u) (elim x [ true ↦ some (matching (suc (suc (run name_part u))) Directive) | false ↦ none ])))
      go true = refl
      go false = refl

  -- Nor is what begins with another byte than a number does.
  scan-none : (b : ℕ) (t : List ℕ) → number_start b ≡ false → None ≡ number_of range (found_at s at (matched names (b ∷ t) (scan names (b ∷ t))))
  unfolding scan matched matching token_of
  scan-none b t h =
      let (d, m) = no-number-start b h in
      by-test (name_start b)
      (λ e. rw (scan, e) (word-none _ _ (is_register names (b ∷ before name_part t))))
      (λ n. by-test (eqb b 46)
      (λ e. rw (scan, n, d, ne_eqb b 45 m, e) (dot-none b t))
      (λ p. by-test (mark b)
      (λ e. rw (scan, n, d, ne_eqb b 45 m, p, e) (mark-none 1 (b ∷ [])))
      (λ e. rw (scan, n, d, ne_eqb b 45 m, p, e))))

  module _ (ok : Naming names) where
    front-is : front names (left_at s at) ≡ matched names (drop at s) (scan names (drop at s))
    front-is = front_at names ok.identifiers s at ∙ front-scan names ok.identifiers (drop at s)

    -- There is none at the text's end, nor where a byte stands with which no number begins.
    pub number_none : (at < length s → number_start (get_or s at 0) ≡ false) → None ≡ number_at names s at range
    unfolding number_at token_at scan matched
    number_none f =
        rw front-is
        (split at (length s)
        (λ l. rw (drop-cons s at 0 l) (scan-none (get_or s at 0) (drop (suc at) s) (f l)))
        (λ l. rw (drop_of_length-le s l)))

    -- Where a number begins, the number there is that of the token.
    pub number-is : (r : Scan) → Some r ≡ scan_if number_start names s at → number_of range r ≡ number_at names s at range
    unfolding number_at
    number-is r e = ap (number_of range) (begins-with number_start names s at r e).1

    -- Where none begins there is none.
    pub no-number-is : None ≡ scan_if number_start names s at → None ≡ number_at names s at range
    no-number-is e = number_none (λ l. begins-otherwise number_start names s at e)
