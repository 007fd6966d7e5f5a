-- How the tokens of a text are read on from its front, and which texts read as which token.
use mathlib.Core.Path.{◌≡◌, refl, sym, ap, ◌∙◌}
use Prim.Native.Nat.{ℕ, zero, suc, ◌≤◌, ◌<◌, ◌^◌}
use native.Mathlib.Omega.{arith}
use mathlib.Core.Bool.{Bool, true, false, true≢false}
use mathlib.Core.Option.{Option, none, some}
use mathlib.Core.List.{List, [], ◌∷◌, ◌++◌}
use lib.ListN.{length, drop}
use lib.Seq.{take-append_seam, drop-append_seam}
use lib.Dec.{eqb}
use lib.IntN.{ℤ, pos, negsuc}
use borrow.Author.Tests.{ne_eqb, le-leb, lt-ltb}
use Rattle.text_lexical.specs.Bytes.{letter, digit, between, blank, mark, name_start, name_part, every, is_some, each, run}
use Rattle.text_lexical.specs.Numbers.{value_of, minus, decimal, signed_decimal}
use Rattle.text_lexical.specs.Names.{Name, named}
use Rattle.text_lexical.proofs.Tests.{by-test, both, or_right, between-true, no_both, not-true}
use Rattle.text_lexical.proofs.Strings.{every-head, every-tail, ends, ends-head, before-append, run-append}
use Rattle.text_lexical.proofs.Numbers.{Digits, decimal-digits, decimal-value}
use Rattle.text.specs.Tokens.{is_identifier, is_register, Class, Register, Identifier, Number, Directive, Mark, Token, identifier, register, number, directive, comma, opening, closing, within, number_token, register_token, mark_token, token_of, sized, matched, front, infront, tokens_past, tokens}
use Rattle.text.proofs.Scanning.{matching, word_class, digit_scan, dot_scan, at_least_one, scan, longest-scan, register-identifier, start-from, digit-from, digit-not-start}

-- ---- from the front on

past-drop : (names : List Name) (n : ℕ) (s : List ℕ) → tokens_past names n s ≡ tokens names (drop n s)
unfolding tokens_past tokens
past-drop names zero s = refl
past-drop names (suc n) [] = refl
past-drop names (suc n) (b ∷ s) = past-drop names n s

pub tokens-nil : (names : List Name) → tokens names [] ≡ some []
unfolding tokens tokens_past
tokens-nil names = refl

pub tokens-blank : (names : List Name) (b : ℕ) (s : List ℕ) → blank b ≡ true → tokens names (b ∷ s) ≡ tokens names s
unfolding tokens tokens_past
tokens-blank names b s h = rw (tokens_past, h)

pub tokens-front : (names : List Name) (b : ℕ) (s : List ℕ) (t : Token) (n : ℕ) → blank b ≡ false
    → front names (b ∷ s) ≡ some (record { token = t; size = suc n }) → tokens names (b ∷ s) ≡ infront t (tokens names (drop n s))
unfolding tokens tokens_past
tokens-front names b s t n h f = rw (tokens_past, h, f) (ap (infront t) (past-drop names n s))

pub tokens-bad : (names : List Name) (b : ℕ) (s : List ℕ) → blank b ≡ false → front names (b ∷ s) ≡ none → tokens names (b ∷ s) ≡ none
unfolding tokens tokens_past
tokens-bad names b s h f = rw (tokens_past, h, f)

-- ---- a byte that begins a token is no blank

start-solid : (b : ℕ) → name_start b ≡ true → blank b ≡ false
unfolding blank
start-solid b h = let l = start-from b h in rw (ne_eqb b 9 (λ e. omega arith), ne_eqb b 32 (λ e. omega arith))

digit-solid : (b : ℕ) → digit b ≡ true → blank b ≡ false
unfolding blank
digit-solid b h = let l = digit-from b h in rw (ne_eqb b 9 (λ e. omega arith), ne_eqb b 32 (λ e. omega arith))

-- ---- which bytes continue a name or a number

digit-part : (b : ℕ) → digit b ≡ true → name_part b ≡ true
unfolding name_part
digit-part b h = or_right (name_start b) (digit b) h

ends-digit : (s : List ℕ) → ends name_part s ≡ true → ends digit s ≡ true
unfolding ends
ends-digit [] h = refl
ends-digit (b ∷ s) h =
    rw (ends, not-true (digit b) (λ e. no_both (digit-part b e) (ends-head name_part b s h)))

-- the letters of `0x` and `0b`
other : (x : ℕ) → 58 ≤ x → name_part x ≡ true → (b : ℕ) → (name_part b ≡ false → eqb b x ≡ false) × (digit b ≡ true → eqb b x ≡ false)
unfolding digit
other x l p b = (
  (λ h. ne_eqb b x (λ e. no_both p (ap name_part (sym e) ∙ h))),
  (λ h. let r = between-true 48 57 b h in ne_eqb b x (λ e. omega arith)),
)

name-x : name_part 120 ≡ true
unfolding name_part name_start letter digit between
name-x = refl

name-b : name_part 98 ≡ true
unfolding name_part name_start letter digit between
name-b = refl

-- decimal digits, where neither `x` nor `b` is second
second-scanned : (b x : ℕ) (h : List ℕ) (k : ℕ) → eqb x 120 ≡ false → eqb x 98 ≡ false → run digit (x ∷ h) ≡ k
    → digit_scan b (x ∷ h) ≡ matching (suc k) Number
unfolding digit_scan
second-scanned b x h k n m e = by-test (eqb b 48) (λ z. rw (digit_scan, z, n, m, e)) (λ z. rw (digit_scan, z, e))

digits-scanned : (b : ℕ) (t rest : List ℕ) → every digit t ≡ true → ends name_part rest ≡ true
    → digit_scan b (t ++ rest) ≡ matching (suc (length t)) Number
unfolding digit_scan
digits-scanned b [] [] ht he = refl
digits-scanned b [] (x ∷ r) ht he =
    let h = ends-head name_part x r he in
    second-scanned b x r 0 ((other 120 (omega arith) name-x x).0 h) ((other 98 (omega arith) name-b x).0 h)
    (run-append digit [] (x ∷ r) ht (ends-digit (x ∷ r) he))
digits-scanned b (x ∷ t) rest ht he =
    let h = every-head digit x t ht in
    second-scanned b x (t ++ rest) (suc (length t)) ((other 120 (omega arith) name-x x).1 h) ((other 98 (omega arith) name-b x).1 h)
    (run-append digit (x ∷ t) rest ht (ends-digit rest he))

-- a Number token's value
unfoldable pub Within64 : ℤ → Type 0
Within64 (pos n) = n < 2 ^ 63
Within64 (negsuc n) = n < 2 ^ 63

decimal-token : (z : ℤ) → Within64 z → number_token (signed_decimal z) ≡ some (number z)
unfolding signed_decimal number_token within Within64 minus
decimal-token (pos n) h =
    let d = decimal-digits n in
    let ge = digit-from d.head (every-head digit d.head d.tail d.digits) in
    let v : value_of 10 (d.head ∷ d.tail) ≡ n = ap (value_of 10) (sym d.shape) ∙ decimal-value n in
    rw (d.shape, number_token, ne_eqb d.head 45 (λ e. omega arith), v, lt-ltb n (2 ^ 63) h)
decimal-token (negsuc n) h = rw (decimal-value (suc n), le-leb (suc n) (2 ^ 63) h)

module _ (names : List Name) (ok : each (λ n. is_identifier n.spelling) names ≡ true) where
  -- what the scan finds is what the text begins with
  pub front-scan : (s : List ℕ) → front names s ≡ matched names s (scan names s)
  unfolding front
  front-scan s = ap (matched names s) (longest-scan names ok s)

  -- a string that the scan takes whole, and what follows it
  reads-scanned : (a : ℕ) (t rest : List ℕ) (c : Class) (m : Token) → blank a ≡ false
      → scan names (a ∷ (t ++ rest)) ≡ some (matching (suc (length t)) c) → token_of names c (a ∷ t) ≡ some m
      → tokens names (a ∷ (t ++ rest)) ≡ infront m (tokens names rest)
  unfolding matched sized matching
  reads-scanned a t rest c m hb hs hm =
      tokens-front names a (t ++ rest) m (length t) hb (front-scan (a ∷ (t ++ rest)) ∙ rw (hs, matched, take-append_seam t rest, hm))
      ∙ ap (λ (s : List ℕ). infront m (tokens names s)) (drop-append_seam t rest)

  word-scanned : (b : ℕ) (u rest : List ℕ) → name_start b ≡ true → every name_part u ≡ true → ends name_part rest ≡ true
      → scan names (b ∷ (u ++ rest)) ≡ some (matching (suc (length u)) (word_class (is_register names (b ∷ u))))
  unfolding scan
  word-scanned b u rest hb hu he = rw (scan, hb, before-append name_part u rest hu he, run-append name_part u rest hu he)

  -- ---- words

  pub reads-identifier : (s rest : List ℕ) → is_identifier s ≡ true → is_register names s ≡ false → ends name_part rest ≡ true
      → tokens names (s ++ rest) ≡ infront (identifier s) (tokens names rest)
  unfolding is_identifier token_of word_class
  reads-identifier [] rest hi hr he = absurd (true≢false (sym hi))
  reads-identifier (b ∷ u) rest hi hr he =
      let (hb, hu) = both (name_start b) (every name_part u) hi in
      reads-scanned b u rest Identifier (identifier (b ∷ u)) (start-solid b hb)
      (word-scanned b u rest hb hu he ∙ ap (λ (v : Bool). some (matching (suc (length u)) (word_class v))) hr) refl

  register-is : (s : List ℕ) (r : Option ℕ) → token_of names Register s ≡ some (register r) → is_register names s ≡ true
  unfolding token_of register_token is_register is_some
  register-is s r h = go (named names s) h
    where
      go : (o : Option Name) → register_token o ≡ some (register r) → is_some o ≡ true
      go none g = let z : ◌≡◌ {A = ℕ} 0 1 = cc in absurd (omega arith)
      go (some n) g = refl

  pub reads-register : (s rest : List ℕ) (r : Option ℕ) → token_of names Register s ≡ some (register r) → ends name_part rest ≡ true
      → tokens names (s ++ rest) ≡ infront (register r) (tokens names rest)
  unfolding is_identifier word_class
  reads-register s rest r h he = go s (register-is s r h) (register-identifier names ok s (register-is s r h)) h
    where
      go : (s : List ℕ) → is_register names s ≡ true → is_identifier s ≡ true → token_of names Register s ≡ some (register r)
          → tokens names (s ++ rest) ≡ infront (register r) (tokens names rest)
      go [] k i h = absurd (true≢false (sym i))
      go (b ∷ u) k i h =
          let (hb, hu) = both (name_start b) (every name_part u) i in
          reads-scanned b u rest Register (register r) (start-solid b hb)
          (word-scanned b u rest hb hu he ∙ ap (λ (v : Bool). some (matching (suc (length u)) (word_class v))) k) h

  pub reads-directive : (s rest : List ℕ) → is_identifier s ≡ true → ends name_part rest ≡ true
      → tokens names (46 ∷ (s ++ rest)) ≡ infront (directive s) (tokens names rest)
  unfolding is_identifier scan dot_scan name_start letter digit between blank token_of
  reads-directive [] rest hi he = absurd (true≢false (sym hi))
  reads-directive (b ∷ u) rest hi he =
      let (hb, hu) = both (name_start b) (every name_part u) hi in
      reads-scanned 46 (b ∷ u) rest Directive (directive (b ∷ u)) refl (rw (dot_scan, hb, run-append name_part u rest hu he)) refl

  -- ---- decimal numbers

  reads-digits : (s rest : List ℕ) (m : Token) → Digits s → token_of names Number s ≡ some m → ends name_part rest ≡ true
      → tokens names (s ++ rest) ≡ infront m (tokens names rest)
  unfolding scan
  reads-digits s rest m d hm he =
      let hd = every-head digit d.head d.tail d.digits in
      rw d.shape (reads-scanned d.head d.tail rest Number m (digit-solid d.head hd)
      (rw (scan, digit-not-start d.head hd, hd, digits-scanned d.head d.tail rest (every-tail digit d.head d.tail d.digits) he))
      (rw d.shape at hm))

  pub reads-decimal : (z : ℤ) (rest : List ℕ) → Within64 z → ends name_part rest ≡ true
      → tokens names (signed_decimal z ++ rest) ≡ infront (number z) (tokens names rest)
  unfolding signed_decimal token_of scan at_least_one name_start letter digit between blank
  reads-decimal (pos n) rest h he = reads-digits (decimal n) rest (number (pos n)) (decimal-digits n) (decimal-token (pos n) h) he
  reads-decimal (negsuc n) rest h he =
      let d = decimal-digits (suc n) in
      reads-scanned 45 (decimal (suc n)) rest Number (number (negsuc n)) refl
      (rw (d.shape, run-append digit (d.head ∷ d.tail) rest d.digits (ends-digit rest he)))
      (decimal-token (negsuc n) h)

  -- ---- marks, whatever follows

  pub reads-comma : (rest : List ℕ) → tokens names (44 ∷ rest) ≡ infront comma (tokens names rest)
  unfolding scan name_start letter digit between mark blank token_of mark_token
  reads-comma rest = reads-scanned 44 [] rest Mark comma refl refl refl

  pub reads-opening : (rest : List ℕ) → tokens names (40 ∷ rest) ≡ infront opening (tokens names rest)
  unfolding scan name_start letter digit between mark blank token_of mark_token
  reads-opening rest = reads-scanned 40 [] rest Mark opening refl refl refl

  pub reads-closing : (rest : List ℕ) → tokens names (41 ∷ rest) ≡ infront closing (tokens names rest)
  unfolding scan name_start letter digit between mark blank token_of mark_token
  reads-closing rest = reads-scanned 41 [] rest Mark closing refl refl refl

  pub reads-space : (rest : List ℕ) → tokens names (32 ∷ rest) ≡ tokens names rest
  unfolding blank
  reads-space rest = tokens-blank names 32 rest refl
