-- The token at a place of a text, by any set of names, in the code's terms: the text, the place, and where the scanner stopped.
use mathlib.Core.Path.{◌≡◌, refl, sym, ap, ◌∙◌}
use Prim.Native.Nat.{ℕ, suc, ◌+◌, ◌-◌, ◌^◌, ◌≤◌, ◌<◌}
use native.Mathlib.Omega.{arith}
use native.Mathlib.Numerals.{add-one}
use mathlib.Core.Bool.{Bool, true, false, ◌||◌}
use mathlib.Core.List.{List, [], ◌∷◌}
use mathlib.Core.Option.{Option, none, some}
use lib.ListN.{length, take, drop, get_or, get_or-eq_default, length-drop, drop_of_length-le}
use lib.Seq.{drop-cons}
use lib.Dec.{leb, ltb, eqb}
use lib.IntN.{pos}
use borrow.Author.Tests.{eqb-true, eq-eqb, ne_eqb, lt-ltb, le-ltb, le-leb, lt-leb}
use Rattle.text_lexical.specs.Bytes.{between, letter, digit, mark, name_start, name_part, before, run, is_some}
use Rattle.text_lexical.specs.Numbers.{value_of, minus}
use Rattle.text_lexical.specs.Names.{Name, named}
use Rattle.text_lexical.specs.Promised.{name_meant, name_number, fitting, base_of, is_digit_of, digits_at}
use Rattle.text_lexical.specs.declared.number.Radix.{Radix}
use Rattle.text_lexical.specs.declared.number.Radix.TheVariants.{Binary as BinaryRadix, Decimal as DecimalRadix, Hex as HexRadix}
use Rattle.std.specs.Prelude.{Some, None}
use Rattle.text_lexical.specs.declared.number.Digits.{Digits}
use Rattle.text_lexical.specs.declared.name.RegisterName.{RegisterName}
use Rattle.text_lexical.specs.declared.name.RegisterName.TheVariants.{Is, NoSuch, Other}
use Rattle.text_lexical.proofs.Tests.{split, by-test, not-true, no_both, or_left, or_right, or_elim}
use Rattle.text_lexical.proofs.Strings.{take-run, run-le, run-yes, run-no}
use Rattle.text_lexical.proofs.Values.{fits-is, large_is}
use Rattle.text_lexical.proofs.Registers.{register-index}
use Rattle.text.specs.Tokens.{is_register, Class, Number, Hex, Binary, Directive, Mark, longest, Token, identifier, register, number, hex, binary, directive, within, number_token, pattern_token, register_token, mark_token, token_of, sized, matched, front}
use Rattle.text.specs.NameSets.{Naming}
use Rattle.text_lexical.proofs.Numbers.{abs_minus}
use Rattle.text.specs.Promised.{kind_meant, pattern_kind, kind_for, token_at, name_end, number_start, scan_if, IsDecimal, PrefixIs, Prefixed, NoWord}
use Rattle.text.specs.declared.lexer.Kind.{Kind}
use Rattle.text.specs.declared.lexer.Kind.TheVariants.{Identifier as IdentifierKind, Register as RegisterKind, NoRegister, Number as NumberKind, Negative}
use Rattle.text.specs.declared.lexer.Scan.{Scan}
use Rattle.text.specs.declared.lexer.Scan.TheVariants.{Found, Bad}
use Rattle.text.proofs.Scanning.{matching, word_class, at_least_one, radix_or, digit_scan, dot_scan, scan, longest-scan, digit-from, digit-not-start}
use Rattle.text.proofs.Tokens.{front-scan}
use Rattle.text.proofs.Left.{front_at}

-- ---- places

-- A run ends within the line
pub run_in : (p : ℕ → Bool) (s : List ℕ) (i : ℕ) → i ≤ length s → i + run p (drop i s) ≤ length s
run_in p s i h = omega (arith, run-le p (drop i s), length-drop i s)

-- The part from a place on begins with the byte there
pub part-cons : (s : List ℕ) (at e : ℕ) → at < e → at < length s → take (e - at) (drop at s) ≡ get_or s at 0 ∷ take (e - (at + 1)) (drop (at + 1) s)
part-cons s at e h l =
    let q : e - at ≡ suc (e - (at + 1)) = omega arith in
    rw (q, drop-cons s at 0 l, add-one at)

-- ---- what begins at a place

-- Where a token begins with such a byte it is answered, and none where none does.
module _ (p : ℕ → Bool) (names : List Name) (s : List ℕ) (at : ℕ) where
  pub begins-with : (r : Scan) → Some r ≡ scan_if p names s at → (p (get_or s at 0) ≡ true) × (r ≡ token_at names s at)
  unfolding scan_if
  begins-with r e =
      by-test (p (get_or s at 0))
      (λ t. let q : Some r ≡ Some (token_at names s at) = rw (scan_if, t) at e in (t, cc))
      (λ n. let q : Some r ≡ None = rw (scan_if, n) at e in let z : ◌≡◌ {A = ℕ} 0 1 = cc in absurd (omega arith))

  pub begins-otherwise : None ≡ scan_if p names s at → p (get_or s at 0) ≡ false
  unfolding scan_if
  begins-otherwise e =
      not-true (p (get_or s at 0)) (λ t. let q : None ≡ Some (token_at names s at) = rw (scan_if, t) at e in let z : ◌≡◌ {A = ℕ} 0 1 = cc in omega arith)

-- Where a name begins is within the text, and it ends after its parts.
module _ (s : List ℕ) (at : ℕ) where
  pub no-name-past : length s ≤ at → name_start (get_or s at 0) ≡ false
  unfolding name_start letter between
  no-name-past h = rw (get_or-eq_default s 0 {n = at} h) refl

  pub name-begins : (e : ℕ) → Some e ≡ name_end s at → (at < length s) × (name_start (get_or s at 0) ≡ true) × (e ≡ at + 1 + run name_part (drop (at + 1) s))
  unfolding name_end
  name-begins e q =
      by-test (name_start (get_or s at 0))
      (λ t. let r : Some e ≡ Some (at + 1 + run name_part (drop (at + 1) s)) = rw (name_end, t) at q in (split at (length s) (λ l. l) (λ m. let n = no-name-past m in cc), t, cc))
      (λ n. let r : Some e ≡ None = rw (name_end, n) at q in cc)

  pub no-name : None ≡ name_end s at → name_start (get_or s at 0) ≡ false
  unfolding name_end
  no-name q = not-true (name_start (get_or s at 0)) (λ t. let r : None ≡ Some (at + 1 + run name_part (drop (at + 1) s)) = rw (name_end, t) at q in cc)

-- ---- words

-- The token of a word, by the number that its name has.
word_meant : Option (Option ℕ) → List ℕ → Token
word_meant (some r) u = register r
word_meant none u = identifier u

-- A name's meaning, and the kind of token that it makes.
abbrev pub name_kind : RegisterName → Kind
name_kind (Is r) = RegisterKind r
name_kind NoSuch = NoRegister
name_kind Other = IdentifierKind

kind-word : (n : RegisterName) (u : List ℕ) → word_meant (name_meant n) u ≡ kind_meant (name_kind n) u
unfolding word_meant
kind-word (Is r) u = refl
kind-word NoSuch u = refl
kind-word Other u = refl

-- It is the kind of that meaning.
name-kind : (n : RegisterName) (u : List ℕ) → kind_for (kind_meant (name_kind n) u) u ≡ name_kind n
name-kind (Is r) u = ap RegisterKind (register-index r)
name-kind NoSuch u = refl
name-kind Other u = refl

-- ---- numbers

-- A byte that no number begins with.
pub no-number-start : (b : ℕ) → number_start b ≡ false → (digit b ≡ false) × (b ≡ 45 → ⊥)
unfolding number_start
no-number-start b h = (not-true (digit b) (λ t. no_both (or_left (digit b) (eqb b 45) t) h), λ e. no_both (or_right (digit b) (eqb b 45) (eq-eqb b 45 e)) h)

-- One that a number begins with, and that is no sign.
pub number-digit : (b : ℕ) → number_start b ≡ true → (b ≡ 45 → ⊥) → digit b ≡ true
unfolding number_start
number-digit b h f = or_elim (digit b) (eqb b 45) h (λ d. d) (λ e. absurd (f (eqb-true b 45 e)))

digit-no-minus : (b : ℕ) → digit b ≡ true → eqb b 45 ≡ false
digit-no-minus b h = let l = digit-from b h in ne_eqb b 45 (λ e. omega arith)

-- A number's kind, by the first byte of its spelling.
number-kind : (s : List ℕ) (at e n : ℕ) → at < e → at < length s → digit (get_or s at 0) ≡ true
    → kind_for (number (pos n)) (take (e - at) (drop at s)) ≡ NumberKind n
number-kind s at e n h l d = rw (part-cons s at e h l, digit-no-minus (get_or s at 0) d)

minus-kind : (s : List ℕ) (at e n : ℕ) → at < e → at < length s → get_or s at 0 ≡ 45
    → kind_for (number (minus n)) (take (e - at) (drop at s)) ≡ Negative n
minus-kind s at e n h l d = rw (part-cons s at e h l, d, abs_minus n)

digits-one : (b : ℕ) → digit_scan b [] ≡ matching (suc (run digit [])) Number
unfolding digit_scan run before
digits-one b = refl

digits-two : (b x : ℕ) (h : List ℕ) → (b ≡ 48 → (x ≡ 120 → ⊥) × (x ≡ 98 → ⊥)) → digit_scan b (x ∷ h) ≡ matching (suc (run digit (x ∷ h))) Number
unfolding digit_scan
digits-two b x h g =
    by-test (eqb b 48)
    (λ t. let k = g (eqb-true b 48 t) in rw (digit_scan, t, ne_eqb x 120 k.0, ne_eqb x 98 k.1))
    (λ t. rw (digit_scan, t))

-- A number's token, by its value.
decimal-token : (b : ℕ) (u : List ℕ) → digit b ≡ true → number_token (b ∷ u) ≡ within (ltb (value_of 10 (b ∷ u)) (2 ^ 63)) (number (pos (value_of 10 (b ∷ u))))
unfolding number_token
decimal-token b u d = rw (number_token, digit-no-minus b d)

minus-token : (u : List ℕ) → number_token (45 ∷ u) ≡ within (leb (value_of 10 u) (2 ^ 63)) (number (minus (value_of 10 u)))
unfolding number_token
minus-token u = refl

-- What follows `0x`
part-two : (s : List ℕ) (at e : ℕ) → at + 2 ≤ e → e ≤ length s → drop 2 (take (e - at) (drop at s)) ≡ take (e - (at + 2)) (drop (at + 2) s)
part-two s at e h l =
    let v : at + 1 + 1 ≡ at + 2 = omega arith in
    rw (part-cons s at e (omega arith) (omega arith), part-cons s (at + 1) e (omega arith) (omega arith), v)

zero-is-digit : (b : ℕ) → b ≡ 48 → digit b ≡ true
unfolding digit between
zero-is-digit b e = rw e

-- ---- digits that have been read

-- What the answer of `digits_at` says: where the digits end, and their value.
pub record Digits-are (radix : Radix) (s : List ℕ) (begin : ℕ) (d : Digits) : Type 0 where
  pub ends : d.end ≡ begin + run (is_digit_of radix) (drop begin s)
  pub on : begin ≤ d.end
  pub in_text : d.end ≤ length s
  value-is : d.value ≡ fitting (value_of (base_of radix) (take (d.end - begin) (drop begin s)))

pub digits_are : (radix : Radix) (s : List ℕ) (begin : ℕ) (d : Digits) → begin ≤ length s → d ≡ digits_at s begin radix → Digits-are radix s begin d
digits_are radix s begin d l e =
    let n : d.end ≡ begin + run (is_digit_of radix) (drop begin s) = rw e in
    let q : d.end - begin ≡ run (is_digit_of radix) (drop begin s) = omega (arith, n) in
    record {
      ends = n;
      on = omega (arith, n);
      in_text = omega (arith, n, run_in (is_digit_of radix) s begin l);
      value-is = rw (q, take-run (is_digit_of radix) (drop begin s)) (ap (λ (x : Digits). x.value) e);
    }

module _ (radix : Radix) (s : List ℕ) (begin : ℕ) (d : Digits) (q : Digits-are radix s begin d) where
  -- A value that fits, and one that does not.
  value-fits : (n : ℕ) → d.value ≡ Some n → (value_of (base_of radix) (take (d.end - begin) (drop begin s)) ≡ n) × (n < 2 ^ 64)
  value-fits n e = let (v, l) = fits-is (value_of (base_of radix) (take (d.end - begin) (drop begin s))) n (sym e ∙ q.value-is) in (v, omega (arith, v, l))

  value-large : d.value ≡ None → 2 ^ 64 ≤ value_of (base_of radix) (take (d.end - begin) (drop begin s))
  value-large e = large_is (value_of (base_of radix) (take (d.end - begin) (drop begin s))) (sym e ∙ q.value-is)

-- ---- marks

-- A mark's byte begins no other token.
mark-alone : (b : ℕ) → mark b ≡ true → (name_start b ≡ false) × (number_start b ≡ false) × (b ≡ 46 → ⊥)
unfolding mark name_start letter digit between number_start
mark-alone b h =
    or_elim (eqb b 44) (eqb b 58 || (eqb b 40 || eqb b 41)) h
    (λ e. rw (eqb-true b 44 e) (refl, refl, λ z. absurd (omega arith)))
    (λ h. or_elim (eqb b 58) (eqb b 40 || eqb b 41) h
    (λ e. rw (eqb-true b 58 e) (refl, refl, λ z. absurd (omega arith)))
    (λ h. or_elim (eqb b 40) (eqb b 41) h
    (λ e. rw (eqb-true b 40 e) (refl, refl, λ z. absurd (omega arith)))
    (λ e. rw (eqb-true b 41 e) (refl, refl, λ z. absurd (omega arith)))))

-- ---- what the scan finds, by any set of names

module _ (names : List Name) where
  scan-word : (b : ℕ) (t : List ℕ) → name_start b ≡ true
      → scan names (b ∷ t) ≡ some (matching (suc (run name_part t)) (word_class (is_register names (b ∷ before name_part t))))
  unfolding scan
  scan-word b t h = rw (scan, h)

  word-token : (u : List ℕ) → token_of names (word_class (is_register names u)) u ≡ some (word_meant (name_number (named names u)) u)
  unfolding is_register is_some token_of register_token word_class word_meant
  word-token u = go (named names u) refl
    where
      go : (o : Option Name) → named names u ≡ o → token_of names (word_class (is_some o)) u ≡ some (word_meant (name_number o) u)
      go none e = refl
      go (some n) e = rw e

  -- Digits that no 0x or 0b begins
  digits-scan : (s : List ℕ) (at e : ℕ) → at < length s → digit (get_or s at 0) ≡ true → e ≡ at + 1 + run digit (drop (at + 1) s)
      → (get_or s at 0 ≡ 48 → at + 1 < length s → (get_or s (at + 1) 0 ≡ 120 → ⊥) × (get_or s (at + 1) 0 ≡ 98 → ⊥))
      → scan names (drop at s) ≡ some (matching (e - at) Number)
  unfolding scan
  digits-scan s at e l d q f =
      let q' : e - at ≡ suc (run digit (drop (suc at) s)) = omega (arith, rw (add-one at) at q) in
      rw (q', drop-cons s at 0 l, scan, digit-not-start (get_or s at 0) d, d)
      (ap some (split (suc at) (length s)
      (λ m. rw (drop-cons s (suc at) 0 m) (digits-two (get_or s at 0) (get_or s (suc at) 0) (drop (suc (suc at)) s) (λ z. rw (← add-one at) (f z (omega arith)))))
      (λ m. rw (drop_of_length-le s m) (digits-one (get_or s at 0)))))

  -- A minus
  scan-minus : (t : List ℕ) → scan names (45 ∷ t) ≡ at_least_one Number (run digit t)
  unfolding scan name_start letter digit between
  scan-minus t = refl

  zero-first : (t : List ℕ) → scan names (48 ∷ t) ≡ some (digit_scan 48 t)
  unfolding scan name_start letter digit between
  zero-first t = refl

  dot-first : (t : List ℕ) → scan names (46 ∷ t) ≡ dot_scan t
  unfolding scan name_start letter digit between
  dot-first t = refl

  scan-other : (b : ℕ) (t : List ℕ) (h : Bool) → name_start b ≡ false → number_start b ≡ false → (b ≡ 46 → ⊥) → mark b ≡ h
      → scan names (b ∷ t) ≡ elim h [ true ↦ some (matching 1 Mark) | false ↦ none ]
  unfolding scan
  scan-other b t h w n p k = let (d, m) = no-number-start b n in rw (scan, w, d, ne_eqb b 45 m, ne_eqb b 46 p, k)

  -- What a radix' prefix, class and token are.
  record Pattern (radix : Radix) (x : ℕ) : Type 0 where
    class : Class
    make : ℕ → Token
    scan-is : (h : List ℕ) → digit_scan 48 (x ∷ h) ≡ radix_or class (run (is_digit_of radix) h)
    token-is : (u : List ℕ) → token_of names class u ≡ pattern_token make (base_of radix) u
    kind-meant : (n : ℕ) (u : List ℕ) → kind_meant (pattern_kind radix n) u ≡ make n
    kind-for : (n : ℕ) (u : List ℕ) → kind_for (make n) u ≡ pattern_kind radix n
    no_digit : digit x ≡ false

  hex-pattern : Pattern HexRadix 120
  unfolding digit between digit_scan token_of
  hex-pattern = record { class = Hex; make = hex; scan-is = λ h. refl; token-is = λ u. refl; kind-meant = λ n u. refl; kind-for = λ n u. refl; no_digit = refl }

  binary-pattern : Pattern BinaryRadix 98
  unfolding digit between digit_scan token_of
  binary-pattern = record { class = Binary; make = binary; scan-is = λ h. refl; token-is = λ u. refl; kind-meant = λ n u. refl; kind-for = λ n u. refl; no_digit = refl }

  pattern-of : (radix : Radix) (b : ℕ) → PrefixIs radix b → Pattern radix b
  pattern-of HexRadix b e = rw e hex-pattern
  pattern-of BinaryRadix b e = rw e binary-pattern
  pattern-of DecimalRadix b e = absurd e

  -- The scan of `0`, the letter of a radix, and so many digits.
  radix-at : (s : List ℕ) (at n : ℕ) (radix : Radix) (o : Pattern radix (get_or s (at + 1) 0)) → at + 1 < length s → get_or s at 0 ≡ 48
      → run (is_digit_of radix) (drop (at + 2) s) ≡ n → scan names (drop at s) ≡ some (radix_or o.class n)
  radix-at s at n radix o l b r =
      let v : at + 2 ≡ suc (at + 1) = omega arith in
      rw (drop-cons s at 0 (omega arith), b, drop-cons s (suc at) 0 (omega arith), ← add-one at)
      (zero-first (get_or s (at + 1) 0 ∷ drop (suc (at + 1)) s) ∙ ap some (o.scan-is (drop (suc (at + 1)) s) ∙ ap (radix_or o.class) (rw v at r)))

  module _ (ok : Naming names) where
    -- ---- the answers

    -- A token up to a place, whose kind is that of its meaning and its spelling.
    pub at-found : (s : List ℕ) (at e : ℕ) (k : Kind) → at ≤ e → kind_for (kind_meant k (take (e - at) (drop at s))) (take (e - at) (drop at s)) ≡ k
        → front names (drop at s) ≡ sized (e - at) (some (kind_meant k (take (e - at) (drop at s))))
        → Found (record { kind = k; start = at; length = e - at }) e ≡ token_at names s at
    unfolding token_at sized
    at-found s at e k h f q =
        let n : at + (e - at) ≡ e = omega arith in
        rw (front_at names ok.identifiers s at, q, f, n)

    pub at_none : (s : List ℕ) (at : ℕ) → front names (drop at s) ≡ none → Bad ≡ token_at names s at
    unfolding token_at
    at_none s at q = rw (front_at names ok.identifiers s at, q)

    -- A token that a number's value allows, and none where it does not.
    module _ (s : List ℕ) (at e : ℕ) (h : Bool) (t : Token) (q : front names (drop at s) ≡ sized (e - at) (within h t)) where
      at-allowed : (k : Kind) → at ≤ e → h ≡ true → t ≡ kind_meant k (take (e - at) (drop at s)) → kind_for t (take (e - at) (drop at s)) ≡ k
          → Found (record { kind = k; start = at; length = e - at }) e ≡ token_at names s at
      unfolding within
      at-allowed k l y m f = at-found s at e k l (rw (← m) f) (q ∙ rw (y, m))

      at-refused : h ≡ false → Bad ≡ token_at names s at
      unfolding within sized
      at-refused n = at_none s at (q ∙ rw n)

    -- What the text begins with is what the scan finds.
    pub front-found : (s : List ℕ) (n : ℕ) (c : Class) → scan names s ≡ some (matching n c) → front names s ≡ sized n (token_of names c (take n s))
    unfolding matched matching
    front-found s n c h = front-scan names ok.identifiers s ∙ rw h

    pub front-none : (s : List ℕ) → scan names s ≡ none → front names s ≡ none
    unfolding matched
    front-none s h = front-scan names ok.identifiers s ∙ rw h

    -- The longest match is what the scan finds.
    longest-found : (s : List ℕ) (n : ℕ) (c : Class) → scan names s ≡ some (matching n c) → longest names s (length s) ≡ some (record { size = n; class = c })
    unfolding matching
    longest-found s n c h = longest-scan names ok.identifiers s ∙ h

    found-longest : (s : List ℕ) (n : ℕ) (c : Class) → longest names s (length s) ≡ some (record { size = n; class = c }) → scan names s ≡ some (matching n c)
    unfolding matching
    found-longest s n c h = sym (longest-scan names ok.identifiers s) ∙ h

    -- ---- a word

    pub word-front : (s : List ℕ) (at e : ℕ) → at < length s → name_start (get_or s at 0) ≡ true → e ≡ at + 1 + run name_part (drop (at + 1) s)
        → front names (drop at s)
        ≡ sized (e - at) (token_of names (word_class (is_register names (take (e - at) (drop at s)))) (take (e - at) (drop at s)))
    word-front s at e l h q =
        let t = drop (suc at) s in
        let q' : e - at ≡ suc (run name_part (drop (suc at) s)) = omega (arith, rw (add-one at) at q) in
        rw (q', drop-cons s at 0 l, take-run name_part t)
        (front-found (get_or s at 0 ∷ t) (suc (run name_part t)) (word_class (is_register names (get_or s at 0 ∷ before name_part t))) (scan-word (get_or s at 0) t h) ∙ rw (take-run name_part t))

    pub word_at : (s : List ℕ) (at e : ℕ) (n : RegisterName) → at < length s → name_start (get_or s at 0) ≡ true → e ≡ at + 1 + run name_part (drop (at + 1) s)
        → name_meant n ≡ name_number (named names (take (e - at) (drop at s))) → Found (record { kind = name_kind n; start = at; length = e - at }) e ≡ token_at names s at
    word_at s at e n l h q m =
        let u = take (e - at) (drop at s) in
        at-found s at e (name_kind n) (omega arith) (name-kind n u)
        (word-front s at e l h q ∙ ap (sized (e - at)) (word-token u ∙ ap (λ (o : Option (Option ℕ)). some (word_meant o u)) (sym m) ∙ ap some (kind-word n u)))

    -- ---- a number

    decimal-front : (s : List ℕ) (at e : ℕ) → at < e → e ≤ length s → digit (get_or s at 0) ≡ true → scan names (drop at s) ≡ some (matching (e - at) Number)
        → front names (drop at s) ≡ sized (e - at) (within (ltb (value_of 10 (take (e - at) (drop at s))) (2 ^ 63)) (number (pos (value_of 10 (take (e - at) (drop at s))))))
    unfolding token_of
    decimal-front s at e h l d q =
        front-found (drop at s) (e - at) Number q
        ∙ ap (sized (e - at)) (rw (part-cons s at e h (omega arith)) (decimal-token (get_or s at 0) (take (e - (at + 1)) (drop (at + 1) s)) d))

    minus-none : (s : List ℕ) (at e : ℕ) → at < length s → get_or s at 0 ≡ 45 → e ≡ at + 1 + run digit (drop (at + 1) s) → e ≡ at + 1
        → front names (drop at s) ≡ none
    unfolding at_least_one
    minus-none s at e l b q z =
        let r : run digit (drop (suc at) s) ≡ 0 = omega (arith, rw (add-one at) at q) in
        rw (drop-cons s at 0 l, b) (front-none (45 ∷ drop (suc at) s) (scan-minus (drop (suc at) s) ∙ ap (at_least_one Number) r))

    minus-front : (s : List ℕ) (at e : ℕ) → at < length s → get_or s at 0 ≡ 45 → e ≡ at + 1 + run digit (drop (at + 1) s) → (e ≡ at + 1 → ⊥)
        → front names (drop at s) ≡ sized (e - at) (number_token (45 ∷ take (e - (at + 1)) (drop (at + 1) s)))
    unfolding token_of at_least_one
    minus-front s at e l b q z =
        let c = run_in digit s (at + 1) (omega (arith, add-one at)) in
        front-found (drop at s) (e - at) Number scanned-as
        ∙ rw (part-cons s at e (omega arith) l, b)
      where
        scanned-as : scan names (drop at s) ≡ some (matching (e - at) Number)
        scanned-as =
            let r : run digit (drop (suc at) s) ≡ suc (e - (at + 2)) = omega (arith, rw (add-one at) at q) in
            let w : e - at ≡ suc (suc (e - (at + 2))) = omega (arith, rw (add-one at) at q) in
            rw (w, drop-cons s at 0 l, b) (scan-minus (drop (suc at) s) ∙ ap (at_least_one Number) r)

    -- ---- decimal digits, without a sign

    -- No 0x or 0b begins them.
    pub decimal-here : (s : List ℕ) (at : ℕ) → at < length s → digit (get_or s at 0) ≡ true
        → (get_or s at 0 ≡ 48 → at + 1 < length s → (get_or s (at + 1) 0 ≡ 120 → ⊥) × (get_or s (at + 1) 0 ≡ 98 → ⊥)) → IsDecimal names s at
    decimal-here s at l d f =
        let e = at + run digit (drop at s) in
        let y = run-yes digit s at l d in
        let q : at + run digit (drop at s) - at ≡ run digit (drop at s) = omega arith in
        record { in_text = l; is_digit = d; is_number = rw q at (longest-found (drop at s) (at + run digit (drop at s) - at) Number (digits-scan s at (at + run digit (drop at s)) l d (rw (add-one at) (omega (arith, y))) f)) }

    module _ (s : List ℕ) (at : ℕ) (d : Digits) (h : IsDecimal names s at) (q : Digits-are DecimalRadix s at d) where
      some-digits : at < d.end
      some-digits = omega (arith, q.ends, run-yes digit s at h.in_text h.is_digit)

      decimal-scanned : scan names (drop at s) ≡ some (matching (d.end - at) Number)
      decimal-scanned =
          let n : d.end - at ≡ run digit (drop at s) = omega (arith, q.ends) in
          rw n (found-longest (drop at s) (run digit (drop at s)) Number h.is_number)

      abbrev decimal-value : ℕ
      decimal-value = value_of 10 (take (d.end - at) (drop at s))

      decimal-read : front names (drop at s) ≡ sized (d.end - at) (within (ltb decimal-value (2 ^ 63)) (number (pos decimal-value)))
      decimal-read = decimal-front s at d.end some-digits q.in_text h.is_digit decimal-scanned

      pub decimal-found : (n : ℕ) → d.value ≡ Some n → n < 2 ^ 63 → Found (record { kind = NumberKind n; start = at; length = d.end - at }) d.end ≡ token_at names s at
      decimal-found n e k =
          let v : decimal-value ≡ n = (value-fits DecimalRadix s at d q n e).0 in
          at-allowed s at d.end _ _ decimal-read (NumberKind n) q.on (lt-ltb decimal-value (2 ^ 63) (rw v k)) (ap (λ (x : ℕ). number (pos x)) v)
          (rw v (number-kind s at d.end n some-digits h.in_text h.is_digit))

      -- A value of 2^63 or more is bad, whether it fits 64 bits or not.
      decimal-bad : 2 ^ 63 ≤ decimal-value → Bad ≡ token_at names s at
      decimal-bad k = at-refused s at d.end _ _ decimal-read (le-ltb decimal-value (2 ^ 63) k)

      pub decimal-wide : d.value ≡ None → Bad ≡ token_at names s at
      decimal-wide e = decimal-bad (omega (arith, value-large DecimalRadix s at d q e))

      pub decimal-over : (n : ℕ) → d.value ≡ Some n → 2 ^ 63 ≤ n → Bad ≡ token_at names s at
      decimal-over n e k = decimal-bad (omega (arith, (value-fits DecimalRadix s at d q n e).0))

    -- ---- decimal digits after a sign

    module _ (s : List ℕ) (at : ℕ) (d : Digits) (l : at < length s) (b : get_or s at 0 ≡ 45) (q : Digits-are DecimalRadix s (at + 1) d) where
      pub minus-alone : d.end ≡ at + 1 → Bad ≡ token_at names s at
      minus-alone z = at_none s at (minus-none s at d.end l b q.ends z)

      module _ (z : d.end ≡ at + 1 → ⊥) where
        abbrev minus-value : ℕ
        minus-value = value_of 10 (take (d.end - (at + 1)) (drop (at + 1) s))

        minus-read : front names (drop at s) ≡ sized (d.end - at) (within (leb minus-value (2 ^ 63)) (number (minus minus-value)))
        minus-read = minus-front s at d.end l b q.ends z ∙ ap (sized (d.end - at)) (minus-token (take (d.end - (at + 1)) (drop (at + 1) s)))

        pub minus-found : (n : ℕ) → d.value ≡ Some n → n ≤ 2 ^ 63 → Found (record { kind = Negative n; start = at; length = d.end - at }) d.end ≡ token_at names s at
        minus-found n e k =
            let v : minus-value ≡ n = (value-fits DecimalRadix s (at + 1) d q n e).0 in
            at-allowed s at d.end _ _ minus-read (Negative n) (omega (arith, q.on)) (le-leb minus-value (2 ^ 63) (rw v k)) (ap (λ (x : ℕ). number (minus x)) v)
            (rw v (minus-kind s at d.end n (omega (arith, q.on)) l b))

        minus-bad : 2 ^ 63 < minus-value → Bad ≡ token_at names s at
        minus-bad k = at-refused s at d.end _ _ minus-read (lt-leb minus-value (2 ^ 63) k)

        pub minus-wide : d.value ≡ None → Bad ≡ token_at names s at
        minus-wide e = minus-bad (omega (arith, value-large DecimalRadix s (at + 1) d q e))

        pub minus-over : (n : ℕ) → d.value ≡ Some n → 2 ^ 63 < n → Bad ≡ token_at names s at
        minus-over n e k = minus-bad (omega (arith, (value-fits DecimalRadix s (at + 1) d q n e).0))

    -- ---- a directive and a mark

    pub directive-none : (s : List ℕ) (at : ℕ) → at < length s → get_or s at 0 ≡ 46 → (at + 1 < length s → name_start (get_or s (at + 1) 0) ≡ false)
        → front names (drop at s) ≡ none
    unfolding dot_scan
    directive-none s at l b f =
        rw (drop-cons s at 0 l, b) (front-none (46 ∷ drop (suc at) s) (dot-first (drop (suc at) s) ∙
        split (suc at) (length s)
        (λ m. rw (drop-cons s (suc at) 0 m, dot_scan, rw (add-one at) at (f (omega arith))))
        (λ m. rw (drop_of_length-le s m))))

    pub directive-front : (s : List ℕ) (at e : ℕ) → at + 1 < length s → get_or s at 0 ≡ 46 → name_start (get_or s (at + 1) 0) ≡ true
        → e ≡ at + 1 + 1 + run name_part (drop (at + 1 + 1) s)
        → front names (drop at s) ≡ sized (e - at) (some (directive (drop 1 (take (e - at) (drop at s)))))
    unfolding dot_scan token_of
    directive-front s at e l b n q =
        let v : at + 1 + 1 ≡ suc (suc at) = omega arith in
        let w : e - at ≡ suc (suc (run name_part (drop (suc (suc at)) s))) = omega (arith, rw v at q) in
        front-found (drop at s) (e - at) Directive
        (rw (w, drop-cons s at 0 (omega arith), b, drop-cons s (suc at) 0 (omega arith))
        (dot-first (get_or s (suc at) 0 ∷ drop (suc (suc at)) s) ∙ rw (dot_scan, rw (add-one at) at n)))

    pub mark-none : (s : List ℕ) (at : ℕ) → at < length s → NoWord s at → mark (get_or s at 0) ≡ false → token_at names s at ≡ Bad
    mark-none s at l w k =
        sym (at_none s at (rw (drop-cons s at 0 l) (front-none _ (scan-other (get_or s at 0) (drop (suc at) s) false w.no_start w.no_number w.no_dot k))))

    pub mark-front : (s : List ℕ) (at : ℕ) (t : Token) → at < length s → mark (get_or s at 0) ≡ true → mark_token (get_or s at 0 ∷ []) ≡ some t
        → front names (drop at s) ≡ sized 1 (some t)
    unfolding token_of
    mark-front s at t l k e =
        let (w, n, p) = mark-alone (get_or s at 0) k in
        rw (drop-cons s at 0 l) (front-found (get_or s at 0 ∷ drop (suc at) s) 1 Mark (scan-other (get_or s at 0) (drop (suc at) s) true w n p k) ∙ ap (sized 1) e)

    -- ---- digits after `0x` and `0b`

    module _ (s : List ℕ) (at : ℕ) (radix : Radix) (d : Digits) (h : Prefixed s at radix) (q : Digits-are radix s (at + 2) d) where
      abbrev here : Pattern radix (get_or s (at + 1) 0)
      here = pattern-of radix (get_or s (at + 1) 0) h.is_prefix

      -- No digit follows: `0` is the token.
      pub prefix-alone : d.end ≡ at + 2 → IsDecimal names s at
      unfolding radix_or
      prefix-alone z =
          let m = radix-at s at 0 radix here h.in_text h.is_zero (omega (arith, q.ends)) in
          let o = zero-is-digit _ h.is_zero in
          let y = run-yes digit s at (omega (arith, h.in_text)) o in
          let n = run-no digit s (at + 1) h.in_text here.no_digit in
          let w : 1 ≡ run digit (drop at s) = omega (arith, rw (add-one at) at n, y) in
          record { in_text = omega (arith, h.in_text); is_digit = o; is_number = rw w at (longest-found (drop at s) 1 Number m) }

      module _ (z : d.end ≡ at + 2 → ⊥) where
        scanned : scan names (drop at s) ≡ some (matching (d.end - at) here.class)
        unfolding radix_or
        scanned =
            let w : d.end - at ≡ suc (suc (suc (d.end - (at + 3)))) = omega (arith, q.ends) in
            rw w (radix-at s at (suc (d.end - (at + 3))) radix here h.in_text h.is_zero (omega (arith, q.ends)))

        abbrev prefix-value : ℕ
        prefix-value = value_of (base_of radix) (take (d.end - (at + 2)) (drop (at + 2) s))

        prefix-read : front names (drop at s) ≡ sized (d.end - at) (within (ltb prefix-value (2 ^ 64)) (here.make prefix-value))
        unfolding pattern_token
        prefix-read =
            front-found (drop at s) (d.end - at) here.class scanned
            ∙ ap (sized (d.end - at)) (here.token-is (take (d.end - at) (drop at s)) ∙ rw (part-two s at d.end q.on q.in_text))

        pub prefix-found : (n : ℕ) → d.value ≡ Some n → Found (record { kind = pattern_kind radix n; start = at; length = d.end - at }) d.end ≡ token_at names s at
        prefix-found n e =
            let u = take (d.end - at) (drop at s) in
            let (v, k) = value-fits radix s (at + 2) d q n e in
            at-allowed s at d.end _ _ prefix-read (pattern_kind radix n) (omega (arith, q.on)) (lt-ltb prefix-value (2 ^ 64) (rw v k)) (ap here.make v ∙ sym (here.kind-meant n u))
            (rw v (here.kind-for n u))

        pub prefix-wide : d.value ≡ None → Bad ≡ token_at names s at
        prefix-wide e = at-refused s at d.end _ _ prefix-read (le-ltb prefix-value (2 ^ 64) (value-large radix s (at + 2) d q e))
