-- Identifiers: what holds of that kind of a token and what of every other, and the Identifier that stands at a place.
use mathlib.Core.Path.{◌≡◌, refl, sym, ap, ◌∙◌}
use Prim.Native.Nat.{ℕ, zero, suc, ◌+◌, ◌<◌}
use native.Mathlib.Omega.{arith}
use mathlib.Core.Bool.{Bool, true, false, true≢false}
use mathlib.Core.Option.{Option, none, some}
use mathlib.Core.List.{List, [], ◌∷◌}
use lib.ListN.{length, take, drop, get_or, length-drop}
use lib.Seq.{get_or-drop}
use lib.Dec.{eqb}
use lib.IntN.{nat_abs}
use Rattle.std.specs.Prelude.{Some, None}
use Rattle.text_lexical.specs.Bytes.{name_start, each}
use Rattle.text_lexical.specs.Names.{Name, named}
use Rattle.text_lexical.proofs.Tests.{no_both, by-test}
use Rattle.text_lexical.proofs.Strings.{found}
use Rattle.text.specs.Tokens.{Class, Register, Identifier, Number, Hex, Binary, Directive, Mark, Match, Token, identifier, register, number, comma, colon, opening, closing, is_identifier, is_in, classes, class_of, longest, within, number_token, pattern_token, register_token, mark_token, token_of, sized, matched, front}
use Rattle.text.specs.NameSets.{Naming}
use Rattle.text.specs.Promised.{found_at, token_at, length_with, length_of, identifier_length, scan_if, signed_kind}
use Rattle.text.specs.declared.lexer.Kind.{Kind}
use Rattle.text.specs.declared.lexer.Kind.TheVariants.{Identifier as IdentifierKind}
use Rattle.text.specs.declared.lexer.Scan.{Scan}
use Rattle.text.specs.declared.lexer.Scan.TheVariants.{Found, Bad, End}
use Rattle.text.specs.declared.lexer.Token.{Token as KeptToken}
use Rattle.text.specs.contracts.lexer.KindPartialEq.TheImpl.{eq-value}
use Rattle.text.proofs.Left.{front_at}
use Rattle.text.proofs.Fronts.{begins-with}

-- ---- the kind

-- A kind is an Identifier's exactly if the code finds it equal to that.
pub identifier-is : (k : Kind) → eq-value.it k IdentifierKind ≡ true → k ≡ IdentifierKind
identifier-is IdentifierKind h = refl
identifier-is k h = absurd (true≢false (sym h))

pub identifier-not : (k : Kind) → eq-value.it k IdentifierKind ≡ false → k ≡ IdentifierKind → ⊥
identifier-not k h e = true≢false (sym (ap (λ x. eq-value.it x IdentifierKind) e) ∙ h)

-- No other kind has an Identifier's length.
pub length-none : (k : Kind) (n : ℕ) → (k ≡ IdentifierKind → ⊥) → None ≡ length_with k n
length-none IdentifierKind n f = absurd (f refl)
length-none k n f = refl

length-some : (k : Kind) (m n : ℕ) → Some n ≡ length_with k m → (n ≡ m) × (k ≡ IdentifierKind)
length-some IdentifierKind m n e = (cc, refl)
length-some k m n e = cc

-- ---- what is found

-- The token that an Identifier's length is found by.
pub identifier-found : (names : List Name) (s : List ℕ) (at n : ℕ) → Some n ≡ identifier_length names s at
    → (t : KeptToken) × (next : ℕ) × (Found t next ≡ token_at names s at) × (t.kind ≡ IdentifierKind) × (n ≡ t.length)
unfolding identifier_length
identifier-found names s at n e = by-scan (token_at names s at) refl e
  where
    by-scan : (r : Scan) → r ≡ token_at names s at → Some n ≡ length_of r
        → (t : KeptToken) × (next : ℕ) × (Found t next ≡ token_at names s at) × (t.kind ≡ IdentifierKind) × (n ≡ t.length)
    by-scan (Found t next) f h = let (q, k) = length-some t.kind t.length n h in (t, next, f, k, q)
    by-scan Bad f h = cc
    by-scan (End x) f h = cc

-- ---- where there is none

-- Where no token is found there is none.
pub no-token : (r : Scan) → ((t : KeptToken) (next : ℕ) → r ≡ Found t next → ⊥) → None ≡ length_of r
no-token (Found t next) f = absurd (f t next refl)
no-token r f = refl

-- A token of another class is no Identifier.
Other : Option Token → Type 0
Other (some (identifier u)) = ⊥
Other o = Unit {0}

named-other : (o : Option Name) → Other (register_token o)
unfolding Other register_token
named-other none = tt
named-other (some n) = tt

within-other : (b : Bool) (t : Token) → Other (some t) → Other (within b t)
unfolding Other within
within-other true t h = h
within-other false t h = tt

mark-other : (u : List ℕ) → Other (mark_token u)
unfolding Other mark_token
mark-other [] = tt
mark-other (b ∷ u) = go (eqb b 44) (eqb b 58) (eqb b 40)
  where
    go : (x y z : Bool) → Other (elim x [ true ↦ some comma | false ↦ elim y [ true ↦ some colon | false ↦ elim z [ true ↦ some opening | false ↦ some closing ] ] ])
    go true y z = tt
    go false true z = tt
    go false false true = tt
    go false false false = tt

class-other : (names : List Name) (c : Class) (u : List ℕ) → (c ≡ Identifier → ⊥) → Other (token_of names c u)
unfolding Other token_of number_token pattern_token
class-other names Identifier u f = absurd (f refl)
class-other names Register u f = named-other (named names u)
class-other names Number [] f = tt
class-other names Number (b ∷ u) f = by-test (eqb b 45) (λ e. rw (number_token, e) (within-other _ _ tt)) (λ e. rw (number_token, e) (within-other _ _ tt))
class-other names Hex u f = within-other _ _ tt
class-other names Binary u f = within-other _ _ tt
class-other names Directive u f = tt
class-other names Mark u f = mark-other u

module _ (names : List Name) where
  -- A match is in its class.
  class-in : (u : List ℕ) (c : Class) → class_of names u ≡ some c → is_in names c u ≡ true
  unfolding class_of classes each
  class-in u c e = (found (λ x. is_in names x u) (λ x. true) classes c e refl).0

  longest-in : (s : List ℕ) (k : ℕ) (m : Match) → longest names s k ≡ some m → is_in names m.class (take m.size s) ≡ true
  unfolding longest
  longest-in s zero m e = cc
  longest-in s (suc k) m e = go (class_of names (take (suc k) s)) refl (longest-in s k m) e
    where
      go : (o : Option Class) → class_of names (take (suc k) s) ≡ o → (longest names s k ≡ some m → is_in names m.class (take m.size s) ≡ true)
          → ◌≡◌ {A = Option Match} (elim o [ some c ↦ some (record { size = suc k; class = c }) | none ↦ longest names s k ]) (some m) → is_in names m.class (take m.size s) ≡ true
      go (some c) q h e = let r : ◌≡◌ {A = Match} (record { size = suc k; class = c }) m = cc in rw (← r) (class-in (take (suc k) s) c q)
      go none q h e = h e

  -- No Identifier begins with another byte than a name does.
  starts-no : (n : ℕ) (l : List ℕ) → (0 < length l → name_start (get_or l 0 0) ≡ false) → is_identifier (take n l) ≡ false
  unfolding is_identifier
  starts-no zero l f = refl
  starts-no (suc n) [] f = refl
  starts-no (suc n) (b ∷ t) f = rw (is_identifier, f (omega arith))

  module _ (s : List ℕ) (at : ℕ) where
    other-none : (n : ℕ) (o : Option Token) → Other o → None ≡ length_of (found_at s at (sized n o))
    unfolding Other sized
    other-none n (some (identifier u)) h = absurd h
    other-none n (some (register none)) h = refl
    other-none n (some (register (some r))) h = refl
    other-none n (some (number z)) h = go _
      where
        go : (b : Bool) → None ≡ length_with (signed_kind b (nat_abs z)) n
        go true = refl
        go false = refl
    other-none n o h = refl

    match-none : (l : List ℕ) (o : Option Match) → ((m : Match) → o ≡ some m → m.class ≡ Identifier → ⊥) → None ≡ length_of (found_at s at (matched names l o))
    unfolding matched
    match-none l none f = refl
    match-none l (some m) f = other-none m.size _ (class-other names m.class (take m.size l) (f m refl))

    -- Where a word begins, it is the token there.
    pub identifier-at : (r : Scan) → Some r ≡ scan_if name_start names s at → length_of r ≡ identifier_length names s at
    unfolding identifier_length
    identifier-at r e = ap length_of (begins-with name_start names s at r e).1

    -- There is none at the text's end, nor where a byte stands with which no name begins.
    pub identifier_none : Naming names → (at < length s → name_start (get_or s at 0) ≡ false) → None ≡ identifier_length names s at
    unfolding identifier_length token_at front is_in
    identifier_none ok f =
        let e : at + 0 ≡ at = omega arith in
        let no : (n : ℕ) → is_identifier (take n (drop at s)) ≡ false
        = λ n. starts-no n (drop at s) (λ l. rw (get_or-drop at s 0 0, e) (f (omega (arith, length-drop at s)))) in
        rw (front_at names ok.identifiers s at) (match-none (drop at s) _ (λ m q i. no_both (rw i at (longest-in (drop at s) (length (drop at s)) m q)) (no m.size)))
