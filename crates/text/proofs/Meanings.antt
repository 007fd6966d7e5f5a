-- A token's kind, by its meaning and its spelling, means that token again, has the sign of that spelling, and the token's number.
use Prim.Native.Nat.{ℕ, ◌^◌}
use mathlib.Core.Path.{◌≡◌, refl, ap}
use native.Mathlib.Omega.{arith}
use mathlib.Core.Bool.{Bool, true, false}
use mathlib.Core.Option.{Option, none, some}
use mathlib.Core.List.{List, [], ◌∷◌}
use lib.ListN.{take, drop, get_or}
use lib.Dec.{leb, ltb, eqb}
use lib.IntN.{ℤ, pos, nat_abs}
use borrow.Author.Tests.{ltb-true, eqb-true, eq-eqb}
use Rattle.text_lexical.specs.Bytes.{value, same}
use Rattle.text_lexical.specs.Numbers.{value_of, minus, lies_in}
use Rattle.text_lexical.specs.Numbers.{NumberRange as MeantRange}
use Rattle.text_lexical.specs.Promised.{range_meant}
use Rattle.text_lexical.specs.declared.number.NumberRange.{NumberRange}
use Rattle.text_lexical.specs.Names.{Name, named}
use Rattle.text_lexical.proofs.Tests.{by-test, no_both}
use Rattle.text_lexical.proofs.Strings.{found}
use Rattle.text_lexical.proofs.Registers.{index-register}
use Rattle.text_lexical.proofs.Numbers.{whole-meant, abs_minus}
use Rattle.text.specs.Tokens.{Class, Register, Identifier, Number, Hex, Binary, Directive, Mark, Match, Token, register, number, hex, binary, comma, colon, opening, closing, within, number_token, pattern_token, register_token, mark_token, token_of, Sized, sized, matched, front, longest}
use Rattle.text.specs.Values.{read_decimal, read_pattern, read_number}
use Rattle.text.specs.NameSets.{is_numbered, Naming}
use Rattle.refusal.specs.Refusals.{refusals}
use Rattle.text.specs.Promised.{extract_for, extracted, extract_meant, kind_meant, kind_for}
use Rattle.text.specs.declared.lexer.Kind.{Kind}
use Rattle.text.specs.declared.lexer.Kind.TheVariants.{Identifier as IdentifierKind, Number as NumberKind, Negative, Hex as HexKind, Binary as BinaryKind}

-- Where there is no token there is none.
pub no-token : {t : Token} → ◌≡◌ {A = Option Token} none (some t) → ⊥
no-token e = let z : ◌≡◌ {A = ℕ} 0 1 = cc in absurd (omega arith)

same-token : {t m : Token} → ◌≡◌ {A = Option Token} (some t) (some m) → t ≡ m
same-token e = cc

-- A token's kind means the token.
unfoldable pub Means : Token → List ℕ → Type 0
Means m u = kind_meant (kind_for m u) u ≡ m

register-means : (u : List ℕ) (r : Option ℕ) → is_numbered r ≡ true → Means (register r) u
unfolding Means is_numbered
register-means u none h = refl
register-means u (some n) h = ap (λ (x : ℕ). register (some x)) (index-register n (ltb-true n 16 h))

pub within-means : (u : List ℕ) (b : Bool) (t m : Token) → within b t ≡ some m → Means t u → Means m u
unfolding within
within-means u true t m e h = rw (← same-token e) h
within-means u false t m e h = absurd (no-token e)

pub number-means : (u : List ℕ) (m : Token) → number_token u ≡ some m → Means m u
unfolding number_token Means
number-means [] m h = absurd (no-token h)
number-means (b ∷ s) m h =
    by-test (eqb b 45)
    (λ e. within-means (b ∷ s) (leb (value_of 10 s) (2 ^ 63)) (number (minus (value_of 10 s))) m (rw (number_token, e) at h)
    (rw e (ap (λ (n : ℕ). number (minus n)) (abs_minus (value_of 10 s)))))
    (λ e. within-means (b ∷ s) (ltb (value_of 10 (b ∷ s)) (2 ^ 63)) (number (pos (value_of 10 (b ∷ s)))) m (rw (number_token, e) at h) (rw e))

pub mark-means : (u : List ℕ) (m : Token) → mark_token u ≡ some m → Means m u
unfolding mark_token Means
mark-means [] m h = absurd (no-token h)
mark-means (b ∷ s) m h = go (eqb b 44) (eqb b 58) (eqb b 40) h
  where
    go : (x y z : Bool) → ◌≡◌ {A = Option Token} (elim x [
      | true ↦ some comma
      | false ↦ elim y [
        | true ↦ some colon
        | false ↦ elim z [ true ↦ some opening | false ↦ some closing ]
      ]
    ]) (some m) → Means m (b ∷ s)
    go true y z h = rw (← same-token h)
    go false true z h = rw (← same-token h)
    go false false true h = rw (← same-token h)
    go false false false h = rw (← same-token h)

module _ (names : List Name) (ok : Naming names) where
  named-means : (u : List ℕ) (m : Token) (o : Option Name) → named names u ≡ o → register_token o ≡ some m → Means m u
  unfolding register_token named
  named-means u m none e h = absurd (no-token h)
  named-means u m (some n) e h =
      let (p, q) = found (λ x. same x.spelling u) (λ x. is_numbered x.number) names n e ok.sixteen in
      rw (← same-token h) (register-means u n.number q)

  token-means : (c : Class) (u : List ℕ) (m : Token) → token_of names c u ≡ some m → Means m u
  unfolding token_of pattern_token Means
  token-means Register u m h = named-means u m (named names u) refl h
  token-means Identifier u m h = rw (← same-token h)
  token-means Number u m h = number-means u m h
  token-means Hex u m h = within-means u _ (hex (value_of 16 (drop 2 u))) m h refl
  token-means Binary u m h = within-means u _ (binary (value_of 2 (drop 2 u))) m h refl
  token-means Directive u m h = rw (← same-token h)
  token-means Mark u m h = mark-means u m h

  -- The kind of the token that a text begins with.
  pub front-means : (s : List ℕ) (t : Sized) → front names s ≡ some t → kind_meant (kind_for t.token (take t.size s)) (take t.size s) ≡ t.token
  unfolding front matched Means sized
  front-means s t h = by-match (longest names s _) h
    where
      by_token : (n : ℕ) (c : Class) (o : Option Token) → token_of names c (take n s) ≡ o → sized n o ≡ some t
          → kind_meant (kind_for t.token (take t.size s)) (take t.size s) ≡ t.token
      by_token n c none e g = let z : ◌≡◌ {A = ℕ} 0 1 = cc in absurd (omega arith)
      by_token n c (some m) e g =
          let q : ◌≡◌ {A = Sized} (record { token = m; size = n }) t = cc in
          rw (← q) (token-means c (take n s) m e)

      by-match : (o : Option Match) → matched names s o ≡ some t → kind_meant (kind_for t.token (take t.size s)) (take t.size s) ≡ t.token
      by-match none g = let z : ◌≡◌ {A = ℕ} 0 1 = cc in absurd (omega arith)
      by-match (some m) g = by_token m.size m.class (token_of names m.class (take m.size s)) refl g

-- ---- the sign

-- The spelling of a kind with a sign begins with `-`, and that of a decimal number without one does not.
pub kind-sign : (m : Token) (u : List ℕ) (n : ℕ) → (kind_for m u ≡ Negative n → get_or u 0 0 ≡ 45) × (kind_for m u ≡ NumberKind n → get_or u 0 0 ≡ 45 → ⊥)
kind-sign (number z) u n =
    by-test (eqb (get_or u 0 0) 45)
    (λ e. ((λ h. eqb-true (get_or u 0 0) 45 e), (λ h. let k : Negative (nat_abs z) ≡ NumberKind n = rw e at h in cc)))
    (λ e. ((λ h. let k : NumberKind (nat_abs z) ≡ Negative n = rw e at h in cc), (λ h q. no_both (eq-eqb (get_or u 0 0) 45 q) e)))
kind-sign (register none) u n = ((λ h. cc), (λ h. cc))
kind-sign (register (some r)) u n = ((λ h. cc), (λ h. cc))
kind-sign m u n = ((λ h. cc), (λ h. cc))

-- ---- the number

-- What is read of a kind is the number of the range that its token means.
pub extracted-for : (r : NumberRange) (k : Kind) (u : List ℕ) → extracted r k ≡ extract_for (read_number (range_meant r) (kind_meant k u))
unfolding read_number
extracted-for r IdentifierKind u = refl
extracted-for r k u = refl

-- What is answered for a number of a range, or for 35, means that again.
decimal-back : (r : MeantRange) (z : ℤ) → extract_meant (extract_for (read_decimal r z)) ≡ read_decimal r z
unfolding read_decimal refusals
decimal-back r z = by-test (lies_in r z) (λ e. rw (read_decimal, e) (ap value (whole-meant z))) (λ e. rw (read_decimal, e))

pattern-back : (r : MeantRange) (n : ℕ) → extract_meant (extract_for (read_pattern r n)) ≡ read_pattern r n
unfolding read_pattern refusals
pattern-back r n = by-test (ltb n (2 ^ r.width)) (λ e. rw (read_pattern, e)) (λ e. rw (read_pattern, e))

pub extracted-number : (r : NumberRange) (k : Kind) (u : List ℕ) → extract_meant (extracted r k) ≡ read_number (range_meant r) (kind_meant k u)
unfolding read_number read_decimal read_pattern refusals
extracted-number r (NumberKind n) u = decimal-back (range_meant r) (pos n)
extracted-number r (Negative n) u = decimal-back (range_meant r) (minus n)
extracted-number r (HexKind n) u = pattern-back (range_meant r) n
extracted-number r (BinaryKind n) u = pattern-back (range_meant r) n
extracted-number r k u = refl
