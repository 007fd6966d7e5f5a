-- A mark's kind by its byte, case by case.
use mathlib.Core.Path.{◌≡◌, refl, sym, subst}
use Prim.Native.Nat.{ℕ}
use native.Mathlib.Omega.{arith}
use mathlib.Core.Bool.{true, false}
use mathlib.Core.List.{List, [], ◌∷◌}
use mathlib.Core.Option.{some}
use lib.Dec.{eqb}
use borrow.Author.Tests.{eqb-true, eqb-false, ne_eqb}
use Rattle.std.specs.Prelude.{Some, None}
use Rattle.std.specs.Prelude.{Option as Maybe}
use Rattle.std.specs.Option.{option_eq}
use Rattle.text_lexical.specs.Bytes.{mark}
use Rattle.text_lexical.proofs.Tests.{by-test}
use Rattle.text.specs.Tokens.{Token, mark_token, comma, colon, opening, closing}
use Rattle.text.specs.Promised.{kind_meant, kind_for, mark_kind, mark_of_byte}
use Rattle.text.specs.declared.lexer.Kind.{Kind}
use Rattle.text.specs.declared.lexer.Kind.TheVariants.{Comma, Colon, LParen, RParen}
use Rattle.text.specs.contracts.lexer.KindPartialEq.TheImpl.{eq-value}

pub mark-no : (b : ℕ) → (b ≡ 44 → ⊥) → (b ≡ 58 → ⊥) → (b ≡ 40 → ⊥) → (b ≡ 41 → ⊥) → mark b ≡ false
unfolding mark
mark-no b f g h k = rw (ne_eqb b 44 f, ne_eqb b 58 g, ne_eqb b 40 h, ne_eqb b 41 k)

-- What holds of each mark's kind, and of none where no mark stands, holds of the kind of any byte.
pub by-mark : (b : ℕ) (P : ℕ → Maybe Kind → Type 0) → P 44 (Some Comma) → P 58 (Some Colon) → P 40 (Some LParen) → P 41 (Some RParen)
    → ((b ≡ 44 → ⊥) → (b ≡ 58 → ⊥) → (b ≡ 40 → ⊥) → (b ≡ 41 → ⊥) → P b None) → P b (mark_kind b)
unfolding mark_kind mark mark_token
by-mark b P c d o e n =
    by-test (eqb b 44)
    (λ t. subst (λ x. P x (mark_kind x)) (sym (eqb-true b 44 t)) c)
    (λ f. by-test (eqb b 58)
    (λ t. subst (λ x. P x (mark_kind x)) (sym (eqb-true b 58 t)) d)
    (λ g. by-test (eqb b 40)
    (λ t. subst (λ x. P x (mark_kind x)) (sym (eqb-true b 40 t)) o)
    (λ h. by-test (eqb b 41)
    (λ t. subst (λ x. P x (mark_kind x)) (sym (eqb-true b 41 t)) e)
    (λ k. rw (mark_kind, f, g, h, k) (n (eqb-false b 44 f) (eqb-false b 58 g) (eqb-false b 40 h) (eqb-false b 41 k))))))

-- A kind is the mark of a byte exactly if the byte's mark has that kind.
abbrev Same : Kind → ℕ → Maybe Kind → Type 0
Same k b x = option_eq eq-value.it x (Some k) ≡ mark_of_byte k b

pub same-mark : (k : Kind) (b : ℕ) → Same k b (mark_kind b)
same-mark Comma b = by-mark b (Same Comma) refl refl refl refl (λ c d o e. sym (ne_eqb b 44 c))
same-mark Colon b = by-mark b (Same Colon) refl refl refl refl (λ c d o e. sym (ne_eqb b 58 d))
same-mark LParen b = by-mark b (Same LParen) refl refl refl refl (λ c d o e. sym (ne_eqb b 40 o))
same-mark RParen b = by-mark b (Same RParen) refl refl refl refl (λ c d o e. sym (ne_eqb b 41 e))
same-mark k b = by-mark b (Same k) refl refl refl refl (λ c d o e. refl)

-- The token of a mark, by its kind.
pub record Marked (b : ℕ) (k : Kind) : Type 0 where
  pub token : Token
  pub is_mark : mark b ≡ true
  pub token-is : mark_token (b ∷ []) ≡ some token
  pub means : (u : List ℕ) → kind_meant k u ≡ token
  pub made : (u : List ℕ) → kind_for token u ≡ k

pub marked : (b : ℕ) (k : Kind) → Some k ≡ mark_kind b → Marked b k
unfolding mark mark_token
marked b k e = by-mark b (λ x y. Some k ≡ y → Marked x k)
    (λ q. let z : k ≡ Comma = cc in rw z (record { token = comma; is_mark = refl; token-is = refl; means = λ u. refl; made = λ u. refl }))
    (λ q. let z : k ≡ Colon = cc in rw z (record { token = colon; is_mark = refl; token-is = refl; means = λ u. refl; made = λ u. refl }))
    (λ q. let z : k ≡ LParen = cc in rw z (record { token = opening; is_mark = refl; token-is = refl; means = λ u. refl; made = λ u. refl }))
    (λ q. let z : k ≡ RParen = cc in rw z (record { token = closing; is_mark = refl; token-is = refl; means = λ u. refl; made = λ u. refl }))
    (λ c d o f q. let z : ◌≡◌ {A = ℕ} 0 1 = cc in absurd (omega arith))
    e

pub no-mark : (b : ℕ) → None ≡ mark_kind b → mark b ≡ false
no-mark b e = by-mark b (λ x y. None ≡ y → mark x ≡ false) some_kind some_kind some_kind some_kind (λ c d o f q. mark-no b c d o f) e
  where
    some_kind : {P : Type 0} {k : Kind} → None ≡ Some k → P
    some_kind q = let z : ◌≡◌ {A = ℕ} 0 1 = cc in absurd (omega arith)
