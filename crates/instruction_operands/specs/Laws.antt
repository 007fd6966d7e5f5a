-- The laws of a line's tokens as a source of operands.
use mathlib.Core.Path.{◌≡◌, refl, sym, ap, ◌∙◌}
use Prim.Native.Nat.{ℕ}
use mathlib.Core.List.{List, [], ◌++◌, map, map-append, append_assoc}
use Rattle.text.specs.Tokens.{Token}
use Rattle.text.specs.Promised.{meant}
use Rattle.text.specs.declared.lexer.Token.{Token as KeptToken}
use Rattle.instruction.specs.Operands.{read_operands}
use Rattle.instruction.specs.Promised.{spelled_in}
use Rattle.instruction_operands.specs.Sources.{SourceLaws}
use Rattle.instruction_operands.specs.Promised.{left_meant, TokensTook, TokensRefuse, tokens_spell}
use Rattle.instruction_operands.specs.declared.tokens.Tokens.{Tokens}

-- What was left means what was taken, and what is left after it.
pub left_before : (s : Tokens) (ts : List Token) (t : Tokens) → TokensTook s ts t → left_meant s ≡ ts ++ left_meant t
left_before s ts t (text, ks, left, is) =
    ap (map (meant s.source.now)) left ∙ map-append (meant s.source.now) ks t.left.now ∙ (λ i. sym is i ++ map (meant (sym text i)) t.left.now)

pub tokens_laws : SourceLaws TokensTook TokensRefuse tokens_spell
tokens_laws = record {
  took_none = λ s. (refl, [], refl, refl);
  took_append = λ s a t b u (text, ks, left, is) (text', ls, left', is'). (
    text' ∙ text,
    ks ++ ls,
    left ∙ ap (λ (x : List KeptToken). ks ++ x) left' ∙ sym (append_assoc ks ls u.left.now),
    (λ i. is i ++ (is' ∙ ap (λ (x : List ℕ). map (meant x) ls) text) i) ∙ sym (map-append (meant s.source.now) ks ls),
  );
  refuses_before = λ s a t label all ps e h r f. ap (read_operands label all) (left_before s a t h) ∙ r (left_meant t) _ f;
  spelled_alike = λ s a t h x i. spelled_in (h.0 i) x;
}
