-- The laws of a line's bytes as a source of operands.
use Prim.Native.Nat.{ℕ}
use native.Mathlib.Nat.{le_refl, le_trans, lt_of_not-le, not-le_of_lt}
use native.Mathlib.Decide.{dec_le}
use mathlib.Core.Path.{◌≡◌, refl, sym, ap, ◌∙◌}
use mathlib.Core.Option.{Option}
use mathlib.Core.List.{List, [], ◌∷◌, ◌++◌}
use Rattle.text_lexical.specs.Names.{Name}
use Rattle.text.specs.Tokens.{Token, infront}
use Rattle.instruction.specs.Promised.{spelled_in}
use Rattle.instruction_operands.specs.Sources.{SourceLaws}
use Rattle.image_line.specs.Promised.{along, BytesTook, bytes_spell}
use Rattle.image_line.specs.declared.bytes.Other.{Other}

along_append : (a b : List Token) (o : Option (List Token)) → along (a ++ b) o ≡ along a (along b o)
unfolding along
along_append [] b o = refl
along_append (t ∷ a) b o = ap (infront t) (along_append a b o)

pub bytes_laws : (names : List Name) → SourceLaws (BytesTook names) (λ s label ps (e : Other). Unit {0}) bytes_spell
unfolding along
bytes_laws names = record {
  took_none = λ s. record { same_text = refl; passed = record { means = refl; on = le_refl s.at; place = s.in_text; uncut = λ i l h e. not-le_of_lt h l; ends = refl } };
  took_append = λ s a t b u h k. let q = rw h.same_text at k.passed in record {
    same_text = k.same_text ∙ h.same_text;
    passed = record {
      means = h.passed.means ∙ ap (along a) q.means ∙ sym (along_append a b _);
      on = le_trans h.passed.on q.on;
      place = q.place;
      uncut = λ i l n e. elim (dec_le t.at i) [ yes m ↦ q.uncut i m n e | no m ↦ h.passed.uncut i l (lt_of_not-le m) e ];
      ends = q.ends ∙ h.passed.ends;
    };
  };
  refuses_before = λ s a t label all ps e h r f. tt;
  spelled_alike = λ s a t h p. ap (λ (text : List ℕ). spelled_in text p) h.same_text;
}
