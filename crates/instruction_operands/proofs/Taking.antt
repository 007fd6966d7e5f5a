-- The tokens of a line as a source of operands.
use Prim.Native.Nat.{ℕ, ◌+◌, ◌≤◌, ◌<◌}
use mathlib.Core.Path.{◌≡◌, refl, sym, ap, ◌∙◌}
use native.Mathlib.Omega.{arith}
use mathlib.Core.Bool.{Bool, true, false}
use mathlib.Core.List.{List, [], ◌∷◌, map}
use lib.ListN.{length, drop, length-take, length-drop}
use lib.Dec.{eqb}
use borrow.Author.Tests.{eqb-true, eqb-false, ne_eqb}
use Rattle.std.specs.Prelude.{Ok, Err}
use Rattle.std.specs.Prelude.{Result as Answer}
use Rattle.text_lexical.specs.Bytes.{value}
use Rattle.text_lexical.specs.Numbers.{NumberRange as MeantRange}
use Rattle.text_lexical.specs.Promised.{index_of, whole_meant, whole_for, range_meant}
use Rattle.text_lexical.specs.declared.number.NumberRange.{NumberRange}
use Rattle.text_lexical.specs.declared.number.Whole.{Whole}
use Rattle.text_lexical.specs.declared.register.Register.{Register as NamedRegister}
use Rattle.text_lexical.proofs.Numbers.{whole-meant}
use Rattle.refusal.specs.Refusals.{answered}
use Rattle.refusal.specs.declared.refusal.Refusal.{Refusal}
use Rattle.refusal.specs.declared.refusal.Refusal.TheVariants.{OperandCount}
use Rattle.text.specs.Tokens.{Token}
use Rattle.text.specs.Values.{read_number}
use Rattle.text.specs.Promised.{kind_meant, mark_of_byte, meant, spelling, extracted, extract_meant}
use Rattle.text.specs.declared.lexer.Kind.{Kind}
use Rattle.text.specs.declared.lexer.Kind.TheVariants.{Identifier, Comma, Colon, LParen, RParen}
use Rattle.text.specs.declared.lexer.Token.{Token as KeptToken}
use Rattle.text.proofs.Meanings.{extracted-for, extracted-number}
use Rattle.instruction.specs.Table.{a-comma, an-opening, a-closing, Place}
use Rattle.instruction.specs.Operands.{exactly, read_identifier, read_register, read_exactly, read_amount, mark_byte, read_operands}
use Rattle.instruction.specs.declared.form.Mark.{Mark}
use Rattle.instruction.specs.declared.instruction.Amount.TheVariants.{Number as NumberAmount, Label}
use Rattle.instruction.proofs.Forms.{register-refuses, amount-refuses, mark-refuses}
use Rattle.instruction.proofs.Results.{extracted-is, no-identifier}
use Rattle.instruction_operands.specs.Sources.{Separates, PlaceRefused, RegisterTaken, AmountTaken, MarkTaken}
use Rattle.instruction_operands.specs.Promised.{left_meant, TokensTook, TokensRefuse, tokens_spell, TokensStand}
use Rattle.instruction_operands.specs.declared.tokens.Tokens.{Tokens}

-- ---- the next token

-- A token of a kind is the mark of a byte exactly if its own is that one.
mark-of : (k : Kind) (u : List ℕ) (b : ℕ) → 0 < b → mark_of_byte k b ≡ eqb b (mark_byte (kind_meant k u))
unfolding mark_byte
mark-of Comma u b h = refl
mark-of Colon u b h = refl
mark-of LParen u b h = refl
mark-of RParen u b h = refl
mark-of k u b h = sym (ne_eqb b 0 (λ e. omega arith))

mark-solid : (m : Mark) → Separates m → 0 < m.byte
mark-solid m (a-comma, e) = rw e (omega arith)
mark-solid m (an-opening, e) = rw e (omega arith)
mark-solid m (a-closing, e) = rw e (omega arith)

-- There is none.
pub none-left : (s : Tokens) (For : Place → Type 0) → s.left.now ≡ [] → (label : Bool) → PlaceRefused TokensRefuse For label s OperandCount
unfolding read_operands
none-left s For e label = λ p ps f. rw e refl

-- Only an Identifier is a label, where one may stand for the number.
no-label : (r : MeantRange) (label : Bool) (k : Kind) (u : List ℕ) → (label ≡ true → k ≡ Identifier → ⊥) → read_amount r label (kind_meant k u) ≡ read_exactly r (kind_meant k u)
unfolding read_amount
no-label r false k u f = refl
no-label r true k u f = rw (read_amount, no-identifier k u (f refl))

-- It is read as an operand, or is its mark.
module _ (s t : Tokens) (k : KeptToken) (text : t.source.now ≡ s.source.now) (left : s.left.now ≡ k ∷ t.left.now) where
  abbrev token : Token
  token = meant s.source.now k

  abbrev u : List ℕ
  u = spelling s.source.now k

  taken : left_meant s ≡ token ∷ left_meant t
  taken = ap (map (meant s.source.now)) left ∙ (λ i. token ∷ map (meant (sym text i)) t.left.now)

  took : TokensTook s (token ∷ []) t
  took = (text, k ∷ [], left, refl)

  pub register-next : (r : Answer NamedRegister Refusal) → ((v : List ℕ) → answered index_of r ≡ read_register (kind_meant k.kind v)) → RegisterTaken TokensTook TokensRefuse s r t
  unfolding read_operands
  register-next (Ok r) h = record { token = token; took = took; holds = sym (h u) }
  register-next (Err x) h = λ label p ps f. rw taken (register-refuses label token f (sym (h u)) _)

  -- A label is the part of the source that the token is,
  pub label-next : (range : NumberRange) (label : Bool) → label ≡ true → k.kind ≡ Identifier → AmountTaken TokensTook TokensRefuse tokens_spell TokensStand range label s (Ok (Label (record { start = k.start; length = k.length }))) t
  unfolding read_amount read_identifier
  label-next range label l e =
      let inside : k.start + k.length ≤ length s.source.now = rw left at (s.in_source 0) in (
        record {
          token = token;
          took = took;
          holds = record {
            means = rw (l, e) refl;
            settled = length-take k.length (drop k.start s.source.now) ∙ omega (arith, length-drop k.start s.source.now, inside);
          };
        },
        (k, left, refl),
      )

  -- and a number is what it is without a label, so that an Identifier is none.
  pub number-next : (range : NumberRange) (label : Bool) (w : Whole) → Ok w ≡ extracted range k.kind → AmountTaken TokensTook TokensRefuse tokens_spell TokensStand range label s (Ok (NumberAmount w)) t
  unfolding read_exactly read_number
  number-next range label w h =
      let (z, (m, f)) = extracted-is _ (h ∙ extracted-for range k.kind u) in (
        record {
          token = token;
          took = took;
          holds = record {
            means = no-label (range_meant range) label k.kind u (λ l e. not-ok (h ∙ ap (extracted range) e)) ∙ rw (read_exactly, m) (ap (λ x. value (exactly x)) (sym (ap whole_meant f ∙ whole-meant z)));
            settled = f ∙ ap whole_for (sym (ap whole_meant f ∙ whole-meant z));
          };
        },
        tt,
      )
    where
      not-ok : Ok w ≡ extracted range Identifier → ⊥
      not-ok e = let z : ◌≡◌ {A = ℕ} 0 1 = cc in omega arith

  pub amount-refused : (range : NumberRange) (label : Bool) (x : Refusal) → Err x ≡ extracted range k.kind → (label ≡ true → k.kind ≡ Identifier → ⊥) → AmountTaken TokensTook TokensRefuse tokens_spell TokensStand range label s (Err x) t
  unfolding read_operands read_exactly
  amount-refused range label x h f = λ p ps n. rw taken (amount-refuses label token n (no-label (range_meant range) label k.kind u f ∙ rw (read_exactly, sym (ap extract_meant h ∙ extracted-number range k.kind u))) _)

  module _ (m : Mark) (between : Separates m) where
    -- whether the token is the mark, by its byte
    told : (b : Bool) → b ≡ mark_of_byte k.kind m.byte → b ≡ eqb m.byte (mark_byte token)
    told b h = h ∙ mark-of k.kind u m.byte (mark-solid m between)

    pub mark-found : true ≡ mark_of_byte k.kind m.byte → MarkTaken TokensTook TokensRefuse m s (Ok tt) t
    mark-found h = record { token = token; took = took; holds = sym (eqb-true m.byte _ (sym (told true h))) }

    pub mark-missing : false ≡ mark_of_byte k.kind m.byte → MarkTaken TokensTook TokensRefuse m s (Err m.refusal) t
    unfolding read_operands
    mark-missing h = λ label p ps f. rw taken (mark-refuses label f token (λ q. eqb-false m.byte _ (sym (told false h)) (sym q)) _)
