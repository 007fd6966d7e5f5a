-- The operands of a form, taken one by one from a source: what has been taken of it, and what has been read of that, which is
-- `instruction: proofs Forms`. A label is the last token that is taken.
use Prim.Native.Nat.{ℕ, ◌+◌, ◌≤◌, ◌<◌}
use mathlib.Core.Path.{◌≡◌, refl, sym, ap, ◌∙◌, subst}
use native.Mathlib.Omega.{arith}
use native.Mathlib.Numerals.{add-one}
use mathlib.Core.Bool.{Bool, true, false}
use mathlib.Core.Option.{some}
use mathlib.Core.List.{List, [], ◌∷◌, ◌++◌}
use lib.ListN.{length, drop, get_or, set, replicate, drop_of_length-le}
use lib.Seq.{drop-cons}
use Rattle.std.specs.Prelude.{Ok, Some, None}
use Rattle.text_lexical.specs.Bytes.{value}
use Rattle.text_lexical.specs.declared.number.NumberRange.{NumberRange}
use Rattle.text_lexical.specs.declared.register.Register.{Register}
use Rattle.text_lexical.specs.declared.register.Register.TheVariants.{R0}
use Rattle.text.specs.Tokens.{Token}
use Rattle.instruction.specs.Table.{Place, a-comma, an-opening, a-closing, Form, places}
use Rattle.instruction.specs.Operands.{takes_label}
use Rattle.instruction.specs.Promised.{no_number_lem, amount_meant, names_label, amount_back, label_start}
use Rattle.instruction.specs.Forms.{operand_list, is_number, mark_of, range_of, OperandPlace, MarkPlace}
use Rattle.instruction.specs.declared.form.Mark.{Mark}
use Rattle.instruction.specs.declared.form.Operand.{Operand}
use Rattle.instruction.specs.declared.form.Operand.TheVariants.{RegisterComma, NumberOpening, RegisterClosing, Number}
use Rattle.instruction.specs.declared.form.Operand.TheVariants.{Register as RegisterLast}
use Rattle.instruction.specs.declared.instruction.Target.{Target}
use Rattle.instruction.specs.declared.instruction.Amount.{Amount}
use Rattle.instruction.specs.declared.instruction.Amount.TheVariants.{Number as NumberAmount, Label}
use Rattle.instruction.specs.declared.opcode.Mnemonic.{Mnemonic}
use Rattle.instruction.proofs.Forms.{Reading, Marking, reading-begin, reading-register, reading-amount, reading-unlabelled, reading-refuses, reading-end, marking-none, marking-mark, marking-unlabelled, marking-refuses, register-room, draft-settled}
use Rattle.instruction_operands.specs.Sources.{SourceLaws, Separates, AmountSettled, StandsIf, PlaceRefused, RegisterTaken, AmountTaken, MarkTaken, LastStands, form_of, OperandsIn}

-- The mark after an operand stands between operands.
pub separates : (o : Operand) (m : Mark) → mark_of o ≡ Some m → Separates m
separates RegisterComma m e = (a-comma, cc)
separates NumberOpening m e = (an-opening, cc)
separates RegisterClosing m e = (a-closing, cc)
separates RegisterLast m e = let z : ◌≡◌ {A = ℕ} 0 1 = cc in absurd (omega arith)
separates Number m e = let z : ◌≡◌ {A = ℕ} 0 1 = cc in absurd (omega arith)

-- An amount without a free part is the one for its meaning, from where its label stands.
settled-back : (spells : Target → List ℕ) (a : Amount) → AmountSettled spells a → a ≡ amount_back (label_start a) (some (amount_meant spells a))
settled-back spells (NumberAmount w) h = ap NumberAmount h
settled-back spells (Label p) h = λ i. Label (record { start = p.start; length = sym h i })

-- The operands up to a state of the source, from which on the others are left to read,
pub record UpTo {S : Type 0} (Took : S → List Token → S → Type 0) (Spells : S → Target → List ℕ) (Stands : S → Target → S → Type 0) (range : NumberRange) (label : Bool) (all : List Place) (s t : S) (count : ℕ) (rs : List Register) (a : Amount) (left : List Operand) : Type 0 where
  tokens : List Token
  took : Took s tokens t
  reading : Reading range (Spells s) label all tokens count rs a left
  stands : LastStands Took Stands s a t

-- and up to one where a mark may follow the last of them.
pub record MarkAhead {S : Type 0} (Took : S → List Token → S → Type 0) (Spells : S → Target → List ℕ) (Stands : S → Target → S → Type 0) (range : NumberRange) (label : Bool) (all : List Place) (s t : S) (count : ℕ) (rs : List Register) (a : Amount) (o : Operand) (left : List Operand) : Type 0 where
  tokens : List Token
  took : Took s tokens t
  marking : Marking range (Spells s) label all tokens count rs a o left
  stands : LastStands Took Stands s a t

-- By the operands of a list: the next of them, where there is one.
pub next-up : {S : Type 0} {Took : S → List Token → S → Type 0} {Spells : S → Target → List ℕ} {Stands : S → Target → S → Type 0} {range : NumberRange} {label : Bool} {all : List Place} {s t : S} {count : ℕ} {rs : List Register} {a : Amount} (ops : List Operand) (i : ℕ) (d : Operand) → i < length ops
    → UpTo Took Spells Stands range label all s t count rs a (drop i ops) → UpTo Took Spells Stands range label all s t count rs a (get_or ops i d ∷ drop (i + 1) ops)
next-up ops i d h q = let e : drop i ops ≡ get_or ops i d ∷ drop (i + 1) ops = drop-cons ops i d h ∙ rw (add-one i) in rw e at q

-- Where no label was read, none has to stand anywhere;
unlabelled-stands : {S : Type 0} (Took : S → List Token → S → Type 0) (Stands : S → Target → S → Type 0) (s : S) (a : Amount) (u : S) → (names_label a ≡ true → ⊥) → LastStands Took Stands s a u
unlabelled-stands Took Stands s (NumberAmount w) u f = tt
unlabelled-stands Took Stands s (Label p) u f = absurd (f refl)

-- one that was just read stands there.
just-stands : {S : Type 0} (Took : S → List Token → S → Type 0) (Stands : S → Target → S → Type 0) (s : S) (a : Amount) (pre : List Token) (t u : S) → Took s pre t → StandsIf Stands t a u → LastStands Took Stands s a u
just-stands Took Stands s (NumberAmount w) pre t u k h = tt
just-stands Took Stands s (Label p) pre t u k h = (t, pre, k, h)

module _ {S E : Type 0} {Took : S → List Token → S → Type 0} {Refuses : S → Bool → List Place → E → Type 0} {Spells : S → Target → List ℕ} (laws : SourceLaws Took Refuses Spells) (Stands : S → Target → S → Type 0) {s : S} where
  pub up-begin : (f : Form) {left : List Operand} → left ≡ operand_list f → UpTo Took Spells Stands (range_of f) (takes_label f) (places f) s s 0 (replicate 3 R0) (NumberAmount no_number_lem) left
  up-begin f e = record { tokens = []; took = laws.took_none s; reading = reading-begin (Spells s) f e; stands = tt }

  module _ {range : NumberRange} {label : Bool} {all : List Place} {t : S} {count : ℕ} {rs : List Register} {a : Amount} where
    module _ {o : Operand} {left : List Operand} where
      -- There is room for a register that is left to read.
      pub room-ahead : UpTo Took Spells Stands range label all s t count rs a (o ∷ left) → is_number o ≡ false → count < 3
      room-ahead q letter = register-room q.reading letter

      -- The next operand,
      pub register-next : (r : Register) {u : S} → UpTo Took Spells Stands range label all s t count rs a (o ∷ left) → is_number o ≡ false → RegisterTaken Took Refuses t (Ok r) u
          → MarkAhead Took Spells Stands range label all s u (count + 1) (set rs count r) a o left
      register-next r {u} q letter k =
          record {
            tokens = q.tokens ++ (k.token ∷ []);
            took = laws.took_append s q.tokens t (k.token ∷ []) u q.took k.took;
            marking = reading-register q.reading letter k.token r k.holds;
            stands = unlabelled-stands Took Stands s a u (reading-unlabelled q.reading);
          }

      pub amount-next : (a' : Amount) {u : S} → UpTo Took Spells Stands range label all s t count rs a (o ∷ left) → is_number o ≡ true → AmountTaken Took Refuses Spells Stands range label t (Ok a') u
          → MarkAhead Took Spells Stands range label all s u count rs a' o left
      amount-next a' {u} q digit (k, h) =
          let alike : Spells t ≡ Spells s = λ i x. laws.spelled_alike s q.tokens t q.took x i in
          record {
            tokens = q.tokens ++ (k.token ∷ []);
            took = laws.took_append s q.tokens t (k.token ∷ []) u q.took k.took;
            marking = reading-amount q.reading digit k.token a' (k.holds.means ∙ ap (λ x. value (amount_meant x a')) alike) (settled-back (Spells s) a' (subst (λ x. AmountSettled x a') alike k.holds.settled));
            stands = just-stands Took Stands s a' q.tokens t u q.took h;
          }

      -- or why it is none.
      pub operand-refused : {b : Bool} {e : E} → UpTo Took Spells Stands range label all s t count rs a (o ∷ left) → is_number o ≡ b → PlaceRefused Refuses (OperandPlace range b) label t e → Refuses s label all e
      operand-refused {e = e} q h k =
          let (p, ps, o, behind) = reading-refuses q.reading h in
          laws.refuses_before s q.tokens t label all (p ∷ ps) e q.took behind (k p ps o)

      -- The mark, if one follows.
      pub mark-none : MarkAhead Took Spells Stands range label all s t count rs a o left → mark_of o ≡ None → UpTo Took Spells Stands range label all s t count rs a left
      mark-none q e = record { tokens = q.tokens; took = q.took; reading = marking-none q.marking e; stands = q.stands }

      pub mark-next : {m : Mark} {u : S} → MarkAhead Took Spells Stands range label all s t count rs a o left → mark_of o ≡ Some m → MarkTaken Took Refuses m t (Ok tt) u
          → UpTo Took Spells Stands range label all s u count rs a left
      mark-next {m} {u} q e k =
          record {
            tokens = q.tokens ++ (k.token ∷ []);
            took = laws.took_append s q.tokens t (k.token ∷ []) u q.took k.took;
            reading = marking-mark q.marking e k.token k.holds;
            stands = unlabelled-stands Took Stands s a u (marking-unlabelled q.marking e);
          }

      pub mark-refused : {m : Mark} {e : E} → MarkAhead Took Spells Stands range label all s t count rs a o left → mark_of o ≡ Some m → PlaceRefused Refuses (λ p. MarkPlace p m.byte m.refusal) label t e → Refuses s label all e
      mark-refused {e = e} q h k =
          let (p, ps, m, behind) = marking-refuses q.marking h in
          laws.refuses_before s q.tokens t label all (p ∷ ps) e q.took behind (k p ps m)

  -- Where none is left, what was read.
  pub up-end : {t : S} {count : ℕ} {rs : List Register} {a : Amount} (m : Mnemonic) (ops : List Operand) (i : ℕ) → length ops ≤ i
      → UpTo Took Spells Stands (range_of (form_of m)) (takes_label (form_of m)) (places (form_of m)) s t count rs a (drop i ops)
      → OperandsIn Took Spells Stands m s (record { mnemonic = m; registers = rs; amount = a }) t
  up-end {t} {count} {rs} {a} m ops i h q =
      let e : drop i ops ≡ [] = drop_of_length-le ops {i = i} h in
      let r : UpTo Took Spells Stands (range_of (form_of m)) (takes_label (form_of m)) (places (form_of m)) s t count rs a [] = rw e at q in
      let c = reading-end r.reading in
      record { tokens = r.tokens; took = r.took; count = c.count; means = c.means; named = refl; settled = draft-settled m c; stands = r.stands }
