-- What operands are read from, token by token: what every such source keeps, and what its operations promise by that.
use Rattle.std.specs.Prelude.{ℕ, ◌+◌, ◌≤◌, ◌≡◌, Bool, List, [], ◌∷◌, ◌++◌, length, get_or, Ok, Err}
use Rattle.std.specs.Prelude.{Result as Answer}
use Rattle.text_lexical.specs.Bytes.{value, refused}
use Rattle.text_lexical.specs.Promised.{index_of, whole_meant, whole_for, range_meant}
use Rattle.text_lexical.specs.declared.number.NumberRange.{NumberRange}
use Rattle.text_lexical.specs.declared.register.Register.{Register}
use Rattle.text.specs.Tokens.{Token}
use Rattle.text.specs.Promised.{filler}
use Rattle.text.specs.declared.lexer.Token.{Token as KeptToken}
use Rattle.instruction.specs.Table.{Separator, Place, Form, places}
use Rattle.instruction.specs.Operands.{takes_label, read_register, read_amount, mark_byte, read_operands}
use Rattle.instruction.specs.Promised.{row_of, amount_meant, taken_for, DraftSettled}
use Rattle.instruction.specs.Forms.{mark_for, RegisterPlace, NumberPlace, MarkPlace}
use Rattle.instruction.specs.declared.form.Mark.{Mark}
use Rattle.instruction.specs.declared.instruction.Target.{Target}
use Rattle.instruction.specs.declared.instruction.Amount.{Amount}
use Rattle.instruction.specs.declared.instruction.Amount.TheVariants.{Number, Label}
use Rattle.instruction.specs.declared.instruction.Draft.{Draft}
use Rattle.instruction.specs.declared.opcode.Mnemonic.{Mnemonic}

-- Each token is a part of a source.
abbrev pub InSource : List ℕ → List KeptToken → Type 0
InSource s ts = (i : ℕ) → (get_or ts i filler).start + (get_or ts i filler).length ≤ length s

-- What is refused at some places is refused at these, where tokens stand before it. A label may stand for the number, or not.
abbrev pub RefusedBehind : Bool → List Place → List Token → List Place → Type 0
RefusedBehind label all pre ps = (ts : List Token) (k : ℕ) → read_operands label ps ts ≡ refused k → read_operands label all (pre ++ ts) ≡ refused k

-- Tokens that are taken one after the other are taken together. What is refused after them was to be refused before. Labels are spelled as
-- before.
pub record SourceLaws {S E : Type 0} (Took : S → List Token → S → Type 0) (Refuses : S → Bool → List Place → E → Type 0) (Spells : S → Target → List ℕ) : Type 0 where
  pub took_none : (s : S) → Took s [] s
  pub took_append : (s : S) (a : List Token) (t : S) (b : List Token) (u : S) → Took s a t → Took t b u → Took s (a ++ b) u
  pub refuses_before : (s : S) (a : List Token) (t : S) (label : Bool) (all ps : List Place) (e : E)
      → Took s a t → RefusedBehind label all a ps → Refuses t label ps e → Refuses s label all e
  pub spelled_alike : (s : S) (a : List Token) (t : S) → Took s a t → (x : Target) → Spells t x ≡ Spells s x

-- A mark that stands between operands.
abbrev pub Separates : Mark → Type 0
Separates k = (m : Separator) × (k ≡ mark_for m)

-- No part of an amount is free, but where its label stands.
abbrev pub AmountSettled : (Target → List ℕ) → Amount → Type 0
AmountSettled spells (Number w) = w ≡ whole_for (whole_meant w)
AmountSettled spells (Label t) = length (spells t) ≡ t.length

-- An amount that a token means: the number, which is of a range, or the label, where one may stand for it.
pub record AmountIn (spells : Target → List ℕ) (range : NumberRange) (label : Bool) (a : Amount) (t : Token) : Type 0 where
  pub means : read_amount (range_meant range) label t ≡ value (amount_meant spells a)
  pub settled : AmountSettled spells a

-- If it is a label, this is where its token stands.
abbrev pub StandsIf : {S : Type 0} → (S → Target → S → Type 0) → S → Amount → S → Type 0
StandsIf Stands s (Number w) t = Unit {0}
StandsIf Stands s (Label p) t = Stands s p t

-- A token was taken of which something holds.
pub record TokenTaken {S : Type 0} (Took : S → List Token → S → Type 0) (Holds : Token → Type 0) (s t : S) : Type 0 where
  pub token : Token
  pub took : Took s (token ∷ []) t
  pub holds : Holds token

-- What is left begins with no token for such a place.
abbrev pub PlaceRefused : {S E : Type 0} → (S → Bool → List Place → E → Type 0) → (Place → Type 0) → Bool → S → E → Type 0
PlaceRefused Refuses For label s e = (p : Place) (ps : List Place) → For p → Refuses s label (p ∷ ps) e

abbrev pub RegisterTaken : {S E : Type 0} → (S → List Token → S → Type 0) → (S → Bool → List Place → E → Type 0) → S → Answer Register E → S → Type 0
RegisterTaken Took Refuses s (Ok r) t = TokenTaken Took (λ k. read_register k ≡ value (index_of r)) s t
RegisterTaken Took Refuses s (Err e) t = (label : Bool) → PlaceRefused Refuses RegisterPlace label s e

abbrev pub AmountTaken : {S E : Type 0} → (S → List Token → S → Type 0) → (S → Bool → List Place → E → Type 0) → (S → Target → List ℕ) → (S → Target → S → Type 0)
    → NumberRange → Bool → S → Answer Amount E → S → Type 0
AmountTaken Took Refuses Spells Stands range label s (Ok a) t = TokenTaken Took (AmountIn (Spells s) range label a) s t × StandsIf Stands s a t
AmountTaken Took Refuses Spells Stands range label s (Err e) t = PlaceRefused Refuses (NumberPlace range) label s e

abbrev pub MarkTaken : {S E : Type 0} → (S → List Token → S → Type 0) → (S → Bool → List Place → E → Type 0) → Mark → S → Answer (Unit {0}) E → S → Type 0
MarkTaken Took Refuses m s (Ok u) t = TokenTaken Took (λ k. mark_byte k ≡ m.byte) s t
MarkTaken Took Refuses m s (Err e) t = (label : Bool) → PlaceRefused Refuses (λ p. MarkPlace p m.byte m.refusal) label s e

-- A label is the last of the tokens that were taken.
abbrev pub LastStands : {S : Type 0} → (S → List Token → S → Type 0) → (S → Target → S → Type 0) → S → Amount → S → Type 0
LastStands Took Stands s (Number w) t = Unit {0}
LastStands {S} Took Stands s (Label p) t = (u : S) × (pre : List Token) × Took s pre u × Stands u p t

abbrev pub form_of : Mnemonic → Form
form_of m = (row_of m).form

-- Tokens were taken that are read as the operands of a mnemonic, and no part of the draft is free.
pub record OperandsIn {S : Type 0} (Took : S → List Token → S → Type 0) (Spells : S → Target → List ℕ) (Stands : S → Target → S → Type 0) (m : Mnemonic) (s : S) (d : Draft) (t : S) : Type 0 where
  pub tokens : List Token
  pub took : Took s tokens t
  pub count : length tokens ≡ length (places (form_of m))
  pub means : (ts : List Token) → read_operands (takes_label (form_of m)) (places (form_of m)) (tokens ++ ts) ≡ value (taken_for (Spells s) (places (form_of m)) d.registers d.amount)
  pub named : d.mnemonic ≡ m
  pub settled : DraftSettled (Spells s) d
  pub stands : LastStands Took Stands s d.amount t

abbrev pub OperandsTaken : {S E : Type 0} → (S → List Token → S → Type 0) → (S → Bool → List Place → E → Type 0) → (S → Target → List ℕ) → (S → Target → S → Type 0)
    → Mnemonic → S → Answer Draft E → S → Type 0
OperandsTaken Took Refuses Spells Stands m s (Ok d) t = OperandsIn Took Spells Stands m s d t
OperandsTaken Took Refuses Spells Stands m s (Err e) t = Refuses s (takes_label (form_of m)) (places (form_of m)) e
