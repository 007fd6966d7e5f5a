-- What the line at a place of a source reads as, and what the functions that read it promise. `LineIs` is the promise of the one public
-- function; the other sections are about the two private ways to it, from the line's bytes at once and by the record of its tokens. Where
-- the first finds something else at a place, nothing is promised of that answer: the record decides. Quotations are document 01's.
use Rattle.std.specs.Prelude.{ℕ, ◌+◌, ◌-◌, ◌≤◌, ◌<◌, ◌≡◌, Bool, true, false, not, ◌&&◌, eqb, ltb, List, [], ◌∷◌, length, get_or, Some, None, Ok, Err}
use Rattle.std.specs.Prelude.{Option as Maybe, Result as Answer}
use Rattle.std.proofs.Math.Option.{Option, none, some}
use Rattle.text_lexical.specs.Bytes.{value, name_start, is_some}
use Rattle.text_lexical.specs.Names.{Name, named}
use Rattle.text_lexical.specs.Promised.{name_number}
use Rattle.text_lexical.specs.Words.{part, WordIs}
use Rattle.text_lexical.specs.declared.name.Word.{Word}
use Rattle.text.specs.Tokens.{Token, identifier, colon, infront, tokens}
use Rattle.text.specs.Lines.{indent, kept as most-kept, read_line}
use Rattle.text.specs.Places.{rest_at, left_at, end_at, Uncut}
use Rattle.text.specs.Promised.{filler, spelling, meant, Kept}
use Rattle.text.specs.declared.parser.Line.{Line as Record}
use Rattle.instruction.specs.Table.{places}
use Rattle.instruction.specs.Operands.{takes_label, read_operands}
use Rattle.instruction.specs.Promised.{spelled_in, taken_for, draft_meant, draft_for, label_start, DraftSettled}
use Rattle.instruction.specs.declared.instruction.Target.{Target}
use Rattle.instruction.specs.declared.instruction.Amount.{Amount}
use Rattle.instruction.specs.declared.instruction.Amount.TheVariants.{Number, Label as LabelAmount}
use Rattle.instruction.specs.declared.instruction.Draft.{Draft}
use Rattle.instruction.specs.declared.opcode.Mnemonic.{Mnemonic}
use Rattle.instruction_operands.specs.Sources.{form_of}
use Rattle.instruction_operands.specs.Promised.{LastToken}
use Rattle.instruction.specs.Kinds.{Kind, empty, labelled, config, ignored, plain}
use Rattle.refusal.specs.Refusals.{number_of, refusal_at}
use Rattle.refusal.specs.declared.refusal.Refusal.{Refusal}
use Rattle.image.specs.Assembling.{Context, Effect as MeantEffect, nothing, sets, codes, faulty, Read as MeantRead, read_on}
use Rattle.image.specs.Promised.{settings_meant, config_for}
use Rattle.image.specs.declared.config.Config.{Config}
use Rattle.image_line.specs.declared.bytes.Bytes.{Bytes}
use Rattle.image_line.specs.declared.fast.Tail.{Tail}
use Rattle.image_line.specs.declared.fast.FirstWord.{FirstWord}
use Rattle.image_line.specs.declared.record.LineKind.{LineKind}
use Rattle.image_line.specs.declared.record.LineKind.TheVariants.{Empty as EmptyKind, Label as LabelKind, Config as ConfigKind, Ignored, Plain}
use Rattle.image_line.specs.declared.line.Effect.{Effect}
use Rattle.image_line.specs.declared.line.Effect.TheVariants.{Nothing, Sets, Codes}
use Rattle.image_line.specs.declared.line.Read.{Read}

-- ---- a token at a place

-- From a place on a line has a token, and what it has from the next place on.
pub record Reads (names : List Name) (s : List ℕ) (at : ℕ) (t : Token) (next : ℕ) : Type 0 where
  pub means : tokens names (left_at s at) ≡ infront t (tokens names (left_at s next))
  pub on : at < next
  pub in_text : next ≤ length s
  pub uncut : Uncut s at next
  pub ends : end_at s next ≡ end_at s at

-- ---- the bytes of a line as a source of operands

-- Tokens, before those to come.
unfoldable pub along : List Token → Option (List Token) → Option (List Token)
along [] o = o
along (t ∷ ts) o = infront t (along ts o)

-- The tokens of a line from one place up to another.
pub record Passed (names : List Name) (s : List ℕ) (from : ℕ) (pre : List Token) (at : ℕ) : Type 0 where
  pub means : tokens names (left_at s from) ≡ along pre (tokens names (left_at s at))
  pub on : from ≤ at
  pub place : at ≤ length s
  pub uncut : Uncut s from at
  pub ends : end_at s at ≡ end_at s from

-- They were taken, and the bytes are the same.
pub record BytesTook (names : List Name) (s : Bytes) (pre : List Token) (t : Bytes) : Type 0 where
  pub same_text : t.text.now ≡ s.text.now
  pub passed : Passed names s.text.now s.at pre t.at

abbrev pub bytes_spell : Bytes → Target → List ℕ
bytes_spell s p = spelled_in s.text.now p

-- The label that stands past the blanks was taken.
pub record BytesStand (names : List Name) (s : Bytes) (p : Target) (t : Bytes) : Type 0 where
  pub same_text : t.text.now ≡ s.text.now
  pub reads : Reads names s.text.now p.start (identifier (spelled_in s.text.now p)) t.at
  pub no_earlier : s.at ≤ p.start
  pub after : t.at ≡ p.start + p.length
  pub uncut : Uncut s.text.now s.at p.start
  pub ends : end_at s.text.now p.start ≡ end_at s.text.now s.at

-- ---- the operands of a mnemonic

-- A label stands last on the line of a place, and in no comment: by how it is spelled, its place is not free.
pub record LabelAt (names : List Name) (s : List ℕ) (from : ℕ) (p : Target) : Type 0 where
  pub in_text : p.start + p.length ≤ length s
  pub no_earlier : from ≤ p.start
  pub uncut : Uncut s from p.start
  pub last : tokens names (left_at s p.start) ≡ some (identifier (spelled_in s p) ∷ [])
  pub ends : end_at s p.start ≡ end_at s from

abbrev pub LabelIf : List Name → List ℕ → ℕ → Amount → Type 0
LabelIf names s from (Number w) = Unit {0}
LabelIf names s from (LabelAmount p) = LabelAt names s from p

-- The operands of a mnemonic fill the rest of a line.
pub record TailIs (names : List Name) (s : List ℕ) (from : ℕ) (m : Mnemonic) (d : Draft) (end : ℕ) : Type 0 where
  pub operands : List Token
  pub means : tokens names (left_at s from) ≡ some operands
  pub count : length operands ≡ length (places (form_of m))
  pub read : read_operands (takes_label (form_of m)) (places (form_of m)) operands ≡ value (taken_for (spelled_in s) (places (form_of m)) d.registers d.amount)
  pub named : d.mnemonic ≡ m
  pub settled : DraftSettled (spelled_in s) d
  pub label : LabelIf names s from d.amount
  pub ends : end ≡ end_at s from

abbrev pub Tails : List Name → List ℕ → ℕ → Mnemonic → Maybe Tail → Type 0
Tails names s from m (Some t) = TailIs names s from m t.draft t.end
Tails names s from m None = Unit {0}

-- ---- a word

-- Whether a word is a label: a colon follows it at once, and it is no register's name.
unfoldable pub is_label : List Name → List ℕ → ℕ → ℕ → Bool
is_label names s at end = eqb (get_or s end 0) 58 && not (is_some (name_number (named names (part s at (end - at)))))

-- An identifier up to a place, and a colon up to another.
pub record Labels (names : List Name) (s : List ℕ) (at end next : ℕ) : Type 0 where
  pub name : Reads names s at (identifier (part s at (end - at))) end
  pub mark : Reads names s end colon next

-- What stands between the start of a line's content and a place: nothing, or a label.
abbrev pub OptionalLabel : List Name → List ℕ → ℕ → Maybe ℕ → ℕ → Type 0
OptionalLabel names s start None at = at ≡ start
OptionalLabel names s start (Some n) at = Labels names s start (start + n) at

-- A word begins at a place, and it is this one.
pub record WordHere (s : List ℕ) (at : ℕ) (w : Word) : Type 0 where
  pub in_text : at < length s
  pub begins : name_start (get_or s at 0) ≡ true
  pub word : WordIs s at w

-- The word that is found at a place, if one is.
abbrev pub WordIf : List ℕ → ℕ → Maybe Word → Type 0
WordIf s at (Some w) = WordHere s at w
WordIf s at None = at ≤ length s

-- The label of a line, if it has one, and the first word after it.
pub record FirstWordIs (names : List Name) (s : List ℕ) (start : ℕ) (w : FirstWord) : Type 0 where
  pub label : OptionalLabel names s start w.label w.at
  pub word : WordIf s w.at w.word

-- ---- what a line reads as

abbrev pub context_for : Config → Context
context_for c = record { setup = settings_meant c }

abbrev pub effect_meant : List ℕ → Answer Effect Refusal → MeantEffect
effect_meant s (Ok Nothing) = nothing
effect_meant s (Ok (Sets c)) = sets (settings_meant c)
effect_meant s (Ok (Codes d)) = codes (draft_meant (spelled_in s) d)
effect_meant s (Err r) = faulty (number_of r)

-- What holds of the draft of an effect, if it has one.
abbrev pub OfDraft : (Draft → Type 0) → Answer Effect Refusal → Type 0
OfDraft P (Ok (Codes d)) = P d
OfDraft P (Ok Nothing) = Unit {0}
OfDraft P (Ok (Sets c)) = Unit {0}
OfDraft P (Err r) = Unit {0}

-- The label that a draft names is the last token of its record's line, an Identifier, and the record keeps all tokens.
pub record EndsIn (s : List ℕ) (l : Record) (p : Target) : Type 0 where
  pub not_empty : 0 < l.count
  pub all_kept : l.count ≤ most-kept
  pub last : LastToken l (LabelAmount p)
  pub reads : meant s (get_or l.tokens (l.count - 1) filler) ≡ identifier (spelled_in s p)

abbrev pub EndsInIf : List ℕ → Record → Amount → Type 0
EndsInIf s l (Number w) = Unit {0}
EndsInIf s l (LabelAmount p) = EndsIn s l p

-- What an effect of a record's line means, and that no part of it is free.
pub record EffectIs (s : List ℕ) (l : Record) (e : Answer Effect Refusal) (m : MeantEffect) : Type 0 where
  pub means : effect_meant s e ≡ m
  pub settled : OfDraft (λ d. DraftSettled (spelled_in s) d × EndsInIf s l d.amount) e

-- The bytes of a label at a place, if there is one.
abbrev pub label_meant : List ℕ → ℕ → Maybe ℕ → Option (List ℕ)
label_meant s start None = none
label_meant s start (Some n) = some (part s start n)

-- How many bytes it takes.
abbrev pub label_length : Maybe ℕ → ℕ
label_length None = 0
label_length (Some n) = n

-- What a line that was read means.
abbrev pub read_meant : List ℕ → Read → MeantRead
read_meant s r = record { label = label_meant s r.start r.label; effect = effect_meant s r.effect }

-- Where the label stands that an effect names; 0 where it names none.
abbrev pub effect_label : Answer Effect Refusal → ℕ
effect_label (Ok (Codes d)) = label_start d.amount
effect_label (Ok Nothing) = 0
effect_label (Ok (Sets c)) = 0
effect_label (Err r) = 0

-- Where the line at a place ends; a bad token leaves that open, and the start of its content is answered.
unfoldable pub end_of : List Name → List ℕ → ℕ → ℕ
end_of names s from = elim (read_line names (rest_at s from)) [ none ↦ from + indent (rest_at s from) | some l ↦ end_at s from ]

-- Where the line after one that ends at a place begins, if one follows, in a source of so many bytes.
abbrev pub next_line : ℕ → ℕ → Maybe ℕ
next_line size end = elim (ltb end size) [ true ↦ Some (end + 1) | false ↦ None ]

-- ---- the answer

-- The effect that is answered for one: of an instruction its mnemonic, R0 and 0 for operands that it has not, and where the label stands
-- that it names.
abbrev pub effect_for : ℕ → MeantEffect → Answer Effect Refusal
effect_for at nothing = Ok Nothing
effect_for at (sets s) = Ok (Sets (config_for s))
effect_for at (codes d) = Ok (Codes (draft_for at d))
effect_for at (faulty n) = Err (refusal_at n)

abbrev pub label_for : Option (List ℕ) → Maybe ℕ
label_for none = None
label_for (some u) = Some (length u)

abbrev pub answer_for : MeantRead → ℕ → ℕ → ℕ → Read
answer_for m start end at = record { start = start; label = label_for m.label; effect = effect_for at m.effect; end = end }

-- The answer for the line at a place, with what those above it leave, and where the label stands that it names.
abbrev pub line_read : List Name → List ℕ → ℕ → Context → ℕ → Read
line_read names s from c at = answer_for (read_on c (read_line names (rest_at s from))) (from + indent (rest_at s from)) (end_of names s from) at

-- It is answered, and means what the line reads as; its label, which stands where its content starts, is a part of the text, and so is the
-- label that it names, the last token of the line.
pub record LineIs (names : List Name) (s : List ℕ) (from : ℕ) (c : Context) (r : Read) : Type 0 where
  pub is : r ≡ line_read names s from c (effect_label r.effect)
  pub target : OfDraft (λ d. LabelIf names s from d.amount) r.effect
  pub reads : read_meant s r ≡ read_on c (read_line names (rest_at s from))
  pub starts : r.start ≡ from + indent (rest_at s from)
  pub ends : r.end ≡ end_of names s from
  pub in_text : r.start + label_length r.label ≤ length s

-- ---- the fast path

-- What a line reads as whatever the settings are.
abbrev pub ReadsAs : List Name → List ℕ → ℕ → Read → Type 0
ReadsAs names s from r = (c : Context) → LineIs names s from c r

abbrev pub FastIs : List Name → List ℕ → ℕ → Maybe Read → Type 0
FastIs names s start (Some r) = ReadsAs names s start r
FastIs names s start None = Unit {0}

-- ---- a line by its record

-- What a line's record promises of its tokens: it has as many places as it keeps, each token is a part of the text, and takes a byte at least.
pub record Recorded (s : List ℕ) (l : Record) : Type 0 where
  pub kept : Kept s l
  pub solid : (i : ℕ) → i < most-kept → i < l.count → 0 < (get_or l.tokens i filler).length

abbrev pub kind_meant : List ℕ → Record → LineKind → Kind
kind_meant s l EmptyKind = empty
kind_meant s l LabelKind = labelled (spelling s (get_or l.tokens 0 filler))
kind_meant s l ConfigKind = config
kind_meant s l Ignored = ignored
kind_meant s l Plain = plain
