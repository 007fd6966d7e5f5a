-- What the functions of the two walks answer. The first walk's are equations with definitions of their own, by which the walk of document 01
-- is done in pieces, from label to label; what the pieces come to together is `WalkEnds`. Quotations are document 01's.
use Rattle.std.specs.Prelude.{ℕ, suc, ◌+◌, ◌≤◌, ◌<◌, ◌≡◌, Bool, true, false, ◌||◌, length, take, drop, leb, ltb, ⊤, Some, None, Result, Ok, Err}
use Rattle.std.proofs.Math.Option.{Option, none, some}
use mathlib.Core.List.{List, [], ◌∷◌, ◌++◌, map, flat_map}
use Rattle.refusal.specs.Refusals.{number_of, refusal_at}
use Rattle.refusal.specs.declared.refusal.Refusal.{Refusal}
use Rattle.refusal.specs.declared.refusal.Refusal.TheVariants.{NotAscii, TooManyWords}
use Rattle.text_lexical.specs.Bytes.{ascii, every, before}
use Rattle.text_lexical.specs.Numbers.{little}
use Rattle.text_lexical.specs.Names.{Name}
use Rattle.text.specs.Lines.{lines, indent, read_line}
use Rattle.text.specs.Places.{rest_at}
use Rattle.instruction.specs.Operands.{Instruction, Draft as MeantDraft}
use Rattle.instruction.specs.Words.{word_of}
use Rattle.instruction.specs.Promised.{whole_or, names_label}
use Rattle.text_lexical.specs.declared.number.Whole.{Whole}
use Rattle.instruction.specs.declared.instruction.Amount.{Amount}
use Rattle.instruction.specs.declared.instruction.Amount.TheVariants.{Number, Label as LabelAmount}
use Rattle.image.specs.Settings.{Settings, begin}
use Rattle.image.specs.Program.{image_length}
use Rattle.image.specs.Assembling.{Label as Meant, State, start, Effect as MeantEffect, nothing, sets, codes, faulty, Read as MeantRead, read_on, reads, most_words, address_after, words_of, address_in, draft_fault, target_fault, Fault, fault_in, walk, finished, rust_line_of, refusing, most_bytes, reading, accepted}
use Rattle.image.specs.Lent.{over}
use Rattle.image.specs.Meaning.{settled, coded_by, instructions_of, is_target, any_target, settings_of, image_of}
use Rattle.image.specs.Promised.{settings_meant, config_for}
use Rattle.image_labels.specs.Promised.{InText, address_at}
use Rattle.image_labels.specs.Tree.{unlinked, Linked}
use Rattle.image_labels.specs.declared.label.Labels.{Labels}
use Rattle.image_line.specs.Promised.{context_for, next_line}
use Rattle.image_line.specs.declared.line.Effect.{Effect}
use Rattle.image_line.specs.declared.line.Effect.TheVariants.{Nothing, Sets, Codes}
use Rattle.image_passes.specs.declared.first_pass.Next.{Next}
use Rattle.image_passes.specs.declared.first_pass.Next.TheVariants.{From, Ended as NextEnded}
use Rattle.image_passes.specs.declared.first_pass.Cursor.{Cursor}
use Rattle.image_passes.specs.declared.first_pass.Pass.{Pass}
use Rattle.image_passes.specs.declared.first_pass.Pass.TheVariants.{AtLabel, Ended as PassEnded}
use Rattle.image_passes.specs.declared.first_pass.LabelLine.{LabelLine}
use Rattle.image_passes.specs.declared.first_pass.Done.{Done}
use Rattle.image_passes.specs.declared.first_pass.Found.{Found}
use Rattle.image_passes.specs.declared.first_pass.Stopped.{Stopped}
use Rattle.image_passes.specs.declared.second_pass.TooShort.{TooShort}

-- ---- what a line comes to

-- What a line reads as, and what it does, where the settings are these.
abbrev pub read_at : List Name → List ℕ → ℕ → Settings → MeantRead
read_at names s from setup = read_on (record { setup = setup }) (read_line names (rest_at s from))

abbrev pub effect_at : List Name → List ℕ → ℕ → Settings → MeantEffect
effect_at names s from setup = (read_at names s from setup).effect

-- What a line comes to, its label aside.
abbrev pub Rest : Type 0
Rest = Result Done Refusal

-- "22 a 32,769th instruction": one that names a label, or not.
unfoldable pub one_more : Bool → Found → Result Found Refusal
one_more target f =
    elim (ltb f.words most_words) [ true ↦ Ok (record { words = f.words + 1; config = f.config; targets = f.targets || target }) | false ↦ Err TooManyWords ]

-- What a line comes to by what it does, after what the lines before it have come to.
abbrev pub found_after : MeantEffect → Found → Result Found Refusal
found_after nothing f = Ok f
found_after (sets setup) f = Ok (record { words = f.words; config = config_for setup; targets = f.targets })
found_after (codes d) f = one_more (is_target d.amount) f
found_after (faulty n) f = Err (refusal_at n)

-- The same by an effect of the code's.
abbrev pub found_with : Result Effect Refusal → Found → Result Found Refusal
found_with (Ok Nothing) f = Ok f
found_with (Ok (Sets c)) f = Ok (record { words = f.words; config = c; targets = f.targets })
found_with (Ok (Codes d)) f = one_more (names_label d.amount) f
found_with (Err r) f = Err r

-- The same with where it ends.
abbrev pub ended : Result Found Refusal → ℕ → Rest
ended (Ok f) end = Ok (record { found = f; end = end })
ended (Err r) end = Err r

abbrev pub rest_for : MeantEffect → Found → ℕ → Rest
rest_for e f end = ended (found_after e f) end

-- ---- the first walk

-- How it ends: with what it has found, or with why the source is refused.
abbrev pub Verdict : Type 0
Verdict = Result Found Stopped

-- A source is refused, with the Rust's line and the true line.
abbrev pub refused_at : Refusal → ℕ → ℕ → Stopped
refused_at r rust line = record { refusal = r; rust_line = rust; line = line }

-- It is refused for a line.
abbrev pub line_refused : Refusal → ℕ → Stopped
line_refused r line = refused_at r (rust_line_of (number_of r) line) line

-- A label is to be entered, after so many words.
abbrev pub label_pass : ℕ → ℕ → ℕ → ℕ → Rest → Pass
label_pass start length words line rest =
    AtLabel (record { label = record { start = start; length = length; address = address_after words }; line = line; rest = rest })

-- Reading on from a line with a number, the first of those given, whose first byte stands at a place: to the next label or the end.
unfoldable pub scanned : List Name → (line : ℕ) → Found → ℕ → List (List ℕ) → Pass
scanned names line f at [] = PassEnded (Ok f)
scanned names line f at (l ∷ ls) =
    elim (read_on (context_for f.config) (read_line names l)).label [
      | some u ↦ label_pass (at + indent l) (length u) f.words line (rest_for (read_on (context_for f.config) (read_line names l)).effect f (at + length l))
      | none ↦ elim (rest_for (read_on (context_for f.config) (read_line names l)).effect f (at + length l)) [
        | Err r ↦ PassEnded (Err (line_refused r line))
        | Ok d ↦ scanned names (suc line) d.found (suc d.end) ls
      ]
    ]

abbrev pub scanned_from : List Name → List ℕ → Cursor → Pass
scanned_from names s c = scanned names c.line c.found c.at (lines (drop c.at s))

-- The first line, with the settings that a source begins with.
abbrev pub first_line : Cursor
first_line = record { at = 0; line = 1; found = record { words = 0; config = config_for begin; targets = false } }

-- What the walk begins with: "2 a byte above 127 (added; true line of the first)", or the first line.
unfoldable pub begun : List ℕ → Result Cursor Stopped
begun s = elim (every ascii s) [ true ↦ Ok first_line | false ↦ Err (refused_at NotAscii 0 (length (lines (before ascii s)))) ]

-- What follows a line that comes to something, in a source of so many bytes: its refusal, the end, or the next line.
unfoldable pub line_after : ℕ → (line : ℕ) → Rest → Next
line_after size line (Err r) = NextEnded (Err (line_refused r line))
line_after size line (Ok d) =
    elim (next_line size d.end) [ Some at ↦ From (record { at = at; line = line + 1; found = d.found }) | None ↦ NextEnded (Ok d.found) ]

-- Whether a label is entered, or why it is refused.
abbrev pub Entry : Type 0
Entry = Result ⊤ Refusal

-- What follows a label: "4 duplicate label; 5 new label, table full"; or it is entered.
abbrev pub followed : List ℕ → LabelLine → Entry → Next
followed s p (Ok _) = line_after (length s) p.line p.rest
followed s p (Err r) = NextEnded (Err (line_refused r p.line))

-- ---- what the functions of the first walk require, and what reading on promises

-- A line but the last takes a byte at least, and there are no more words than may be.
abbrev pub RestFits : ℕ → Rest → Type 0
RestFits line (Err r) = Unit {0}
RestFits line (Ok d) = (line ≤ d.end + 1) × (d.found.words ≤ 32768)

-- What is known of a label that is to be entered: it is a part of the source, at an address below 2^21. It takes a byte at least, and so does
-- the end of each line before its own.
pub record Sound (s : List ℕ) (p : LabelLine) : Type 0 where
  pub short : length s ≤ most_bytes
  pub in_text : InText s p.label
  pub near : p.label.address < 2097152
  pub line_fits : p.line ≤ length s
  pub rest_fits : RestFits p.line p.rest

abbrev pub SoundPass : List ℕ → Pass → Type 0
SoundPass s (AtLabel p) = Sound s p
SoundPass s (PassEnded v) = Unit {0}

-- From where the walk may read on.
pub record Scannable (s : List ℕ) (c : Cursor) : Type 0 where
  pub short : length s ≤ most_bytes
  pub in_text : c.at ≤ length s
  pub few_lines : c.line ≤ c.at + 1
  pub few_words : c.found.words ≤ 32768

-- A label is reached from a line before it, or its own.
abbrev pub After : Cursor → Pass → Type 0
After c (AtLabel p) = c.line ≤ p.line
After c (PassEnded v) = Unit {0}

-- The walk reads on: to the next label, or to its end.
pub record ReadsOn (names : List Name) (s : List ℕ) (c : Cursor) (p : Pass) : Type 0 where
  pub answer : p ≡ scanned_from names s c
  pub sound : SoundPass s p
  pub after : After c p

-- ---- what the end of a walk that comes from the first line means

-- All lines of a source have been read, with labels entered, and this has been found.
pub record ReadThrough (names : List Name) (s : List ℕ) (room : ℕ) (labels : List Meant) (f : Found) : Type 0 where
  pub state : State
  pub short : leb (length s) most_bytes ≡ true
  pub clean : every ascii s ≡ true
  pub walked : walk names room 1 0 start (lines s) ≡ finished state
  pub labels_are : state.labels ≡ labels
  pub words_are : state.words ≡ f.words
  pub setup_is : state.setup ≡ settings_meant f.config
  pub targets_are : any_target (reads names s) ≡ f.targets

-- The walk has ended with labels entered: the source is refused by its verdict, or has been read through.
abbrev pub WalkEnds : List Name → List ℕ → ℕ → List Meant → Verdict → Type 0
WalkEnds names s room labels (Err t) = reading names s room ≡ refusing (number_of t.refusal) t.rust_line t.line labels none
WalkEnds names s room labels (Ok f) = ReadThrough names s room labels f

-- A source is accepted, with labels entered, so many words and settings.
pub record Accepts (names : List Name) (s : List ℕ) (room : ℕ) (labels : List Meant) (words : ℕ) (setup : Settings) : Type 0 where
  pub state : State
  pub accepts : reading names s room ≡ accepted state
  pub labels_are : state.labels ≡ labels
  pub words_are : state.words ≡ words
  pub setup_is : state.setup ≡ setup

-- Reading has ended with labels entered: its verdict is what reading the source comes to.
abbrev pub ReadingEnds : List Name → List ℕ → ℕ → List Meant → Verdict → Type 0
ReadingEnds names s room labels (Err t) = reading names s room ≡ refusing (number_of t.refusal) t.rust_line t.line labels none
ReadingEnds names s room labels (Ok f) = Accepts names s room labels f.words (settings_meant f.config)

-- ---- the second walk

-- No line has a bad token.
unfoldable pub all_read : List Name → List (List ℕ) → Bool
all_read names [] = true
all_read names (l ∷ ls) = elim (read_line names l) [ none ↦ false | some _ ↦ all_read names ls ]

abbrev pub Readable : List Name → List ℕ → Type 0
Readable names s = all_read names (lines s) ≡ true

-- The words of a source, four bytes each.
unfoldable pub code_bytes : List Name → List ℕ → List ℕ
code_bytes names s = flat_map (little 4) (map word_of (instructions_of names s))

-- The addresses of a source's labels, by their spellings.
abbrev pub addresses : List Name → List ℕ → List ℕ → Option ℕ
addresses names s = address_in 0 (reads names s)

-- The labels of a source have been entered, each line of which can be read: by its spelling each is found at its address.
pub record Entered (names : List Name) (labels : Labels) : Type 0 where
  pub short : length labels.source.now ≤ most_bytes
  pub readable : Readable names labels.source.now
  pub most : length (instructions_of names labels.source.now) ≤ 32768
  pub linked : Linked labels
  pub few : labels.count ≤ 1048576
  pub addressed : (u : List ℕ) → address_at labels.source.now (take labels.count (unlinked labels.count labels.table.now)) u ≡ addresses names labels.source.now u

-- A label that an amount names is a part of the source.
abbrev pub AmountInText : List ℕ → Amount → Type 0
AmountInText s (Number w) = Unit {0}
AmountInText s (LabelAmount p) = p.start + p.length ≤ length s

-- The number of a draft, or why it has none.
unfoldable pub number_of_draft : (List ℕ → Option ℕ) → ℕ → MeantDraft → Result Whole Refusal
number_of_draft a words d =
    elim (draft_fault a words d) [ some n ↦ Err (refusal_at n) | none ↦ Ok (whole_or (settled a words d).number) ]

-- The instructions before the first line whose label is refused.
unfoldable pub coded_until : (List ℕ → Option ℕ) → ℕ → List MeantRead → List Instruction
coded_until a words [] = []
coded_until a words (r ∷ rs) =
    elim (target_fault a words r.effect) [ some n ↦ [] | none ↦ coded_by a words r.effect ++ coded_until a (words + words_of r.effect) rs ]

abbrev pub bytes_until : List Name → List ℕ → List ℕ
bytes_until names s = flat_map (little 4) (map word_of (coded_until (addresses names s) 0 (reads names s)))

-- Why a source is refused for a label that it names, if it is.
abbrev pub refused_for : Option Fault → Result ⊤ Stopped
refused_for none = Ok tt
refused_for (some f) = Err (line_refused (refusal_at f.number) f.line)

-- What the second walk answers, and what it has put: all words, or those before the first line whose label is refused.
pub record PutsWords {S : Type 0} (Took : S → List ℕ → S → Type 0) (names : List Name) (s : List ℕ) (old new : S) (r : Result ⊤ Stopped) : Type 0 where
  pub answer : r ≡ refused_for (fault_in (reads names s))
  pub took : Took old (bytes_until names s) new

-- What the first walk has found of a source that it has finished, and whose labels are all in reach.
pub record Ready (names : List Name) (s : List ℕ) (words : ℕ) (setup : Settings) : Type 0 where
  pub readable : Readable names s
  pub words_are : length (instructions_of names s) ≡ words
  pub most : words ≤ 32768
  pub setup_is : settings_of names s ≡ setup
  pub faultless : fault_in (reads names s) ≡ none

-- Whether the image of such a source fits an image buffer ("23 image buffer too short"), and what the buffer holds afterwards.
pub record Fills (names : List Name) (s : List ℕ) (words : ℕ) (old new : List ℕ) (r : Result ⊤ TooShort) : Type 0 where
  pub answer : r ≡ elim (leb (image_length words) (length old)) [ true ↦ Ok tt | false ↦ Err (record { needed = image_length words }) ]
  pub holds : new ≡ elim (leb (image_length words) (length old)) [ true ↦ over (image_of names s) old | false ↦ old ]
