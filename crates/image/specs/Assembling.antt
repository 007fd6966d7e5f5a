-- Assembling: a source is read line by line; the first faulty line decides. Quotations are document 01's, and document 02's where it is named.
use Rattle.std.specs.Prelude.{ℕ, suc, ◌+◌, ◌-◌, ◌*◌, Bool, true, false, List, [], ◌∷◌, ◌++◌, length, leb, ltb, eqb, ℤ, pos}
use Rattle.std.proofs.Math.Option.{Option, none, some}
use Rattle.text_lexical.specs.Bytes.{Result, value, refused, ascii, every, same, before, find, is_some}
use Rattle.text_lexical.specs.Numbers.{minus, is_signed}
use Rattle.text_lexical.specs.Names.{Name}
use Rattle.text.specs.Lines.{Line, lines, indent, read_line}
use Rattle.instruction.specs.Table.{Form, R, I, Shift, Load, Store, Branch, Jump, System}
use Rattle.instruction.specs.Operands.{Amount, exactly, to, Draft, read_instruction, behind}
use Rattle.instruction.specs.Kinds.{Kind, empty, labelled, config, ignored, plain, kind_of}
use Rattle.image.specs.Settings.{Settings, begin, configured}
use Rattle.image.specs.Program.{entry, image_length}

-- A label: its spelling, where it stands ("start counts from the source's first byte"), and its address.
pub record Label : Type 0 where
  pub spelling : List ℕ
  pub start : ℕ
  pub address : ℕ

-- What the lines so far have come to: the labels in the order entered, how many words there are, and the settings.
pub record State : Type 0 where
  pub labels : List Label
  pub words : ℕ
  pub setup : Settings

unfoldable pub start : State
start = record { labels = []; words = 0; setup = begin }

-- What a line leads to: the next state, or a refusal and the state that it leaves.
pub data Step : Type 0 where
  next : State → Step
  stop : ℕ → State → Step

-- ---- labels

-- "compared case-sensitively"
unfoldable pub is_known : List Label → List ℕ → Bool
is_known labels s = is_some (find (λ l. same l.spelling s) labels)

-- "the label's address" (document 02, a): that of the label entered with a spelling, if there is one.
unfoldable pub address_of : List Label → List ℕ → Option ℕ
address_of labels s = elim (find (λ l. same l.spelling s) labels) [ none ↦ none | some l ↦ some l.address ]

-- "its address is 0x1000 + 4 times the words before"
unfoldable pub address_after : ℕ → ℕ
address_after words = entry + 4 * words

unfoldable pub with_label : State → ℕ → List ℕ → State
with_label st at s =
    record { labels = st.labels ++ (record { spelling = s; start = at; address = address_after st.words } ∷ []); words = st.words; setup = st.setup }

-- "4 duplicate label; 5 new label, table full"; the table has room for so many.
unfoldable pub enter : ℕ → State → ℕ → List ℕ → Step
enter room st at s =
    elim (is_known st.labels s) [
      | true ↦ stop 4 st
      | false ↦ elim (ltb (length st.labels) room) [ true ↦ next (with_label st at s) | false ↦ stop 5 st ]
    ]

-- ---- what a line does

-- What the lines above leave to read a line by.
pub record Context : Type 0 where
  pub setup : Settings

-- What a source's first line is read by.
abbrev pub first_context : Context
first_context = record { setup = begin }

-- What a line does, its label aside.
pub data Effect : Type 0 where
  nothing : Effect
  -- "`.config` ... sets a field" (document 01); "A setting must be 0..255" (document 02, c)
  sets : Settings → Effect
  codes : Draft → Effect
  -- why it is refused
  faulty : ℕ → Effect

-- What a line reads as: its label, if it has one, and what it does then.
pub record Read : Type 0 where
  pub label : Option (List ℕ)
  pub effect : Effect

unfoldable pub setting : Result Settings → Effect
setting (value s) = sets s
setting (refused n) = faulty n

unfoldable pub coding : Result Draft → Effect
coding (value d) = codes d
coding (refused n) = faulty n

-- "What follows it must be an instruction", if anything follows.
unfoldable pub after_label : Line → Effect
after_label l = elim l.first [ [] ↦ nothing | t ∷ ts ↦ coding (read_instruction l) ]

-- A line of a kind.
unfoldable pub read_kind : Context → Line → Kind → Read
read_kind c l empty = record { label = none; effect = nothing }
read_kind c l (labelled s) = record { label = some s; effect = after_label (behind 2 l) }
read_kind c l config = record { label = none; effect = setting (configured c.setup l) }
read_kind c l ignored = record { label = none; effect = nothing }
read_kind c l plain = record { label = none; effect = coding (read_instruction l) }

-- A line by its record; none: "3 bad token anywhere in it".
unfoldable pub read_on : Context → Option Line → Read
read_on c none = record { label = none; effect = faulty 3 }
read_on c (some l) = read_kind c l (kind_of l.first)

-- ---- what the lines of a source do

-- The settings after a line: "as changed by the `.config` lines in order".
unfoldable pub changed_by : Settings → Effect → Settings
changed_by s (sets s') = s'
changed_by s nothing = s
changed_by s (codes d) = s
changed_by s (faulty n) = s

unfoldable pub context_after : Context → Effect → Context
context_after c e = record { setup = changed_by c.setup e }

-- Each line read by what those above it leave.
unfoldable pub reads_from : List Name → Context → List (List ℕ) → List Read
reads_from names c [] = []
reads_from names c (l ∷ ls) = read_on c (read_line names l) ∷ reads_from names (context_after c (read_on c (read_line names l)).effect) ls

-- The lines of a source, in order: the first is line 1.
unfoldable pub reads : List Name → List ℕ → List Read
reads names source = reads_from names first_context (lines source)

-- ---- what a line leads to

-- The line's label is entered, if it has one.
unfoldable pub entering : ℕ → State → ℕ → Option (List ℕ) → Step
entering room st at none = next st
entering room st at (some s) = enter room st at s

unfoldable pub with_settings : State → Settings → State
with_settings st s = record { labels = st.labels; words = st.words; setup = s }

-- "22 a 32,769th instruction"
unfoldable pub most_words : ℕ
most_words = 32768

unfoldable pub with_instruction : State → Step
with_instruction st =
    elim (ltb st.words most_words) [ true ↦ next (record { labels = st.labels; words = suc st.words; setup = st.setup }) | false ↦ stop 22 st ]

-- Then it does what it does: "a refused line's own label counts if it was entered before the fault".
unfoldable pub doing : Effect → Step → Step
doing e (stop n st) = stop n st
doing nothing (next st) = next st
doing (sets s) (next st) = next (with_settings st s)
doing (codes d) (next st) = with_instruction st
doing (faulty n) (next st) = stop n st

-- A line whose content stands at a place of the source.
unfoldable pub step : ℕ → State → ℕ → Read → Step
step room st at r = doing r.effect (entering room st at r.label)

unfoldable pub context_of : State → Context
context_of st = record { setup = st.setup }

-- ---- all lines

pub data Walk : Type 0 where
  finished : State → Walk
  stopped : (number line : ℕ) → State → Walk

-- The lines from the one with a number on, whose first byte stands at a place of the source.
unfoldable pub walk : List Name → ℕ → ℕ → ℕ → State → List (List ℕ) → Walk
walk names room line at st [] = finished st
walk names room line at st (l ∷ ls) =
    elim (step room st (at + indent l) (read_on (context_of st) (read_line names l))) [
      | next st' ↦ walk names room (suc line) (at + suc (length l)) st' ls
      | stop n st' ↦ stopped n line st'
    ]

-- ---- labels that instructions name (document 02, a)

-- How many words a line comes to.
unfoldable pub words_of : Effect → ℕ
words_of (codes d) = 1
words_of nothing = 0
words_of (sets s) = 0
words_of (faulty n) = 0

unfoldable pub is_labelled : Read → List ℕ → Bool
is_labelled r u = elim r.label [ none ↦ false | some s ↦ same s u ]

-- "a label anywhere in the source": the address of the one with a spelling, if there is one, among lines with so many words before them.
unfoldable pub address_in : ℕ → List Read → List ℕ → Option ℕ
address_in words [] u = none
address_in words (r ∷ rs) u = elim (is_labelled r u) [ true ↦ some (address_after words) | false ↦ address_in (words + words_of r.effect) rs u ]

-- "the label's address minus the instruction's own address, in bytes", for an instruction with so many words before it.
unfoldable pub distance : ℕ → ℕ → ℤ
distance words address =
    elim (leb (address_after words) address) [ true ↦ pos (address - address_after words) | false ↦ minus (address_after words - address) ]

-- "34 distance outside the branch's signed 17 bits"
unfoldable pub in_reach : Form → ℤ → Bool
in_reach Branch z = is_signed 17 z
in_reach Jump z = true
in_reach R z = true
in_reach I z = true
in_reach Shift z = true
in_reach Load z = true
in_reach Store z = true
in_reach System z = true

-- Why an amount is refused, where labels have these addresses: "33 no such label and 34".
unfoldable pub amount_fault : (List ℕ → Option ℕ) → ℕ → Form → Amount → Option ℕ
amount_fault addresses words f (exactly z) = none
amount_fault addresses words f (to u) =
    elim (addresses u) [ none ↦ some 33 | some a ↦ elim (in_reach f (distance words a)) [ true ↦ none | false ↦ some 34 ] ]

unfoldable pub draft_fault : (List ℕ → Option ℕ) → ℕ → Draft → Option ℕ
draft_fault addresses words d = elim d.amount [ none ↦ none | some a ↦ amount_fault addresses words d.row.form a ]

unfoldable pub target_fault : (List ℕ → Option ℕ) → ℕ → Effect → Option ℕ
target_fault addresses words (codes d) = draft_fault addresses words d
target_fault addresses words nothing = none
target_fault addresses words (sets s) = none
target_fault addresses words (faulty n) = none

-- A refusal's number, and its line.
pub record Fault : Type 0 where
  pub number : ℕ
  pub line : ℕ

-- "the first such line deciding", from the line with a number on, with so many words before it.
unfoldable pub first_fault : (List ℕ → Option ℕ) → (line words : ℕ) → List Read → Option Fault
first_fault addresses line words [] = none
first_fault addresses line words (r ∷ rs) =
    elim (target_fault addresses words r.effect) [
      | some n ↦ some (record { number = n; line = line })
      | none ↦ first_fault addresses (suc line) (words + words_of r.effect) rs
    ]

-- The first such line of a source.
unfoldable pub fault_in : List Read → Option Fault
fault_in rs = first_fault (address_in 0 rs) 1 0 rs

-- ---- the answer

-- "A refusal carries its number, the Rust's line and the true line (from 1)", "the label count, and 23 the needed length".
pub record Refusal : Type 0 where
  pub number : ℕ
  pub rust_line : ℕ
  pub true_line : ℕ
  pub labels : List Label
  pub needed : Option ℕ

pub data Assembled : Type 0 where
  accepted : State → Assembled
  rejected : Refusal → Assembled

-- "The Rust's line is 0 for 3, 8 and 18, elsewhere the true line."
unfoldable pub rust_line_of : ℕ → ℕ → ℕ
rust_line_of n line = elim (eqb n 3) [ true ↦ 0 | false ↦ elim (eqb n 8) [ true ↦ 0 | false ↦ elim (eqb n 18) [ true ↦ 0 | false ↦ line ] ] ]

unfoldable pub refusing : ℕ → ℕ → ℕ → List Label → Option ℕ → Assembled
refusing n rust line labels needed =
    rejected (record { number = n; rust_line = rust; true_line = line; labels = labels; needed = needed })

unfoldable pub line_refused : Fault → List Label → Assembled
line_refused f labels = refusing f.number (rust_line_of f.number f.line) f.line labels none

-- "both tested after the last line" (document 02, a)
unfoldable pub read_to : List Read → Walk → Assembled
read_to rs (finished st) = elim (fault_in rs) [ none ↦ accepted st | some f ↦ line_refused f st.labels ]
read_to rs (stopped n line st) = line_refused (record { number = n; line = line }) st.labels

-- "1 source over 1,048,576 bytes"
unfoldable pub most_bytes : ℕ
most_bytes = 1048576

-- Reading a source with a table that has room for so many labels: all refusals but 23. "Before any line: 1 source over 1,048,576
-- bytes (added); 2 a byte above 127 (added; true line of the first). Then the first faulty line decides".
unfoldable pub reading : List Name → List ℕ → ℕ → Assembled
reading names source room =
    elim (leb (length source) most_bytes) [
      | false ↦ refusing 1 0 0 [] none
      | true ↦ elim (every ascii source) [
        | false ↦ refusing 2 0 (length (lines (before ascii source))) [] none
        | true ↦ read_to (reads names source) (walk names room 1 0 start (lines source))
      ]
    ]

-- "At the end: 23 image buffer too short"; "1 and 23 give both as 0".
unfoldable pub fitted : ℕ → Assembled → Assembled
fitted size (rejected r) = rejected r
fitted size (accepted st) =
    elim (leb (image_length st.words) size) [ true ↦ accepted st | false ↦ refusing 23 0 0 st.labels (some (image_length st.words)) ]

-- "Assembling takes a source, a label table (entries of start, length, address) and an image buffer": here their lengths.
unfoldable pub assembling : List Name → List ℕ → ℕ → ℕ → Assembled
assembling names source room size = fitted size (reading names source room)
