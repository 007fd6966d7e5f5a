-- What the first walk's pieces mean in terms of document 01's walk: where a walk that comes from the first line stands.
use Prim.Native.Nat.{ℕ, ◌+◌, ◌≤◌}
use Rattle.std.specs.Prelude.{Ok, Err}
use mathlib.Core.Path.{◌≡◌}
use mathlib.Core.Bool.{true, ◌||◌}
use mathlib.Core.Option.{some}
use mathlib.Core.List.{List, [], ◌∷◌, ◌++◌}
use lib.ListN.{length, drop}
use lib.Dec.{leb}
use Rattle.text_lexical.specs.Bytes.{ascii, every}
use Rattle.text_lexical.specs.Names.{Name}
use Rattle.text.specs.Lines.{lines, indent}
use Rattle.text.specs.Places.{rest_at, end_at}
use Rattle.image.specs.Assembling.{State, start, reads_from, reads, address_after, Walk, walk, read_to, most_bytes, reading}
use Rattle.image.specs.Assembling.{Label as Meant, Read as MeantRead}
use Rattle.image.specs.Meaning.{any_target}
use Rattle.image.specs.Promised.{settings_meant}
use Rattle.image.specs.declared.config.Config.{Config}
use Rattle.image_labels.specs.Promised.{spelled}
use Rattle.image_line.specs.Promised.{context_for}
use Rattle.image_passes.specs.Promised.{read_at, effect_at, Rest, rest_for, Entry, WalkEnds}
use Rattle.image_passes.specs.declared.first_pass.Next.{Next}
use Rattle.image_passes.specs.declared.first_pass.Next.TheVariants.{From, Ended as NextEnded}
use Rattle.image_passes.specs.declared.first_pass.Cursor.{Cursor}
use Rattle.image_passes.specs.declared.first_pass.Pass.{Pass}
use Rattle.image_passes.specs.declared.first_pass.Pass.TheVariants.{AtLabel, Ended as PassEnded}
use Rattle.image_passes.specs.declared.first_pass.LabelLine.{LabelLine}
use Rattle.image_passes.specs.declared.first_pass.Found.{Found}

-- What the line at a place comes to, its label aside.
abbrev pub comes_to : List Name → List ℕ → ℕ → Found → Rest
comes_to names s at f = rest_for (effect_at names s at (settings_meant f.config)) f (end_at s at)

-- What the first walk comes to, and that it is reached: nothing is refused before any line.
abbrev pub whole : List Name → List ℕ → ℕ → Walk
whole names s room = walk names room 1 0 start (lines s)

pub record Clean (s : List ℕ) : Type 0 where
  pub short : leb (length s) most_bytes ≡ true
  pub ascii_only : every ascii s ≡ true

pub clean-reading : {s : List ℕ} → Clean s → (names : List Name) (room : ℕ) → reading names s room ≡ read_to (reads names s) (whole names s room)
unfolding reading
clean-reading c names room = rw (reading, c.short, c.ascii_only)

-- What the lines from a place on read as, where the settings are these.
abbrev pub reads_after : List Name → List ℕ → ℕ → Config → List MeantRead
reads_after names s at c = reads_from names (context_for c) (lines (drop at s))

-- A line has been reached, with labels entered, and this has been found.
pub record Reached (names : List Name) (s : List ℕ) (room line at : ℕ) (labels : List Meant) (f : Found) : Type 0 where
  pub clean : Clean s
  pub state : State
  pub on : walk names room line at state (lines (drop at s)) ≡ whole names s room
  pub labels_are : state.labels ≡ labels
  pub words_are : state.words ≡ f.words
  pub setup_is : state.setup ≡ settings_meant f.config
  pub targets_are : any_target (reads names s) ≡ (f.targets || any_target (reads_after names s at f.config))

-- The walk stands at a line whose label is to be entered after others.
pub record LabelNext (names : List Name) (s : List ℕ) (room : ℕ) (labels : List Meant) (p : LabelLine) : Type 0 where
  pub at : ℕ
  pub in_text : at ≤ length s
  pub found : Found
  pub reached : Reached names s room p.line at labels found
  pub reads : (read_at names s at (settings_meant found.config)).label ≡ some (spelled s p.label)
  pub starts : p.label.start ≡ at + indent (rest_at s at)
  pub address_is : p.label.address ≡ address_after found.words
  pub rest-is : p.rest ≡ comes_to names s at found

-- Where the first walk stands, with labels entered.
abbrev pub Progress : List Name → List ℕ → ℕ → List Meant → Pass → Type 0
Progress names s room labels (AtLabel p) = LabelNext names s room labels p
Progress names s room labels (PassEnded v) = WalkEnds names s room labels v

-- The line of a cursor has been reached.
abbrev pub ReachedFrom : List Name → List ℕ → ℕ → List Meant → Cursor → Type 0
ReachedFrom names s room labels c = Reached names s room c.line c.at labels c.found

-- What the first walk does next, with labels entered.
abbrev pub Resumes : List Name → List ℕ → ℕ → List Meant → Next → Type 0
Resumes names s room labels (From c) = ReachedFrom names s room labels c
Resumes names s room labels (NextEnded v) = WalkEnds names s room labels v

-- The labels after an attempt to enter one.
abbrev pub with_entry : Entry → List Meant → Meant → List Meant
with_entry (Ok _) ls l = ls ++ (l ∷ [])
with_entry (Err r) ls l = ls

-- The label that a pass stands at.
abbrev pub label_at : List ℕ → LabelLine → Meant
label_at s p = record { spelling = spelled s p.label; start = p.label.start; address = p.label.address }
