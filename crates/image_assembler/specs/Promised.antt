-- What assembling promises. Quotations are document 01's.
use Rattle.std.specs.Prelude.{ℕ, ◌≤◌, ◌≡◌, List, map, length, ⊤, Result, Ok, Err}
use Rattle.std.proofs.Math.Option.{none, some}
use Rattle.text_lexical.specs.Names.{Name}
use Rattle.refusal.specs.Refusals.{number_of}
use Rattle.refusal.specs.declared.refusal.Refusal.TheVariants.{SourceTooLong}
use Rattle.image.specs.Assembling.{most_bytes, assembling}
use Rattle.image.specs.Assembling.{Label as Meant}
use Rattle.image.specs.Lent.{over, Answer, assembled, refusal as refusal_answer, answer_of, entered, image_after}
use Rattle.image.specs.Promised.{settings_meant}
use Rattle.image.specs.declared.config.Config.{Config}
use Rattle.image_labels.specs.Promised.{entry_of, Spelled}
use Rattle.image_labels.specs.Tree.{unlinked, Bare, Linked, SameLent}
use Rattle.image_labels.specs.declared.label.Label.{Label}
use Rattle.image_labels.specs.declared.label.Labels.{Labels}
use Rattle.image_passes.specs.Promised.{Verdict, WalkEnds, ReadingEnds, Entered, Ready, Fills}
use Rattle.image_passes.specs.declared.second_pass.TooShort.{TooShort as Short}
use Rattle.image_assembler.specs.declared.assembler.Assembled.{Assembled}
use Rattle.image_assembler.specs.declared.assembler.AssembleError.{AssembleError}
use Rattle.image_assembler.specs.declared.assembler.AssembleError.TheVariants.{Refused, TooShort}

-- ---- the answer

abbrev pub answer_meant : Result Assembled AssembleError → Answer
answer_meant (Ok a) = assembled a.words a.labels (settings_meant a.config)
answer_meant (Err (Refused r rust line labels)) = refusal_answer (number_of r) rust line labels none
answer_meant (Err (TooShort labels needed)) = refusal_answer 23 0 0 labels (some needed)

-- "1 source over 1,048,576 bytes": "1 and 23 give both as 0".
abbrev pub overlong : Result Assembled AssembleError
overlong = Err (Refused SourceTooLong 0 0 0)

-- The answer for a source that the first walk has finished, by whether its image fits.
abbrev pub answer_for : Result ⊤ Short → ℕ → ℕ → Config → Result Assembled AssembleError
answer_for (Ok u) words labels c = Ok (record { words = words; labels = labels; config = c })
answer_for (Err short) words labels c = Err (TooShort labels short.needed)

-- What `finish` asks of labels and a verdict.
abbrev pub Finishable : List Name → Labels → Verdict → Type 0
Finishable names labels (Ok f) = Entered names labels × Ready names labels.source.now f.words (settings_meant f.config)
Finishable names labels (Err e) = Unit {0}

-- What a walk that has been finished comes to, with an image buffer before and after.
pub record Completes (names : List Name) (s : List ℕ) (words labels : ℕ) (c : Config) (old new : List ℕ) (r : Result Assembled AssembleError) : Type 0 where
  pub fill : Result ⊤ Short
  pub fills : Fills names s words old new fill
  pub answer : r ≡ answer_for fill words labels c

-- What a source that was read comes to, with its labels, and an image buffer before and after.
abbrev pub Finishes : List Name → Labels → List ℕ → List ℕ → Result Assembled AssembleError → Verdict → Type 0
Finishes names labels old new r (Ok f) = Completes names labels.source.now f.words labels.count f.config old new r
Finishes names labels old new r (Err e) = (r ≡ Err (Refused e.refusal e.rust_line e.line labels.count)) × (new ≡ old)

-- ---- assembling

-- What the first walk starts from: a source that is not too long, no labels, and empty buckets.
pub record Starts (labels : Labels) : Type 0 where
  pub short : length labels.source.now ≤ most_bytes
  pub none_entered : labels.count ≡ 0
  pub bare : Bare labels.roots.now

-- The labels entered so far stand in the table, before its untouched entries.
pub record Holds (s : List ℕ) (old table : List Label) (labels : List Meant) : Type 0 where
  pub table_is : table ≡ over (map entry_of labels) old
  pub fits : length labels ≤ length old
  pub spelled : Spelled s labels

-- The first walk has ended, with labels entered, which are counted. They stand in the table once their entries are unlinked; until then
-- they can be found.
pub record Walks (names : List Name) (old new : Labels) (v : Verdict) : Type 0 where
  pub labels : List Meant
  pub ends : WalkEnds names old.source.now (length old.table.now) labels v
  pub counted : new.count ≡ length labels
  pub few : new.count ≤ most_bytes
  pub holds : Holds old.source.now old.table.now (unlinked new.count new.table.now) labels
  pub linked : Linked new
  pub lent : SameLent old new

-- A source has been read, with labels entered, which are counted and stand in the table as after the first walk.
pub record Resolves (names : List Name) (old new : Labels) (v : Verdict) : Type 0 where
  pub labels : List Meant
  pub ends : ReadingEnds names old.source.now (length old.table.now) labels v
  pub counted : new.count ≡ length labels
  pub holds : Holds old.source.now old.table.now (unlinked new.count new.table.now) labels
  pub finishable : Finishable names new v
  pub linked : Linked new
  pub lent : SameLent old new

-- Assembling a source, with a label table and an image buffer before and after.
pub record Assembles (names : List Name) (source : List ℕ) (table : List Label) (image : List ℕ) (table' : List Label) (image' : List ℕ) (r : Result Assembled AssembleError) : Type 0 where
  pub answer : answer_meant r ≡ answer_of (assembling names source (length table) (length image))
  pub table_holds : table' ≡ over (map entry_of (entered (assembling names source (length table) (length image)))) table
  pub image_holds : image' ≡ image_after names source (assembling names source (length table) (length image)) image
