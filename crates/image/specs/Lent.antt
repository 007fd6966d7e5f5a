-- What a call answers, and what it leaves in the slices that are lent to it. Quotations are document 01's.
use Rattle.std.specs.Prelude.{ℕ, List, ◌++◌, length, drop}
use Rattle.std.proofs.Math.Option.{Option}
use Rattle.text_lexical.specs.Names.{Name}
use Rattle.image.specs.Settings.{Settings}
use Rattle.image.specs.Assembling.{Label, Assembled, accepted, rejected}
use Rattle.image.specs.Listing.{Listing, written, rejected as refused_text}
use Rattle.image.specs.Meaning.{image_of}

-- A lent slice whose front is written over: "later bytes keep their values", "Entries past the count keep their values".
unfoldable pub over : {A : Type 0} → List A → List A → List A
over new old = new ++ drop (length new) old

-- ---- assembling

-- "It answers the counts of words and labels, and the three settings"; a refusal its number, both lines, the label count and,
-- for 23, the needed length.
pub data Answer : Type 0 where
  assembled : (words labels : ℕ) → Settings → Answer
  refusal : (number rust_line true_line labels : ℕ) (needed : Option ℕ) → Answer

unfoldable pub answer_of : Assembled → Answer
answer_of (accepted st) = assembled st.words (length st.labels) st.setup
answer_of (rejected r) = refusal r.number r.rust_line r.true_line (length r.labels) r.needed

-- The labels entered so far, after a refusal too: "Labels stand in the order entered".
unfoldable pub entered : Assembled → List Label
entered (accepted st) = st.labels
entered (rejected r) = r.labels

-- Labels by spelling and address: where they start in a source is another matter.
abbrev pub addressed : Label → List ℕ × ℕ
addressed l = (l.spelling, l.address)

-- After a refusal the image buffer holds what it held before (demand 1).
unfoldable pub image_after : List Name → List ℕ → Assembled → List ℕ → List ℕ
image_after names source (accepted st) old = over (image_of names source) old
image_after names source (rejected r) old = old

-- ---- listing

-- "it answers the text length"; a refusal its number, for 30 and 31 the word's index, for 32 the needed length.
pub data ListAnswer : Type 0 where
  listed : (length : ℕ) → ListAnswer
  unlisted : (number : ℕ) (index needed : Option ℕ) → ListAnswer

unfoldable pub list_answer_of : Listing → ListAnswer
list_answer_of (written t) = listed (length t)
list_answer_of (refused_text r) = unlisted r.number r.index r.needed

-- After a refusal the text buffer holds what it held before (demand 1).
unfoldable pub text_after : Listing → List ℕ → List ℕ
text_after (written t) old = over t old
text_after (refused_text r) old = old
