-- What the exported functions promise. Each returns the number of its refusal, 0 where there is none, and writes the other values of its
-- answer over a lent array; a value that the answer does not have is 0 there. Quotations are document 01's.
use Rattle.std.specs.Prelude.{ℕ, ◌≡◌, List, [], ◌∷◌, map, length}
use Rattle.std.proofs.Math.Option.{Option, none, some}
use Rattle.text_lexical.specs.Bytes.{Result, value, refused}
use Rattle.text_lexical.specs.Names.{Name}
use Rattle.image.specs.Opening.{Opened, opening}
use Rattle.image.specs.Assembling.{assembling}
use Rattle.image.specs.Listing.{listing}
use Rattle.image.specs.Lent.{over, Answer, assembled, refusal, answer_of, entered, image_after, ListAnswer, listed, unlisted, list_answer_of, text_after}
use Rattle.image_labels.specs.Promised.{entry_of}
use Rattle.image_labels.specs.declared.label.Label.{Label}

abbrev pub or_zero : Option ℕ → ℕ
or_zero none = 0
or_zero (some n) = n

-- ---- assembling

abbrev pub assemble_number : Answer → ℕ
assemble_number (assembled words labels s) = 0
assemble_number (refusal number rust_line true_line labels needed) = number

-- "the counts of words and labels, and the three settings"; then "the Rust's line and the true line", and "23 the needed length".
abbrev pub assemble_values : Answer → List ℕ
assemble_values (assembled words labels s) = words ∷ labels ∷ s.limb_bits ∷ s.data_limbs ∷ s.addr_limbs ∷ 0 ∷ 0 ∷ 0 ∷ []
assemble_values (refusal number rust_line true_line labels needed) = 0 ∷ labels ∷ 0 ∷ 0 ∷ 0 ∷ rust_line ∷ true_line ∷ or_zero needed ∷ []

-- An answer of assembling, handed on.
pub record AnswerGiven (a : Answer) (answer' : List ℕ) (r : ℕ) : Type 0 where
  pub number : r ≡ assemble_number a
  pub answer : answer' ≡ assemble_values a

-- Assembling a source, with a label table and an image buffer before and after.
pub record AssembleCall (names : List Name) (source : List ℕ) (table : List Label) (image : List ℕ) (table' : List Label) (image' answer' : List ℕ) (r : ℕ) : Type 0 where
  pub number : r ≡ assemble_number (answer_of (assembling names source (length table) (length image)))
  pub answer : answer' ≡ assemble_values (answer_of (assembling names source (length table) (length image)))
  pub table_holds : table' ≡ over (map entry_of (entered (assembling names source (length table) (length image)))) table
  pub image_holds : image' ≡ image_after names source (assembling names source (length table) (length image)) image

-- ---- opening

abbrev pub open_number : Result Opened → ℕ
open_number (value o) = 0
open_number (refused n) = n

-- "the settings, the other header fields", in the header's order, "and the code and data parts": the code begins at 32, and the last
-- value is where it ends; the data fill the rest.
abbrev pub open_values : Result Opened → List ℕ
open_values (value o) =
    o.header.magic ∷ o.header.version ∷ o.header.setup.limb_bits ∷ o.header.setup.data_limbs ∷ o.header.setup.addr_limbs ∷ o.header.flags
    ∷ o.header.entry ∷ o.header.code_size ∷ o.header.data_size ∷ o.header.bss_size ∷ o.header.stack_size ∷ o.code_end ∷ []
open_values (refused n) = 0 ∷ 0 ∷ 0 ∷ 0 ∷ 0 ∷ 0 ∷ 0 ∷ 0 ∷ 0 ∷ 0 ∷ 0 ∷ 0 ∷ []

-- Opening an image.
pub record OpenCall (image answer' : List ℕ) (r : ℕ) : Type 0 where
  pub number : r ≡ open_number (opening image)
  pub answer : answer' ≡ open_values (opening image)

-- ---- listing

abbrev pub list_number : ListAnswer → ℕ
list_number (listed n) = 0
list_number (unlisted number index needed) = number

-- "the text length"; then the faulty word's "index (from 0)", and 32's "needed length".
abbrev pub list_values : ListAnswer → List ℕ
list_values (listed n) = n ∷ 0 ∷ 0 ∷ []
list_values (unlisted number index needed) = 0 ∷ or_zero index ∷ or_zero needed ∷ []

-- Listing an image, with a text buffer before and after.
pub record ListCall (image text text' answer' : List ℕ) (r : ℕ) : Type 0 where
  pub number : r ≡ list_number (list_answer_of (listing image (length text)))
  pub answer : answer' ≡ list_values (list_answer_of (listing image (length text)))
  pub text_holds : text' ≡ text_after (listing image (length text)) text
