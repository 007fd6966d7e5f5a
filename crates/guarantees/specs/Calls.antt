-- Demand 1: what every call answers and leaves in the slices that are lent to it; and demand 3, said of calls.
-- `Assembles` and `Lists` are what the contracts of `assemble` and `list` promise of every call, whatever the source, the image and
-- the lengths of the slices, 0 included; the contract of `open` is `answered (opened_meant image) r ≡ opening image`.
use Rattle.std.specs.Prelude.{ℕ, ◌+◌, ◌*◌, ◌≤◌, ◌≡◌, ◌↔◌, Bool, true, false, List, [], ◌∷◌, ◌++◌, map, length, take, eqb}
use Rattle.std.specs.Prelude.{Result as Answered}
use Rattle.text_lexical.specs.Bytes.{Result, value, refused}
use Rattle.text_lexical.specs.Names.{Name, present}
use Rattle.image.specs.Assembling.{Label, assembling}
use Rattle.image.specs.Opening.{opening, Opened as Parts}
use Rattle.image.specs.Listing.{text_of}
use Rattle.image.specs.Meaning.{instructions_of, settings_of, image_of, Accepted, Listed}
use Rattle.image.specs.Lent.{over, Answer, assembled, refusal, entered, ListAnswer, listed, unlisted}
use Rattle.image.specs.Promised.{opened_meant}
use Rattle.image_labels.specs.Promised.{entry_of}
use Rattle.image_assembler.specs.Promised.{answer_meant, Assembles}
use Rattle.image_listing.specs.Promised.{listing_meant, Lists}
use Rattle.image_labels.specs.declared.label.Label.{Label as Entry}
use Rattle.refusal.specs.Refusals.{answered}
use Rattle.refusal.specs.declared.refusal.Refusal.{Refusal}
use Rattle.image_assembler.specs.declared.assembler.Assembled.{Assembled}
use Rattle.image_assembler.specs.declared.assembler.AssembleError.{AssembleError}
use Rattle.image.specs.declared.program.Opened.{Opened}
use Rattle.image_listing.specs.declared.disassembler.ListError.{ListError}
use Rattle.guarantees.specs.NameSets.{NameSet}
use Rattle.guarantees.specs.Promises.{Agree, AreBytes}

-- ---- the numbers of refusals

-- Reading a source: from "1 source over 1,048,576 bytes" to "22 a 32,769th instruction", "33 no such label and 34 distance outside the
-- branch's signed 17 bits" (document 02, a), and "35 number out of its range" (document 02, c).
abbrev pub reading_numbers : List ℕ
reading_numbers = 1 ∷ 2 ∷ 3 ∷ 4 ∷ 5 ∷ 6 ∷ 7 ∷ 8 ∷ 9 ∷ 10 ∷ 11 ∷ 12 ∷ 13 ∷ 14 ∷ 15 ∷ 16 ∷ 17 ∷ 18 ∷ 19 ∷ 20 ∷ 21 ∷ 22 ∷ 33 ∷ 34 ∷ 35 ∷ []

-- Assembling: these, and "At the end: 23 image buffer too short".
abbrev pub assembling_numbers : List ℕ
assembling_numbers = reading_numbers ++ (23 ∷ [])

-- Opening: "In order: 24 under 32 bytes; 25 wrong magic; 26 wrong version; 10 to 13 on the settings; 27 code size no multiple of 4;
-- 28 length differs".
abbrev pub opening_numbers : List ℕ
opening_numbers = 24 ∷ 25 ∷ 26 ∷ 10 ∷ 11 ∷ 12 ∷ 13 ∷ 27 ∷ 28 ∷ []

-- An image without a text: "First Opening's refusals, then 29"; "30 unknown opcode, 31 an unused bit set".
abbrev pub textless_numbers : List ℕ
textless_numbers = opening_numbers ++ (29 ∷ 30 ∷ 31 ∷ [])

-- Listing: these, and "Last, 32 text buffer too short".
abbrev pub listing_numbers : List ℕ
listing_numbers = textless_numbers ++ (32 ∷ [])

-- Whether a number is one of these.
abbrev pub is_one_of : List ℕ → ℕ → Bool
is_one_of [] n = false
is_one_of (m ∷ ms) n = elim (eqb n m) [ true ↦ true | false ↦ is_one_of ms n ]

abbrev pub OneOf : List ℕ → ℕ → Type 0
OneOf ms n = is_one_of ms n ≡ true

-- ---- answers

-- An answer is a finished result, or one numbered refusal.
abbrev pub IsNumbered : Answer → Type 0
IsNumbered (assembled words labels s) = Unit {0}
IsNumbered (refusal number rust_line true_line labels needed) = OneOf assembling_numbers number

abbrev pub IsOpening : Result Parts → Type 0
IsOpening (value o) = Unit {0}
IsOpening (refused n) = OneOf opening_numbers n

abbrev pub IsListing : ListAnswer → Type 0
IsListing (listed n) = Unit {0}
IsListing (unlisted number index needed) = OneOf listing_numbers number

abbrev pub IsRefusal : Answer → Type 0
IsRefusal (assembled words labels s) = ⊥
IsRefusal (refusal number rust_line true_line labels needed) = Unit {0}

abbrev pub IsUnlisted : ListAnswer → Type 0
IsUnlisted (listed n) = ⊥
IsUnlisted (unlisted number index needed) = Unit {0}

-- The counts of words and labels that an answer carries, and the text length.
abbrev pub word_count : Answer → ℕ
word_count (assembled words labels s) = words
word_count (refusal number rust_line true_line labels needed) = 0

abbrev pub label_count : Answer → ℕ
label_count (assembled words labels s) = labels
label_count (refusal number rust_line true_line labels needed) = labels

abbrev pub text_length : ListAnswer → ℕ
text_length (listed n) = n
text_length (unlisted number index needed) = 0

-- ---- demand 1

-- The label table holds labels, as many as the answer says, ahead of its untouched entries.
pub record TableHolds (labels : List Label) (count : ℕ) (table table' : List Entry) : Type 0 where
  pub as_many : length labels ≡ count
  pub ahead : table' ≡ over (map entry_of labels) table

pub record Demand1 : Type 0 where
  -- The answer to a call is a finished result or one numbered refusal.
  pub numbered : (names : List Name) (source : List ℕ) (table : List Entry) (image : List ℕ) (table' : List Entry) (image' : List ℕ) (r : Answered Assembled AssembleError)
      → Assembles names source table image table' image' r → IsNumbered (answer_meant r)
  pub opening_numbered : (image : List ℕ) (r : Answered Opened Refusal) → answered (opened_meant image) r ≡ opening image → IsOpening (answered (opened_meant image) r)
  pub listing_numbered : (image text text' : List ℕ) (r : Answered ℕ ListError) → Lists image text text' r → IsListing (listing_meant r)
  -- After a refusal the image buffer holds what it held before.
  pub image_kept : (names : List Name) (source : List ℕ) (table : List Entry) (image : List ℕ) (table' : List Entry) (image' : List ℕ) (r : Answered Assembled AssembleError)
      → Assembles names source table image table' image' r → IsRefusal (answer_meant r) → image' ≡ image
  -- After every call the label table holds the labels entered so far, ahead of its untouched entries.
  pub table_holds : (names : List Name) (source : List ℕ) (table : List Entry) (image : List ℕ) (table' : List Entry) (image' : List ℕ) (r : Answered Assembled AssembleError)
      → Assembles names source table image table' image' r
      → TableHolds (entered (assembling names source (length table) (length image))) (label_count (answer_meant r)) table table'
  -- After a refusal the text buffer holds what it held before.
  pub text_kept : (image text text' : List ℕ) (r : Answered ℕ ListError) → Lists image text text' r → IsUnlisted (listing_meant r) → text' ≡ text

-- ---- demand 3

-- A call of `assemble` that was not refused: what was lent to it, what it left there, and its answer.
pub record AcceptedCall (names : List Name) (source : List ℕ) : Type 0 where
  pub table : List Entry
  pub image : List ℕ
  pub table' : List Entry
  pub image' : List ℕ
  pub answer : Answered Assembled AssembleError
  pub promised : Assembles names source table image table' image' answer
  pub not_refused : IsRefusal (answer_meant answer) → ⊥

-- "its image is the bytes then filled, none later": "the first 32 + 4 times words bytes", by the count of words in the call's own answer.
abbrev pub filled : {names : List Name} {source : List ℕ} → AcceptedCall names source → List ℕ
filled c = take (32 + 4 * word_count (answer_meant c.answer)) c.image'

-- Some call of `assemble`, for some source, label table and image buffer, has filled just these bytes.
pub record HasCall (names : List Name) (b : List ℕ) : Type 0 where
  pub source : List ℕ
  pub call : AcceptedCall names source
  pub fills : filled call ≡ b

-- What demand 3 speaks of is what calls do.
pub record Calls : Type 0 where
  -- The names that calls read by are one of the sets that demand 3 ranges over.
  pub present_is : (N : NameSet) × (N.names ≡ present)
  -- A call is not refused exactly when its source is accepted; then it answers and fills what is read off the source.
  pub accepted_call : (names : List Name) (source : List ℕ) (table : List Entry) (image : List ℕ) (table' : List Entry) (image' : List ℕ) (r : Answered Assembled AssembleError)
      → Assembles names source table image table' image' r
      → (IsRefusal (answer_meant r) → ⊥) ↔ Accepted names source (length table) (length image)
  pub fills_image : (names : List Name) (source : List ℕ) (table : List Entry) (image : List ℕ) (table' : List Entry) (image' : List ℕ) (r : Answered Assembled AssembleError)
      → Assembles names source table image table' image' r
      → Accepted names source (length table) (length image)
      → (answer_meant r
      ≡ assembled (length (instructions_of names source)) (length (entered (assembling names source (length table) (length image)))) (settings_of names source))
      × (image' ≡ over (image_of names source) image)
  -- A call is not refused exactly when its image is listed; then it answers and fills what is read off the image.
  pub listed_call : (image text text' : List ℕ) (r : Answered ℕ ListError) → Lists image text text' r
      → (IsUnlisted (listing_meant r) → ⊥) ↔ Listed image (length text)
  pub fills_text : (image text text' : List ℕ) (r : Answered ℕ ListError) → Lists image text text' r → Listed image (length text)
      → (listing_meant r ≡ listed (length (text_of image))) × (text' ≡ over (text_of image) text)
  -- "For every two accepted sources, however they are spelled and whatever label tables and image buffers they were lent, their images
  -- are equal exactly when their final three settings agree and they have equally many instructions, which agree one by one in order":
  -- of any two calls that were not refused, the filled bytes are equal exactly then.
  pub equal_images : (N N' : NameSet) (s s' : List ℕ) (c : AcceptedCall N.names s) (c' : AcceptedCall N'.names s')
      → (filled c ≡ filled c')
      ↔ ((settings_of N.names s ≡ settings_of N'.names s') × Agree (instructions_of N.names s) (instructions_of N'.names s'))
  -- "Whatever bytes and whatever text buffer the listing is handed, it accepts exactly when some source, with some label table and image
  -- buffer, is accepted with just these bytes as its image, and the text buffer has room for their text": a call of `list` is not
  -- refused exactly when some call of `assemble` has filled just these bytes, and the text has room.
  pub lists_exactly : (N : NameSet) (bs text text' : List ℕ) (r : Answered ℕ ListError) → AreBytes bs → Lists bs text text' r
      → (IsUnlisted (listing_meant r) → ⊥) ↔ (HasCall N.names bs × (length (text_of bs) ≤ length text))
  -- "The text written is that text and, taken as a source with any label table, one without entries too, and any image buffer no shorter
  -- than those bytes, is accepted and its image is those bytes again": the text that one call has written, given to another call.
  pub text_again : (N : NameSet) (bs text text' : List ℕ) (r : Answered ℕ ListError) → AreBytes bs → Lists bs text text' r → (IsUnlisted (listing_meant r) → ⊥)
      → (table : List Entry) (image : List ℕ) (table' : List Entry) (image' : List ℕ) (r' : Answered Assembled AssembleError) → length bs ≤ length image
      → Assembles N.names (take (text_length (listing_meant r)) text') table image table' image' r'
      → (IsRefusal (answer_meant r') → ⊥) × (image' ≡ over bs image)
