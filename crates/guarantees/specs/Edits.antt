-- An edited line touches its own word: what an edit is, where its word stands, and what two accepted sources, and two calls that were
-- not refused, then have in common. Quotations are document 02's, b), where no other is named.
use Rattle.std.specs.Prelude.{ℕ, ◌+◌, ◌*◌, ◌≤◌, ◌≡◌, Bool, true, false, List, [], ◌∷◌, ◌++◌, map, length, take, drop}
use Rattle.std.proofs.Math.Option.{Option}
use Rattle.text_lexical.specs.Numbers.{little}
use Rattle.text_lexical.specs.Names.{Name}
use Rattle.text.specs.Lines.{lines, read_line}
use Rattle.instruction.specs.Operands.{Draft}
use Rattle.instruction.specs.Words.{word_of}
use Rattle.image.specs.Assembling.{Context, first_context, codes, Read, read_on, context_after, reads_from, reads, address_in, Assembled, assembling}
use Rattle.image.specs.Meaning.{settled, settings_of, image_of, Accepted}
use Rattle.image.specs.Lent.{entered, addressed}
use Rattle.image_labels.specs.Promised.{spelled}
use Rattle.image_labels.specs.declared.label.Label.{Label as Entry}
use Rattle.image_assembler.specs.Promised.{answer_meant}
use Rattle.guarantees.specs.Calls.{label_count, AcceptedCall, filled}
use Rattle.guarantees.specs.Targets.{drafted}

-- ---- an edit

-- What some lines leave to read the next one by.
unfoldable pub left_by : List Name → Context → List (List ℕ) → Context
left_by names c [] = c
left_by names c (l ∷ ls) = left_by names (context_after c (read_on c (read_line names l)).effect) ls

-- How a line reads below others.
abbrev pub read_below : List Name → List (List ℕ) → List ℕ → Read
read_below names above line = read_on (left_by names first_context above) (read_line names line)

-- "Two accepted sources differ in one line only": all lines above it and below it are equal byte for byte.
pub record Edit (names : List Name) (source source' : List ℕ) : Type 0 where
  pub above : List (List ℕ)
  pub line : List ℕ
  pub line' : List ℕ
  pub below : List (List ℕ)
  pub stands : lines source ≡ above ++ (line ∷ below)
  pub stands' : lines source' ≡ above ++ (line' ∷ below)
  -- "that line holds an instruction in both, with the same label before it or none in both": a label by its spelling
  pub label : Option (List ℕ)
  pub draft : Draft
  pub draft' : Draft
  pub holds : read_below names above line ≡ record { label = label; effect = codes draft }
  pub holds' : read_below names above line' ≡ record { label = label; effect = codes draft' }

-- How many instructions stand on the lines above one,
abbrev pub words_on : List Name → List (List ℕ) → ℕ
words_on names above = length (drafted (reads_from names first_context above))

-- and where its word stands: after the header and their words (document 01: "32 + 4 times words bytes").
abbrev pub place_below : List Name → List (List ℕ) → ℕ
place_below names above = 32 + 4 * words_on names above

abbrev pub words_above : {names : List Name} {source source' : List ℕ} → Edit names source source' → ℕ
words_above {names} e = words_on names e.above

abbrev pub place : {names : List Name} {source source' : List ℕ} → Edit names source source' → ℕ
place {names} e = place_below names e.above

-- ---- what both have in common

-- "Their images then agree in every byte but, at most, the four of that instruction", which are at a place.
pub record AgreeBut (at : ℕ) (image image' : List ℕ) : Type 0 where
  pub as_long : length image ≡ length image'
  pub within : at + 4 ≤ length image
  pub before : take at image ≡ take at image'
  pub after : drop (at + 4) image ≡ drop (at + 4) image'

-- "The four of that instruction": the word at a place of an image is that of an instruction of a source, with so many words before it.
abbrev pub IsWordOf : List Name → (source image : List ℕ) → (at words : ℕ) → Draft → Type 0
IsWordOf names source image at words d = take 4 (drop at image) ≡ little 4 (word_of (settled (address_in 0 (reads names source)) words d))

-- The labels that are entered, by spelling and address.
abbrev pub labels_of : Assembled → List (List ℕ × ℕ)
labels_of a = map addressed (entered a)

-- An entry of a label table as its reader finds it: its spelling is a part of the source.
abbrev pub entry_read : List ℕ → Entry → List ℕ × ℕ
entry_read source l = (spelled source l, l.address)

-- The labels that a call has left in the table, as many as it answers.
abbrev pub called_labels : {names : List Name} {source : List ℕ} → AcceptedCall names source → List (List ℕ × ℕ)
called_labels {names} {source} c = map (entry_read source) (take (label_count (answer_meant c.answer)) c.table')

-- A source as it is, or with a final byte 10.
abbrev pub ended : Bool → List ℕ → List ℕ
ended false s = s
ended true s = s ++ (10 ∷ [])

-- ---- the promises, whatever the names, the label tables and the image buffers

pub record Edits : Type 0 where
  -- "Two accepted sources differ in one line only; that line holds an instruction in both, with the same label before it or none in both.
  -- Their images then agree in every byte but, at most, the four of that instruction." A final byte 10 added to either, both or none is no
  -- difference. The settings are equal too, and so are the labels.
  pub touched : (names : List Name) (s s' : List ℕ) (b b' : Bool) (e : Edit names (ended b s) (ended b' s')) (t t' i i' : ℕ) → Accepted names s t i → Accepted names s' t' i'
      → AgreeBut (place e) (image_of names s) (image_of names s') × (settings_of names s ≡ settings_of names s')
      × (labels_of (assembling names s t i) ≡ labels_of (assembling names s' t' i'))
  -- Those four are that instruction's word, in either image.
  pub own_word : (names : List Name) (s s' : List ℕ) (b b' : Bool) (e : Edit names (ended b s) (ended b' s'))
      → IsWordOf names s (image_of names s) (place e) (words_above e) e.draft × IsWordOf names s' (image_of names s') (place e) (words_above e) e.draft'
  -- A final byte 10 alone changes nothing: with and without it an accepted source has the same image, settings and labels.
  pub end_untouched : (names : List Name) (s : List ℕ) (t t' i i' : ℕ) → Accepted names s t i → Accepted names (ended true s) t' i'
      → (image_of names s ≡ image_of names (ended true s)) × (settings_of names s ≡ settings_of names (ended true s))
      × (labels_of (assembling names s t i) ≡ labels_of (assembling names (ended true s) t' i'))
  -- The same of any two calls that were not refused: what they filled agrees in every byte but the four of that instruction, they answer the
  -- same counts and settings, and they leave the same labels;
  pub calls_touched : (names : List Name) (s s' : List ℕ) (b b' : Bool) (e : Edit names (ended b s) (ended b' s')) (c : AcceptedCall names s) (c' : AcceptedCall names s')
      → AgreeBut (place e) (filled c) (filled c') × (answer_meant c.answer ≡ answer_meant c'.answer) × (called_labels c ≡ called_labels c')
  -- those four are that instruction's word in what either filled;
  pub calls_own_word : (names : List Name) (s s' : List ℕ) (b b' : Bool) (e : Edit names (ended b s) (ended b' s')) (c : AcceptedCall names s) (c' : AcceptedCall names s')
      → IsWordOf names s (filled c) (place e) (words_above e) e.draft × IsWordOf names s' (filled c') (place e) (words_above e) e.draft'
  -- and two calls of a source with and without a final byte 10 fill and answer the same, and leave the same labels.
  pub calls_end_untouched : (names : List Name) (s : List ℕ) (c : AcceptedCall names s) (c' : AcceptedCall names (ended true s))
      → (filled c ≡ filled c') × (answer_meant c.answer ≡ answer_meant c'.answer) × (called_labels c ≡ called_labels c')
