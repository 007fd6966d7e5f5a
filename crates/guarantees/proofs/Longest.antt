-- That a text has at most 720,959 bytes says no more than is needed: n words can have a text of 63 + 22 * n bytes, and there are images of
-- 32,768 words.
use Prim.Native.Nat.{ℕ, zero, suc, ◌+◌, ◌*◌, ◌≤◌}
use mathlib.Core.Path.{◌≡◌, refl, sym, ap, ◌∙◌}
use mathlib.Core.Bool.{Bool, true, false, true≢false}
use mathlib.Core.Option.{none}
use mathlib.Core.List.{List, [], flat_map}
use native.Mathlib.Omega.{arith}
use lib.ListN.{length, length-append, replicate, length-replicate}
use Rattle.text_lexical.specs.Bytes.{Result, value, refused}
use Rattle.instruction.specs.Operands.{Instruction}
use Rattle.instruction.specs.Words.{instruction_of}
use Rattle.image.specs.Settings.{Settings, begin}
use Rattle.image.specs.Program.{header_of, code_of, image}
use Rattle.image.specs.Listing.{words_of, settings_text, word_text, text_of, listing_fault}
use Rattle.image.proofs.Settings.{no-fault, begin-good}
use Rattle.image.proofs.Images.{Words}
use Rattle.image.proofs.Listed.{Decoded, AllDecoded, words-of-image, settings-of-image, image-listed}
use Rattle.guarantees.proofs.Computing.{computing}

-- The word of `addi r10, r10, -65536`.
unfoldable pub long-word : ℕ
long-word = 0x80005508

long-line : length (word_text long-word) ≡ 22
unfolding long-word computing
long-line = refl

decodes : Result Instruction → Bool
decodes (value i) = true
decodes (refused n) = false

instruction-of : (w : ℕ) → decodes (instruction_of w) ≡ true → Decoded w
unfolding decodes
instruction-of w h = go (instruction_of w) refl h
  where
    go : (r : Result Instruction) → instruction_of w ≡ r → decodes r ≡ true → Decoded w
    go (value i) e h = (i, e)
    go (refused n) e h = absurd (true≢false (sym h))

long-decoded : Decoded long-word
unfolding long-word decodes computing
long-decoded = instruction-of long-word refl

-- So many of them.
all-decoded : (n : ℕ) → AllDecoded (replicate n long-word)
all-decoded zero = tt
all-decoded (suc n) = (long-decoded, all-decoded n)

all_words : (n : ℕ) → Words (replicate n long-word)
unfolding long-word
all_words zero = tt
all_words (suc n) = (omega arith, all_words n)

all_lines : (n : ℕ) → length (flat_map word_text (replicate n long-word)) ≡ 22 * n
unfolding flat_map
all_lines zero = refl
all_lines (suc n) = omega (arith, length-append (word_text long-word) (flat_map word_text (replicate n long-word)), long-line, all_lines n)

first-lines : length (settings_text begin) ≡ 63
unfolding computing
first-lines = refl

module _ (n : ℕ) (few : n ≤ 32768) where
  abbrev pub words : List ℕ
  words = replicate n long-word

  fewer : length words ≤ 32768
  fewer = omega (arith, length-replicate n long-word)

  -- Their image is listed, with a text of that length.
  pub long-listed : listing_fault (image begin words []) ≡ none
  long-listed = image-listed begin words (no-fault begin begin-good) fewer (all_words n) (all-decoded n)

  pub long-text : length (text_of (image begin words [])) ≡ 63 + 22 * n
  unfolding text_of
  long-text =
      let b = image begin words [] in
      let s : length (settings_text (header_of b).setup) ≡ 63 = ap (λ (x : Settings). length (settings_text x)) (settings-of-image begin words [] (no-fault begin begin-good) fewer (omega arith)) ∙ first-lines in
      let w : length (flat_map word_text (words_of (code_of b))) ≡ 22 * n
      = ap (λ (x : List ℕ). length (flat_map word_text x)) (words-of-image begin words [] (no-fault begin begin-good) fewer (omega arith) (all_words n)) ∙ all_lines n in
      omega (arith, length-append (settings_text (header_of b).setup) (flat_map word_text (words_of (code_of b))))
