-- How long the image of a source is, and the text of an image: at most 21 bytes for each of the settings' three lines, and at most 22
-- for each word's.
use mathlib.Core.Path.{◌≡◌, ap}
use Prim.Native.Nat.{ℕ, ◌+◌, ◌*◌, ◌≤◌}
use native.Mathlib.Omega.{arith}
use mathlib.Core.Option.{none}
use mathlib.Core.List.{List, [], ◌∷◌, ◌++◌, map, flat_map}
use lib.ListN.{length, length-append, length-map}
use Rattle.text_lexical.specs.Bytes.{value, bytes}
use Rattle.text_lexical.specs.Numbers.{decimal}
use Rattle.text_lexical.specs.Names.{Name}
use Rattle.text_lexical.proofs.Tests.{between-true}
use Rattle.text_lexical.proofs.Numbers.{decimal-length}
use Rattle.instruction.specs.Operands.{Instruction}
use Rattle.instruction.specs.Words.{word_of, instruction_of}
use Rattle.instruction.specs.Text.{instruction_text}
use Rattle.instruction.proofs.Decoding.{decoded-fits, decoded-reduced}
use Rattle.instruction.proofs.Text.{text-length}
use Rattle.image.specs.Settings.{Settings, settings, limb_bits_key, data_limbs_key, addr_limbs_key}
use Rattle.image.specs.Program.{header_size, image_length, header_of, code_of}
use Rattle.image.specs.Listing.{words_of, line_text, setting_text, settings_text, word_text, text_of, listing_fault}
use Rattle.image.specs.Meaning.{instructions_of, settings_of, image_of}
use Rattle.image.proofs.Images.{image-length}
use Rattle.image.proofs.Settings.{Good, good, small-bits}
use Rattle.image.proofs.Listed.{Decoded, AllDecoded, listed-usual}

-- "The image fills the first 32 + 4 times words bytes"
pub source-image-length : (names : List Name) (source : List ℕ) → length (image_of names source) ≡ 32 + 4 * length (instructions_of names source)
unfolding image_of image_length header_size
source-image-length names source =
    let is = instructions_of names source in
    omega (arith, image-length (settings_of names source) (map word_of is) [], length-map is word_of)

-- A line is one byte longer than what stands on it.
pub line-length : (s : List ℕ) → length (line_text s) ≡ 1 + length s
unfolding line_text
line-length s = omega (arith, length-append s (10 ∷ []))

-- ---- the settings' lines

-- The length of the line of a setting, and of all three.
setting-length : (key : List ℕ) (v : ℕ) → length (setting_text key v) ≡ 10 + length key + length (decimal v)
unfolding setting_text bytes
setting-length key v =
    omega (arith, line-length (bytes ".config " ++ (key ++ (32 ∷ decimal v))), length-append key (32 ∷ decimal v))

pub settings-length : (a b c : ℕ)
    → length (settings_text (settings a b c)) ≡ (10 + 9 + length (decimal a)) + (10 + 10 + length (decimal b)) + (10 + 10 + length (decimal c))
unfolding settings_text settings limb_bits_key data_limbs_key addr_limbs_key bytes
settings-length a b c =
    let x = setting_text limb_bits_key a in
    let y = setting_text data_limbs_key b in
    let z = setting_text addr_limbs_key c in
    omega (
      arith,
      length-append x (y ++ z),
      length-append y z,
      setting-length limb_bits_key a,
      setting-length data_limbs_key b,
      setting-length addr_limbs_key c,
    )

-- The values of good settings have at most two digits, one and one.
pub settings-short : (s : Settings) → Good s → length (settings_text s) ≤ 63
unfolding settings
settings-short s g =
    let d = between-true 1 4 s.data_limbs g.data_limbs in
    let a = between-true 1 2 s.addr_limbs g.addr_limbs in
    omega (
      arith,
      settings-length s.limb_bits s.data_limbs s.addr_limbs,
      decimal-length 1 s.limb_bits (small-bits s g),
      decimal-length 0 s.data_limbs (omega arith),
      decimal-length 0 s.addr_limbs (omega arith),
    )

-- ---- the words' lines

-- A word's line, by the instruction that it means.
pub word_line : (w : ℕ) (i : Instruction) → instruction_of w ≡ value i → word_text w ≡ line_text (instruction_text i)
unfolding word_text
word_line w i e = rw (word_text, e)

word-short : (w : ℕ) → Decoded w → length (word_text w) ≤ 22
word-short w (i, e) =
    omega (arith, ap length (word_line w i e), line-length (instruction_text i), text-length i (decoded-fits w i e) (decoded-reduced w i e))

pub words-short : (ws : List ℕ) → AllDecoded ws → length (flat_map word_text ws) ≤ 22 * length ws
unfolding flat_map
words-short [] d = omega arith
words-short (w ∷ ws) d = omega (arith, length-append (word_text w) (flat_map word_text ws), word-short w d.0, words-short ws d.1)

-- ---- the text of what is listed

pub listed-short : (b : List ℕ) → listing_fault b ≡ none → length (text_of b) ≤ 63 + 22 * length (words_of (code_of b))
unfolding text_of
listed-short b h =
    let u = listed-usual b h in
    let s = (header_of b).setup in
    let ws = words_of (code_of b) in
    omega (arith, length-append (settings_text s) (flat_map word_text ws), settings-short s (good s u.settings-good), words-short ws u.words)
