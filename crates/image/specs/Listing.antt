-- Listing: the text of an image, and when it is refused. Quotations are document 01's.
use Rattle.std.specs.Prelude.{ℕ, suc, ◌*◌, Bool, true, false, ◌&&◌, length, leb, eqb}
use Rattle.std.proofs.Math.Option.{Option, none, some}
use mathlib.Core.List.{List, [], ◌∷◌, ◌++◌, flat_map}
use Rattle.text_lexical.specs.Bytes.{value, refused, bytes}
use Rattle.text_lexical.specs.Numbers.{unlittle, decimal}
use Rattle.instruction.specs.Words.{instruction_of}
use Rattle.instruction.specs.Text.{instruction_text}
use Rattle.image.specs.Settings.{Settings, limb_bits_key, data_limbs_key, addr_limbs_key}
use Rattle.image.specs.Program.{Header, entry, stack_size, header_of, code_of}
use Rattle.image.specs.Opening.{opening_fault}
use Rattle.image.specs.Assembling.{most_words}

-- The words of a code part, four bytes each.
unfoldable pub words_of : List ℕ → List ℕ
words_of [] = []
words_of (a ∷ []) = []
words_of (a ∷ b ∷ []) = []
words_of (a ∷ b ∷ c ∷ []) = []
words_of (a ∷ b ∷ c ∷ d ∷ s) = unlittle (a ∷ b ∷ c ∷ d ∷ []) ∷ words_of s

-- ---- the text

-- A line ends at byte 10, the last one too.
unfoldable pub line_text : List ℕ → List ℕ
line_text s = s ++ (10 ∷ [])

unfoldable pub setting_text : List ℕ → ℕ → List ℕ
setting_text key v = line_text (bytes ".config " ++ (key ++ (32 ∷ decimal v)))

-- "three `.config` lines (limb_bits, data_limbs, addr_limbs)"
unfoldable pub settings_text : Settings → List ℕ
settings_text s =
    setting_text limb_bits_key s.limb_bits ++ (setting_text data_limbs_key s.data_limbs ++ setting_text addr_limbs_key s.addr_limbs)

-- "one line a word"
unfoldable pub word_text : ℕ → List ℕ
word_text w = elim (instruction_of w) [ value i ↦ line_text (instruction_text i) | refused n ↦ [] ]

-- "The text of an image is the lines that the listing's rules write for it": its settings, then its words.
unfoldable pub text_of : List ℕ → List ℕ
text_of b = settings_text (header_of b).setup ++ flat_map word_text (words_of (code_of b))

-- ---- the refusals

-- A refusal carries its number; 30 and 31 the word's index; 32 the needed length.
pub record Refusal : Type 0 where
  pub number : ℕ
  pub index : Option ℕ
  pub needed : Option ℕ

unfoldable pub refusal : ℕ → Option ℕ → Option ℕ → Refusal
refusal n index needed = record { number = n; index = index; needed = needed }

-- Not 29: flags, entry, data, bss and stack size as assembling writes them, and at most 32,768 words.
unfoldable pub is_usual : Header → Bool
is_usual h =
    eqb h.flags 0 && (eqb h.entry entry && (eqb h.data_size 0 && (eqb h.bss_size 0
    && (eqb h.stack_size stack_size && leb h.code_size (4 * most_words)))))

-- "Then the first faulty word, its index (from 0) given"
unfoldable pub words_fault : ℕ → List ℕ → Option Refusal
words_fault i [] = none
words_fault i (w ∷ ws) = elim (instruction_of w) [ value _ ↦ words_fault (suc i) ws | refused n ↦ some (refusal n (some i) none) ]

-- "First Opening's refusals, then 29", then 30 and 31; none: the image has a text.
unfoldable pub listing_fault : List ℕ → Option Refusal
listing_fault b =
    elim (opening_fault b) [
      | some n ↦ some (refusal n none none)
      | none ↦ elim (is_usual (header_of b)) [ false ↦ some (refusal 29 none none) | true ↦ words_fault 0 (words_of (code_of b)) ]
    ]

-- ---- the answer

pub data Listing : Type 0 where
  written : (text : List ℕ) → Listing
  rejected : Refusal → Listing

-- "Last, 32 text buffer too short, needed length given."
unfoldable pub listing : List ℕ → ℕ → Listing
listing b size =
    elim (listing_fault b) [
      | some r ↦ rejected r
      | none ↦ elim (leb (length (text_of b)) size) [ true ↦ written (text_of b) | false ↦ rejected (refusal 32 none (some (length (text_of b)))) ]
    ]
