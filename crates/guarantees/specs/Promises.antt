-- Demand 3: what holds of every source, every image and every buffer, whichever set of register names a source is read by.
-- `Accepted`, `image_of`, `settings_of`, `instructions_of`, `Listed` and `text_of` are the image layer's definitions of document 01.
use Rattle.std.specs.Prelude.{ℕ, ◌≤◌, ◌≡◌, ◌↔◌, true, false, ◌||◌, List, [], ◌∷◌, length, ltb}
use Rattle.text_lexical.specs.Bytes.{bytes, same, every}
use Rattle.text_lexical.specs.Names.{Name}
use Rattle.instruction.specs.Operands.{Instruction}
use Rattle.instruction.specs.Words.{modulo}
use Rattle.image.specs.Listing.{written, listing, text_of}
use Rattle.image.specs.Meaning.{instructions_of, settings_of, image_of, Accepted, Listed}
use Rattle.guarantees.specs.NameSets.{NameSet}

-- ---- when instructions agree

-- "modulo 2^17, for jal 2^21, for shifts 2^8": the exponent, by mnemonic.
unfoldable pub bits_for : List ℕ → ℕ
bits_for m =
    elim (same m (bytes "jal")) [
      | true ↦ 21
      | false ↦ elim (same m (bytes "slli") || (same m (bytes "srli") || same m (bytes "srai"))) [ true ↦ 8 | false ↦ 17 ]
    ]

-- Two instructions agree "by mnemonic, register numbers and number".
pub record Same (i j : Instruction) : Type 0 where
  pub mnemonic : i.row.mnemonic ≡ j.row.mnemonic
  pub registers : i.registers ≡ j.registers
  pub number : modulo (bits_for i.row.mnemonic) i.number ≡ modulo (bits_for i.row.mnemonic) j.number

-- There are equally many, and they agree one by one in order.
abbrev pub Agree : List Instruction → List Instruction → Type 0
Agree [] [] = Unit {0}
Agree [] (j ∷ js) = ⊥
Agree (i ∷ is) [] = ⊥
Agree (i ∷ is) (j ∷ js) = Same i j × Agree is js

-- ---- bytes, and sources that assemble to them

abbrev pub AreBytes : List ℕ → Type 0
AreBytes b = every (λ x. ltb x 256) b ≡ true

-- Some source, with some label table and image buffer, is accepted with just these bytes as its image.
pub record HasSource (names : List Name) (b : List ℕ) : Type 0 where
  pub source : List ℕ
  pub table : ℕ
  pub size : ℕ
  pub is_accepted : Accepted names source table size
  pub same_image : image_of names source ≡ b

-- ---- the promises

pub record Demand3 : Type 0 where
  -- Two accepted sources have equal images exactly when their final settings are equal and their instructions agree, whatever
  -- label tables and image buffers they were lent.
  pub images_tell : (N N' : NameSet) (s s' : List ℕ) (t t' i i' : ℕ)
      → Accepted N.names s t i → Accepted N'.names s' t' i'
      → (image_of N.names s ≡ image_of N'.names s')
      ↔ ((settings_of N.names s ≡ settings_of N'.names s') × Agree (instructions_of N.names s) (instructions_of N'.names s'))
  -- The listing accepts bytes exactly when some source assembles to them and the text buffer has room for their text.
  pub lists_exactly : (N : NameSet) (b : List ℕ) (n : ℕ) → AreBytes b
      → Listed b n ↔ (HasSource N.names b × (length (text_of b) ≤ n))
  -- What it then writes is their text, which is free of the buffer.
  pub writes_text : (b : List ℕ) (n : ℕ) → Listed b n → listing b n ≡ written (text_of b)
  -- That text, taken as a source, is accepted with any label table, one without entries too, and any image buffer no shorter
  -- than the bytes, and its image is those bytes again.
  pub text_assembles : (N : NameSet) (b : List ℕ) (n t i : ℕ) → AreBytes b → Listed b n → length b ≤ i
      → Accepted N.names (text_of b) t i × (image_of N.names (text_of b) ≡ b)
