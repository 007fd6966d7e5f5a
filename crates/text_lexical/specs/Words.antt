-- The word at a place of a text: where it ends, and its key. A word's bytes are parts of a name.
use Rattle.std.specs.Prelude.{ℕ, ◌+◌, ◌-◌, ◌*◌, ◌^◌, ◌≤◌, ◌<◌, max, ◌≡◌, List, [], ◌∷◌, map, length, take, drop}
use Rattle.std.specs.Prelude.{Option as CodeOption, Some, None}
use Rattle.std.proofs.Math.Option.{some}
use Rattle.text_lexical.specs.Bytes.{name_part, lower, run}
use Rattle.text_lexical.specs.Numbers.{little}
use Rattle.text_lexical.specs.Names.{Name, named}
use Rattle.text_lexical.specs.Promised.{index_of, name_number, key_of}
use Rattle.text_lexical.specs.declared.name.Packed.{Packed}
use Rattle.text_lexical.specs.declared.name.Word.{Word}
use Rattle.text_lexical.specs.declared.name.Letters.{Letters}
use Rattle.text_lexical.specs.declared.name.RegisterName.{RegisterName}
use Rattle.text_lexical.specs.declared.name.RegisterName.TheVariants.{Is as Named, NoSuch, Other as NoName}
use Rattle.text_lexical.specs.declared.name.RegisterWord.{RegisterWord}

-- There is room for a byte more in a key of 64 bits.
pub record Roomy (p : Packed) : Type 0 where
  pub summed : p.sum < p.scale
  pub scaled : p.scale ≤ 2 ^ 48

-- A byte more after those that are packed.
abbrev pub with_byte : Packed → ℕ → Packed
with_byte p b = record { sum = p.sum + b * p.scale; scale = p.scale * 256 }

abbrev pub word_end : List ℕ → ℕ → ℕ
word_end s at = at + run name_part (drop at s)

-- So many bytes of a text from a place on.
abbrev pub part : List ℕ → ℕ → ℕ → List ℕ
part s at n = take n (drop at s)

abbrev pub word_at : List ℕ → ℕ → List ℕ
word_at s at = part s at (word_end s at - at)

-- The key of a word in lower case, if it has one, and its end.
pub record WordIs (s : List ℕ) (at : ℕ) (w : Word) : Type 0 where
  pub ends : w.end ≡ word_end s at
  pub key_is : w.key ≡ key_of (map lower (part s at (w.end - at)))

-- The bytes of a key, the lowest first, and how many of them stand below the highest that is not 0.
pub record LettersOf (key : ℕ) (l : Letters) : Type 0 where
  pub bytes_are : l.bytes ≡ little 8 key
  pub few : l.length < 8
  pub reaches : 2 ^ (8 * l.length) ≤ key
  pub within : key < 256 * 2 ^ (8 * l.length)

-- A register that is named up to a place.
abbrev pub up_to : RegisterName → ℕ → CodeOption RegisterWord
up_to (Named r) end = Some (record { register = r; end = end })
up_to NoSuch end = None
up_to NoName end = None

-- How many bytes the longest name has.
unfoldable pub longest : List Name → ℕ
longest [] = 0
longest (n ∷ ns) = max (length n.spelling) (longest ns)

-- The register that the word at a place names, and its end; or it names none. Nothing is found where not so many bytes follow that the end of
-- the longest name would be seen.
abbrev pub RegisterWordIs : List Name → List ℕ → ℕ → CodeOption RegisterWord → Type 0
RegisterWordIs names s at (Some w) = (at + longest names < length s) × (at < w.end) × (w.end ≡ word_end s at) × (name_number (named names (part s at (w.end - at))) ≡ some (some (index_of w.register)))
RegisterWordIs names s at None = at + longest names < length s → (n : ℕ) → name_number (named names (word_at s at)) ≡ some (some n) → ⊥
