-- What a caller of the exported functions can rely on, for all inputs and all buffer lengths: when 0 is returned and which other numbers
-- can be, that a refusal leaves image and text as they were, and buffers that hold every image and every text. What a call answers and
-- writes is in the contracts.
use Rattle.std.specs.Prelude.{ℕ, ◌+◌, ◌*◌, ◌≤◌, ◌≡◌, ◌↔◌, List, ◌∷◌, length, get_or}
use Rattle.std.proofs.Math.Option.{none}
use Rattle.text_lexical.specs.Names.{Name}
use Rattle.image.specs.Opening.{opening_fault}
use Rattle.image.specs.Meaning.{Accepted, Listed}
use Rattle.image_labels.specs.declared.label.Label.{Label}
use Rattle.guarantees.specs.Calls.{assembling_numbers, opening_numbers, listing_numbers, OneOf}
use Rattle.capi.specs.Promised.{AssembleCall, OpenCall, ListCall}

-- After a call of `zkasm_assemble`:
pub record AssemblePromise (names : List Name) (source : List ℕ) (table : List Label) (image : List ℕ) (table' : List Label) (image' answer' : List ℕ) (r : ℕ) : Type 0 where
  -- 0 is returned exactly where nothing is refused,
  pub zero : (r ≡ 0) ↔ Accepted names source (length table) (length image)
  -- and otherwise one of assembling's numbers, 1 to 23 and 33 to 35.
  pub number : OneOf (0 ∷ assembling_numbers) r
  -- Where it is not 0, the image buffer holds what it held before.
  pub image_kept : (r ≡ 0 → ⊥) → image' ≡ image
  -- Where it is 0, the image has at most 131,104 bytes: 32, and 4 for each of the words that are answered.
  pub image-length : r ≡ 0 → 32 + 4 * get_or answer' 0 0 ≤ 131104
  -- 131,104 bytes hold every image: with as many, 23 is never returned.
  pub image_fits : 131104 ≤ length image → r ≡ 23 → ⊥

-- After a call of `zkasm_open`:
pub record OpenPromise (image answer' : List ℕ) (r : ℕ) : Type 0 where
  -- 0 is returned exactly where nothing is refused,
  pub zero : (r ≡ 0) ↔ (opening_fault image ≡ none)
  -- and otherwise one of opening's numbers, 10 to 13 and 24 to 28.
  pub number : OneOf (0 ∷ opening_numbers) r

-- After a call of `zkasm_list`:
pub record ListPromise (image text text' answer' : List ℕ) (r : ℕ) : Type 0 where
  -- 0 is returned exactly where nothing is refused,
  pub zero : (r ≡ 0) ↔ Listed image (length text)
  -- and otherwise one of listing's numbers, 10 to 13 and 24 to 32.
  pub number : OneOf (0 ∷ listing_numbers) r
  -- Where it is not 0, the text buffer holds what it held before.
  pub text_kept : (r ≡ 0 → ⊥) → text' ≡ text
  -- Where it is 0, the text has at most 720,959 bytes: 21 for each of the three `.config` lines, and 22 for each of 32,768 words.
  pub text-length : r ≡ 0 → get_or answer' 0 0 ≤ 720959
  -- 720,962 bytes, 22 for each of these lines, hold every text: with as many, 32 is never returned.
  pub text_fits : 720962 ≤ length text → r ≡ 32 → ⊥

-- This holds of every call, by the functions' contracts.
pub record Promises : Type 0 where
  pub assembling : (names : List Name) (source : List ℕ) (table : List Label) (image : List ℕ) (table' : List Label) (image' answer' : List ℕ) (r : ℕ)
      → AssembleCall names source table image table' image' answer' r → AssemblePromise names source table image table' image' answer' r
  pub opening : (image answer' : List ℕ) (r : ℕ) → OpenCall image answer' r → OpenPromise image answer' r
  pub listing : (image text text' answer' : List ℕ) (r : ℕ) → ListCall image text text' answer' r → ListPromise image text text' answer' r
