-- The program's buffers suffice: neither 23 nor 32 occurs, and the image of an input is always listed.
use mathlib.Core.Path.{◌≡◌, refl, ap}
use Prim.Native.Nat.{ℕ, suc, ◌+◌, ◌*◌, ◌≤◌}
use native.Mathlib.Omega.{arith}
use mathlib.Core.Bool.{Bool, true, false}
use mathlib.Core.Option.{none}
use mathlib.Core.List.{List, [], ◌∷◌, map}
use lib.ListN.{length, length-map}
use lib.Dec.{eqb}
use borrow.Author.Tests.{le-leb}
use Rattle.text_lexical.specs.Names.{Name, present}
use Rattle.text.specs.Lines.{extended, lines, read_line}
use Rattle.instruction.specs.Words.{word_of}
use Rattle.image.specs.Program.{header_size, image_length}
use Rattle.image.specs.Assembling.{Effect, nothing, sets, codes, faulty, Context, first_context, read_on, context_after, reads_from, reads, words_of, address_in, Assembled, accepted, rejected, reading, fitted, assembling}
use Rattle.image.specs.Listing.{text_of, listing_fault, written, listing}
use Rattle.image.specs.Meaning.{instructions_of, settings_of, image_of}
use Rattle.zkasm.specs.Zkasm.{most_input, table_room, input_words, image_room, text_room}
use Rattle.image.proofs.ConfigLines.{settings-pass}
use Rattle.image.proofs.Images.{Words}
use Rattle.image.proofs.Listed.{AllDecoded, words-of-image, image-listed}
use Rattle.image.proofs.Lengths.{listed-short}
use Rattle.image.proofs.Walking.{words_in, coded-length, MeansIf, reading-means}
use Rattle.image.proofs.Fitting.{source_fits, fit_words, fit-decoded}
use Rattle.text.proofs.NameSets.{present-naming}

-- ---- an input has at most one line more than bytes, and a line at most one instruction

lines-few : (s : List ℕ) → length (lines s) ≤ suc (length s)
unfolding lines extended
lines-few [] = omega arith
lines-few (b ∷ s) = go (eqb b 10) (lines-few s)
  where
    longer : (ls : List (List ℕ)) → length (extended b ls) ≤ suc (length ls)
    longer [] = omega arith
    longer (l ∷ ls) = omega arith

    go : (v : Bool) → length (lines s) ≤ suc (length s)
        → length {A = List ℕ} (elim v [ true ↦ [] ∷ lines s | false ↦ extended b (lines s) ]) ≤ suc (suc (length s))
    go true h = omega arith
    go false h = omega (arith, longer (lines s))

effect-few : (e : Effect) → words_of e ≤ 1
unfolding words_of
effect-few nothing = omega arith
effect-few (sets s) = omega arith
effect-few (codes d) = omega arith
effect-few (faulty n) = omega arith

lines-words : (names : List Name) (c : Context) (ls : List (List ℕ)) → words_in (reads_from names c ls) ≤ length ls
unfolding words_in reads_from
lines-words names c [] = omega arith
lines-words names c (l ∷ ls) =
    let e = (read_on c (read_line names l)).effect in
    omega (arith, effect-few e, lines-words names (context_after c e) ls)

pub words-few : (s : List ℕ) → length s ≤ most_input → length (instructions_of present s) ≤ input_words
unfolding instructions_of reads
words-few s h =
    omega (arith, coded-length (address_in 0 (reads present s)) 0 (reads present s), lines-words present first_context (lines s), lines-few s)

-- So the image buffer suffices.
pub never-23 : (s : List ℕ) (size : ℕ) → length s ≤ most_input → image_room ≤ size → assembling present s table_room size ≡ reading present s table_room
unfolding assembling fitted image_length header_size
never-23 s size h room = go (reading present s table_room) (reading-means present s table_room)
  where
    go : (a : Assembled) → MeansIf present s a → fitted size a ≡ a
    go (rejected r) m = refl
    go (accepted st) m =
        rw (fitted, le-leb (32 + 4 * st.words) size (omega (arith, words-few s h, m.words)))

-- ---- the image of an input

module _ (s : List ℕ) (short : length s ≤ most_input) where
  abbrev words : List ℕ
  words = map word_of (instructions_of present s)

  few : length words ≤ input_words
  few = omega (arith, length-map (instructions_of present s) word_of, words-few s short)

  decoded : AllDecoded words
  decoded = fit-decoded (instructions_of present s) (source_fits present present-naming s)

  bounded : Words words
  bounded = fit_words (instructions_of present s) (source_fits present present-naming s)

  no-fault : listing_fault (image_of present s) ≡ none
  unfolding image_of
  no-fault = image-listed (settings_of present s) words (settings-pass present s) (omega (arith, few)) bounded decoded

  pub text-short : length (text_of (image_of present s)) ≤ text_room
  unfolding image_of
  text-short =
      let w = words-of-image (settings_of present s) words [] (settings-pass present s) (omega (arith, few)) (omega arith) bounded in
      omega (arith, listed-short (image_of present s) no-fault, ap length w, few)

  -- So the text buffer suffices, and the image is listed.
  pub never-32 : (size : ℕ) → text_room ≤ size → listing (image_of present s) size ≡ written (text_of (image_of present s))
  unfolding listing
  never-32 size room = rw (listing, no-fault, le-leb (length (text_of (image_of present s))) size (omega (arith, text-short)))
