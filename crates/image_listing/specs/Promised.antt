-- What the values of listing mean in terms of the definitions, and what its functions promise.
use Rattle.std.specs.Prelude.{ℕ, ◌≡◌, List, length, Result, Ok, Err}
use Rattle.std.proofs.Math.Option.{none, some}
use Rattle.refusal.specs.Refusals.{number_of}
use Rattle.image.specs.Listing.{Refusal, words_fault, listing}
use Rattle.image.specs.Lent.{ListAnswer, listed, unlisted, list_answer_of, text_after}
use Rattle.image_listing.specs.declared.disassembler.ListError.{ListError}
use Rattle.image_listing.specs.declared.disassembler.ListError.TheVariants.{Refused, Faulty, TooShort}

-- The refusal of an image without a text.
abbrev pub error_meant : ListError → Refusal
error_meant (Refused r) = record { number = number_of r; index = none; needed = none }
error_meant (Faulty r i) = record { number = number_of r; index = some i; needed = none }
error_meant (TooShort n) = record { number = 32; index = none; needed = some n }

abbrev pub listing_meant : Result ℕ ListError → ListAnswer
listing_meant (Ok n) = listed n
listing_meant (Err e) = unlisted (error_meant e).number (error_meant e).index (error_meant e).needed

-- The lines of words were put, or the first faulty word is told.
abbrev pub PutsWords : List ℕ → Result (Unit {0}) ListError → Type 0 → Type 0
PutsWords ws (Ok u) taken = (words_fault 0 ws ≡ none) × taken
PutsWords ws (Err e) taken = words_fault 0 ws ≡ some (error_meant e)

-- Listing an image, with a text buffer before and after.
pub record Lists (b old new : List ℕ) (r : Result ℕ ListError) : Type 0 where
  pub answer : listing_meant r ≡ list_answer_of (listing b (length old))
  pub text : new ≡ text_after (listing b (length old)) old
