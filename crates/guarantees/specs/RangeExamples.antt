-- Examples of numbers that come out as they went in, over the present names.
use Rattle.std.specs.Prelude.{ℕ, ◌≡◌, ℤ}
use Prim.Native.String.{String}
use Rattle.std.proofs.Math.Option.{some}
use Rattle.text_lexical.specs.Bytes.{bytes}
use Rattle.text_lexical.specs.Names.{present}
use Rattle.text.specs.Tokens.{Token}
use Rattle.image.specs.Meaning.{image_of, Accepted}
use Rattle.guarantees.specs.Ranges.{TokenOf, place, comes_out_as, ComesOut}

-- A source is accepted, a token stands on a line of it that holds an instruction, the line's word is this one at this place, and what comes
-- out of the token is this number.
pub record OutOf (source : String) (t : Token) (at word : ℕ) (z : ℤ) : Type 0 where
  pub is_accepted : Accepted present (bytes source) 1 64
  pub stands : TokenOf present (bytes source)
  pub is_token : stands.token ≡ t
  pub stands_at : place stands ≡ at
  pub comes_out : ComesOut (image_of present (bytes source)) stands
  pub is_word : comes_out.word ≡ word
  pub is_number : comes_out_as comes_out.range t ≡ some z
