-- The program: "reads standard input (at most 16,384 bytes, otherwise 1; table of 1,024) and prints the listing, or
-- `refused N line L` with the true line and a newline". Quotations are document 01's.
use Rattle.std.specs.Prelude.{ℕ, ◌+◌, ◌*◌, true, false, List, [], ◌∷◌, ◌++◌, length, leb}
use Rattle.text_lexical.specs.Bytes.{bytes}
use Rattle.text_lexical.specs.Numbers.{decimal}
use Rattle.text_lexical.specs.Names.{present}
use Rattle.image.specs.Assembling.{Assembled, accepted, rejected, reading}
use Rattle.image.specs.Listing.{text_of}
use Rattle.image.specs.Meaning.{image_of}

-- ---- what it lends

-- "at most 16,384 bytes"
abbrev pub most_input : ℕ
most_input = 16384

-- "table of 1,024"
abbrev pub table_room : ℕ
table_room = 1024

-- An input has at most one line more than bytes, and a line at most one instruction.
abbrev pub input_words : ℕ
input_words = most_input + 1

-- So the header and four bytes a word hold every image: 23 cannot occur.
abbrev pub image_room : ℕ
image_room = 32 + 4 * input_words

-- A line of a listing takes at most 22 bytes. There are three for the settings and one a word, so this holds every text: 32
-- cannot occur.
abbrev pub text_room : ℕ
text_room = 22 * (3 + input_words)

-- ---- what it prints

unfoldable pub refusal_text : ℕ → ℕ → List ℕ
refusal_text n line = bytes "refused " ++ (decimal n ++ (bytes " line " ++ (decimal line ++ (10 ∷ []))))

unfoldable pub output_of : List ℕ → Assembled → List ℕ
output_of input (accepted st) = text_of (image_of present input)
output_of input (rejected r) = refusal_text r.number r.true_line

-- As its buffers suffice, all that an input can be refused for is found in reading it.
unfoldable pub program_output : List ℕ → List ℕ
program_output input =
    elim (leb (length input) most_input) [ true ↦ output_of input (reading present input table_room) | false ↦ refusal_text 1 0 ]
