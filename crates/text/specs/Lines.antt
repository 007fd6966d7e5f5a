-- Lines: where they end, what is left of one, and the record of its tokens. Quotations are document 01's.
use Rattle.std.specs.Prelude.{ℕ, true, false, not, List, [], ◌∷◌, length, take, eqb}
use Rattle.std.proofs.Math.Option.{Option, none, some}
use Rattle.text_lexical.specs.Bytes.{edge, before, run, after}
use Rattle.text_lexical.specs.Names.{Name}
use Rattle.text.specs.Tokens.{Token, tokens}

-- A byte before the first of some lines.
unfoldable pub extended : ℕ → List (List ℕ) → List (List ℕ)
extended b [] = (b ∷ []) ∷ []
extended b (l ∷ ls) = (b ∷ l) ∷ ls

-- "Lines end at byte 10". What follows the last byte 10 is a line too, if only an empty one.
unfoldable pub lines : List ℕ → List (List ℕ)
lines [] = [] ∷ []
lines (b ∷ s) = elim (eqb b 10) [ true ↦ [] ∷ lines s | false ↦ extended b (lines s) ]

-- ---- what is left of a line

-- A byte before what is left after it; lost if nothing is left and the byte is an edge.
unfoldable pub kept_byte : ℕ → List ℕ → List ℕ
kept_byte b [] = elim (edge b) [ true ↦ [] | false ↦ b ∷ [] ]
kept_byte b (c ∷ t) = b ∷ c ∷ t

unfoldable pub trim_end : List ℕ → List ℕ
trim_end [] = []
trim_end (b ∷ s) = kept_byte b (trim_end s)

-- "both ends lose bytes 9 to 13 and 32"
unfoldable pub trim : List ℕ → List ℕ
trim s = trim_end (after edge s)

-- "From the first `#` the line is cut"
unfoldable pub cut : List ℕ → List ℕ
cut s = before (λ b. not (eqb b 35)) s

-- "and trimmed again"
unfoldable pub content : List ℕ → List ℕ
content s = trim (cut (trim s))

-- How many bytes of a line stand before its content.
unfoldable pub indent : List ℕ → ℕ
indent s = run edge s

-- ---- the record of a line

-- "at most its first nine tokens"
abbrev pub kept : ℕ
kept = 9

-- "A line keeps at most its first nine tokens, and the count of all."
pub record Line : Type 0 where
  pub count : ℕ
  pub first : List Token

unfoldable pub line_of : List Token → Line
line_of ts = record { count = length ts; first = take kept ts }

unfoldable pub record_of : Option (List Token) → Option Line
record_of none = none
record_of (some ts) = some (line_of ts)

-- The record of a line; none: "bad token anywhere in it".
unfoldable pub read_line : List Name → List ℕ → Option Line
read_line names l = record_of (tokens names (content l))
