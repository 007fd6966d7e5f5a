-- The text of a report, and how it is put into its room.
use Rattle.std.specs.Prelude.{◌≡◌, ℕ, zero, suc, ◌+◌, ◌/◌, ◌%◌, min, true, false, List, [], ◌∷◌, ◌++◌, length, ◌==◌, nat_lt}
use Prim.Native.Char.{code}
use Prim.Native.String.{String, [] as []ˢ, ◌∷◌ as ◌∷ˢ◌}
use Rattle.std.proofs.lemmas.List.Edits.{sets}
use Rattle.test_replay.specs.declared.report.Report.{Report}

-- ---- texts

-- The bytes of a quoted text.
unfoldable pub bytes : String → List ℕ
bytes []ˢ = []
bytes (c ∷ˢ s) = code c ∷ bytes s

-- n < 10^(k+1) in decimal, with no leading zero.
unfoldable pub decimal_in : ℕ → ℕ → List ℕ
decimal_in zero n = (48 + n % 10) ∷ []
decimal_in (suc k) n = elim (nat_lt n 10) [ true ↦ (48 + n % 10) ∷ [] | false ↦ decimal_in k (n / 10) ++ ((48 + n % 10) ∷ []) ]

-- A number in decimal; n is below 10^(n+1).
unfoldable pub decimal : ℕ → List ℕ
decimal n = decimal_in n n

-- A text in which each `#` stands for the next of the numbers, as long as there is one.
unfoldable pub filled : List ℕ → List ℕ → List ℕ
filled [] ns = []
filled (b ∷ s) [] = b ∷ filled s []
filled (b ∷ s) (n ∷ ns) = elim (b == 35) [ true ↦ decimal n ++ filled s ns | false ↦ b ∷ filled s (n ∷ ns) ]

-- The line of a record that differs.
unfoldable pub difference_text : ℕ → List ℕ
difference_text n = filled (bytes "differs: record #\n") (n ∷ [])

-- The line of a refusal that was met so often; none if it was not met.
unfoldable pub refusal_text : ℕ → ℕ → List ℕ
refusal_text number count = elim (nat_lt 0 count) [ true ↦ filled (bytes "# refused by #\n") (count ∷ number ∷ []) | false ↦ [] ]

-- The lines of the refusals from a number on, which were met as often as is listed.
unfoldable pub refusals_from : ℕ → List ℕ → List ℕ
refusals_from number [] = []
refusals_from number (count ∷ counts) = refusal_text number count ++ refusals_from (suc number) counts

unfoldable pub refusals_text : List ℕ → List ℕ
refusals_text counts = refusals_from 0 counts

-- ---- reports

-- A text was put into a report, behind the text that it had: what the room then has, and where the text ends, or the room. The room stays
-- the one that was lent.
pub record Put (old : Report) (text : List ℕ) (new : Report) : Type 0 where
  pub holds : new.room.now ≡ sets old.room.now old.end text
  pub ends : new.end ≡ min (old.end + length text) (length old.room.now)
  pub same_room : new.room.ghost_name ≡ old.room.ghost_name

-- This text was the last to be put into a report.
abbrev pub EndsWith : List ℕ → Report → Type 0
EndsWith text new = (old : Report) × Put old text new
