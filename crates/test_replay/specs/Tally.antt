-- Counts of what was compared, and their text.
use Rattle.std.specs.Prelude.{ℕ, ◌+◌, ◌%◌, ◌^◌, Bool, true, false, List, [], ◌∷◌, ◌++◌, replicate, slice_index, slice_set}
use Rattle.test_replay.specs.Report.{filled, refusals_text}
use Rattle.test_replay.specs.declared.tally.Outcome.{Outcome}
use Rattle.test_replay.specs.declared.tally.Outcome.TheVariants.{Differs, Assembled, Listed, Refused}
use Rattle.test_replay.specs.declared.tally.Tally.{Tally}

-- A count of 64 bits and one more.
abbrev pub one_more : ℕ → ℕ
one_more n = (n + 1) % 2 ^ 64

-- Counts with one more at a place; past their end there is nothing to count.
unfoldable pub counted : List ℕ → ℕ → List ℕ
counted counts at = slice_set counts at (one_more (slice_index counts at))

unfoldable pub agreed : Outcome → Bool
agreed Differs = false
agreed Assembled = true
agreed Listed = true
agreed (Refused n) = true

-- Nothing is counted as yet.
abbrev pub nothing_tallied : Tally
nothing_tallied = record { records = 0; differences = 0; assembled = 0; listed = 0; refusals = record { counts = replicate 36 0 } }

-- A record more.
unfoldable pub tallied : Tally → Outcome → Tally
tallied t Differs = record { records = one_more t.records; differences = one_more t.differences; assembled = t.assembled; listed = t.listed; refusals = t.refusals }
tallied t Assembled = record { records = one_more t.records; differences = t.differences; assembled = one_more t.assembled; listed = t.listed; refusals = t.refusals }
tallied t Listed = record { records = one_more t.records; differences = t.differences; assembled = t.assembled; listed = one_more t.listed; refusals = t.refusals }
tallied t (Refused n) =
    record {
      records = one_more t.records;
      differences = t.differences;
      assembled = t.assembled;
      listed = t.listed;
      refusals = record { counts = counted t.refusals.counts n };
    }

-- A text, filled with the first four counts, and the lines of the refusals.
unfoldable pub tally_text : List ℕ → Tally → List ℕ
tally_text text t = filled text (t.records ∷ t.differences ∷ t.assembled ∷ t.listed ∷ []) ++ refusals_text t.refusals.counts
