-- The text of the counts.
use Rattle.std.specs.Prelude.{ℕ, List, [], ◌∷◌, ◌++◌}
use Rattle.test_replay.specs.Report.{bytes, filled}
use Rattle.test_tokens.specs.declared.tally.Tally.{Tally}

unfoldable pub tally_text : Tally → List ℕ
tally_text t =
    filled
    (bytes "# lines, # differences\n# bad lines\n# identifiers\n# registers\n# numbers\n# negative numbers\n"
    ++ bytes "# hex numbers\n# binary numbers\n# directives\n# commas\n# colons\n# opening parentheses\n# closing parentheses\n")
    (t.lines ∷ t.differences ∷ t.bad ∷ t.identifiers ∷ t.registers ∷ t.numbers ∷ t.negatives
    ∷ t.hexes ∷ t.binaries ∷ t.directives ∷ t.commas ∷ t.colons ∷ t.openings ∷ t.closings ∷ [])
