-- The text of the counts: `#` stands for the next of them.
use Rattle.std.specs.Prelude.{ℕ, List}
use Rattle.test_replay.specs.Report.{bytes}

unfoldable pub counts : List ℕ
counts = bytes "# records, # differences\n# sources assembled\n# images listed\n"
