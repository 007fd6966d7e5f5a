use Rattle.std.proofs.Common.{drop}
use Rattle.test_replay.specs.Report.{filled}
use Rattle.test_replay.proofs.Reports.{Telling}
use Rattle.test_replay.proofs.report.Report.put_filled.Given as goal

-- What is put, and what is left to put, are all.
abbrev pub invariant-loop-byte : goal.invariant-loop-byte
invariant-loop-byte l = Telling l.fn.self (filled l.text l.numbers) l.self (filled (drop l.byte-index l.text) l.left)
