use Rattle.std.proofs.Common.{drop}
use Rattle.test_replay.specs.Report.{refusals_from, refusals_text}
use Rattle.test_replay.proofs.Reports.{Telling}
use Rattle.test_replay.proofs.tally.Refusals.put.Given as goal

-- The lines that are put, and those that are left, are all.
abbrev pub invariant-loop-number : goal.invariant-loop-number
invariant-loop-number l = Telling l.fn.report (refusals_text l.self.counts) l.report (refusals_from l.number (drop l.number l.self.counts))
