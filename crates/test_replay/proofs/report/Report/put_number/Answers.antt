use Rattle.std.proofs.Common.{◌∙◌}
use Rattle.test_replay.proofs.Reports.{decimal-is}
use Rattle.test_replay.proofs.report.Report.put_number.Goals as goal

pub returns : goal.returns
returns c = rw (c.as_bytes.ensures.value ∙ c.format.ensures.text ∙ decimal-is _ c.ranges.n.fits) at c.put.ensures
