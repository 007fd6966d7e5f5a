use Rattle.test_replay.specs.Report.{bytes, difference_text}
use Rattle.test_replay.proofs.report.Report.put_difference.Goals as goal

pub returns : goal.returns
unfolding difference_text bytes
returns c = c.put_filled.ensures
