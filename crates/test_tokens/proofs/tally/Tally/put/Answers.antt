use Rattle.test_replay.specs.Report.{bytes}
use Rattle.test_tokens.specs.Tally.{tally_text}
use Rattle.test_tokens.proofs.tally.Tally.put.Goals as goal

pub returns : goal.returns
unfolding tally_text bytes
returns c = c.put_filled.ensures
