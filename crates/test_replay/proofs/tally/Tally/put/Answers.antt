use Rattle.test_replay.specs.Tally.{tally_text}
use Rattle.test_replay.proofs.Reports.{put-append}
use Rattle.test_replay.proofs.tally.Tally.put.Goals as goal

pub returns : goal.returns
unfolding tally_text
returns c = put-append c.put_filled.ensures c.put.ensures
