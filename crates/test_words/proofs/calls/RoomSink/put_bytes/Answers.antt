use Rattle.test_replay.proofs.Reports.{put-length}
use Rattle.test_words.proofs.calls.RoomSink.put_bytes.Goals as goal

pub returns : goal.returns
returns c = record { same_length = put-length c.put.ensures; same_room = c.put.ensures.same_room }
