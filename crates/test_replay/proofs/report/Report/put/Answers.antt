use Rattle.std.proofs.Common.{◌≡◌, ◌+◌, ◌-◌, take, refl, arith}
use Rattle.test_replay.proofs.Reports.{put_part}
use Rattle.test_replay.proofs.report.Report.put.Goals as goal

pub returns : goal.returns
returns c =
    let r = c.args.self.now in
    let z : r.end + c.min-n.result - r.end ≡ c.min-n.result = omega arith in
    let e : c.copy_from_slice.new.self ≡ take c.min-n.result c.args.bytes.now = c.copy_from_slice.ensures.after in
    let p = put_part r.room.now r.end c.min-n.result c.args.bytes.now r.within c.min-n.ensures in
    record { holds = rw (z, e) p.0; ends = p.1; same_room = refl }
