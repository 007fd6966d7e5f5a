use Rattle.std.proofs.Common.{rules}
use Rattle.std.proofs.lemmas.List.{take_rest}
use Rattle.test_replay.proofs.Reports.{telling-more, telling-all, filled-number, filled-other, filled-past, filled_none}
use Rattle.test_replay.proofs.report.Report.put_filled.Goals as goal
use Rattle.test_replay.proofs.report.Report.put_filled.Goals.{in-len1-up, in_default, in_default-via-then-left-lt1, in_default-via-in-len1-up+else-byte-eq35}

pub loop-byte-preserved : goal.loop-byte-preserved
loop-byte-preserved c =
    let s = c.args.text.now in
    let l = c.loop-byte in
    let h = c.loop-byte-test.true in
    elim c.if-left-lt1.branch [
      | in-len1-up w ↦
          let e = filled-number s l.byte-index h l.left.now w.in-len1-up.len_at_least w.if-byte-eq35.true in
          rw (w.self-is, w.left-is, take_rest) (telling-more l.invariant e w.put_number.ensures)
      | in_default w ↦ rw (w.self-is, w.left-is) (telling-more l.invariant (elim w.in_default.branch [
        | in_default-via-then-left-lt1 v ↦ filled-past s l.byte-index h l.left.now (search rules)
        | in_default-via-in-len1-up+else-byte-eq35 v ↦ filled-other s l.byte-index h l.left.now v.if-byte-eq35.false
      ]) w.put.ensures)
    ]

pub returns : goal.returns
returns c = telling-all c.loop-byte.invariant (filled_none c.args.text.now c.loop-byte.left.now c.loop-byte.byte-index c.loop-byte-test.false)
