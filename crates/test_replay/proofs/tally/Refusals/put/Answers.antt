use Rattle.std.proofs.Common.{get_or, rules, le-ltb, lt-ltb}
use Rattle.test_replay.specs.Report.{bytes, refusal_text, refusals_text}
use Rattle.test_replay.proofs.Reports.{put-none, telling-none, telling-more, telling-all, refusals-more, refusals-none}
use Rattle.test_replay.proofs.tally.Refusals.put.Goals as goal
use Rattle.test_replay.proofs.tally.Refusals.put.Goals.{then-count-gt0, else-count-gt0}

pub loop-number-init : goal.loop-number-init
unfolding refusals_text
loop-number-init c = telling-none c.args.report.now (refusals_text c.args.self.now.counts)

pub loop-number-preserved : goal.loop-number-preserved
unfolding refusal_text bytes
loop-number-preserved c =
    let counts = c.args.self.now.counts in
    let l = c.loop-number in
    let s = refusal_text l.number (get_or counts l.number 0) in
    let e = refusals-more counts l.number (search rules) in
    elim c.if-count-gt0.branch [
      | then-count-gt0 w ↦ rw w.report-is (telling-more l.invariant {s = s} e (rw (refusal_text, lt-ltb _ _ w.if-count-gt0.true) w.put_filled.ensures))
      | else-count-gt0 w ↦ rw w.report-is (telling-more l.invariant {s = s} e (rw (refusal_text, le-ltb _ _ w.if-count-gt0.false) (put-none l.report)))
    ]

pub returns : goal.returns
returns c = telling-all c.loop-number.invariant (refusals-none c.args.self.now.counts c.loop-number.number (search rules))
