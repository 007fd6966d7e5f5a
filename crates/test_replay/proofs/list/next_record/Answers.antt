use Rattle.std.proofs.Common.{◌≡◌, false, ◌&&◌, eqb, get_or, refl, add-one, arith, eq-eqb, ne_eqb}
use Rattle.test_replay.specs.List.{next_record}
use Rattle.test_replay.proofs.Reading.{through-more, through-found, through-end}
use Rattle.test_replay.proofs.list.next_record.Goals as goal
use Rattle.test_replay.proofs.list.next_record.Goals.{else-last-eq10-via-then-last-eq10+else-byte-eq10, else-last-eq10-via-else-last-eq10}

pub loop-at-init : goal.loop-at-init
unfolding next_record
loop-at-init c = refl

pub returns-then-byte-eq10-clause-value : goal.returns-then-byte-eq10-clause-value
returns-then-byte-eq10-clause-value c =
    let l = c.loop-at in
    let e = through-found l.last c.args.list.now l.at c.loop-at-test.true (rw (eq-eqb _ 10 c.if-last-eq10.true) (eq-eqb _ 10 c.if-byte-eq10.true)) in
    omega (arith, l.invariant)

pub loop-at-preserved : goal.loop-at-preserved
loop-at-preserved c =
    let l = c.loop-at in
    let s = c.args.list.now in
    let n : (eqb l.last 10 && eqb (get_or s l.at 0) 10) ≡ false =
    elim c.else-last-eq10.branch [
      | else-last-eq10-via-then-last-eq10+else-byte-eq10 w ↦ rw (eq-eqb _ 10 w.if-last-eq10.true) (ne_eqb _ 10 w.if-byte-eq10.false)
      | else-last-eq10-via-else-last-eq10 w ↦ rw (ne_eqb _ 10 w.if-last-eq10.false)
    ] in
    let e = through-more l.last s l.at c.loop-at-test.true n in
    rw (add-one l.at) (omega (arith, l.invariant))

pub returns-clause-value : goal.returns-clause-value
returns-clause-value c =
    let e = through-end c.loop-at.last c.args.list.now c.loop-at.at c.loop-at-test.false in
    omega (arith, c.loop-at.invariant)
