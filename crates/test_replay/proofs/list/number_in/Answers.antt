use Rattle.std.proofs.Common.{◌≡◌, sym, ◌∙◌, arith}
use Rattle.test_replay.specs.List.{behind}
use Rattle.test_replay.proofs.Reading.{unread-more, unread-none, digits-stop, digits-end}
use Rattle.test_replay.proofs.list.number_in.Goals as goal

pub loop-at-preserved : goal.loop-at-preserved
loop-at-preserved c =
    let e = sym c.digit_value.ensures.value ∙ c.in-Some.is in
    (omega arith, rw c.extended-value.ensures (unread-more c.loop-at.invariant.1 c.requires c.loop-at-test.true e))

pub returns-in_default : goal.returns-in_default
unfolding behind
returns-in_default c =
    let e = sym c.digit_value.ensures.value ∙ c.in_default.is in
    unread-none c.loop-at.invariant.1 (digits-stop c.args.radix c.args.list.now c.loop-at.at c.loop-at-test.true e)

pub returns : goal.returns
unfolding behind
returns c =
    let e : c.max.result ≡ c.loop-at.at = omega (arith, c.max.ensures) in
    rw e (unread-none c.loop-at.invariant.1 (digits-end c.args.radix c.args.list.now c.loop-at.at c.loop-at-test.false))
