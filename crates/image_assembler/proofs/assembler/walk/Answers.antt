-- `image_assembler::assembler::walk` meets its contract.
use Rattle.std.proofs.Common.{rules, ◌≡◌, Err}
use Rattle.text_lexical.specs.Names.{present}
use Rattle.image_assembler.proofs.Walks.{walks-refused, walking-begin, walking-label, walking-ends, walking-enterable, walking_ended, walking_on, nearer}
use Rattle.image_assembler.proofs.assembler.walk.Goals as goal

pub returns-in_err-cursor : goal.returns-in_err-cursor
returns-in_err-cursor c =
    let passed : c.from_residual.result ≡ Err c.in_err-cursor.field-0.0 = search rules in
    rw passed (walks-refused c.requires present c.in_err-cursor.ensures)

pub loop-verdict-init : goal.loop-verdict-init
loop-verdict-init c = walking-begin c.requires present c.in_ok-cursor.ensures

pub returns-in-Ended : goal.returns-in-Ended
returns-in-Ended c = walking-ends c.loop-verdict.invariant c.in-Ended.ensures

pub enter-entered-requires-clause-enterable : goal.enter-entered-requires-clause-enterable
enter-entered-requires-clause-enterable c = walking-enterable (walking-label c.loop-verdict.invariant c.in-AtLabel.ensures)

pub returns-in-Ended-go_on : goal.returns-in-Ended-go_on
returns-in-Ended-go_on c =
    let e = c.enter-entered.ensures in
    walking_ended (walking-label c.loop-verdict.invariant c.in-AtLabel.ensures) e.enters e.tree_after e.counted e.lent c.go_on.ensures c.in-Ended-go_on.is

pub loop-verdict-preserved : goal.loop-verdict-preserved
loop-verdict-preserved c =
    let e = c.enter-entered.ensures in
    walking_on (walking-label c.loop-verdict.invariant c.in-AtLabel.ensures) e.enters e.tree_after e.counted e.lent c.go_on.ensures c.in-From.is

pub loop-verdict-smaller : goal.loop-verdict-smaller
loop-verdict-smaller c =
    let e = c.enter-entered.ensures in
    nearer (walking-label c.loop-verdict.invariant c.in-AtLabel.ensures) e.enters e.tree_after e.counted e.lent c.go_on.ensures c.in-From.is c.in-AtLabel.ensures
