-- `text_lexical::number::too_large` meets its contract.
use Rattle.std.proofs.Common.{◌≡◌, ◌≤◌, ◌∙◌, sym, refl, arith, length}
use Rattle.std.specs.Prelude.{None}
use Rattle.text_lexical.proofs.Values.{passed-end, passed-step, digit-none}
use Rattle.text_lexical.proofs.number.too_large.Goals as goal

pub loop-end-preserved : goal.loop-end-preserved
loop-end-preserved c =
    let a = c.args in
    let k = c.loop-end in
    let on : a.begin ≤ k.end = omega (arith, c.requires.at_in_text.0, k.auto.end) in
    passed-step a.radix a.text.now a.begin k.end on c.loop-end-test.true c.in-Some.field-0 (sym c.in-Some.is ∙ c.digit.ensures) None None k.invariant refl

pub returns-in_default : goal.returns-in_default
returns-in_default c =
    let a = c.args in
    let k = c.loop-end in
    let on : a.begin ≤ k.end = omega (arith, c.requires.at_in_text.0, k.auto.end) in
    passed-end a.radix a.text.now a.begin k.end on None k.invariant (omega arith) (λ l. digit-none a.radix _ (sym c.in_default.is ∙ c.digit.ensures))

pub returns : goal.returns
returns c =
    let a = c.args in
    let k = c.loop-end in
    let on : a.begin ≤ k.end = omega (arith, c.requires.at_in_text.0, k.auto.end) in
    let e : k.end ≡ length a.text.now = omega (arith, c.requires.at_in_text.1, k.auto.end-end c.requires.at_in_text.1, c.loop-end-test.false) in
    rw e at (passed-end a.radix a.text.now a.begin k.end on None k.invariant (omega arith) (λ l. absurd (omega (arith, c.loop-end-test.false))))
