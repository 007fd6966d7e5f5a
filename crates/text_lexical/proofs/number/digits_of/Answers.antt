-- `text_lexical::number::digits_of` meets its contract.
use Rattle.std.proofs.Common.{◌≡◌, ◌∙◌, sym, arith, length}
use Rattle.std.specs.Prelude.{Some}
use Rattle.text_lexical.proofs.Values.{passed_none, passed-end, passed-step, digit-none}
use Rattle.text_lexical.proofs.number.digits_of.Goals as goal

pub loop-end-init : goal.loop-end-init
loop-end-init c = passed_none _ _ _

pub returns-in_default : goal.returns-in_default
returns-in_default c =
    let a = c.args in
    let k = c.loop-end in
    passed-end a.radix a.text.now a.begin k.end k.auto.end (Some k.value) k.invariant (omega arith) (λ l. digit-none a.radix _ (sym c.in_default.is ∙ c.digit.ensures))

pub too_large-requires-clause-all_digits : goal.too_large-requires-clause-all_digits
too_large-requires-clause-all_digits c =
    let a = c.args in
    let k = c.loop-end in
    let p = passed-step a.radix a.text.now a.begin k.end k.auto.end c.loop-end-test.true c.in-Some.digit (sym c.in-Some.is ∙ c.digit.ensures) (Some k.value) _ k.invariant
    (rw c.base.ensures at c.with_digit.ensures) in
    p.digits

pub too_large-requires-clause-large : goal.too_large-requires-clause-large
too_large-requires-clause-large c =
    let a = c.args in
    let k = c.loop-end in
    let p = passed-step a.radix a.text.now a.begin k.end k.auto.end c.loop-end-test.true c.in-Some.digit (sym c.in-Some.is ∙ c.digit.ensures) (Some k.value) _ k.invariant
    (rw c.base.ensures at c.with_digit.ensures) in
    sym c.in_default-with_digit.is ∙ p.value-is

pub loop-end-preserved : goal.loop-end-preserved
loop-end-preserved c =
    let a = c.args in
    let k = c.loop-end in
    rw c.in-Some-with_digit.is at
    (passed-step a.radix a.text.now a.begin k.end k.auto.end c.loop-end-test.true c.in-Some.digit (sym c.in-Some.is ∙ c.digit.ensures) (Some k.value) _ k.invariant
    (rw c.base.ensures at c.with_digit.ensures))

pub returns : goal.returns
returns c =
    let a = c.args in
    let k = c.loop-end in
    let e : k.end ≡ length a.text.now = omega arith in
    rw e at (passed-end a.radix a.text.now a.begin k.end k.auto.end (Some k.value) k.invariant (omega arith) (λ l. absurd (omega (arith, c.loop-end-test.false))))
