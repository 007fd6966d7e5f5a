-- `text_lexical::number::with_digit` meets its contract.
use Rattle.std.proofs.Common.{◌≡◌, ◌+◌, ◌*◌, ◌^◌, ◌≤◌, ◌∙◌, sym, arith}
use Rattle.text_lexical.proofs.Tests.{split}
use Rattle.text_lexical.proofs.Values.{fitting-none, fitted}
use Rattle.text_lexical.proofs.number.with_digit.Goals as goal

pub returns-in_err-checked_mul : goal.returns-in_err-checked_mul
returns-in_err-checked_mul c =
    let a = c.args in
    let v = c.in_ok-value.field-0 in
    let e : v * c.from.result ≡ v * a.base = rw c.from.ensures in
    let h : 2 ^ 64 ≤ v * a.base = split (v * a.base) (2 ^ 64) (λ l. absurd (c.in_err-checked_mul.ensures (omega arith))) (λ l. l) in
    rw c.in_ok-value.was (c.from_residual-in_err-checked_mul.ensures ∙ sym (fitting-none (v * a.base + a.digit) (omega arith)))

pub returns : goal.returns
returns c =
    let a = c.args in
    let v = c.in_ok-value.field-0 in
    let e : v * c.from.result ≡ v * a.base = rw c.from.ensures in
    let q : c.in_ok-checked_mul.field-0 ≡ v * c.from.result = c.in_ok-checked_mul.ensures.1 in
    rw c.in_ok-value.was (fitted (v * a.base + a.digit) _ _ (omega (arith, c.from-2.ensures)) c.checked_add.ensures)
