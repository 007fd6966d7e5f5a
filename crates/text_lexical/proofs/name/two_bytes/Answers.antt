-- `text_lexical::name::two_bytes` meets its contract, by the table.
use Rattle.std.proofs.Common.{arith, sym, ◌∙◌}
use Rattle.text_lexical.proofs.Values.{decimal-some, decimal-none}
use Rattle.text_lexical.proofs.Naming.{pair-is, digit-named, other-named, no-pair, no-letter, no_second}
use Rattle.text_lexical.proofs.name.two_bytes.Goals as goal
use Rattle.text_lexical.proofs.name.two_bytes.Goals.{in_default-decimal-via-in-Some-decimal+else-digit-pair, in_default-decimal-via-in_default-decimal}

pub returns-in_default : goal.returns-in_default
returns-in_default c = no-pair c.args.first c.args.second c.in_default.is

pub returns-then-pair-first : goal.returns-then-pair-first
returns-then-pair-first c = no-letter c.args.first c.args.second (λ e. c.if-pair-first.true (rw (pair-is c.args.first c.in-Some.pair c.in-Some.is) at e))

pub returns-in-Some-decimal : goal.returns-in-Some-decimal
returns-in-Some-decimal c =
    let q = pair-is c.args.first c.in-Some.pair c.in-Some.is in
    let (l, h, e) = decimal-some c.args.second c.in-Some-decimal.digit (sym c.in-Some-decimal.is ∙ c.decimal.ensures) in
    c.numbered.ensures ∙ rw (e, ← q) (digit-named c.args.first c.args.second (rw q c.if-pair-first.false) l (rw (q, ← e) c.if-digit-pair.true))

pub returns-in_default-decimal : goal.returns-in_default-decimal
returns-in_default-decimal c =
    let q = pair-is c.args.first c.in-Some.pair c.in-Some.is in
    c.numbered-in_default-decimal.ensures ∙ rw (← q) (other-named c.args.first c.args.second (rw q c.if-pair-first.false) (rw q c.if-second-pair.true))

pub returns-in_default-2 : goal.returns-in_default-2
returns-in_default-2 c =
    let q = pair-is c.args.first c.in-Some.pair c.in-Some.is in
    no_second c.args.first c.args.second
    (rw q (elim c.in_default-decimal.branch [
      | in_default-decimal-via-in-Some-decimal+else-digit-pair w ↦ λ l h k.
          let (x, y, e) = decimal-some c.args.second w.in-Some-decimal.digit (sym w.in-Some-decimal.is ∙ c.decimal.ensures) in
          omega arith
      | in_default-decimal-via-in_default-decimal w ↦ λ l h k. decimal-none c.args.second (sym w.in_default-decimal.is ∙ c.decimal.ensures) l h
    ]))
    (rw q c.if-second-pair.false)
