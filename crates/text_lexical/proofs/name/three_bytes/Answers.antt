-- `text_lexical::name::three_bytes` meets its contract.
use Rattle.std.proofs.Common.{◌≡◌, ◌-◌, ◌∙◌, ap, sym, arith}
use mathlib.Core.Option.{some}
use borrow.Author.Tests.{lt-ltb}
use Rattle.text_lexical.specs.Promised.{index_of, register_number}
use Rattle.text_lexical.proofs.Tests.{between-true}
use Rattle.text_lexical.proofs.Values.{decimal-some, decimal-none}
use Rattle.text_lexical.proofs.Naming.{no-three, three-named}
use Rattle.text_lexical.proofs.name.three_bytes.Goals as goal
use Rattle.text_lexical.proofs.name.three_bytes.Goals.{then-first-ne114-via-then-first-ne114, then-first-ne114-via-else-first-ne114+then-second-ne49}

pub returns-then-first-ne114 : goal.returns-then-first-ne114
returns-then-first-ne114 c =
    let a = c.args in
    no-three a.first a.second a.third (λ x y z. elim c.then-first-ne114.branch [
      | then-first-ne114-via-then-first-ne114 w ↦ w.if-first-ne114.true x
      | then-first-ne114-via-else-first-ne114+then-second-ne49 w ↦ w.if-second-ne49.true y
    ])

pub returns-in-Some : goal.returns-in-Some
unfolding register_number
returns-in-Some c =
    let (l, h, e) = decimal-some c.args.third c.in-Some.digit (sym c.in-Some.is ∙ c.decimal.ensures) in
    let n : index_of c.from_index.result ≡ c.args.third - 38 = omega (arith, c.from_index.ensures) in
    let q : register_number (c.args.third - 38) ≡ some (c.args.third - 38) = rw (register_number, lt-ltb (c.args.third - 38) 16 (omega arith)) in
    rw (c.if-first-ne114.false, c.if-second-ne49.false, n) (ap some (sym q) ∙ three-named c.args.third l (omega arith))

pub returns-in_default : goal.returns-in_default
returns-in_default c =
    let (l, h, e) = decimal-some c.args.third c.in-Some.digit (sym c.in-Some.is ∙ c.decimal.ensures) in
    no-three c.args.first c.args.second c.args.third (λ x y z. omega (arith, between-true 48 53 c.args.third z))

pub returns-in_default-2 : goal.returns-in_default-2
returns-in_default-2 c =
    no-three c.args.first c.args.second c.args.third (λ x y z.
    let (l, h) = between-true 48 53 c.args.third z in
    decimal-none c.args.third (sym c.in_default.is ∙ c.decimal.ensures) l (omega arith))
