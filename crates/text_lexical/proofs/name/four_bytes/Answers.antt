-- `text_lexical::name::four_bytes` meets its contract.
use Rattle.std.proofs.Common.{arith}
use Rattle.text_lexical.proofs.Naming.{no-four, four-named}
use Rattle.text_lexical.proofs.name.four_bytes.Goals as goal

pub returns-then-first-ne122 : goal.returns-then-first-ne122
returns-then-first-ne122 c = let a = c.args in no-four a.first a.second a.third a.fourth (λ x y z w. grind arith)

pub returns : goal.returns
returns c = rw (c.if-first-ne122.false, c.if-second-ne101.false, c.if-third-ne114.false, c.if-fourth-ne111.false) four-named
