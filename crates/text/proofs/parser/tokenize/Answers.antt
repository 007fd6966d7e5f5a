-- `text::parser::tokenize` meets its contract.
use Rattle.std.proofs.Common.{refl, arith}
use Rattle.text_lexical.specs.Names.{present}
use Rattle.text.proofs.NameSets.{present-naming}
use Rattle.text.proofs.Stepping.{stepped}
use Rattle.text.proofs.Recording.{reading-begin, reading-next, reading-end, reading-bad}
use Rattle.text.proofs.parser.tokenize.Goals as goal

pub loop-end-init : goal.loop-end-init
loop-end-init c = rw c.new-reader.ensures (refl, reading-begin present c.args.text.now c.args.start c.requires)

pub returns-in-End : goal.returns-in-End
returns-in-End c =
    let (same, reading) = c.loop-end.invariant in
    reading-end present present-naming c.args.text.now c.args.start c.loop-end.tokens c.loop-end.count c.loop-end.reader.position reading c.in-End.end
    (rw (c.in-End.is, same) at c.next.ensures.0)

pub returns-in-Bad : goal.returns-in-Bad
returns-in-Bad c =
    let (same, reading) = c.loop-end.invariant in
    reading-bad present present-naming c.args.text.now c.args.start c.loop-end.tokens c.loop-end.count c.loop-end.reader.position reading
    (rw (c.in-Bad.is, same) at c.next.ensures.0)

-- the reader's place after the token is further on in the text
pub loop-end-smaller : goal.loop-end-smaller
loop-end-smaller c =
    let l = (stepped present present-naming c.args.text.now c.loop-end.reader.position _ (rw (c.in-Found.is, c.loop-end.invariant.0) at c.next.ensures.0)).leads in
    rw (c.next.ensures.1, c.in-Found.is) (omega (arith, l.3, l.4))

-- What the test says of the count is found, and not cited by its name, which has the limit in it.
pub loop-end-preserved : goal.loop-end-preserved
loop-end-preserved c =
    let (same, reading) = c.loop-end.invariant in
    rw (c.next.ensures.1, c.in-Found.is) (
      same,
      reading-next present present-naming c.args.text.now c.args.start c.loop-end.tokens c.loop-end.count c.loop-end.reader.position reading c.in-Found.token c.in-Found.next _
          (rw (c.in-Found.is, same) at c.next.ensures.0) (grind arith),
    )
