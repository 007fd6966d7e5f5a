-- `text::lexer::directive` meets its contract.
use Rattle.std.proofs.Common.{arith, refl, ◌+◌}
use Rattle.text_lexical.specs.Names.{present}
use Rattle.text.specs.declared.lexer.Kind.TheVariants.{Directive}
use Rattle.text.proofs.NameSets.{present-naming}
use Rattle.text.proofs.Fronts.{name-begins, no-name, at-found, at_none, directive-none, directive-front}
use Rattle.text.proofs.lexer.directive.Goals as goal

pub found-requires : goal.found-requires
found-requires c =
    let (l, n, q) = name-begins c.args.text.now (c.args.at + 1) c.in-Some.end (rw c.in-Some.is at c.name_end.ensures) in
    omega (arith, q)

pub returns-in-Some : goal.returns-in-Some
returns-in-Some c =
    let (l, n, q) = name-begins c.args.text.now (c.args.at + 1) c.in-Some.end (rw c.in-Some.is at c.name_end.ensures) in
    rw c.found.ensures
    (at-found present present-naming c.args.text.now c.args.at c.in-Some.end Directive (omega (arith, q)) refl
    (directive-front present present-naming c.args.text.now c.args.at c.in-Some.end l c.requires.dot_here n q))

pub returns-in-None : goal.returns-in-None
returns-in-None c =
    at_none present present-naming c.args.text.now c.args.at
    (directive-none present present-naming c.args.text.now c.args.at c.requires.in_text c.requires.dot_here
    (λ l. no-name c.args.text.now (c.args.at + 1) (rw c.in-None.is at c.name_end.ensures)))
