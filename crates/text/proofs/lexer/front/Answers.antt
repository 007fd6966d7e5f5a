-- `text::lexer::front` meets its contract.
use Rattle.std.proofs.Common.{arith, sym, ◌∙◌}
use Rattle.text_lexical.specs.Bytes.{name_start}
use Rattle.text_lexical.specs.Names.{present}
use Rattle.text.specs.Promised.{number_start}
use Rattle.text.proofs.Fronts.{begins-with, begins-otherwise}
use Rattle.text.proofs.Left.{start-solid, high-solid}
use Rattle.text.proofs.Stepping.{solid-step, number_step}
use Rattle.text.proofs.lexer.front.Goals as goal

pub returns-in-Some : goal.returns-in-Some
returns-in-Some c =
    let (n, t) = begins-with name_start present c.args.text.now c.args.at c.in-Some.scan (sym c.in-Some.is ∙ c.word.ensures) in
    solid-step present c.args.text.now c.args.at c.in-Some.scan c.requires.in_text (start-solid _ n) t

pub returns-then-text-at-eq46 : goal.returns-then-text-at-eq46
returns-then-text-at-eq46 c =
    solid-step present c.args.text.now c.args.at c.directive.result c.requires.in_text (high-solid _ (omega arith)) c.directive.ensures

pub returns-in-Some-number : goal.returns-in-Some-number
returns-in-Some-number c =
    let (n, t) = begins-with number_start present c.args.text.now c.args.at c.in-Some-number.scan (sym c.in-Some-number.is ∙ c.number.ensures) in
    number_step present c.args.text.now c.args.at c.in-Some-number.scan c.requires.in_text n t

pub mark_or_ending-requires-clause-no_word : goal.mark_or_ending-requires-clause-no_word
mark_or_ending-requires-clause-no_word c =
    record {
      no_blank = c.requires.no_blank;
      no_start = begins-otherwise name_start present c.args.text.now c.args.at (sym c.in_default.is ∙ c.word.ensures);
      no_dot = c.if-text-at-eq46.false;
      no_number = begins-otherwise number_start present c.args.text.now c.args.at (sym c.in-None.is ∙ c.number.ensures);
    }
