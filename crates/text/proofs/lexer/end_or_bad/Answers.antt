-- `text::lexer::end_or_bad` meets its contract.
use Rattle.std.proofs.Common.{sym, ◌∙◌}
use Rattle.text_lexical.specs.Names.{present}
use Rattle.text.proofs.Endings.{ending-is}
use Rattle.text.proofs.Stepping.{end_step, bad-step}
use Rattle.text.proofs.lexer.end_or_bad.Goals as goal

pub returns-in-Some : goal.returns-in-Some
returns-in-Some c =
    let (none_left, ends) = ending-is c.args.text.now c.args.at _ (sym c.in-Some.is ∙ c.ending_at.ensures) in
    end_step present c.args.text.now c.args.at _ c.requires.no_blank none_left ends

pub returns-in-None : goal.returns-in-None
returns-in-None c =
    bad-step present c.args.text.now c.args.at c.requires.no_blank c.requires.no_token
    (ending-is c.args.text.now c.args.at _ (sym c.in-None.is ∙ c.ending_at.ensures))
