-- `text::lexer::mark_or_ending` meets its contract.
use Rattle.std.proofs.Common.{arith, get_or, sym, ◌∙◌}
use Rattle.text_lexical.specs.Bytes.{blank}
use Rattle.text_lexical.specs.Names.{present}
use Rattle.text.proofs.NameSets.{present-naming}
use Rattle.text_lexical.proofs.Strings.{run-no}
use Rattle.text.proofs.Fronts.{mark-none}
use Rattle.text.proofs.Marks.{no-mark}
use Rattle.text.proofs.Stepping.{mark-step}
use Rattle.text.proofs.lexer.mark_or_ending.Goals as goal

pub end_or_bad-requires : goal.end_or_bad-requires
end_or_bad-requires c =
    let s = c.args.text.now in
    let k = no-mark (get_or s c.args.at 0) (sym c.in-None.is ∙ c.mark_kind.ensures) in
    record {
      in_text = omega arith;
      no_blank = run-no blank s c.args.at c.requires.in_text c.requires.no_word.no_blank;
      no_token = mark-none present present-naming s c.args.at c.requires.in_text c.requires.no_word k;
    }

pub returns-in-Some : goal.returns-in-Some
returns-in-Some c =
    c.found.ensures ∙ mark-step present present-naming c.args.text.now c.args.at c.in-Some.kind c.requires.in_text (sym c.in-Some.is ∙ c.mark_kind.ensures)
