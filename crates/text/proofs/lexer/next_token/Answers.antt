-- `text::lexer::next_token` meets its contract.
use Rattle.std.proofs.Common.{arith}
use Rattle.text_lexical.specs.Bytes.{blank}
use Rattle.text_lexical.specs.Names.{present}
use Rattle.text.proofs.Fronts.{run_in}
use Rattle.text.proofs.Stepping.{past-blank, past-blanks, blank_step, end-bad}
use Rattle.text.proofs.lexer.next_token.Goals as goal

pub front-requires-clause-no_blank : goal.front-requires-clause-no_blank
front-requires-clause-no_blank c = past-blank c.args.text.now c.args.from c.run_end-at.result c.requires c.run_end-at.ensures c.if-at-text.true

pub returns-then-at-text : goal.returns-then-at-text
returns-then-at-text c = blank_step present c.args.text.now c.args.from c.run_end-at.result c.front.result c.run_end-at.ensures c.front.ensures

-- nothing stands at the text's end
pub end_or_bad-requires : goal.end_or_bad-requires
end_or_bad-requires c =
    let l = run_in blank c.args.text.now c.args.from c.requires in
    record {
      in_text = omega (arith, c.run_end-at.ensures);
      no_blank = past-blanks c.args.text.now c.args.from c.run_end-at.result c.run_end-at.ensures;
      no_token = end-bad present c.args.text.now c.run_end-at.result (omega (arith, c.run_end-at.ensures)) c.if-at-text.false;
    }

pub returns : goal.returns
returns c = blank_step present c.args.text.now c.args.from c.run_end-at.result c.end_or_bad.result c.run_end-at.ensures c.end_or_bad.ensures
