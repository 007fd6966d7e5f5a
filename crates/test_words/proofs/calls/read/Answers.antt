use Rattle.std.proofs.Common.{sym, ◌∙◌}
use Rattle.std.specs.Prelude.{Ok}
use Rattle.text_lexical.specs.Names.{present}
use Rattle.text.proofs.NameSets.{present-naming}
use Rattle.text.proofs.Endings.{past-margin}
use Rattle.text.proofs.Recording.{line_read_lem}
use Rattle.test_words.proofs.calls.read.Goals as goal

pub tokenize-requires : goal.tokenize-requires
tokenize-requires c = past-margin c.args.text.now c.args.from c.run_end.result c.requires.in_text c.run_end.ensures

-- The record that `tokenize` makes is one that `parse_instruction` takes.
pub parse_instruction-requires-clause-kept_line : goal.parse_instruction-requires-clause-kept_line
parse_instruction-requires-clause-kept_line c =
    let l = c.in_ok-line in
    let r = (line_read_lem present present-naming c.args.text.now c.run_end.result (Ok l.line) (sym l.was ∙ c.tokenize.ensures)).places in
    record { places = r.places; inside_text = r.inside_text }
