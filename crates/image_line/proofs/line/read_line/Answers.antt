use Rattle.text_lexical.specs.Names.{present}
use Rattle.text.proofs.Endings.{past-margin}
use Rattle.image_line.specs.Promised.{context_for}
use Rattle.image_line.proofs.Starts.{line-from}
use Rattle.image_line.proofs.line.read_line.Goals as goal

pub read_fast-requires : goal.read_fast-requires
read_fast-requires c = past-margin c.args.source.now c.args.at c.run_end-start.result c.requires c.run_end-start.ensures

pub read_record-requires : goal.read_record-requires
read_record-requires c = past-margin c.args.source.now c.args.at c.run_end-start.result c.requires c.run_end-start.ensures

pub returns-in-Some : goal.returns-in-Some
returns-in-Some c = line-from c.args.source.now c.args.at c.run_end-start.result c.requires c.run_end-start.ensures present (c.in-Some.ensures (context_for c.args.config))

pub returns-in-None : goal.returns-in-None
returns-in-None c = line-from c.args.source.now c.args.at c.run_end-start.result c.requires c.run_end-start.ensures present c.read_record.ensures
