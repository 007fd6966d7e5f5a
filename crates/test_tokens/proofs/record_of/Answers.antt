use Rattle.text.proofs.Endings.{past-margin}
use Rattle.test_tokens.proofs.record_of.Goals as goal

pub tokenize-requires : goal.tokenize-requires
tokenize-requires c = past-margin c.args.text.now c.args.from c.run_end-start.result c.requires c.run_end-start.ensures
