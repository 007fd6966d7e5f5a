use Rattle.std.proofs.Common.{rules}
use Rattle.text_lexical.specs.Names.{present}
use Rattle.image_line.proofs.Lines.{found_name}
use Rattle.image_line.proofs.fast.is_label.Goals as goal

pub returns-in-Other : goal.returns-in-Other
returns-in-Other c = (found_name present c.args.source.now c.args.at c.args.end c.parse_register-name.result (search rules) c.parse_register-name.ensures).0 c.in-Other.is

pub returns-in_default : goal.returns-in_default
returns-in_default c = (found_name present c.args.source.now c.args.at c.args.end c.parse_register-name.result (search rules) c.parse_register-name.ensures).1 c.in_default.not-Other
