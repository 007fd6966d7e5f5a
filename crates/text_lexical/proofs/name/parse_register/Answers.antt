-- `text_lexical::name::parse_register` meets its contract.
use Rattle.std.proofs.Common.{arith}
use Rattle.text_lexical.proofs.Naming.{no_length}
use Rattle.text_lexical.proofs.name.parse_register.Goals as goal

pub returns-in_default : goal.returns-in_default
returns-in_default c = no_length c.args.name.now (λ e. omega arith) (λ e. omega arith) (λ e. omega arith)

pub returns-in_default-2 : goal.returns-in_default-2
returns-in_default-2 c = no_length c.args.name.now (λ e. omega arith) (λ e. omega arith) (λ e. omega arith)
