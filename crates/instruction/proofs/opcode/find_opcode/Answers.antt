-- `instruction::opcode::find_opcode` meets its contract.
use native.Mathlib.Omega.{arith}
use mathlib.Core.Path.{◌∙◌, ap}
use Rattle.std.specs.Prelude.{None}
use Rattle.instruction.specs.Promised.{found_meant}
use Rattle.instruction.proofs.Lookup.{coded-meant}
use Rattle.instruction.proofs.opcode.find_opcode.Goals as goal

pub returns-in_err-get : goal.returns-in_err-get
returns-in_err-get c =
    let (_, _, _, _, read) = c.in_err-get.ensures.lookup in
    rw c.from_residual.ensures (ap found_meant (read (omega arith) None) ∙ coded-meant c.args.opcode)

pub returns : goal.returns
returns c =
    let (_, _, _, _, read) = c.in_ok-get.ensures.lookup in
    ap found_meant (read (omega arith) None) ∙ coded-meant c.args.opcode
