-- `image_assembler::assembler::resolve` meets its contract.
use Rattle.std.proofs.Common.{rules, ◌≡◌, Ok, Err}
use Rattle.text_lexical.specs.Names.{present}
use Rattle.image_assembler.specs.Promised.{Walks}
use Rattle.image_assembler.proofs.Walks.{walks-entered, resolves-untargeted, resolves-checked, resolves-refused}
use Rattle.image_assembler.proofs.assembler.resolve.Goals as goal
use Rattle.image_assembler.proofs.assembler.resolve.Goals.{In_ok-found}

-- The walk has read the source to its end.
walked : (c : In_ok-found) → Walks present c.args.labels.now c.walk.new.labels (Ok c.in_ok-found.found)
walked c = let e : c.walk.result ≡ Ok c.in_ok-found.found = search rules in rw e at c.walk.ensures

pub check_targets-requires : goal.check_targets-requires
check_targets-requires c = walks-entered (walked (goal.at.check_targets-requires c).In_ok-found)

pub returns-in_err-check_targets : goal.returns-in_err-check_targets
returns-in_err-check_targets c =
    let passed : c.from_residual-in_err-check_targets.result ≡ Err c.in_err-check_targets.field-0.0 = search rules in
    rw passed (resolves-refused (walked (goal.at.returns-in_err-check_targets c).In_ok-found) c.in_err-check_targets.ensures)

pub returns-in_ok-check_targets : goal.returns-in_ok-check_targets
returns-in_ok-check_targets c = resolves-checked (walked (goal.at.returns-in_ok-check_targets c).In_ok-found) c.in_ok-check_targets.ensures

pub returns-else-found : goal.returns-else-found
returns-else-found c = resolves-untargeted (walked (goal.at.returns-else-found c).In_ok-found) c.if-found.false
