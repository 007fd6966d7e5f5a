-- `image_line::fast::read_tail` meets its contract.
use Rattle.std.proofs.Common.{rules, ◌≡◌}
use Rattle.std.specs.Prelude.{Ok}
use Rattle.text_lexical.specs.Names.{present}
use Rattle.image_line.proofs.Operands.{tail-is}
use Rattle.image_line.proofs.Places.{ended}
use Rattle.image_line.proofs.fast.read_tail.Goals as goal

pub returns : goal.returns
returns c =
    let (n, k) = ended present _ _ c.in_ok-end.end c.in_ok-end.ensures in
    let is_ok : c.read_operands.result ≡ Ok c.in_ok-draft.draft = search (rules, c.in_ok-draft.ensures.value) in
    tail-is (rw is_ok at c.read_operands.ensures) n k
