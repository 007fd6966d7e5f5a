-- `image_assembler::assembler::empty_roots` meets its contract.
use lib.Dec.{lit<, lit≤}
use Rattle.image_assembler.proofs.Bare.{bare}
use Rattle.image_assembler.proofs.assembler.empty_roots.Goals as goal

pub returns : goal.returns
returns c = bare 4096 (lit< tt) (lit≤ tt)
