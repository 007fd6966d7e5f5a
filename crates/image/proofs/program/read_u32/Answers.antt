-- `image::program::read_u32` meets its contract.
use Rattle.std.proofs.Common.{arith}
use Rattle.image.proofs.Heads.{number-four}
use Rattle.image.proofs.program.read_u32.Goals as goal

pub returns : goal.returns
returns c = omega (arith, c.from_le_bytes.ensures, number-four c.args.at c.args.image.now c.requires)
