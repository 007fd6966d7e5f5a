-- `image_passes::second_pass::distance` meets its contract.
use Rattle.std.proofs.Common.{arith}
use Rattle.image_passes.proofs.Resolving.{distance-on, distance-back}
use Rattle.image_passes.proofs.second_pass.distance.Goals as goal

pub returns-then-own-address : goal.returns-then-own-address
returns-then-own-address c = rw c.address_after-own.ensures (distance-on c.args.words c.args.address (omega (arith, c.address_after-own.ensures, c.if-own-address.true)))

pub returns : goal.returns
returns c = rw c.address_after-own.ensures (distance-back c.args.words c.args.address (omega (arith, c.address_after-own.ensures, c.if-own-address.false)))
