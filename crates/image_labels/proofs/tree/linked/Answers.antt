-- `image_labels::tree::linked` meets its contract.
use Rattle.std.proofs.Common.{arith}
use Rattle.image_labels.proofs.Hashing.{child-bits-fits}
use Rattle.image_labels.proofs.tree.linked.Goals as goal

pub overflow_add-result : goal.overflow_add-result
overflow_add-result c = omega (arith, c.child_bits-more.ensures, child-bits-fits c.args.to c.args.branch)

pub overflow_add-result-2 : goal.overflow_add-result-2
overflow_add-result-2 c = omega (arith, c.child_bits-more.ensures, child-bits-fits c.args.to c.args.branch)
