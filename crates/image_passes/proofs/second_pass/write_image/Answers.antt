use mathlib.Core.Path.{refl, sym}
use Prim.Native.Nat.{◌≤◌}
use native.Mathlib.Omega.{arith}
use lib.ListN.{length}
use Rattle.std.proofs.Common.{rules}
use Rattle.image.specs.Assembling.{most_words}
use Rattle.image.specs.Program.{image_length}
use Rattle.image_passes.proofs.Answers.{header_fits, puts_image, fills_image, fills-not}
use Rattle.image_passes.proofs.second_pass.write_image.Goals as goal

pub image_length-needed-requires : goal.image_length-needed-requires
unfolding most_words
image_length-needed-requires c = omega (arith, c.requires.ready.most)

pub code_size-code_size-requires : goal.code_size-code_size-requires
unfolding most_words
code_size-code_size-requires c = omega (arith, c.requires.ready.most)

pub returns-then-image-needed : goal.returns-then-image-needed
returns-then-image-needed c = rw c.image_length-needed.ensures (fills-not c.requires.ready c.args.image.now (omega (arith, c.image_length-needed.ensures, c.if-image-needed.true)))

pub put_header-requires : goal.put_header-requires
put_header-requires c = rw c.code_size-code_size.ensures (header_fits c.requires.ready c.args.image.now (omega (arith, c.image_length-needed.ensures, c.if-image-needed.false)))

pub second_pass-requires-clause-room : goal.second_pass-requires-clause-room
second_pass-requires-clause-room c =
    (puts_image c.requires.ready _ refl (omega (arith, c.image_length-needed.ensures, c.if-image-needed.false))).second (rw c.code_size-code_size.ensures at c.put_header.ensures)

pub returns : goal.returns
returns c =
    let long : image_length c.args.found.words ≤ length c.args.image.now = omega (arith, c.image_length-needed.ensures, c.if-image-needed.false) in
    let e = (puts_image c.requires.ready _ refl long).taken (rw c.code_size-code_size.ensures at c.put_header.ensures) c.second_pass.ensures.took in
    let same = sym e.same_buffer in
    fills_image c.requires.ready e refl long (search rules)
