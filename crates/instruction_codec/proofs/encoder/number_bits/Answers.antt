use mathlib.Core.Path.{◌≡◌}
use Prim.Native.Nat.{◌-◌, ◌^◌}
use native.Mathlib.Omega.{arith}
use Rattle.text_lexical.specs.Promised.{whole_meant}
use Rattle.instruction_codec.proofs.Forms.{residue_kept, reduced_kept, reduced_fits}
use Rattle.instruction_codec.proofs.encoder.number_bits.Goals as goal

pub returns-clause-value : goal.returns-clause-value
returns-clause-value c =
    let f = c.args.field in
    let z = whole_meant c.args.number in
    let e : c.from-most.result ≡ 2 ^ f.range.width - 1 = omega (arith, c.from-most.ensures, c.size.ensures) in
    rw (residue_kept f.range.width c.from-most.result c.residue.result z e c.residue.ensures) (reduced_kept f z c.requires)

pub returns-clause-room : goal.returns-clause-room
returns-clause-room c =
    let f = c.args.field in
    let z = whole_meant c.args.number in
    let e : c.from-most.result ≡ 2 ^ f.range.width - 1 = omega (arith, c.from-most.ensures, c.size.ensures) in
    rw (residue_kept f.range.width c.from-most.result c.residue.result z e c.residue.ensures, reduced_kept f z c.requires) (reduced_fits f z c.requires)
