-- What it means that two numbers agree modulo 2 to the width of a mnemonic's field: 2 to that width divides their difference. The law holds
-- for any width (`residue-iff`); here it is used at 8, 17 and 21, the widths that `bits_for` gives.
use Prim.Native.Nat.{ℕ, ◌^◌}
use mathlib.Core.Path.{◌≡◌, ap}
use mathlib.Core.Logic.{◌↔◌}
use mathlib.Core.Option.{some}
use mathlib.Core.List.{List}
use lib.IntN.{ℤ, pos, ◌-ℤ◌, ◌*ℤ◌}
use Rattle.text_lexical.specs.Numbers.{residue}
use Rattle.text_lexical.proofs.Numbers.{residue-iff}
use Rattle.instruction.specs.Words.{modulo}
use Rattle.guarantees.specs.Promises.{bits_for}

pub agree-modulo : (m : List ℕ) (z w : ℤ) → (modulo (bits_for m) (some z) ≡ modulo (bits_for m) (some w)) ↔ ((q : ℤ) × (z -ℤ w ≡ q *ℤ pos (2 ^ bits_for m)))
unfolding modulo
agree-modulo m z w =
    let (there, back) = residue-iff (bits_for m) z w in
    (λ (e : some (residue (bits_for m) z) ≡ some (residue (bits_for m) w)). there (cc), λ d. ap some (back d))
