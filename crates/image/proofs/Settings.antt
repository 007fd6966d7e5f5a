-- Settings that pass their checks.
use mathlib.Core.Path.{◌≡◌, refl}
use Prim.Native.Nat.{◌%◌, ◌<◌}
use native.Mathlib.Omega.{arith}
use mathlib.Core.Bool.{true}
use mathlib.Core.Option.{none}
use lib.Dec.{eqb}
use Rattle.text_lexical.specs.Bytes.{between}
use Rattle.text_lexical.proofs.Tests.{between-true}
use Rattle.image.specs.Settings.{Settings, settings, begin, settings_fault}
use Rattle.image.proofs.Faults.{passed}

pub record Good (s : Settings) : Type 0 where
  pub bits : between 16 30 s.limb_bits ≡ true
  pub even : eqb (s.limb_bits % 2) 0 ≡ true
  pub data_limbs : between 1 4 s.data_limbs ≡ true
  pub addr_limbs : between 1 2 s.addr_limbs ≡ true

pub good : (s : Settings) → settings_fault s ≡ none → Good s
unfolding settings_fault
good s h =
    let (a, h1) = passed (between 16 30 s.limb_bits) 10 _ h in
    let (b, h2) = passed (eqb (s.limb_bits % 2) 0) 11 _ h1 in
    let (c, h3) = passed (between 1 4 s.data_limbs) 12 _ h2 in
    let (d, h4) = passed (between 1 2 s.addr_limbs) 13 none h3 in
    record { bits = a; even = b; data_limbs = c; addr_limbs = d }

pub no-fault : (s : Settings) → Good s → settings_fault s ≡ none
unfolding settings_fault
no-fault s g = rw (settings_fault, g.bits, g.even, g.data_limbs, g.addr_limbs)

pub begin-good : Good begin
unfolding begin settings between
begin-good = record { bits = refl; even = refl; data_limbs = refl; addr_limbs = refl }

-- Each value is below a hundred.
pub small-bits : (s : Settings) → Good s → s.limb_bits < 100
small-bits s g = let r = between-true 16 30 s.limb_bits g.bits in omega arith

pub small-data : (s : Settings) → Good s → s.data_limbs < 100
small-data s g = let r = between-true 1 4 s.data_limbs g.data_limbs in omega arith

pub small-addr : (s : Settings) → Good s → s.addr_limbs < 100
small-addr s g = let r = between-true 1 2 s.addr_limbs g.addr_limbs in omega arith
