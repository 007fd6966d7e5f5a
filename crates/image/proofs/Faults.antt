-- Chains of tests that end in a refusal or in none.
use mathlib.Core.Path.{◌≡◌, refl}
use Prim.Native.Nat.{ℕ}
use native.Mathlib.Omega.{arith}
use mathlib.Core.Bool.{Bool, true, false}
use mathlib.Core.Option.{Option, none, some}

-- A chain that ends in none has passed its first test.
pub passed : {A : Type 0} (v : Bool) (a : A) (o : Option A) → ◌≡◌ {A = Option A} (elim v [ false ↦ some a | true ↦ o ]) none → (v ≡ true) × (o ≡ none)
passed true a o h = (refl, h)
passed false a o h = let z : ◌≡◌ {A = ℕ} 0 1 = cc in absurd (omega arith)

pub passed-not : {A : Type 0} (v : Bool) (a : A) (o : Option A) → ◌≡◌ {A = Option A} (elim v [ true ↦ some a | false ↦ o ]) none → (v ≡ false) × (o ≡ none)
passed-not true a o h = let z : ◌≡◌ {A = ℕ} 0 1 = cc in absurd (omega arith)
passed-not false a o h = (refl, h)

pub passed_on : {A B : Type 0} (f : A → B) (o : Option A) (p : Option B) → ◌≡◌ {A = Option B} (elim o [ some n ↦ some (f n) | none ↦ p ]) none → (o ≡ none) × (p ≡ none)
passed_on f (some n) p h = let z : ◌≡◌ {A = ℕ} 0 1 = cc in absurd (omega arith)
passed_on f none p h = (refl, h)
