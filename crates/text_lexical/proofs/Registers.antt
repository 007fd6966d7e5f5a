-- Laws of registers and their numbers.
use Prim.Native.Nat.{ℕ, zero, suc, ◌+◌, ◌<◌}
use mathlib.Core.Path.{◌≡◌, refl}
use native.Mathlib.Omega.{arith}
use mathlib.Core.List.{List, [], ◌∷◌}
use lib.ListN.{length, get_or}
use Rattle.text_lexical.specs.Promised.{index_of, register_at}
use Rattle.text_lexical.specs.declared.register.Register.{Register}
use Rattle.text_lexical.specs.declared.register.Register.TheVariants.{R0, R1, R2, R3, R4, R5, R6, R7, R8, R9, R10, R11, R12, R13, R14, R15}

-- Registers whose numbers go up from k on, one by one.
Rising : ℕ → List Register → Type 0
Rising k [] = Unit {0}
Rising k (r ∷ rs) = (index_of r ≡ k) × Rising (suc k) rs

rising-at : (k : ℕ) (rs : List Register) (n : ℕ) (d : Register) → Rising k rs → n < length rs → index_of (get_or rs n d) ≡ k + n
unfolding Rising
rising-at k [] n d h l = absurd (omega arith)
rising-at k (r ∷ rs) zero d (e, h) l = omega (arith, e)
rising-at k (r ∷ rs) (suc n) d (e, h) l = omega (arith, rising-at (suc k) rs n d h (omega arith))

-- The register with a number has that number, and the one with a register's number is that register.
pub index-register : (n : ℕ) → n < 16 → index_of (register_at n) ≡ n
unfolding register_at Rising
index-register n h =
    let r = rising-at 0 (R0 ∷ R1 ∷ R2 ∷ R3 ∷ R4 ∷ R5 ∷ R6 ∷ R7 ∷ R8 ∷ R9 ∷ R10 ∷ R11 ∷ R12 ∷ R13 ∷ R14 ∷ R15 ∷ []) n R15
    (refl, (refl, (refl, (refl, (refl, (refl, (refl, (refl, (refl, (refl, (refl, (refl, (refl, (refl, (refl, (refl, tt)))))))))))))))) h in
    omega arith

pub register-index : (r : Register) → register_at (index_of r) ≡ r
unfolding register_at
register-index R0 = refl
register-index R1 = refl
register-index R2 = refl
register-index R3 = refl
register-index R4 = refl
register-index R5 = refl
register-index R6 = refl
register-index R7 = refl
register-index R8 = refl
register-index R9 = refl
register-index R10 = refl
register-index R11 = refl
register-index R12 = refl
register-index R13 = refl
register-index R14 = refl
register-index R15 = refl
