-- Roots that are all 0 lead to no entry. The lemma is over their number, so that nothing counts to 4,096.
use Prim.Native.Nat.{ℕ, zero, suc, ◌≤◌, ◌<◌}
use mathlib.Core.Path.{◌≡◌, refl, sym, subst}
use mathlib.Core.List.{List}
use lib.ListN.{get_or, replicate, length-replicate}
use Rattle.image_labels.specs.Tree.{Bare}

abbrev zeros : ℕ → List ℕ
zeros n = replicate n 0

none_there : (n i : ℕ) → get_or (zeros n) i 0 ≡ 0
none_there zero i = refl
none_there (suc n) zero = refl
none_there (suc n) (suc i) = none_there n i

pub bare : (n : ℕ) → 0 < n → n ≤ 65536 → Bare (zeros n)
bare n some few =
    record {
      rootable = record { some = subst (λ (k : ℕ). 0 < k) (sym (length-replicate n 0)) some; few = subst (λ (k : ℕ). k ≤ 65536) (sym (length-replicate n 0)) few };
      none_there = none_there n;
    }
