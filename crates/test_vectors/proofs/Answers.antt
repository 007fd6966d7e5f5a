-- A law of rows of numbers that are compared.
use Rattle.std.proofs.Common.{◌≡◌, ℕ, ◌&&◌, eqb, List, [], ◌∷◌, refl, ap}
use Rattle.std.specs.Cmp.Lexicographic.{pointwise}
use Rattle.std.specs.Prelude.{Bool, nat_eq}
use Rattle.test_vectors.specs.Answers.{same_numbers}

-- So the library's equality of rows finds.
pub pointwise_same : (xs ys : List ℕ) → pointwise nat_eq xs ys ≡ same_numbers xs ys
unfolding same_numbers
pointwise_same [] [] = refl
pointwise_same [] (y ∷ ys) = refl
pointwise_same (x ∷ xs) [] = refl
pointwise_same (x ∷ xs) (y ∷ ys) = ap (λ (b : Bool). eqb x y && b) (pointwise_same xs ys)
