-- When an answer is what the list has. The list's format is described in oracle/README.md.
use Rattle.std.specs.Prelude.{ℕ, Bool, true, false, ◌&&◌, List, [], ◌∷◌, ◌==◌}
use Rattle.test_vectors.specs.declared.answer.Answer.{Answer}

-- Two rows of numbers are the same.
unfoldable pub same_numbers : List ℕ → List ℕ → Bool
same_numbers [] [] = true
same_numbers [] (y ∷ ys) = false
same_numbers (x ∷ xs) [] = false
same_numbers (x ∷ xs) (y ∷ ys) = x == y && same_numbers xs ys

-- Two answers have the same number and the same values.
unfoldable pub same_answer : {n : ℕ} → Answer n → Answer n → Bool
same_answer a b = a.number == b.number && same_numbers a.values b.values
