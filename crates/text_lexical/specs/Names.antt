-- Register names. A reader of names takes the set as a parameter. Quotations are document 01's.
use Rattle.std.specs.Prelude.{ℕ, List, [], ◌∷◌, ◌++◌}
use Rattle.std.proofs.Math.Option.{Option, none, some}
use Rattle.text_lexical.specs.Bytes.{bytes, same, find}

-- A spelling, and the number of the register that it names; none: "no such register (only `a5`)".
pub record Name : Type 0 where
  pub spelling : List ℕ
  pub number : Option ℕ

unfoldable pub name : List ℕ → ℕ → Name
name s n = record { spelling = s; number = some n }

-- The name with a spelling.
unfoldable pub named : List Name → List ℕ → Option Name
named names s = find (λ n. same n.spelling s) names

-- "`r0`..`r15`"
unfoldable pub numbered : List Name
numbered =
    name (bytes "r0") 0 ∷ name (bytes "r1") 1 ∷ name (bytes "r2") 2 ∷ name (bytes "r3") 3
    ∷ name (bytes "r4") 4 ∷ name (bytes "r5") 5 ∷ name (bytes "r6") 6 ∷ name (bytes "r7") 7
    ∷ name (bytes "r8") 8 ∷ name (bytes "r9") 9 ∷ name (bytes "r10") 10 ∷ name (bytes "r11") 11
    ∷ name (bytes "r12") 12 ∷ name (bytes "r13") 13 ∷ name (bytes "r14") 14 ∷ name (bytes "r15") 15 ∷ []

-- "zero ra sp gp tp fp are r0..r5; s0 s1 r6 r7; t0..t2 r8..r10; a0..a4 r11..r15", and `a5` is a Register that names none.
unfoldable pub conventional : List Name
conventional =
    name (bytes "zero") 0 ∷ name (bytes "ra") 1 ∷ name (bytes "sp") 2 ∷ name (bytes "gp") 3 ∷ name (bytes "tp") 4 ∷ name (bytes "fp") 5
    ∷ name (bytes "s0") 6 ∷ name (bytes "s1") 7
    ∷ name (bytes "t0") 8 ∷ name (bytes "t1") 9 ∷ name (bytes "t2") 10
    ∷ name (bytes "a0") 11 ∷ name (bytes "a1") 12 ∷ name (bytes "a2") 13 ∷ name (bytes "a3") 14 ∷ name (bytes "a4") 15
    ∷ record { spelling = bytes "a5"; number = none } ∷ []

-- The names of `parse_register`.
unfoldable pub present : List Name
present = numbered ++ conventional
