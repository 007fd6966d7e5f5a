-- The present names are a name set.
use mathlib.Core.Path.{◌≡◌, refl, sym}
use Prim.Native.Nat.{ℕ, zero, suc, ◌<◌}
use native.Mathlib.Omega.{arith}
use mathlib.Core.Bool.{Bool, true, false, true≢false}
use mathlib.Core.Option.{Option, none, some}
use mathlib.Core.List.{List, ◌∷◌}
use lib.Dec.{eqb}
use borrow.Author.Tests.{eqb-true}
use Rattle.text_lexical.specs.Bytes.{bytes, between, letter, digit, name_start, name_part, every, same, find, each}
use Rattle.text_lexical.specs.Numbers.{decimal_in, decimal}
use Rattle.text_lexical.specs.Names.{Name, name, named, numbered, conventional, present}
use Rattle.text_lexical.proofs.Tests.{both, split}
use Rattle.text.specs.Tokens.{is_identifier, Register, register, register_token, token_of}
use Rattle.text.specs.NameSets.{is_numbered, Naming}

-- A test that passes at each number below k.
unfoldable pub up_to : (ℕ → Bool) → ℕ → Bool
up_to q zero = true
up_to q (suc k) = elim (q k) [ true ↦ up_to q k | false ↦ false ]

below : (q : ℕ → Bool) (k : ℕ) → up_to q k ≡ true → (n : ℕ) → n < k → q n ≡ true
unfolding up_to
below q zero h n l = absurd (omega arith)
below q (suc k) h n l =
    let (hk, hs) = both (q k) (up_to q k) h in
    split n k (λ m. below q k hs n m) (λ m. let e : n ≡ k = omega arith in rw e hk)

-- A name names the register with a number.
unfoldable pub names-it : ℕ → Option ℕ → Bool
names-it n none = false
names-it n (some m) = eqb m n

unfoldable pub is_name_of : ℕ → Option Name → Bool
is_name_of n none = false
is_name_of n (some m) = names-it n m.number

number_is : (n : ℕ) (o : Option Name) → is_name_of n o ≡ true → register_token o ≡ some (register (some n))
unfolding is_name_of names-it register_token
number_is n none h = absurd (true≢false (sym h))
number_is n (some m) h = go m.number h
  where
    go : (r : Option ℕ) → names-it n r ≡ true → some (register r) ≡ some (register (some n))
    go none k = absurd (true≢false (sym k))
    go (some x) k = rw (eqb-true x n k)

-- So names have the numbered ones if each of sixteen is found.
pub numbers : (names : List Name) → up_to (λ n. is_name_of n (named names (114 ∷ decimal n))) 16 ≡ true
    → (n : ℕ) → n < 16 → token_of names Register (114 ∷ decimal n) ≡ some (register (some n))
unfolding token_of
numbers names h n l = number_is n (named names (114 ∷ decimal n)) (below (λ m. is_name_of m (named names (114 ∷ decimal m))) 16 h n l)

present-numbered : up_to (λ n. is_name_of n (named present (114 ∷ decimal n))) 16 ≡ true
unfolding up_to is_name_of names-it decimal decimal_in named find same present numbered conventional name bytes
present-numbered = refl

pub present-naming : Naming present
unfolding each present numbered conventional name bytes is_identifier is_numbered every name_start name_part letter digit between
present-naming =
    record {
      identifiers = refl;
      sixteen = refl;
      numbered = numbers present present-numbered;
    }
