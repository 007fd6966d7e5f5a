-- The branches of an entry, a spelling's hash and its path, and what a search behind an entry is.
use Prim.Native.Nat.{ℕ, zero, suc, ◌+◌, ◌*◌, ◌/◌, ◌%◌, ◌≤◌, ◌<◌}
use mathlib.Core.Path.{◌≡◌, refl, sym, ap, ◌∙◌}
use native.Mathlib.Omega.{arith}
use native.Mathlib.Nat.{mul-le-mul}
use mathlib.Core.Bool.{Bool, true, false}
use mathlib.Core.List.{List, [], ◌∷◌}
use lib.Dec.{eqb}
use lib.ListN.{length, take, drop, get_or, length-drop}
use lib.Seq.{drop-nil, drop-drop}
use Rattle.std.specs.Prelude.{Option as Maybe}
use Rattle.std.specs.Simd.{first_chunks}
use borrow.Author.Tests.{lt-ltb, le-ltb, eqb-true, eqb-false, eq-eqb, ne_eqb}
use Rattle.text_lexical.proofs.Tests.{by-test}
use Rattle.image_labels.specs.declared.label.Label.{Label}
use Rattle.image_labels.specs.declared.tree.Digest.{Digest}
use Rattle.image_labels.specs.declared.tree.Stage.TheVariants.{Known}
use Rattle.image_labels.specs.declared.tree.Search.{Search}
use Rattle.image_labels.specs.Tree.{child_number, link_number, link, child_bits, linked, mixed, packed_bytes, hash_from, no_hash, hash_of, slot_of, branch_of, hits, sought, ended_at, passed, visited}

-- ---- the branches

-- A branch is odd, or not.
pub parity {ℓ} : {X : Type ℓ} (b : ℕ) → (b % 2 ≡ 1 → X) → ((b % 2 ≡ 1 → ⊥) → X) → X
parity b f g = by-test (eqb (b % 2) 1) (λ v. f (eqb-true (b % 2) 1 v)) (λ v. g (eqb-false (b % 2) 1 v))

module _ (n b : ℕ) where
  module _ (odd : b % 2 ≡ 1) where
    pub child-number-odd : child_number n b ≡ n / 4398046511104
    unfolding child_number
    child-number-odd = rw (child_number, eq-eqb (b % 2) 1 odd)

    pub child-bits-odd : child_bits n b ≡ 4398046511104 * n
    unfolding child_bits
    child-bits-odd = rw (child_bits, eq-eqb (b % 2) 1 odd)

  module _ (even : b % 2 ≡ 1 → ⊥) where
    pub child-number-even : child_number n b ≡ n / 2097152 % 2097152
    unfolding child_number
    child-number-even = rw (child_number, ne_eqb (b % 2) 1 even)

    pub child-bits-even : child_bits n b ≡ 2097152 * n
    unfolding child_bits
    child-bits-even = rw (child_bits, ne_eqb (b % 2) 1 even)

  pub child-bits-fits : child_bits n b ≤ 4398046511104 * n
  child-bits-fits = parity b (λ v. omega (arith, child-bits-odd v)) (λ v. omega (arith, child-bits-even v))

module _ (e : Label) (b : ℕ) where
  module _ (low : b < 2) where
    pub link-low : link_number e b ≡ child_number e.start b
    unfolding link_number
    link-low = rw (link_number, lt-ltb b 2 low)

    pub linked-low : (to : ℕ) → linked e b to ≡ record { start = e.start + child_bits to b; length = e.length; address = e.address }
    unfolding linked
    linked-low to = rw (linked, lt-ltb b 2 low)

  module _ (high : 2 ≤ b) where
    pub link-high : link_number e b ≡ child_number e.address b
    unfolding link_number
    link-high = rw (link_number, le-ltb b 2 high)

    pub linked-high : (to : ℕ) → linked e b to ≡ record { start = e.start; length = e.length; address = e.address + child_bits to b }
    unfolding linked
    linked-high to = rw (linked, le-ltb b 2 high)

-- ---- the hash

-- The place of a hash among some roots is one of theirs.
pub scaled_fits : (h k : ℕ) → h % 4294967296 * k ≤ 4294967295 * k
scaled_fits h k = mul-le-mul {n₂ = 4294967295} {m₂ = k} (omega arith) (omega arith)

pub slot-inside : (h : Digest) (k : ℕ) → 0 < k → slot_of h k < k
unfolding slot_of
slot-inside h k some = omega (arith, scaled_fits h.first k)

-- The hash after some threes.
abbrev pub hash_threes : Digest → List (List ℕ) → Digest
hash_threes h [] = h
hash_threes h (w ∷ ws) = hash_threes (mixed h (packed_bytes w)) ws

-- Three bytes at the front.
hash-three : (h : Digest) (u : List ℕ) → 3 ≤ length u → hash_from h u ≡ hash_from (mixed h (packed_bytes (take 3 u))) (drop 3 u)
unfolding hash_from packed_bytes
hash-three h [] f = absurd (omega arith)
hash-three h (a ∷ []) f = absurd (omega arith)
hash-three h (a ∷ b ∷ []) f = absurd (omega arith)
hash-three h (a ∷ b ∷ c ∷ u) f = refl

-- The threes of some bytes, and then those that are left.
hash-chunks : (k : ℕ) (h : Digest) (u : List ℕ) → k * 3 ≤ length u → hash_from (hash_threes h (first_chunks 3 k u)) (drop (k * 3) u) ≡ hash_from h u
hash-chunks zero h u f = refl
hash-chunks (suc k) h u f =
    let e : suc k * 3 ≡ 3 + k * 3 = omega arith in
    rw (e, ← drop-drop (k * 3) 3 u) (hash-chunks k (mixed h (packed_bytes (take 3 u))) (drop 3 u) (omega (arith, length-drop 3 u))) ∙ sym (hash-three h u (omega arith))

-- No three is left.
pub hash-threes-done : (h : Digest) (ws : List (List ℕ)) (i : ℕ) → length ws ≤ i → hash_threes h (drop i ws) ≡ h
hash-threes-done h [] i f = rw drop-nil refl
hash-threes-done h (w ∷ ws) zero f = absurd (omega arith)
hash-threes-done h (w ∷ ws) (suc i) f = hash-threes-done h ws i (omega arith)

-- All of them.
pub hash-all : (u : List ℕ) {threes : List (List ℕ)} {rest : List ℕ} → threes ≡ first_chunks 3 (length u / 3) u → rest ≡ drop (length u / 3 * 3) u
    → mixed (hash_from (hash_threes no_hash threes) rest) 0 ≡ hash_of u
unfolding hash_of
hash-all u e f = rw (e, f, hash-chunks (length u / 3) no_hash u (omega arith))

module _ (h : Digest) where
  -- The last bytes by themselves.
  pub hash-one : (u : List ℕ) (i : ℕ) → i < length u → length u < 3 → hash_from h (drop i u) ≡ hash_from (mixed h (get_or u i 0)) (drop (i + 1) u)
  unfolding hash_from
  hash-one [] i f g = absurd (omega arith)
  hash-one (a ∷ []) zero f g = refl
  hash-one (a ∷ []) (suc i) f g = absurd (omega arith)
  hash-one (a ∷ b ∷ []) zero f g = refl
  hash-one (a ∷ b ∷ []) (suc zero) f g = refl
  hash-one (a ∷ b ∷ []) (suc (suc i)) f g = absurd (omega arith)
  hash-one (a ∷ b ∷ c ∷ u) i f g = absurd (omega arith)

  pub hash-done : (u : List ℕ) (i : ℕ) → length u ≤ i → hash_from h (drop i u) ≡ h
  unfolding hash_from
  hash-done [] i f = rw drop-nil refl
  hash-done (a ∷ u) zero f = absurd (omega arith)
  hash-done (a ∷ u) (suc i) f = hash-done u i (omega arith)

-- ---- behind an entry

module _ (s : List ℕ) (q : Search) (at : ℕ) (e : Label) where
  abbrev is-hit : Bool
  is-hit = hits s e q.key (sought s q)

  pub visited-hit : is-hit ≡ true → visited s q at e ≡ ended_at q (Known at)
  unfolding visited
  visited-hit h = rw (visited, h)

  pub visited_on : is-hit ≡ false → (l : Maybe ℕ) → link e (branch_of q.path) ≡ l → visited s q at e ≡ passed s q at e l
  unfolding visited
  visited_on h l f = rw (visited, h) (ap (passed s q at e) f)
