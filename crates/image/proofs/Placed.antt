-- Where the instruction of a line stands among those of its source.
use mathlib.Core.Path.{◌≡◌, refl, sym, ap, ◌∙◌}
use Prim.Native.Nat.{ℕ, ◌+◌}
use native.Mathlib.Nat.{add_assoc, add-zero}
use native.Mathlib.Omega.{arith}
use mathlib.Core.Option.{Option}
use mathlib.Core.List.{List, [], ◌∷◌, ◌++◌, append_assoc}
use Rattle.text_lexical.specs.Names.{Name}
use Rattle.instruction.specs.Operands.{Instruction, Draft}
use Rattle.image.specs.Assembling.{Read, codes, reads, words_of, address_in}
use Rattle.image.specs.Meaning.{settled, coded_by, coded_in, instructions_of}
use Rattle.image.proofs.Walking.{words_in}

module _ (addresses : List ℕ → Option ℕ) where
  -- The instructions of lines, and of those below them.
  pub coded-append : (words : ℕ) (above below : List Read)
      → coded_in addresses words (above ++ below) ≡ coded_in addresses words above ++ coded_in addresses (words + words_in above) below
  unfolding coded_in words_in
  coded-append words [] below = rw add-zero refl
  coded-append words (r ∷ above) below =
      let one = coded_by addresses words r.effect in
      let next = words + words_of r.effect in
      ap (λ (x : List Instruction). one ++ x) (coded-append next above below)
      ∙ sym (append_assoc one (coded_in addresses next above) (coded_in addresses (next + words_in above) below))
      ∙ ap (λ (n : ℕ). (one ++ coded_in addresses next above) ++ coded_in addresses n below) (add_assoc words (words_of r.effect) (words_in above))

module _ (names : List Name) (source : List ℕ) (above : List Read) (r : Read) (below : List Read) (s : reads names source ≡ above ++ (r ∷ below)) (d : Draft) (c : r.effect ≡ codes d) where
  -- A line's instruction stands after those of the lines above it.
  pub placed-instruction : instructions_of names source ≡ coded_in (address_in 0 (reads names source)) 0 above ++ (settled (address_in 0 (reads names source)) (words_in above) d ∷ coded_in (address_in 0 (reads names source)) (words_in above + words_of r.effect) below)
  unfolding instructions_of coded_in coded_by
  placed-instruction =
      let zero-first : 0 + words_in above ≡ words_in above = omega arith in
      ap (coded_in (address_in 0 (reads names source)) 0) s ∙ coded-append (address_in 0 (reads names source)) 0 above (r ∷ below)
      ∙ (λ j. coded_in (address_in 0 (reads names source)) 0 above ++ (coded_by (address_in 0 (reads names source)) (zero-first j) (c j) ++ coded_in (address_in 0 (reads names source)) (zero-first j + words_of r.effect) below))
