-- Labels that instructions name: lines that name none have no fault, what it tells that there is none, and that `jal` reaches every label.
use mathlib.Core.Path.{◌≡◌, refl, sym, ap, ◌∙◌, subst}
use Prim.Native.Nat.{ℕ, zero, suc, ◌+◌, ◌-◌, ◌*◌, ◌^◌, ◌≤◌}
use native.Mathlib.Nat.{add_assoc, add-zero}
use native.Mathlib.Omega.{arith}
use mathlib.Core.Bool.{Bool, true, false, ◌||◌}
use mathlib.Core.Option.{Option, none, some}
use mathlib.Core.List.{List, [], ◌∷◌, ◌++◌}
use lib.Dec.{leb}
use lib.IntN.{pos}
use borrow.Author.Tests.{lt-ltb}
use Rattle.text_lexical.specs.Numbers.{minus, is_signed}
use Rattle.text_lexical.specs.Names.{Name}
use Rattle.instruction.specs.Table.{Form, Branch}
use Rattle.instruction.specs.Operands.{Amount, exactly, to, Draft}
use Rattle.image.specs.Program.{entry}
use Rattle.image.specs.Assembling.{State, Effect, nothing, sets, codes, faulty, Read, reads, address_of, address_after, words_of, is_labelled, address_in, distance, in_reach, amount_fault, draft_fault, target_fault, Fault, first_fault, fault_in, accepted, reading}
use Rattle.image.specs.Meaning.{resolved, settled, instructions_of, is_target, names_target, any_target}
use Rattle.image.proofs.Walking.{words_in, coded-length, MeansIf, Means, reading-means}

-- ---- lines that name no label

neither : (v w : Bool) → (v || w) ≡ false → (v ≡ false) × (w ≡ false)
neither false w h = (refl, h)
neither true w h = (h, absurd (let z : ◌≡◌ {A = Bool} true false = h in cc))

module _ (addresses : List ℕ → Option ℕ) where
  no-label : (words : ℕ) (e : Effect) → names_target e ≡ false → target_fault addresses words e ≡ none
  unfolding names_target target_fault draft_fault amount_fault is_target
  no-label words nothing h = refl
  no-label words (sets s) h = refl
  no-label words (faulty n) h = refl
  no-label words (codes d) h = go d.amount h
    where
      go : (o : Option Amount) → is_target o ≡ false
          → ◌≡◌ {A = Option ℕ} (elim o [ none ↦ none | some a ↦ amount_fault addresses words d.row.form a ]) none
      go none h = refl
      go (some (exactly z)) h = refl
      go (some (to u)) h = absurd (let z : ◌≡◌ {A = Bool} true false = h in cc)

  no-target-from : (line words : ℕ) (rs : List Read) → any_target rs ≡ false → first_fault addresses line words rs ≡ none
  unfolding any_target first_fault
  no-target-from line words [] h = refl
  no-target-from line words (r ∷ rs) h =
      let (a, b) = neither (names_target r.effect) (any_target rs) h in
      rw (first_fault, no-label words r.effect a) (no-target-from (suc line) (words + words_of r.effect) rs b)

-- They have no fault.
pub no-target : (rs : List Read) → any_target rs ≡ false → fault_in rs ≡ none
unfolding fault_in
no-target rs h = no-target-from (address_in 0 rs) 1 0 rs h

-- ---- lines without a fault

words-append : (above below : List Read) → words_in (above ++ below) ≡ words_in above + words_in below
unfolding words_in
words-append [] below = omega arith
words-append (r ∷ above) below = omega (arith, words-append above below)

-- A label that an instruction names: it is in the source, and within reach.
pub record Reaches (addresses : List ℕ → Option ℕ) (words : ℕ) (f : Form) (u : List ℕ) : Type 0 where
  pub address : ℕ
  pub is_there : addresses u ≡ some address
  pub within : in_reach f (distance words address) ≡ true

module _ (addresses : List ℕ → Option ℕ) where
  head-none : (words line : ℕ) (r : Read) (rs : List Read) → first_fault addresses line words (r ∷ rs) ≡ none
      → (target_fault addresses words r.effect ≡ none) × (first_fault addresses (suc line) (words + words_of r.effect) rs ≡ none)
  unfolding first_fault
  head-none words line r rs h = go (target_fault addresses words r.effect) (first_fault addresses (suc line) (words + words_of r.effect) rs) h
    where
      go : (o : Option ℕ) (p : Option Fault) → ◌≡◌ {A = Option Fault} (elim o [ some n ↦ some (record { number = n; line = line }) | none ↦ p ]) none
          → (o ≡ none) × (p ≡ none)
      go none p h = (refl, h)
      go (some n) p h = absurd (let z : ◌≡◌ {A = ℕ} 0 1 = cc in omega arith)

  -- Where lines have no fault, each one has none, with so many words before it as those above it come to.
  pub no-fault-at : (line words : ℕ) (above : List Read) (r : Read) (below : List Read)
      → first_fault addresses line words (above ++ (r ∷ below)) ≡ none → target_fault addresses (words + words_in above) r.effect ≡ none
  unfolding words_in
  no-fault-at line words [] r below h = rw add-zero ((head-none words line r below h).0)
  no-fault-at line words (k ∷ above) r below h =
      rw (← add_assoc words (words_of k.effect) (words_in above))
      (no-fault-at (suc line) (words + words_of k.effect) above r below (head-none words line k (above ++ (r ∷ below)) h).1)

  -- An instruction without a fault that names a label reaches it.
  pub label-reached : (words : ℕ) (d : Draft) (u : List ℕ) → target_fault addresses words (codes d) ≡ none → d.amount ≡ some (to u) → Reaches addresses words d.row.form u
  unfolding target_fault draft_fault amount_fault
  label-reached words d u h e = by-address (addresses u) refl (rw e at h)
    where
      by-reach : (a : ℕ) (v : Bool) → addresses u ≡ some a → in_reach d.row.form (distance words a) ≡ v
          → ◌≡◌ {A = Option ℕ} (elim v [ true ↦ none | false ↦ some 34 ]) none → Reaches addresses words d.row.form u
      by-reach a true p q h = record { address = a; is_there = p; within = q }
      by-reach a false p q h = absurd (let z : ◌≡◌ {A = ℕ} 0 1 = cc in omega arith)

      by-address : (o : Option ℕ) → addresses u ≡ o
          → ◌≡◌ {A = Option ℕ} (elim o [ none ↦ some 33 | some a ↦ elim (in_reach d.row.form (distance words a)) [ true ↦ none | false ↦ some 34 ] ]) none
          → Reaches addresses words d.row.form u
      by-address none p h = absurd (let z : ◌≡◌ {A = ℕ} 0 1 = cc in omega arith)
      by-address (some a) p h = by-reach a (in_reach d.row.form (distance words a)) p refl h

  -- A branch does so within 17 bits.
  pub branch-within : (words : ℕ) (f : Form) (u : List ℕ) (r : Reaches addresses words f u) → f ≡ Branch → is_signed 17 (distance words r.address) ≡ true
  unfolding in_reach
  branch-within words f u r e = rw e at r.within

-- ---- jal

-- A distance of at most 131,072 bytes, forwards or back, is one of 21 bits.
forwards : (n : ℕ) → n ≤ 131072 → is_signed 21 (pos n) ≡ true
unfolding is_signed
forwards n h = lt-ltb n (2 ^ 20) (omega arith)

backwards : (n : ℕ) → n ≤ 131072 → is_signed 21 (minus n) ≡ true
unfolding is_signed minus
backwards zero h = refl
backwards (suc n) h = lt-ltb n (2 ^ 20) (omega arith)

-- So two places with at most 32,768 words before each are no further apart than that.
pub jal-reaches : (words words' : ℕ) → words ≤ 32768 → words' ≤ 32768 → is_signed 21 (distance words (address_after words')) ≡ true
unfolding distance address_after entry
jal-reaches words words' l l' = go (leb (entry + 4 * words) (entry + 4 * words'))
  where
    go : (v : Bool) → is_signed 21 (elim v [ true ↦ pos (entry + 4 * words' - (entry + 4 * words)) | false ↦ minus (entry + 4 * words - (entry + 4 * words')) ]) ≡ true
    go true = forwards (entry + 4 * words' - (entry + 4 * words)) (omega arith)
    go false = backwards (entry + 4 * words - (entry + 4 * words')) (omega arith)

-- The address of a label is that of such a place among the lines.
pub address-placed : (words : ℕ) (rs : List Read) (u : List ℕ) (a : ℕ) → address_in words rs u ≡ some a → (w : ℕ) × (a ≡ address_after w) × (w ≤ words + words_in rs)
unfolding address_in words_in
address-placed words [] u a e = absurd (let z : ◌≡◌ {A = ℕ} 0 1 = cc in omega arith)
address-placed words (r ∷ rs) u a e = go (is_labelled r u) e (address-placed (words + words_of r.effect) rs u a)
  where
    later : ℕ
    later = words + words_of r.effect

    Placed : ℕ → Type 0
    Placed n = (w : ℕ) × (a ≡ address_after w) × (w ≤ n)

    go : (v : Bool) → ◌≡◌ {A = Option ℕ} (elim v [ true ↦ some (address_after words) | false ↦ address_in later rs u ]) (some a)
        → (address_in later rs u ≡ some a → Placed (later + words_in rs)) → Placed (words + (words_of r.effect + words_in rs))
    go true e f = (words, cc, omega arith)
    go false e f = let (w, p, l) = f e in (w, p, omega arith)

-- ---- an accepted source

-- The number of an instruction that names a label is the distance to the label's address.
pub settled-number : (addresses : List ℕ → Option ℕ) (words : ℕ) (d : Draft) (u : List ℕ) (a : ℕ)
    → d.amount ≡ some (to u) → addresses u ≡ some a → (settled addresses words d).number ≡ some (distance words a)
unfolding settled resolved
settled-number addresses words d u a t h = rw (t, resolved, h)

module _ (names : List Name) (source : List ℕ) (room : ℕ) (st : State) (e : reading names source room ≡ accepted st) where
  accepted-means : Means names source st
  accepted-means = subst (MeansIf names source) e (reading-means names source room)

  -- It has no fault,
  pub accepted-no-fault : fault_in (reads names source) ≡ none
  accepted-no-fault = accepted-means.no-fault

  module _ (above : List Read) (r : Read) (below : List Read) (s : reads names source ≡ above ++ (r ∷ below)) where
    -- so no line of it has one.
    pub accepted-line : target_fault (address_in 0 (reads names source)) (words_in above) r.effect ≡ none
    unfolding fault_in
    accepted-line =
        let h : first_fault (address_in 0 (reads names source)) 1 0 (above ++ (r ∷ below)) ≡ none
        = ap (first_fault (address_in 0 (reads names source)) 1 0) (sym s) ∙ accepted-no-fault in
        ap (λ (n : ℕ). target_fault (address_in 0 (reads names source)) n r.effect) (omega arith) ∙ no-fault-at (address_in 0 (reads names source)) 1 0 above r below h

    few-above : words_in above ≤ 32768
    unfolding instructions_of words_in
    few-above =
        let m = accepted-means in
        let n = ap words_in s in
        omega (arith, m.words, m.few, coded-length (address_in 0 (reads names source)) 0 (reads names source), words-append above (r ∷ below))

    module _ (d : Draft) (c : r.effect ≡ codes d) (u : List ℕ) (t : d.amount ≡ some (to u)) where
      -- A label that it names is reached,
      pub accepted-reaches : Reaches (address_in 0 (reads names source)) (words_in above) d.row.form u
      accepted-reaches = label-reached (address_in 0 (reads names source)) (words_in above) d u (rw c at accepted-line) t

      -- its address is the one that was entered,
      pub accepted-entered : address_of st.labels u ≡ some accepted-reaches.address
      accepted-entered = accepted-means.addresses u ∙ accepted-reaches.is_there

      -- the instruction's number is the distance to it,
      pub accepted-number : (settled (address_in 0 (reads names source)) (words_in above) d).number ≡ some (distance (words_in above) accepted-reaches.address)
      accepted-number = settled-number (address_in 0 (reads names source)) (words_in above) d u accepted-reaches.address t accepted-reaches.is_there

      -- and that is one of 21 bits.
      pub accepted-jal : is_signed 21 (distance (words_in above) accepted-reaches.address) ≡ true
      unfolding instructions_of
      accepted-jal =
          let q = accepted-reaches in
          let (w, p, l) = address-placed 0 (reads names source) u q.address q.is_there in
          let m = accepted-means in
          ap (λ (a : ℕ). is_signed 21 (distance (words_in above) a)) p
          ∙ jal-reaches (words_in above) w few-above (omega (arith, m.words, m.few, coded-length (address_in 0 (reads names source)) 0 (reads names source)))
