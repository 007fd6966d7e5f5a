-- Whether some labels have a spelling, the address of the one that has it, and entering a label behind them.
use Prim.Native.Nat.{ℕ, zero, suc, ◌<◌}
use Rattle.std.specs.Prelude.{⊤, Result, Ok, Err}
use mathlib.Core.Path.{◌≡◌, refl, sym, ap, subst, ◌∙◌}
use mathlib.Core.Option.{Option, none, some}
use native.Mathlib.Omega.{arith}
use mathlib.Core.Bool.{true, false}
use mathlib.Core.List.{List, [], ◌∷◌, map}
use lib.Dec.{ltb}
use lib.ListN.{length, take, drop, get_or, set, length-take, length-drop}
use Rattle.text_lexical.specs.Bytes.{same, find, is_some}
use Rattle.text_lexical.proofs.Tests.{by-test}
use Rattle.text_lexical.proofs.Strings.{same-eq, eq-same}
use Rattle.refusal.specs.declared.refusal.Refusal.{Refusal}
use Rattle.refusal.specs.declared.refusal.Refusal.TheVariants.{DuplicateLabel, TableFull}
use Rattle.image_labels.specs.declared.label.Label.{Label}
use Rattle.image.specs.Assembling.{address_of}
use Rattle.image.specs.Assembling.{Label as Meant}
use Rattle.image_labels.specs.Promised.{entry_of, InText, spelled, no_label, any_named, index_of, address_at, entry_fault, room_for, Enters, Spelled}

-- A spelling is as long as its label says.
pub spelled-long : (s : List ℕ) (l : Label) → InText s l → length (spelled s l) ≡ l.length
spelled-long s l h = length-take l.length (drop l.start s) ∙ omega (arith, length-drop l.start s, h)

-- The address of the label at an index, if there is one.
abbrev pub address-in : List Label → Option ℕ → Option ℕ
address-in ls none = none
address-in ls (some i) = some (get_or ls i no_label).address

address-later : (l : Label) (ls : List Label) (x : Option ℕ) → address-in ls x ≡ address-in (l ∷ ls) (elim x [ none ↦ none | some i ↦ some (suc i) ])
address-later l ls none = refl
address-later l ls (some i) = refl

module _ (s u : List ℕ) where
  -- One of them has it,
  pub one-named : (ls : List Label) (i : ℕ) → i < length ls → spelled s (get_or ls i no_label) ≡ u → any_named s ls u ≡ true
  unfolding any_named
  one-named [] i h e = absurd (omega arith)
  one-named (l ∷ ls) zero h e = rw (any_named, eq-same (spelled s l) u e)
  one-named (l ∷ ls) (suc i) h e = by-test (same (spelled s l) u) (λ y. rw (any_named, y)) (λ n. rw (any_named, n) (one-named ls i (omega arith) e))

  -- or none.
  pub none_named : (ls : List Label) → ((i : ℕ) → i < length ls → spelled s (get_or ls i no_label) ≡ u → ⊥) → any_named s ls u ≡ false
  unfolding any_named
  none_named [] f = refl
  none_named (l ∷ ls) f =
      by-test (same (spelled s l) u) (λ y. absurd (f 0 (omega arith) (same-eq _ _ y))) (λ n. rw (any_named, n) (none_named ls (λ i h e. f (suc i) (omega arith) e)))

  -- The first that has it,
  pub index_at : (ls : List Label) (i : ℕ) → i < length ls → spelled s (get_or ls i no_label) ≡ u → ((j : ℕ) → j < i → spelled s (get_or ls j no_label) ≡ u → ⊥) → index_of s ls u ≡ some i
  unfolding index_of
  index_at [] i h e f = absurd (omega arith)
  index_at (l ∷ ls) zero h e f = rw (index_of, eq-same (spelled s l) u e)
  index_at (l ∷ ls) (suc i) h e f =
      by-test (same (spelled s l) u) (λ y. absurd (f 0 (omega arith) (same-eq _ _ y)))
      (λ n. rw (index_of, n, index_at ls i (omega arith) e (λ j d g. f (suc j) (omega arith) g)))

  -- or none does.
  pub index-none : (ls : List Label) → ((i : ℕ) → i < length ls → spelled s (get_or ls i no_label) ≡ u → ⊥) → index_of s ls u ≡ none
  unfolding index_of
  index-none [] f = refl
  index-none (l ∷ ls) f =
      by-test (same (spelled s l) u) (λ y. absurd (f 0 (omega arith) (same-eq _ _ y))) (λ n. rw (index_of, n, index-none ls (λ i h e. f (suc i) (omega arith) e)))

  -- The label at the index has it.
  number : Option ℕ → ℕ
  number none = 0
  number (some i) = suc i

  index-step : (x : Option ℕ) (i : ℕ) → ◌≡◌ {A = Option ℕ} (elim x [ none ↦ none | some k ↦ some (suc k) ]) (some i) → (k : ℕ) × ((x ≡ some k) × (i ≡ suc k))
  unfolding number
  index-step none i e = let y : 0 ≡ suc i = ap number e in absurd (omega arith)
  index-step (some k) i e = let y : suc (suc k) ≡ suc i = ap number e in (k, (refl, omega arith))

  pub index-names : (ls : List Label) (i : ℕ) → index_of s ls u ≡ some i → (i < length ls) × (spelled s (get_or ls i no_label) ≡ u)
  unfolding index_of number
  index-names [] i e = let y : 0 ≡ suc i = ap number e in absurd (omega arith)
  index-names (l ∷ ls) i e =
      by-test (same (spelled s l) u)
      (λ y. let z : 1 ≡ suc i = ap number (rw (index_of, y) at e) in let w : 0 ≡ i = omega arith in
      subst (λ (j : ℕ). (j < length (l ∷ ls)) × (spelled s (get_or (l ∷ ls) j no_label) ≡ u)) w (omega arith, same-eq _ _ y))
      (λ n. let (k, (f, g)) = index-step (index_of s ls u) i (rw (index_of, n) at e) in let h = index-names ls k f in
      subst (λ (j : ℕ). (j < length (l ∷ ls)) × (spelled s (get_or (l ∷ ls) j no_label) ≡ u)) (sym g) (omega (arith, h.0), h.1))

  -- Whether one of them does.
  some-later : (x : Option ℕ) → is_some x ≡ is_some {A = ℕ} (elim x [ none ↦ none | some i ↦ some (suc i) ])
  unfolding is_some
  some-later none = refl
  some-later (some i) = refl

  pub any-index : (ls : List Label) → any_named s ls u ≡ is_some (index_of s ls u)
  unfolding index_of any_named is_some
  any-index [] = refl
  any-index (l ∷ ls) = by-test (same (spelled s l) u) (λ y. rw (any_named, index_of, y)) (λ n. rw (any_named, index_of, n) (any-index ls ∙ some-later (index_of s ls u)))

  -- The address is that of the label at the index.
  pub address-index : (ls : List Label) → address_at s ls u ≡ address-in ls (index_of s ls u)
  unfolding index_of address_at
  address-index [] = refl
  address-index (l ∷ ls) =
      by-test (same (spelled s l) u) (λ y. rw (address_at, index_of, y)) (λ n. rw (address_at, index_of, n) (address-index ls ∙ address-later l ls (index_of s ls u)))

  -- Among the entries of labels, it is that of the label that is spelled so.
  pub address-is : (ls : List Meant) → Spelled s ls → address_at s (map entry_of ls) u ≡ address_of ls u
  unfolding address_at address_of find
  address-is [] h = refl
  address-is (l ∷ ls) h =
      by-test (same l.spelling u)
      (λ e. rw (address_at, address_of, find, h.0, e))
      (λ e. rw (address_at, address_of, find, h.0, e) (address-is ls h.2))

module _ (s : List ℕ) (table : List Label) (count : ℕ) (l : Label) where
  pub enters-known : any_named s (take count table) (spelled s l) ≡ true → Enters s table count l table (Err DuplicateLabel)
  unfolding entry_fault
  enters-known e = record { answer = rw e; holds = rw e }

  module _ (e : any_named s (take count table) (spelled s l) ≡ false) (table' : List Label) (h : table' ≡ set table count l) where
    pub enters-new : ltb count (length table) ≡ true → Enters s table count l table' (Ok tt)
    unfolding entry_fault
    enters-new f = record { answer = rw (e, f); holds = rw e h }

    pub enters-full : ltb count (length table) ≡ false → Enters s table count l table' (Err TableFull)
    unfolding entry_fault
    enters-full f = record { answer = rw (e, f); holds = rw e h }

-- ---- room

module _ (at : ℕ) (t : List Label) where
  pub has-room : {u : ⊤} → room_for at t ≡ Ok u → ltb at (length t) ≡ true
  has-room {u} e = by-test (ltb at (length t)) (λ y. y) (λ n. let x : ◌≡◌ {A = Result ⊤ Refusal} (Err TableFull) (Ok u) = rw (room_for, n) at e in cc)

  pub no-room : {r : Refusal} → room_for at t ≡ Err r → (ltb at (length t) ≡ false) × (TableFull ≡ r)
  no-room {r} e =
      by-test (ltb at (length t)) (λ y. let x : ◌≡◌ {A = Result ⊤ Refusal} (Ok tt) (Err r) = rw (room_for, y) at e in cc)
      (λ n. (n, let x : ◌≡◌ {A = Result ⊤ Refusal} (Err TableFull) (Err r) = rw (room_for, n) at e in cc))
