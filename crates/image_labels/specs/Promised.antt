-- What a lent label table holds, and what its functions promise. Quotations are document 01's.
use Rattle.std.specs.Prelude.{ℕ, suc, ◌+◌, ◌≤◌, ◌≡◌, Bool, true, false, List, [], ◌∷◌, length, take, drop, set, ltb, ⊤, Result, Ok, Err, Some, None}
use Rattle.std.specs.Prelude.{Option as Maybe}
use Rattle.std.proofs.Math.Option.{Option, none, some}
use Rattle.text_lexical.specs.Bytes.{same}
use Rattle.refusal.specs.Refusals.{fault_of}
use Rattle.refusal.specs.declared.refusal.Refusal.{Refusal}
use Rattle.refusal.specs.declared.refusal.Refusal.TheVariants.{TableFull}
use Rattle.image.specs.Assembling.{Label as Meant}
use Rattle.image_labels.specs.declared.label.Label.{Label}

-- "entries of start, length, address": the entry of a label.
abbrev pub entry_of : Meant → Label
entry_of l = record { start = l.start; length = length l.spelling; address = l.address }

-- A label is a part of a source, which is lent beside it, so that this cannot be an invariant of the label;
abbrev pub InText : List ℕ → Label → Type 0
InText s l = l.start + l.length ≤ length s

-- that part is its spelling.
abbrev pub spelled : List ℕ → Label → List ℕ
spelled s l = take l.length (drop l.start s)

-- What stands for an entry where there is none.
abbrev pub no_label : Label
no_label = record { start = 0; length = 0; address = 0 }

-- "compared case-sensitively": whether one of some labels has a spelling.
unfoldable pub any_named : List ℕ → List Label → List ℕ → Bool
any_named s [] u = false
any_named s (l ∷ ls) u = elim (same (spelled s l) u) [ true ↦ true | false ↦ any_named s ls u ]

-- Which of some labels has a spelling: the first that does.
unfoldable pub index_of : List ℕ → List Label → List ℕ → Option ℕ
index_of s [] u = none
index_of s (l ∷ ls) u = elim (same (spelled s l) u) [ true ↦ some 0 | false ↦ elim (index_of s ls u) [ none ↦ none | some i ↦ some (suc i) ] ]

-- The address of the label that has a spelling, if one does: of the first that does.
unfoldable pub address_at : List ℕ → List Label → List ℕ → Option ℕ
address_at s [] u = none
address_at s (l ∷ ls) u = elim (same (spelled s l) u) [ true ↦ some l.address | false ↦ address_at s ls u ]

-- What an address that is answered means, or none.
abbrev pub address_meant : Maybe ℕ → Option ℕ
address_meant (Some a) = some a
address_meant None = none

-- "4 duplicate label; 5 new label, table full"
unfoldable pub entry_fault : Bool → Bool → Option ℕ
entry_fault known room = elim known [ true ↦ some 4 | false ↦ elim room [ true ↦ none | false ↦ some 5 ] ]

-- Whether a table has room for an entry at a place.
abbrev pub room_for : ℕ → List Label → Result ⊤ Refusal
room_for at t = elim (ltb at (length t)) [ true ↦ Ok tt | false ↦ Err TableFull ]

-- How many labels there are after an attempt to enter one.
abbrev pub count_after : ℕ → Result ⊤ Refusal → ℕ
count_after count (Ok u) = suc count
count_after count (Err r) = count

-- Entering a label after `count` others of a table: the answer, and the table afterwards. (`set` leaves a list as it is at a place
-- after its end.)
pub record Enters (s : List ℕ) (table : List Label) (count : ℕ) (l : Label) (table' : List Label) (r : Result ⊤ Refusal) : Type 0 where
  pub answer : fault_of r ≡ entry_fault (any_named s (take count table) (spelled s l)) (ltb count (length table))
  pub holds : table' ≡ elim (any_named s (take count table) (spelled s l)) [ true ↦ table | false ↦ set table count l ]

-- The spellings of labels stand in a source, where their entries say.
abbrev pub Spelled : List ℕ → List Meant → Type 0
Spelled s [] = Unit {0}
Spelled s (l ∷ ls) = (spelled s (entry_of l) ≡ l.spelling) × InText s (entry_of l) × Spelled s ls
