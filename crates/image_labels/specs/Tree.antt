-- While labels are entered, their entries are the nodes of 4-way tries, in which a spelling is looked for from the root of its hash bucket
-- on. These definitions follow the code; document 01 knows nothing of them: which bucket and which branches a spelling takes and how it is
-- hashed could be otherwise, and what is found does not depend on it.
use Rattle.std.specs.Prelude.{ℕ, zero, suc, ◌+◌, ◌*◌, ◌/◌, ◌%◌, ◌≤◌, ◌<◌, ◌≡◌, Bool, true, false, List, [], ◌∷◌, length, take, get_or, set, leb, ltb, eqb, ⊤, Result, Ok, Err, Some, None}
use Rattle.std.specs.Prelude.{Option as Maybe}
use Rattle.std.proofs.Math.Option.{Option, none, some}
use Rattle.text_lexical.specs.Bytes.{same}
use Rattle.refusal.specs.declared.refusal.Refusal.{Refusal}
use Rattle.image_labels.specs.Promised.{InText, spelled, no_label, index_of}
use Rattle.image_labels.specs.declared.label.Label.{Label}
use Rattle.image_labels.specs.declared.label.Gap.{Gap}
use Rattle.image_labels.specs.declared.label.Labels.{Labels}
use Rattle.image_labels.specs.declared.tree.Digest.{Digest}
use Rattle.image_labels.specs.declared.tree.PathBits.{PathBits}
use Rattle.image_labels.specs.declared.tree.Parent.{Parent}
use Rattle.image_labels.specs.declared.tree.Stage.{Stage}
use Rattle.image_labels.specs.declared.tree.Stage.TheVariants.{At, Known, Missing}
use Rattle.image_labels.specs.declared.tree.Search.{Search}

-- ---- entries

-- The label of an entry. Above its start and its address an entry holds where it leads to, above its length a part of its spelling's hash.
abbrev pub plain : Label → Label
plain e = record { start = e.start % 2097152; length = e.length % 2097152; address = e.address % 2097152 }

-- A table with labels for its first entries.
unfoldable pub unlinked : ℕ → List Label → List Label
unlinked zero t = t
unlinked (suc n) [] = []
unlinked (suc n) (e ∷ t) = plain e ∷ unlinked n t

-- One of the two child numbers that are packed above a part of an entry: the upper one for an odd branch.
unfoldable pub child_number : ℕ → ℕ → ℕ
child_number part branch = elim (eqb (branch % 2) 1) [ true ↦ part / 4398046511104 | false ↦ part / 2097152 % 2097152 ]

-- The place before a number: numbers from 1 on are stored for places, and 0 for none.
abbrev pub place_before : ℕ → Maybe ℕ
place_before zero = None
place_before (suc i) = Some i

-- The number of an entry's child at a branch, 0 to 3,
unfoldable pub link_number : Label → ℕ → ℕ
link_number e branch = elim (ltb branch 2) [ true ↦ child_number e.start branch | false ↦ child_number e.address branch ]

-- and the child.
abbrev pub link : Label → ℕ → Maybe ℕ
link e branch = place_before (link_number e branch)

unfoldable pub child_bits : ℕ → ℕ → ℕ
child_bits to branch = elim (eqb (branch % 2) 1) [ true ↦ 4398046511104 * to | false ↦ 2097152 * to ]

unfoldable pub linked : Label → ℕ → ℕ → Label
linked e branch to =
    elim (ltb branch 2) [
      | true ↦ record { start = e.start + child_bits to branch; length = e.length; address = e.address }
      | false ↦ record { start = e.start; length = e.length; address = e.address + child_bits to branch }
    ]

-- ---- spellings

-- A hash with up to three bytes more, as one number, the first byte lowest.
unfoldable pub mixed : Digest → ℕ → Digest
mixed h w =
    record {
      first = h.first % 4294967296 * (2654435761 + 89 * w) + (h.second / 4294967296 + w);
      second = h.second % 4294967296 * (2246822519 + 113 * w) + (h.first / 4294967296 + w);
    }

-- Three bytes as one number, the first byte lowest.
unfoldable pub packed_bytes : List ℕ → ℕ
packed_bytes w = get_or w 0 0 + 256 * get_or w 1 0 + 65536 * get_or w 2 0

unfoldable pub hash_from : Digest → List ℕ → Digest
hash_from h [] = h
hash_from h (a ∷ []) = mixed h a
hash_from h (a ∷ b ∷ []) = mixed (mixed h a) b
hash_from h (a ∷ b ∷ c ∷ u) = hash_from (mixed h (a + 256 * b + 65536 * c)) u

abbrev pub no_hash : Digest
no_hash = record { first = 11400714819323198485; second = 13787848793156543929 }

-- The last bytes are mixed once more, so that they reach the lowest bits.
unfoldable pub hash_of : List ℕ → Digest
hash_of u = mixed (hash_from no_hash u) 0

-- The path bits of a spelling, two for each branch: those of its hash, then those of its bytes, the lowest first. A 1 stands after the last.
unfoldable pub first_path : List ℕ → PathBits
first_path u =
    record { bits = 4611686018427387904 + (hash_of u).first % 4611686018427387904; rest = Some (4611686018427387904 + (hash_of u).second % 4611686018427387904); used = 0 }

unfoldable pub advanced : List ℕ → PathBits → PathBits
advanced u t =
    elim (ltb 1 (t.bits / 4)) [
      | true ↦ record { bits = t.bits / 4; rest = t.rest; used = t.used }
      | false ↦ elim t.rest [
        | Some bits ↦ record { bits = bits; rest = None; used = t.used }
        | None ↦ elim (leb (length u) t.used) [
          | true ↦ record { bits = 256; rest = None; used = t.used }
          | false ↦ record { bits = 256 + get_or u t.used 0; rest = None; used = t.used + 1 }
        ]
      ]
    ]

-- The next branch.
unfoldable pub branch_of : PathBits → ℕ
branch_of t = t.bits % 4

-- What an entry of a spelling holds for its length.
unfoldable pub key_of : List ℕ → ℕ
key_of u = length u + 2097152 * ((hash_of u).second / 2097152)

-- ---- roots

-- There are roots, and so few that their number times one of 32 bits fits a word.
pub record Rootable (roots : List ℕ) : Type 0 where
  pub some : 0 < length roots
  pub few : length roots ≤ 65536

-- The place of a hash among some roots: 32 bits of it, in proportion.
unfoldable pub slot_of : Digest → ℕ → ℕ
slot_of h k = h.first % 4294967296 * k / 4294967296

-- The root at a place of some roots, and that of a spelling.
abbrev pub root_at : List ℕ → ℕ → Maybe ℕ
root_at roots slot = place_before (get_or roots slot 0)

abbrev pub root_of : List ℕ → List ℕ → Maybe ℕ
root_of roots u = root_at roots (slot_of (hash_of u) (length roots))

-- Roots once a label is entered after n others into a bucket: it is the root where there was none.
unfoldable pub with_root_at : List ℕ → ℕ → ℕ → List ℕ
with_root_at roots n slot = elim (root_at roots slot) [ None ↦ set roots slot (n + 1) | Some i ↦ roots ]

abbrev pub with_root : List ℕ → ℕ → List ℕ → List ℕ
with_root roots n u = with_root_at roots n (slot_of (hash_of u) (length roots))

-- None of them leads to an entry as yet.
pub record Bare (roots : List ℕ) : Type 0 where
  pub rootable : Rootable roots
  pub none_there : (i : ℕ) → get_or roots i 0 ≡ 0

-- ---- searches

-- A part of a source, as a label that has no address as yet.
abbrev pub span : ℕ → ℕ → Label
span start n = record { start = start; length = n; address = 0 }

-- Whether an entry is of a spelling.
unfoldable pub hits : List ℕ → Label → ℕ → List ℕ → Bool
hits s e key u = elim (eqb e.length key) [ true ↦ same (spelled s (plain e)) u | false ↦ false ]

-- The spelling that a search is for.
abbrev pub sought : List ℕ → Search → List ℕ
sought s q = spelled s (span q.start q.length)

-- The search for a label after `count` others, from its root on,
abbrev pub first_stage : Maybe ℕ → Stage
first_stage None = Missing None
first_stage (Some i) = At i

abbrev pub begun : List ℕ → List ℕ → ℕ → Label → Search
begun s roots count l =
    record {
      bucket = slot_of (hash_of (spelled s l)) (length roots);
      stage = first_stage (root_of roots (spelled s l));
      path = first_path (spelled s l);
      count = count;
      start = l.start;
      length = l.length;
      key = key_of (spelled s l);
    }

-- and after the entry at a place: it has ended, or goes on.
abbrev pub ended_at : Search → Stage → Search
ended_at q stage = record { bucket = q.bucket; stage = stage; path = q.path; count = q.count; start = q.start; length = q.length; key = q.key }

abbrev pub passed : List ℕ → Search → ℕ → Label → Maybe ℕ → Search
passed s q at e None = ended_at q (Missing (Some (record { place = at; entry = linked e (branch_of q.path) (q.count + 1) })))
passed s q at e (Some i) =
    record { bucket = q.bucket; stage = At i; path = advanced (sought s q) q.path; count = q.count; start = q.start; length = q.length; key = q.key }

unfoldable pub visited : List ℕ → Search → ℕ → Label → Search
visited s q at e =
    elim (hits s e q.key (sought s q)) [ true ↦ ended_at q (Known at) | false ↦ passed s q at e (link e (branch_of q.path)) ]

-- What a search that has ended comes to.
abbrev pub gap_of : Search → Maybe Parent → Gap
gap_of q parent = record { bucket = q.bucket; key = q.key; parent = parent }

unfoldable pub found_of : Search → Result ℕ Gap
found_of q = elim q.stage [ Known i ↦ Ok i | At i ↦ Err (gap_of q None) | Missing parent ↦ Err (gap_of q parent) ]

-- ---- trees

-- A spelling is found among the first n entries of a table, from an entry on, with the path bits left.
pub data Finds (s : List ℕ) (t : List Label) (n : ℕ) (u : List ℕ) : Maybe ℕ → PathBits → Type 0 where
  here : {i : ℕ} {z : PathBits} → i < n → hits s (get_or t i no_label) (key_of u) u ≡ true → Finds s t n u (Some i) z
  there : {i : ℕ} {l : Maybe ℕ} {z : PathBits} → i < n → link (get_or t i no_label) (branch_of z) ≡ l → Finds s t n u l (advanced u z) → Finds s t n u (Some i) z

-- The first n entries of a table are trees: each is a part of the source, leads to later ones only, and is found by its spelling, which no
-- other has.
pub record Tree (s : List ℕ) (t : List Label) (roots : List ℕ) (n : ℕ) : Type 0 where
  pub in_table : n ≤ length t
  pub in_text : (i : ℕ) → i < n → InText s (plain (get_or t i no_label))
  pub onward : (i : ℕ) → i < n → (branch j : ℕ) → link (get_or t i no_label) branch ≡ Some j → (i < j) × (j < n)
  pub rootable : Rootable roots
  pub rooted : (slot j : ℕ) → root_at roots slot ≡ Some j → j < n
  pub found : (i : ℕ) → i < n
      → Finds s t n (spelled s (plain (get_or t i no_label))) (root_of roots (spelled s (plain (get_or t i no_label)))) (first_path (spelled s (plain (get_or t i no_label))))
  pub distinct : (i j : ℕ) → i < n → j < n → spelled s (plain (get_or t i no_label)) ≡ spelled s (plain (get_or t j no_label)) → i ≡ j

-- What entering a label after n others leaves: trees again, once it is entered, which is a root where there was none; table and roots as
-- they were, if it is refused.
abbrev pub TreeAfter : List ℕ → List Label → List ℕ → ℕ → Label → List Label → List ℕ → Result ⊤ Refusal → Type 0
TreeAfter s t roots n l t' roots' (Ok u) = (roots' ≡ with_root roots n (spelled s l)) × Tree s t' roots' (suc n)
TreeAfter s t roots n l t' roots' (Err r) = (roots' ≡ roots) × (t' ≡ t)

-- A label may be entered after n others: what an entry holds has room.
pub record Enterable (s : List ℕ) (n : ℕ) (l : Label) : Type 0 where
  pub in_text : InText s l
  pub short : length s ≤ 1048576
  pub few : n ≤ 1048576
  pub near : l.address < 2097152

-- A label's entry, which holds a key for its length.
abbrev pub keyed : Label → ℕ → Label
keyed l key = record { start = l.start; length = key; address = l.address }

-- A table whose parent entry, if there is one, has got its child.
abbrev pub with_parent : List Label → Maybe Parent → List Label
with_parent t None = t
with_parent t (Some p) = set t p.place p.entry

-- A label's entry stored after n others, and its parent's.
abbrev pub joined : List Label → ℕ → Label → Maybe Parent → List Label
joined t n e p = with_parent (set t n e) p

-- Roots once a label is entered after n others: it becomes one where it has no parent.
abbrev pub rooted_in : List ℕ → ℕ → ℕ → Maybe Parent → List ℕ
rooted_in roots n bucket None = set roots bucket (n + 1)
rooted_in roots n bucket (Some p) = roots

-- Where a label that is not among n others would be entered: what a table becomes then.
pub record Gaps (s : List ℕ) (t : List Label) (roots : List ℕ) (n : ℕ) (l : Label) (g : Gap) : Type 0 where
  pub bucket_is : g.bucket ≡ slot_of (hash_of (spelled s l)) (length roots)
  pub parent_inside : (p : Parent) → g.parent ≡ Some p → p.place < n
  pub roots_are : rooted_in roots n g.bucket g.parent ≡ with_root roots n (spelled s l)
  pub tree : n < length t → Tree s (joined t n (keyed l g.key) g.parent) (with_root roots n (spelled s l)) (suc n)
  pub holds : n < length t → unlinked (suc n) (joined t n (keyed l g.key) g.parent) ≡ set (unlinked n t) n l

abbrev pub index_meant : Result ℕ Gap → Option ℕ
index_meant (Ok i) = some i
index_meant (Err g) = none

-- The label that is spelled as a part of a source, looked for among n: which of them it is; or none, and where it would be entered at an
-- address.
pub record Finding (s : List ℕ) (t : List Label) (roots : List ℕ) (n start long : ℕ) (r : Result ℕ Gap) : Type 0 where
  pub index_is : index_meant r ≡ index_of s (take n (unlinked n t)) (spelled s (span start long))
  pub gap : (g : Gap) → r ≡ Err g → (a : ℕ) → a < 2097152 → Gaps s t roots n (record { start = start; length = long; address = a }) g

-- What a search asks of an entry that it has come to.
pub record Visitable (s : List ℕ) (q : Search) (e : Label) : Type 0 where
  pub part_in_text : InText s (span q.start q.length)
  pub length_in_key : q.key % 2097152 ≡ q.length
  pub entry_in_text : InText s (plain e)
  pub low : e.start / 4398046511104 ≤ 1048576
  pub low_address : e.address / 4398046511104 ≤ 1048576
  pub few : q.count ≤ 1048576

-- ---- labels with what is lent for them

-- The entries of the labels are trees.
abbrev pub Linked : Labels → Type 0
Linked labels = Tree labels.source.now labels.table.now labels.roots.now labels.count

-- Labels of the same source, in the same table and with the same roots.
pub record SameLent (old new : Labels) : Type 0 where
  pub same_source : new.source ≡ old.source
  pub same_table : new.table.ghost_name ≡ old.table.ghost_name
  pub same_roots : new.roots.ghost_name ≡ old.roots.ghost_name
