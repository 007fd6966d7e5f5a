-- Looking for a spelling in the trees that the first entries of a table are, and entering a label into them. Nothing here depends on what a spelling's path or its hash are.
--     PathTo            the path of a spelling to an entry.        Seeking        where a search stands
--     seek-begin, seek-visit, seek-end       how a search begins, goes on behind an entry, and what it comes to
use Prim.Native.Nat.{ℕ, zero, suc, ◌+◌, ◌-◌, ◌/◌, ◌%◌, ◌≤◌, ◌<◌}
use Rattle.std.specs.Prelude.{⊤, Result, Ok, Err, Some, None}
use Rattle.std.specs.Prelude.{Option as Maybe}
use mathlib.Core.Path.{◌≡◌, refl, sym, ap, ap₂, subst, ◌∙◌}
use mathlib.Core.Logic.{◌⊎◌, inl, inr, ⊎_elim}
use native.Mathlib.Omega.{arith}
use native.Mathlib.Numerals.{add-one}
use mathlib.Core.Bool.{Bool, true, false}
use mathlib.Core.Option.{none, some}
use mathlib.Core.List.{List, [], ◌∷◌, ◌++◌}
use lib.Dec.{eqb}
use lib.ListN.{length, take, drop, get_or, set, length-take, length-set}
use lib.Seq.{get_or-take, get_or-set_same, get_or-set_other, set_out, ext_get_or}
use borrow.Author.Tests.{eqb-true, eqb-false, eq-eqb, ltb-true, ltb-false}
use Rattle.text_lexical.specs.Bytes.{same, is_some}
use Rattle.text_lexical.proofs.Tests.{by-test, no_both, both, and_both, split}
use Rattle.text_lexical.proofs.Strings.{same-eq, eq-same}
use Rattle.refusal.specs.declared.refusal.Refusal.{Refusal}
use Rattle.refusal.specs.declared.refusal.Refusal.TheVariants.{DuplicateLabel}
use Rattle.image_labels.specs.declared.label.Label.{Label}
use Rattle.image_labels.specs.declared.tree.PathBits.{PathBits}
use Rattle.image_labels.specs.declared.tree.Parent.{Parent}
use Rattle.image_labels.specs.declared.tree.Stage.{Stage}
use Rattle.image_labels.specs.declared.tree.Stage.TheVariants.{At, Known, Missing}
use Rattle.image_labels.specs.declared.tree.Search.{Search}
use Rattle.image_labels.specs.declared.label.Gap.{Gap}
use Rattle.image_labels.specs.Promised.{InText, spelled, no_label, any_named, index_of, address_at, room_for, Enters}
use Rattle.image_labels.specs.Tree.{plain, unlinked, place_before, child_number, link_number, link, child_bits, linked, hash_of, first_path, advanced, branch_of, key_of, hits, slot_of, root_of, with_root, span, first_stage, begun, sought, visited, gap_of, found_of, Finds, here, there, Tree, TreeAfter, Enterable, keyed, with_parent, joined, rooted_in, Gaps, Finding, Visitable}
use Rattle.image_labels.proofs.Hashing.{slot-inside, parity, child-number-odd, child-bits-odd, child-number-even, child-bits-even, link-low, linked-low, link-high, linked-high, visited-hit, visited_on}
use Rattle.image_labels.proofs.Roots.{with-root-empty, with-root-same, with-root-long, with-root-new, with-root-kept, with-root-rooted}
use Rattle.image_labels.proofs.Named.{spelled-long, index_at, index-none, index-names, any-index, address-in, address-index, enters-known, enters-new, enters-full, has-room, no-room}

-- ---- entries

none-child-number : (p b : ℕ) → p < 2097152 → child_number p b ≡ 0
none-child-number p b h = parity b (λ v. omega (arith, child-number-odd p b v)) (λ v. omega (arith, child-number-even p b v))

-- An entry that leads to none by a branch is to lead to another. By each branch it leads where it led, or it led to none and leads to that other.
abbrev Becomes : ℕ → ℕ → ℕ → Type 0
Becomes to k k' = (k' ≡ k) ⊎ ((k ≡ 0) × (k' ≡ to))

module _ (p to : ℕ) (h : to < 2097152) where
  low-kept : (b : ℕ) → (p + child_bits to b) % 2097152 ≡ p % 2097152
  low-kept b = parity b (λ v. omega (arith, child-bits-odd to b v)) (λ v. omega (arith, child-bits-even to b v))

  child-number-adds : (b : ℕ) → child_number p b ≡ 0 → child_number (p + child_bits to b) b ≡ to
  child-number-adds b f =
      parity
      b
      (λ v. omega (arith, child-bits-odd to b v, child-number-odd p b v, child-number-odd (p + child_bits to b) b v))
      (λ v. omega (arith, child-bits-even to b v, child-number-even p b v, child-number-even (p + child_bits to b) b v))

  child-number-becomes : (b c : ℕ) → child_number p b ≡ 0 → Becomes to (child_number p c) (child_number (p + child_bits to b) c)
  child-number-becomes b c f =
      parity
      b
      (λ v. let r = child-bits-odd to b v in let g = child-number-odd p b v in
      parity c (λ w. inr (omega (arith, child-number-odd p c w), omega (arith, child-number-odd (p + child_bits to b) c w))) (λ w. inl (omega (arith, child-number-even p c w, child-number-even (p + child_bits to b) c w))))
      (λ v. let r = child-bits-even to b v in let g = child-number-even p b v in
      parity c (λ w. inl (omega (arith, child-number-odd p c w, child-number-odd (p + child_bits to b) c w))) (λ w. inr (omega (arith, child-number-even p c w), omega (arith, child-number-even (p + child_bits to b) c w))))

-- What stands before a number.
number-none : (k : ℕ) → place_before k ≡ None → k ≡ 0
number-none zero e = refl
number-none (suc i) e = cc

number-some : (k i : ℕ) → place_before k ≡ Some i → k ≡ suc i
number-some zero i e = cc
number-some (suc j) i e = cc

module _ (e : Label) (to : ℕ) (h : to < 2097152) where
  number-adds : (b : ℕ) → link_number e b ≡ 0 → link_number (linked e b to) b ≡ to
  number-adds b f =
      split
      b
      2
      (λ v. rw (linked-low, link-low) (child-number-adds e.start to h b (rw link-low at f)))
      (λ v. rw (linked-high, link-high) (child-number-adds e.address to h b (rw link-high at f)))

  number-becomes : (b c : ℕ) → link_number e b ≡ 0 → Becomes to (link_number e c) (link_number (linked e b to) c)
  number-becomes b c f =
      split
      b
      2
      (λ v. rw linked-low (split c 2 (λ w. rw (link-low, link-low) (child-number-becomes e.start to h b c (rw link-low at f))) (λ w. rw (link-high, link-high) (inl refl))))
      (λ v. rw linked-high (split c 2 (λ w. rw (link-low, link-low) (inl refl)) (λ w. rw (link-high, link-high) (child-number-becomes e.address to h b c (rw link-high at f)))))

  linked-adds : (b : ℕ) → link e b ≡ None → link (linked e b to) b ≡ place_before to
  linked-adds b f = ap place_before (number-adds b (number-none _ f))

  -- What it led to by another branch it leads to still,
  linked-keeps : (b c : ℕ) → link e b ≡ None → (l : Maybe ℕ) → (l ≡ None → ⊥) → link e c ≡ l → link (linked e b to) c ≡ l
  linked-keeps b c f None n g = absurd (n refl)
  linked-keeps b c f (Some i) n g =
      let k = number-some _ i g in
      ⊎_elim (λ x. ap place_before (x ∙ k)) (λ x. absurd (let y = sym k ∙ x.0 in omega arith)) (number-becomes b c (number-none _ f))

  -- and to nothing else.
  linked-only : (b c : ℕ) → link e b ≡ None → (i : ℕ) → (to ≡ suc i → ⊥) → link (linked e b to) c ≡ Some i → link e c ≡ Some i
  linked-only b c f i n g =
      let k = number-some _ i g in
      ⊎_elim (λ x. ap place_before (sym x ∙ k)) (λ x. absurd (n (sym x.1 ∙ k))) (number-becomes b c (number-none _ f))

  plain-linked : (b : ℕ) → plain (linked e b to) ≡ plain e
  plain-linked b = split b 2 (λ v. rw (linked-low, low-kept e.start to h b)) (λ v. rw (linked-high, low-kept e.address to h b))

  key-linked : (b : ℕ) → (linked e b to).length ≡ e.length
  key-linked b = split b 2 (λ v. rw linked-low) (λ v. rw linked-high)

-- ---- a table with labels for its first entries

pub unlinked-long : (n : ℕ) (t : List Label) → length (unlinked n t) ≡ length t
unfolding unlinked
unlinked-long zero t = refl
unlinked-long (suc n) [] = refl
unlinked-long (suc n) (e ∷ t) = ap suc (unlinked-long n t)

unlinked-at : (n : ℕ) (t : List Label) (i : ℕ) → i < n → get_or (unlinked n t) i no_label ≡ plain (get_or t i no_label)
unfolding unlinked
unlinked-at zero t i h = absurd (omega arith)
unlinked-at (suc n) [] i h = refl
unlinked-at (suc n) (e ∷ t) zero h = refl
unlinked-at (suc n) (e ∷ t) (suc i) h = unlinked-at n t i (omega arith)

unlinked-past : (n : ℕ) (t : List Label) (i : ℕ) → n ≤ i → get_or (unlinked n t) i no_label ≡ get_or t i no_label
unfolding unlinked
unlinked-past zero t i h = refl
unlinked-past (suc n) [] i h = refl
unlinked-past (suc n) (e ∷ t) zero h = absurd (omega arith)
unlinked-past (suc n) (e ∷ t) (suc i) h = unlinked-past n t i (omega arith)

-- An entry more.
pub unlinked-more : (n : ℕ) (t : List Label) → n < length t → set (unlinked n t) n (plain (get_or (unlinked n t) n no_label)) ≡ unlinked (n + 1) t
unfolding unlinked
unlinked-more n t h = rw (add-one n) (go n t h)
  where
    go : (n : ℕ) (t : List Label) → n < length t → set (unlinked n t) n (plain (get_or (unlinked n t) n no_label)) ≡ unlinked (suc n) t
    go n [] h = absurd (omega arith)
    go zero (e ∷ t) h = refl
    go (suc n) (e ∷ t) h = ap (λ (l : List Label). plain e ∷ l) (go n t (omega arith))

-- So many entries in front of others.
pub unlinked-front : (n : ℕ) (t : List Label) → n ≤ length t → unlinked n t ≡ unlinked n (take n t) ++ drop n t
unfolding unlinked
unlinked-front zero t h = refl
unlinked-front (suc n) [] h = refl
unlinked-front (suc n) (e ∷ t) h = ap (λ (l : List Label). plain e ∷ l) (unlinked-front n t (omega arith))

-- ---- paths

-- The first entries of a table are what they were, and lead where they led.
record Grown (t : List Label) (n : ℕ) (t' : List Label) : Type 0 where
  plains : (i : ℕ) → i < n → plain (get_or t' i no_label) ≡ plain (get_or t i no_label)
  keys : (i : ℕ) → i < n → (get_or t' i no_label).length ≡ (get_or t i no_label).length
  links : (i : ℕ) → i < n → (c : ℕ) (l : Maybe ℕ) → (l ≡ None → ⊥) → link (get_or t i no_label) c ≡ l → link (get_or t' i no_label) c ≡ l

module _ (s : List ℕ) (u : List ℕ) where
  -- Whether the entry at a place is of the spelling.
  abbrev hit : List Label → ℕ → Bool
  hit t i = hits s (get_or t i no_label) (key_of u) u

  hit-named : (t : List Label) (i : ℕ) → hit t i ≡ true → spelled s (plain (get_or t i no_label)) ≡ u
  unfolding hits
  hit-named t i h = same-eq _ _ (both (eqb (get_or t i no_label).length (key_of u)) _ h).1

  hit-is : (t : List Label) (i : ℕ) → (get_or t i no_label).length ≡ key_of u → spelled s (plain (get_or t i no_label)) ≡ u → hit t i ≡ true
  unfolding hits
  hit-is t i f g = and_both (eqb (get_or t i no_label).length (key_of u)) _ (eq-eqb _ _ f) (eq-same _ _ g)

  module _ (t : List Label) (root : Maybe ℕ) (n : ℕ) where
    -- The path of the spelling from its root to another entry, past entries that are not of it.
    pub data PathTo : Maybe ℕ → PathBits → Type 0 where
      start : PathTo root (first_path u)
      step : {i : ℕ} {l : Maybe ℕ} {z : PathBits} → PathTo (Some i) z → i < n → hit t i ≡ false → link (get_or t i no_label) (branch_of z) ≡ l → PathTo l (advanced u z)

    -- If the spelling is found, it is found from any entry of its path on.
    past : {m : Maybe ℕ} {z : PathBits} → Finds s t n u m z → (i : ℕ) (l : Maybe ℕ) → m ≡ Some i → hit t i ≡ false → link (get_or t i no_label) (branch_of z) ≡ l → Finds s t n u l (advanced u z)
    past (here {i = j} h y) i l e miss f = let k : j ≡ i = cc in no_both (rw k at y) miss
    past (there {i = j} {l = m} {z = z} h g x) i l e miss f =
        let k : j ≡ i = cc in
        subst (λ (p : Maybe ℕ). Finds s t n u p (advanced u z)) (sym g ∙ ap (λ (x : ℕ). link (get_or t x no_label) (branch_of z)) k ∙ f) x

    path-finds : {l : Maybe ℕ} {z : PathBits} → PathTo l z → Finds s t n u root (first_path u) → Finds s t n u l z
    path-finds start x = x
    path-finds (step {i = i} {l = l} w h miss f) x = past (path-finds w x) i l refl miss f

    path-rooted : {l : Maybe ℕ} {z : PathBits} → PathTo l z → (l ≡ None → ⊥) → root ≡ None → ⊥
    path-rooted start h = h
    path-rooted (step w h miss f) _ = path-rooted w (λ e. cc)

    not-nowhere : {l : Maybe ℕ} {z : PathBits} → Finds s t n u l z → l ≡ None → ⊥
    not-nowhere (here h y) e = cc
    not-nowhere (there h g x) e = cc

    module _ {t' : List Label} (g : Grown t n t') where
      hit-grown : (i : ℕ) → i < n → hit t' i ≡ hit t i
      unfolding hits
      hit-grown i h =
          ap₂ (λ (k : ℕ) (p : Label). elim (eqb k (key_of u)) [ true ↦ same (spelled s p) u | false ↦ false ]) (g.keys i h) (g.plains i h)

      finds-grown : {l : Maybe ℕ} {z : PathBits} → Finds s t n u l z → Finds s t' (suc n) u l z
      finds-grown (here {i = i} h y) = here {i = i} (omega arith) (hit-grown i h ∙ y)
      finds-grown (there {i = i} {l = l} {z = z} h f x) = there {i = i} (omega arith) (g.links i h (branch_of z) l (not-nowhere x) f) (finds-grown x)

      -- What is found from an entry of the path on is found.
      path-back : {l : Maybe ℕ} {z : PathBits} → PathTo l z → (l ≡ None → ⊥) → Finds s t' (suc n) u l z → Finds s t' (suc n) u root (first_path u)
      path-back start nz x = x
      path-back (step {i = i} {l = l} {z = z} w h miss f) nz x = path-back w (λ e. cc) (there {i = i} (omega arith) (g.links i h (branch_of z) l nz f) x)

-- ---- searches

-- What is left of a search: the entries from the next on.
abbrev pub left : ℕ → Search → ℕ
left n q = elim q.stage [ At i ↦ n - i | Known i ↦ 0 | Missing p ↦ 0 ]

pub record AtEntry (s : List ℕ) (t : List Label) (roots : List ℕ) (n : ℕ) (l : Label) (z : PathBits) (i : ℕ) : Type 0 where
  pub inside : i < n
  pub reached : PathTo s (spelled s l) t (root_of roots (spelled s l)) n (Some i) z

-- A search for a spelling that has found nothing ends where there is no root, or behind an entry that leads nowhere, its parent.
pub data Lost (s : List ℕ) (t : List Label) (roots : List ℕ) (n : ℕ) (u : List ℕ) : Maybe Parent → Type 0 where
  none_there : root_of roots u ≡ None → Lost s t roots n u None
  behind : {p : Parent} (z : PathBits) → p.place < n → PathTo s u t (root_of roots u) n (Some p.place) z
      → hit s u t p.place ≡ false → link (get_or t p.place no_label) (branch_of z) ≡ None
      → p.entry ≡ linked (get_or t p.place no_label) (branch_of z) (n + 1) → Lost s t roots n u (Some p)

-- Where a search stands.
abbrev pub StageIs : List ℕ → List Label → List ℕ → ℕ → Label → Search → Stage → Type 0
StageIs s t roots n l q (At i) = AtEntry s t roots n l q.path i
StageIs s t roots n l q (Known i) = (i < n) × (hit s (spelled s l) t i ≡ true)
StageIs s t roots n l q (Missing p) = Lost s t roots n (spelled s l) p

pub record Seeking (s : List ℕ) (t : List Label) (roots : List ℕ) (n : ℕ) (l : Label) (q : Search) : Type 0 where
  pub bucket_is : q.bucket ≡ slot_of (hash_of (spelled s l)) (length roots)
  pub start-is : q.start ≡ l.start
  pub length-is : q.length ≡ l.length
  pub key-is : q.key ≡ key_of (spelled s l)
  pub count-is : q.count ≡ n
  pub stands : StageIs s t roots n l q q.stage

module _ (s : List ℕ) (t : List Label) (n : ℕ) where
  -- What the labels are spelled like.
  named-at : (i : ℕ) → i < n → spelled s (get_or (take n (unlinked n t)) i no_label) ≡ spelled s (plain (get_or t i no_label))
  named-at i h = ap (spelled s) (get_or-take n (unlinked n t) i no_label h ∙ unlinked-at n t i h)

  -- The address of a spelling is that of the first label that has it.
  address-of-first : (u : List ℕ) (i : ℕ) → i < n → index_of s (take n (unlinked n t)) u ≡ some i → address_at s (take n (unlinked n t)) u ≡ some (plain (get_or t i no_label)).address
  address-of-first u i h e =
      address-index s u (take n (unlinked n t)) ∙ ap (address-in (take n (unlinked n t))) e
      ∙ ap (λ (l : Label). some l.address) (get_or-take n (unlinked n t) i no_label h ∙ unlinked-at n t i h)

  -- In trees the first label that has a spelling is the only one,
  module _ (roots : List ℕ) (tree : Tree s t roots n) (u : List ℕ) (i : ℕ) (h : i < n) (e : spelled s (plain (get_or t i no_label)) ≡ u) where
    pub index-only : index_of s (take n (unlinked n t)) u ≡ some i
    index-only =
        index_at s u (take n (unlinked n t)) i (omega (arith, length-take n (unlinked n t), unlinked-long n t, tree.in_table, h)) (named-at i h ∙ e)
        (λ j d f. let less : j < n = omega (arith, h) in let same = tree.distinct j i less h (sym (named-at j less) ∙ f ∙ sym e) in omega arith)

    -- so that each label is found by its spelling, with its own address.
    pub address-only : address_at s (take n (unlinked n t)) u ≡ some (plain (get_or t i no_label)).address
    address-only = address-of-first u i h index-only

-- The entry of a label of a spelling.
unfoldable entry_for : List ℕ → Label → Label
entry_for u l = keyed l (key_of u)

module _ (s : List ℕ) (t : List Label) (roots : List ℕ) (n : ℕ) (l : Label) (tree : Tree s t roots n) (ok : Enterable s n l) where
  abbrev u : List ℕ
  u = spelled s l

  -- its root
  abbrev root : Maybe ℕ
  root = root_of roots u

  key-length : key_of u % 2097152 ≡ l.length
  unfolding key_of
  key-length = omega (arith, spelled-long s l ok.in_text, ok.in_text, ok.short)

  entry-plain : plain (entry_for u l) ≡ l
  unfolding entry_for
  entry-plain =
      let a : l.start % 2097152 ≡ l.start = omega (arith, ok.in_text, ok.short) in
      let c : l.address % 2097152 ≡ l.address = omega (arith, ok.near) in
      λ i. record { start = a i; length = key-length i; address = c i }

  pub seek-begin : Seeking s t roots n l (begun s roots n l)
  seek-begin = record { bucket_is = refl; start-is = refl; length-is = refl; key-is = refl; count-is = refl; stands = go root refl }
    where
      go : (m : Maybe ℕ) → root ≡ m → StageIs s t roots n l (begun s roots n l) (first_stage m)
      go None f = none_there f
      go (Some i) f = record {
        inside = tree.rooted (slot_of (hash_of u) (length roots)) i f;
        reached = subst (λ (m : Maybe ℕ). PathTo s u t root n m (first_path u)) f start;
      }

  module _ (q : Search) (k : Seeking s t roots n l q) where
    sought-is : sought s q ≡ u
    sought-is = ap₂ (λ (a m : ℕ). spelled s (span a m)) k.start-is k.length-is

    -- An entry that it stands before.
    module _ {i : ℕ} (stage-is : q.stage ≡ At i) where
      abbrev e : Label
      e = get_or t i no_label

      here-is : AtEntry s t roots n l q.path i
      here-is = subst (StageIs s t roots n l q) stage-is k.stands

      pub inside : i < n
      inside = here-is.inside

      pub seek-visitable : Visitable s q e
      unfolding link_number child_number
      seek-visitable =
          record {
            part_in_text = omega (arith, k.start-is, k.length-is, ok.in_text);
            length_in_key = omega (arith, k.key-is, k.length-is, key-length);
            entry_in_text = tree.in_text i inside;
            low = lead 1 (e.start / 4398046511104) refl;
            low_address = lead 3 (e.address / 4398046511104) refl;
            few = rw k.count-is ok.few;
          }
        where
          lead : (c m : ℕ) → link_number e c ≡ m → m ≤ 1048576
          lead c zero f = omega arith
          lead c (suc j) f = let h = tree.onward i inside c j (ap place_before f) in omega (arith, h.1, ok.few)

      hit-here : hits s e q.key (sought s q) ≡ hit s u t i
      hit-here = ap₂ (λ (m : ℕ) (w : List ℕ). hits s e m w) k.key-is sought-is

      pub seek-visit : Seeking s t roots n l (visited s q i e)
      seek-visit = by-test (hit s u t i) found (λ miss. passing miss (link e (branch_of q.path)) refl)
        where
          found : hit s u t i ≡ true → Seeking s t roots n l (visited s q i e)
          found h = subst (Seeking s t roots n l) (sym (visited-hit s q i e (hit-here ∙ h))) (record {
            bucket_is = k.bucket_is;
            start-is = k.start-is;
            length-is = k.length-is;
            key-is = k.key-is;
            count-is = k.count-is;
            stands = (inside, h);
          })

          passing : hit s u t i ≡ false → (m : Maybe ℕ) → link e (branch_of q.path) ≡ m → Seeking s t roots n l (visited s q i e)
          passing miss None f = subst (Seeking s t roots n l) (sym (visited_on s q i e (hit-here ∙ miss) None f)) (record {
            bucket_is = k.bucket_is;
            start-is = k.start-is;
            length-is = k.length-is;
            key-is = k.key-is;
            count-is = k.count-is;
            stands = behind q.path inside here-is.reached miss f (ap (λ (m : ℕ). linked e (branch_of q.path) (m + 1)) k.count-is);
          })
          passing miss (Some j) f = subst (Seeking s t roots n l) (sym (visited_on s q i e (hit-here ∙ miss) (Some j) f)) (record {
            bucket_is = k.bucket_is;
            start-is = k.start-is;
            length-is = k.length-is;
            key-is = k.key-is;
            count-is = k.count-is;
            stands = record {
              inside = (tree.onward i inside (branch_of q.path) j f).1;
              reached = subst (λ (w : List ℕ). PathTo s u t root n (Some j) (advanced w q.path)) (sym sought-is) (step here-is.reached inside miss f);
            };
          })

      -- An entry less is left.
      pub seek-nearer : left n (visited s q i e) < left n q
      seek-nearer = by-test (hit s u t i) found (λ miss. passing miss (link e (branch_of q.path)) refl)
        where
          now : left n q ≡ n - i
          now = rw stage-is

          found : hit s u t i ≡ true → left n (visited s q i e) < left n q
          found h = rw (visited-hit s q i e (hit-here ∙ h)) (omega (arith, now, inside))

          passing : hit s u t i ≡ false → (m : Maybe ℕ) → link e (branch_of q.path) ≡ m → left n (visited s q i e) < left n q
          passing miss None f = rw (visited_on s q i e (hit-here ∙ miss) None f) (omega (arith, now, inside))
          passing miss (Some j) f =
              let h = tree.onward i inside (branch_of q.path) j f in
              rw (visited_on s q i e (hit-here ∙ miss) (Some j) f) (omega (arith, now, inside, h.0, h.1))

  -- ---- what it comes to

  -- If the label was found, it is the one that is spelled so,
  index-there : (i : ℕ) → (i < n) × (hit s u t i ≡ true) → index_of s (take n (unlinked n t)) u ≡ some i
  index-there i x = index-only s t n roots tree u i x.0 (hit-named s u t i x.1)

  not_found : {p : Maybe Parent} → Lost s t roots n u p → Finds s t n u root (first_path u) → ⊥
  not_found (none_there f) x = not-nowhere s u t root n x f
  not_found (behind {p = p} z _ w miss f g) x = not-nowhere s u t root n (past s u t root n (path-finds s u t root n w x) p.place None refl miss f) refl

  -- A root where it has no parent.
  rooted-there : {p : Maybe Parent} → Lost s t roots n u p → rooted_in roots n (slot_of (hash_of u) (length roots)) p ≡ with_root roots n u
  rooted-there (none_there f) = sym (with-root-empty roots n u f)
  rooted-there (behind z inside w miss f g) = sym (with-root-same roots n u (path-rooted s u t root n w (λ e. cc)))

  parent-there : {p : Maybe Parent} → Lost s t roots n u p → (r : Parent) → p ≡ Some r → r.place < n
  parent-there (none_there f) r e = cc
  parent-there (behind {p = p} z inside w miss f g) r e = let k : p ≡ r = cc in subst (λ (x : Parent). x.place < n) k inside

  -- What the table becomes when the label is entered: its entry stands behind the others, which are trees again with it.
  abbrev table-with : Maybe Parent → List Label
  table-with = joined t n (entry_for u l)

  abbrev roots' : List ℕ
  roots' = with_root roots n u

  -- What is known of it in either case.
  record Joins (p : Maybe Parent) : Type 0 where
    new : get_or (table-with p) n no_label ≡ entry_for u l
    grown : Grown t n (table-with p)
    onward : (i : ℕ) → i < n → (c j : ℕ) → link (get_or (table-with p) i no_label) c ≡ Some j → (i < j) × (j < suc n)
    later : (i : ℕ) → n < i → get_or (table-with p) i no_label ≡ get_or t i no_label
    leads : Finds s (table-with p) (suc n) u (root_of roots' u) (first_path u)

  long : (p : Maybe Parent) → length (table-with p) ≡ length t
  long None = length-set t n (entry_for u l)
  long (Some p) = length-set (set t n (entry_for u l)) p.place p.entry ∙ length-set t n (entry_for u l)

  entry-links : (c : ℕ) → link (entry_for u l) c ≡ None
  unfolding entry_for
  entry-links c =
      let e : link_number (entry_for u l) c ≡ 0 = split c 2 (λ v. rw link-low (none-child-number l.start c (omega (arith, ok.in_text, ok.short)))) (λ v. rw link-high (none-child-number l.address c ok.near)) in
      ap place_before e

  hit-new : (t' : List Label) → get_or t' n no_label ≡ entry_for u l → hit s u t' n ≡ true
  unfolding entry_for
  hit-new t' e = hit-is s u t' n (ap (λ (v : Label). v.length) e) (ap (λ (v : Label). spelled s (plain v)) e ∙ ap (spelled s) entry-plain)

  wider : {i j : ℕ} → (i < j) × (j < n) → (i < j) × (j < suc n)
  wider h = (h.0, omega (arith, h.1))

  module _ (room : n < length t) where
    joins : {p : Maybe Parent} → Lost s t roots n u p → Joins p
    joins (none_there f) =
        let e : get_or (set t n (entry_for u l)) n no_label ≡ entry_for u l = get_or-set_same t n (entry_for u l) no_label room in
        record {
          new = e;
          grown = record { plains = λ i d. ap plain (same i d); keys = λ i d. ap (λ (v : Label). v.length) (same i d); links = λ i d c m _ x. ap (λ (v : Label). link v c) (same i d) ∙ x };
          onward = λ i d c j x. wider (tree.onward i d c j (ap (λ (v : Label). link v c) (sym (same i d)) ∙ x));
          later = λ i d. get_or-set_other t n i (entry_for u l) no_label (λ v. omega arith);
          leads = subst (λ (m : Maybe ℕ). Finds s (set t n (entry_for u l)) (suc n) u m (first_path u)) (sym (with-root-new roots n u tree.rootable.some f)) (here {i = n} (omega arith) (hit-new _ e));
        }
      where
        same : (i : ℕ) → i < n → get_or (set t n (entry_for u l)) i no_label ≡ get_or t i no_label
        same i d = get_or-set_other t n i (entry_for u l) no_label (λ v. omega arith)
    joins (behind {p = q} z inside w miss f g) =
        record {
          new = e;
          grown = more;
          onward = onwards;
          later = λ i d. get_or-set_other (set t n (entry_for u l)) q.place i q.entry no_label (λ v. omega arith) ∙ get_or-set_other t n i (entry_for u l) no_label (λ v. omega arith);
          leads = subst (λ (m : Maybe ℕ). Finds s t' (suc n) u m (first_path u)) (sym (with-root-kept roots n u u (path-rooted s u t root n w (λ v. cc))))
              (path-back s u t root n more w (λ v. cc) (there {i = q.place} (omega arith) at_last (here {i = n} (omega arith) (hit-new t' e))));
        }
      where
        t' : List Label
        t' = table-with (Some q)

        p : Label
        p = get_or t q.place no_label

        small : n + 1 < 2097152
        small = omega (arith, ok.few)

        e : get_or t' n no_label ≡ entry_for u l
        e = get_or-set_other (set t n (entry_for u l)) q.place n q.entry no_label (λ v. omega arith) ∙ get_or-set_same t n (entry_for u l) no_label room

        parent : get_or t' q.place no_label ≡ linked p (branch_of z) (n + 1)
        parent = get_or-set_same (set t n (entry_for u l)) q.place q.entry no_label (rw (length-set t n (entry_for u l)) (omega arith)) ∙ g

        other : (i : ℕ) → i < n → (i ≡ q.place → ⊥) → get_or t' i no_label ≡ get_or t i no_label
        other i d v = get_or-set_other (set t n (entry_for u l)) q.place i q.entry no_label v ∙ get_or-set_other t n i (entry_for u l) no_label (λ x. omega arith)

        at_last : link (get_or t' q.place no_label) (branch_of z) ≡ Some n
        at_last = ap (λ (v : Label). link v (branch_of z)) parent ∙ linked-adds p (n + 1) small (branch_of z) f ∙ ap place_before (add-one n)

        -- At the parent, or elsewhere.
        either : (X : ℕ → Type 0) → X q.place → ((i : ℕ) → (i ≡ q.place → ⊥) → X i) → (i : ℕ) → X i
        either X a b i = by-test (eqb i q.place) (λ v. subst X (sym (eqb-true i q.place v)) a) (λ v. b i (eqb-false i q.place v))

        more : Grown t n t'
        more = record {
          plains = either (λ i. i < n → plain (get_or t' i no_label) ≡ plain (get_or t i no_label))
              (λ _. ap plain parent ∙ plain-linked p (n + 1) small (branch_of z)) (λ i v d. ap plain (other i d v));
          keys = either (λ i. i < n → (get_or t' i no_label).length ≡ (get_or t i no_label).length)
              (λ _. ap (λ (x : Label). x.length) parent ∙ key-linked p (n + 1) small (branch_of z)) (λ i v d. ap (λ (x : Label). x.length) (other i d v));
          links = either (λ i. i < n → (c : ℕ) (m : Maybe ℕ) → (m ≡ None → ⊥) → link (get_or t i no_label) c ≡ m → link (get_or t' i no_label) c ≡ m)
              (λ _ c m nz x. ap (λ (y : Label). link y c) parent ∙ linked-keeps p (n + 1) small (branch_of z) c f m nz x)
              (λ i v d c m nz x. ap (λ (y : Label). link y c) (other i d v) ∙ x);
        }

        onwards : (i : ℕ) → i < n → (c j : ℕ) → link (get_or t' i no_label) c ≡ Some j → (i < j) × (j < suc n)
        onwards = either (λ i. i < n → (c j : ℕ) → link (get_or t' i no_label) c ≡ Some j → (i < j) × (j < suc n))
            (λ d c j x. by-test (eqb (n + 1) (suc j)) (λ v. let w = eqb-true (n + 1) (suc j) v in (omega arith, omega arith))
            (λ v. wider (tree.onward q.place d c j (linked-only p (n + 1) small (branch_of z) c f j (eqb-false (n + 1) (suc j) v) (ap (λ (y : Label). link y c) (sym parent) ∙ x)))))
            (λ i v d c j x. wider (tree.onward i d c j (ap (λ (y : Label). link y c) (sym (other i d v)) ∙ x)))

  module _ {p : Maybe Parent} (lost : Lost s t roots n u p) where
    -- None of the labels is spelled so,
    none-there-yet : (i : ℕ) → i < n → spelled s (plain (get_or t i no_label)) ≡ u → ⊥
    none-there-yet i less g = not_found lost (subst (λ (w : List ℕ). Finds s t n w (root_of roots w) (first_path w)) g (tree.found i less))

    index-missing : index_of s (take n (unlinked n t)) u ≡ none
    index-missing = index-none s u (take n (unlinked n t)) (λ i h f. let less : i < n = omega (arith, length-take n (unlinked n t)) in none-there-yet i less (sym (named-at s t n i less) ∙ f))

    abbrev t' : List Label
    t' = table-with p

    module _ (room : n < length t) (m : Joins p) where
      joined-plain : plain (get_or t' n no_label) ≡ l
      joined-plain = ap plain m.new ∙ entry-plain

      -- Behind the others, or one of them.
      each : (X : ℕ → Type 0) → X n → ((i : ℕ) → i < n → X i) → (i : ℕ) → i < suc n → X i
      each X a b i h = by-test (eqb i n) (λ v. subst X (sym (eqb-true i n v)) a) (λ v. b i (let w = eqb-false i n v in split i n (λ x. x) (λ x. absurd (w (omega arith)))))

      is-tree : Tree s t' roots' (suc n)
      is-tree = record {
        in_table = rw (long p) room;
        in_text = each (λ i. InText s (plain (get_or t' i no_label))) (subst (InText s) (sym joined-plain) ok.in_text) (λ i d. subst (InText s) (sym (m.grown.plains i d)) (tree.in_text i d));
        onward = each (λ i. (c j : ℕ) → link (get_or t' i no_label) c ≡ Some j → (i < j) × (j < suc n))
            (λ c j x. let w : ◌≡◌ {A = Maybe ℕ} (Some j) None = sym x ∙ ap (λ (y : Label). link y c) m.new ∙ entry-links c in cc) m.onward;
        rootable = record { some = rw (with-root-long roots n u) tree.rootable.some; few = rw (with-root-long roots n u) tree.rootable.few };
        rooted = with-root-rooted roots n u tree.rootable.some tree.rooted;
        found = each (λ i. Leads (spelled s (plain (get_or t' i no_label)))) (subst (λ (x : Label). Leads (spelled s x)) (sym joined-plain) m.leads)
            (λ i d. subst (λ (x : Label). Leads (spelled s x)) (sym (m.grown.plains i d)) (still (spelled s (plain (get_or t i no_label))) (tree.found i d)));
        distinct = λ i j h h'. each (λ i. spelled s (plain (get_or t' i no_label)) ≡ spelled s (plain (get_or t' j no_label)) → i ≡ j)
            (each (λ j. spelled s (plain (get_or t' n no_label)) ≡ spelled s (plain (get_or t' j no_label)) → n ≡ j) (λ _. refl) (λ j d e. absurd (none-there-yet j d (sym (old j d) ∙ sym e ∙ new))) j h')
            (λ i d. each (λ j. spelled s (plain (get_or t' i no_label)) ≡ spelled s (plain (get_or t' j no_label)) → i ≡ j) (λ e. absurd (none-there-yet i d (sym (old i d) ∙ e ∙ new)))
            (λ j d' e. tree.distinct i j d d' (sym (old i d) ∙ e ∙ old j d')) j h') i h;
      }
        where
          new : spelled s (plain (get_or t' n no_label)) ≡ u
          new = ap (spelled s) joined-plain

          old : (i : ℕ) → i < n → spelled s (plain (get_or t' i no_label)) ≡ spelled s (plain (get_or t i no_label))
          old i d = ap (spelled s) (m.grown.plains i d)

          Leads : List ℕ → Type 0
          Leads w = Finds s t' (suc n) w (root_of roots' w) (first_path w)

          still : (w : List ℕ) → Finds s t n w (root_of roots w) (first_path w) → Leads w
          still w x = subst (λ (m : Maybe ℕ). Finds s t' (suc n) w m (first_path w)) (sym (with-root-kept roots n u w (not-nowhere s w t (root_of roots w) n x))) (finds-grown s w t (root_of roots w) n m.grown x)

      holds : unlinked (suc n) t' ≡ set (unlinked n t) n l
      holds = ext_get_or no_label (unlinked (suc n) t') (set (unlinked n t) n l) (unlinked-long (suc n) t' ∙ long p ∙ sym (length-set (unlinked n t) n l ∙ unlinked-long n t)) (λ i h. at i)
        where
          new-room : n < length (unlinked n t)
          new-room = rw (unlinked-long n t) room

          upto : (i : ℕ) → i < suc n → get_or (unlinked (suc n) t') i no_label ≡ get_or (set (unlinked n t) n l) i no_label
          upto = each (λ i. get_or (unlinked (suc n) t') i no_label ≡ get_or (set (unlinked n t) n l) i no_label)
              (unlinked-at (suc n) t' n (omega arith) ∙ joined-plain ∙ sym (get_or-set_same (unlinked n t) n l no_label new-room))
              (λ i d. unlinked-at (suc n) t' i (omega arith) ∙ m.grown.plains i d ∙ sym (get_or-set_other (unlinked n t) n i l no_label (λ x. omega arith) ∙ unlinked-at n t i d))

          at : (i : ℕ) → get_or (unlinked (suc n) t') i no_label ≡ get_or (set (unlinked n t) n l) i no_label
          at i = split i (suc n) (upto i) (λ h. unlinked-past (suc n) t' i h ∙ m.later i (omega arith) ∙ sym (get_or-set_other (unlinked n t) n i l no_label (λ x. omega arith) ∙ unlinked-past n t i (omega arith)))

    -- What the search comes to then.
    gap_is : (q : Search) → q.bucket ≡ slot_of (hash_of u) (length roots) → q.key ≡ key_of u → Gaps s t roots n l (gap_of q p)
    unfolding entry_for
    gap_is q b e =
        record {
          bucket_is = b;
          parent_inside = parent-there lost;
          roots_are = ap (λ (k : ℕ). rooted_in roots n k p) b ∙ rooted-there lost;
          tree = λ room. subst (λ (k : ℕ). Tree s (joined t n (keyed l k) p) roots' (suc n)) (sym e) (is-tree room (joins room lost));
          holds = λ room. subst (λ (k : ℕ). unlinked (suc n) (joined t n (keyed l k) p) ≡ set (unlinked n t) n l) (sym e) (holds room (joins room lost));
        }

-- What a search that has ended comes to. A search for a part of the source is one for a label there, at whatever address.
module _ (s : List ℕ) (t : List Label) (roots : List ℕ) (n start long : ℕ) (tree : Tree s t roots n) (ok : Enterable s n (span start long)) (q : Search) (k : Seeking s t roots n (span start long) q) where
  abbrev labelled : ℕ → Label
  labelled a = record { start = start; length = long; address = a }

  placed : {p : Maybe Parent} → Lost s t roots n (spelled s (span start long)) p → (a : ℕ) → a < 2097152 → Gaps s t roots n (labelled a) (gap_of q p)
  placed lost a h = gap_is s t roots n (labelled a) tree (record { in_text = ok.in_text; short = ok.short; few = ok.few; near = h }) lost q k.bucket_is k.key-is

  pub seek-end : ((i : ℕ) → q.stage ≡ At i → ⊥) → Finding s t roots n start long (found_of q)
  unfolding found_of
  seek-end ended = go q.stage refl k.stands
    where
      go : (v : Stage) → q.stage ≡ v → StageIs s t roots n (span start long) q v → Finding s t roots n start long (found_of q)
      go (At i) e x = absurd (ended i e)
      go (Known i) e x = rw (found_of, e) (record { index_is = sym (index-there s t roots n (span start long) tree ok i x); gap = λ g e. cc })
      go (Missing p) e lost = rw (found_of, e) (record {
        index_is = sym (index-missing s t roots n (span start long) tree ok lost);
        gap = λ g e a h. let same : gap_of q p ≡ g = cc in subst (Gaps s t roots n (labelled a)) same (placed lost a h);
      })

-- What is found is one of the n, and no other has its spelling (`Tree.distinct`).
pub found-there : {s : List ℕ} {t : List Label} {roots : List ℕ} {n start long i : ℕ} → Finding s t roots n start long (Ok i) → (i < n) × (spelled s (plain (get_or t i no_label)) ≡ spelled s (span start long))
found-there {s} {t} {roots} {n} {start} {long} {i} x =
    let h = index-names s (spelled s (span start long)) (take n (unlinked n t)) i (sym x.index_is) in
    let less : i < n = omega (arith, length-take n (unlinked n t), h.0) in
    (less, ap (spelled s) (sym (get_or-take n (unlinked n t) i no_label less ∙ unlinked-at n t i less)) ∙ h.1)

-- What is found has the address of the spelling,
pub address-there : {s : List ℕ} {t : List Label} {roots : List ℕ} {n start long i : ℕ} → Finding s t roots n start long (Ok i)
    → address_at s (take n (unlinked n t)) (spelled s (span start long)) ≡ some (plain (get_or t i no_label)).address
address-there {s} {t} {roots} {n} {start} {long} {i} x =
    address-of-first s t n (spelled s (span start long)) i (found-there x).0 (sym x.index_is)

-- and there is none where nothing is found.
pub address-missing : {s : List ℕ} {t : List Label} {roots : List ℕ} {n start long : ℕ} {g : Gap} → Finding s t roots n start long (Err g)
    → address_at s (take n (unlinked n t)) (spelled s (span start long)) ≡ none
address-missing {s} {t} {roots} {n} {start} {long} x =
    address-index s (spelled s (span start long)) (take n (unlinked n t)) ∙ ap (address-in (take n (unlinked n t))) (sym x.index_is)

-- ---- a label is entered

module _ {s : List ℕ} {t : List Label} {roots : List ℕ} {n : ℕ} {l : Label} where
  pub enter-known : {r : Result ℕ Gap} → Finding s t roots n l.start l.length r → ((g : Gap) → r ≡ Err g → ⊥) → Enters s (unlinked n t) n l (unlinked n t) (Err DuplicateLabel)
  unfolding is_some
  enter-known {r = Ok i} x known = enters-known s (unlinked n t) n l (any-index s (spelled s l) (take n (unlinked n t)) ∙ ap is_some (sym x.index_is))
  enter-known {r = Err g} x known = absurd (known g refl)

  module _ {g : Gap} (x : Finding s t roots n l.start l.length (Err g)) (near : l.address < 2097152) where
    gaps : Gaps s t roots n l g
    gaps = x.gap g refl l.address near

    unnamed : any_named s (take n (unlinked n t)) (spelled s l) ≡ false
    unfolding is_some
    unnamed = any-index s (spelled s l) (take n (unlinked n t)) ∙ ap is_some (sym x.index_is)

    -- What `set_root` asks for.
    pub bucket-inside : 0 < length roots → g.bucket < length roots
    bucket-inside h = rw gaps.bucket_is (slot-inside (hash_of (spelled s l)) (length roots) h)

    module _ {t' : List Label} (stored : t' ≡ set t n (keyed l g.key)) where
      -- There is no room,
      pub enter-full : {r : Refusal} → room_for n t ≡ Err r → Enters s (unlinked n t) n l (unlinked n t') (Err r)
      enter-full {r} f =
          let no = no-room n t f in
          let full : length t ≤ n = ltb-false n (length t) no.0 in
          subst (λ (x : Refusal). Enters s (unlinked n t) n l (unlinked n t') (Err x)) no.1
          (enters-full s (unlinked n t) n l unnamed (unlinked n t')
          (ap (unlinked n) (stored ∙ set_out t n (keyed l g.key) full) ∙ sym (set_out (unlinked n t) n l (rw (unlinked-long n t) full))) (rw (unlinked-long n t) no.0))

      -- or the label is entered, with its parent or as a root.
      module _ {u : ⊤} (room : room_for n t ≡ Ok u) {p : Maybe Parent} (is : g.parent ≡ p) where
        joined_is : with_parent t' p ≡ joined t n (keyed l g.key) g.parent
        joined_is = ap₂ with_parent stored (sym is)

        pub enter-new : Enters s (unlinked n t) n l (unlinked (n + 1) (with_parent t' p)) (Ok tt)
        enter-new =
            let more : unlinked (n + 1) (with_parent t' p) ≡ set (unlinked n t) n l = ap₂ unlinked (add-one n) joined_is ∙ gaps.holds (ltb-true n (length t) (has-room n t room)) in
            enters-new s (unlinked n t) n l unnamed _ more (rw (unlinked-long n t) (has-room n t room))

        pub new-tree : {roots' : List ℕ} → roots' ≡ rooted_in roots n g.bucket p → TreeAfter s t roots n l (with_parent t' p) roots' (Ok tt)
        new-tree {roots'} rooted =
            let q : roots' ≡ with_root roots n (spelled s l) = rooted ∙ ap (rooted_in roots n g.bucket) (sym is) ∙ gaps.roots_are in
            (q, subst (λ (r : List ℕ). Tree s (with_parent t' p) r (suc n)) (sym q) (subst (λ (z : List Label). Tree s z (with_root roots n (spelled s l)) (suc n)) (sym joined_is) (gaps.tree (ltb-true n (length t) (has-room n t room)))))
