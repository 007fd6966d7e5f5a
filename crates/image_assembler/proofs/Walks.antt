-- Laws of the first walk over a label table: how it begins, goes on from a label to the next, and what it comes to.
use Rattle.std.specs.Prelude.{⊤, Result, Ok, Err, Some, None}
use Rattle.std.specs.Borrow.{Bor}
use Rattle.std.specs.Prelude.{Option as Maybe}
use Prim.Native.Nat.{ℕ, ◌+◌, ◌-◌, ◌≤◌, ◌<◌}
use mathlib.Core.Path.{◌≡◌, refl, sym, ap, ap₂, subst, ◌∙◌}
use native.Mathlib.Omega.{arith}
use native.Mathlib.Numerals.{add-one}
use mathlib.Core.Bool.{Bool, true, false}
use mathlib.Core.Option.{Option, none, some}
use mathlib.Core.List.{List, [], ◌∷◌, ◌++◌, map, map-append}
use lib.ListN.{length, take, set, length-map, length-append}
use lib.Seq.{set_out}
use lib.Dec.{ltb}
use borrow.Author.Tests.{ltb-true, ltb-false}
use Rattle.text_lexical.specs.Bytes.{same, find, is_some}
use Rattle.text_lexical.specs.Names.{Name}
use Rattle.refusal.specs.Refusals.{fault_of}
use Rattle.text_lexical.proofs.Tests.{by-test}
use Rattle.image.specs.Assembling.{is_known, address_of, reads, Fault, fault_in, most_bytes}
use Rattle.image.specs.Assembling.{Label as Meant}
use Rattle.image.specs.Lent.{over}
use Rattle.image.specs.Promised.{settings_meant}
use Rattle.image_labels.specs.Promised.{entry_of, InText, spelled, any_named, address_at, entry_fault, count_after, Enters, Spelled}
use Rattle.image_labels.specs.Tree.{place_before, unlinked, Tree, TreeAfter, Enterable, Linked, SameLent}
use Rattle.image_labels.proofs.Named.{spelled-long, address-is}
use Rattle.image_labels.specs.declared.label.Label.{Label}
use Rattle.image_labels.specs.declared.label.Labels.{Labels}
use Rattle.image_passes.specs.Promised.{Entry, Verdict, begun, followed, WalkEnds, ReadingEnds, Sound, Scannable, ReadsOn, Entered, refused_for, Ready}
use Rattle.image_passes.proofs.Reaching.{LabelNext, ReachedFrom, Progress, Resumes, with_entry, label_at}
use Rattle.image_passes.proofs.Answers.{begins-stand, through-entered, through-ready, through-untargeted, through-accepts, through-refused}
use Rattle.image_passes.proofs.Scanning.{reads-stand, goes-stand, NextLine, goes-line}
use Rattle.image_passes.specs.declared.first_pass.Pass.{Pass}
use Rattle.image_passes.specs.declared.first_pass.Pass.TheVariants.{AtLabel, Ended as PassEnded}
use Rattle.image_passes.specs.declared.first_pass.Next.{Next}
use Rattle.image_passes.specs.declared.first_pass.Next.TheVariants.{From, Ended as NextEnded}
use Rattle.image_passes.specs.declared.first_pass.Cursor.{Cursor}
use Rattle.image_passes.specs.declared.first_pass.Found.{Found}
use Rattle.image_passes.specs.declared.first_pass.Stopped.{Stopped}
use Rattle.image_passes.specs.declared.first_pass.LabelLine.{LabelLine}
use Rattle.image.proofs.Over.{take-over, length_over, over-more}
use Rattle.image_assembler.specs.Promised.{overlong, Finishable, Finishes, Starts, Holds, Walks, Resolves, Assembles}
use Rattle.image_assembler.specs.declared.assembler.Assembled.{Assembled}
use Rattle.image_assembler.specs.declared.assembler.AssembleError.{AssembleError}
use Rattle.image_assembler.proofs.Answers.{ends-answers, overlong-answers}

-- ---- labels and their entries

spelled-more : (s : List ℕ) (ls : List Meant) (l : Meant) → Spelled s ls → spelled s (entry_of l) ≡ l.spelling → InText s (entry_of l) → Spelled s (ls ++ (l ∷ []))
spelled-more s [] l h e k = (e, k, tt)
spelled-more s (m ∷ ls) l h e k = (h.0, h.1, spelled-more s ls l h.2 e k)

-- A spelling is one of theirs if it is found among the entries.
any-is : (s u : List ℕ) (ls : List Meant) → Spelled s ls → any_named s (map entry_of ls) u ≡ is_known ls u
unfolding any_named is_known find is_some
any-is s u [] h = refl
any-is s u (l ∷ ls) h =
    by-test (same l.spelling u)
    (λ e. rw (any_named, find, h.0, e))
    (λ e. rw (any_named, find, h.0, e) (any-is s u ls h.2))

module _ (s : List ℕ) (old table : List Label) (ls : List Meant) (e : table ≡ over (map entry_of ls) old) where
  firsts-are : take (length ls) table ≡ map entry_of ls
  firsts-are = rw (e, ← length-map ls entry_of) (take-over (map entry_of ls) old)

  table-known : (u : List ℕ) → Spelled s ls → any_named s (take (length ls) table) u ≡ is_known ls u
  table-known u h = rw firsts-are (any-is s u ls h)

  table-long : length ls ≤ length old → length table ≡ length old
  table-long fits = ap length e ∙ length_over (map entry_of ls) old (rw (length-map ls entry_of) fits)

  -- A label more is an entry more.
  table_more : (l : Meant) → length ls < length old → set table (length ls) (entry_of l) ≡ over (map entry_of (ls ++ (l ∷ []))) old
  table_more l h =
      rw (e, map-append entry_of ls (l ∷ []), ← length-map ls entry_of) (over-more (map entry_of ls) old (entry_of l) (rw (length-map ls entry_of) h))

counted : (ls : List Meant) (l : Meant) (e : Entry) → length (with_entry e ls l) ≡ count_after (length ls) e
counted ls l (Ok u) = length-append ls (l ∷ []) ∙ add-one (length ls)
counted ls l (Err r) = refl

-- ---- the walk

-- Labels have been entered since the walk began, and something holds of them.
pub record LabelsSince (old now : Labels) (Stands : List Meant → Type 0) : Type 0 where
  pub labels : List Meant
  pub stands : Stands labels
  pub counted : now.count ≡ length labels
  pub holds : Holds old.source.now old.table.now (unlinked now.count now.table.now) labels
  pub linked : Linked now
  pub lent : SameLent old now

-- Something else holds of the same labels.
standing : {old now : Labels} {P Q : List Meant → Type 0} → ((ls : List Meant) → P ls → Q ls) → LabelsSince old now P → LabelsSince old now Q
standing f w = record { labels = w.labels; stands = f w.labels w.stands; counted = w.counted; holds = w.holds; linked = w.linked; lent = w.lent }

-- The walk reads on from a line. A line has at most one label, so fewer labels have been entered than its number.
pub record Walking (names : List Name) (old now : Labels) (c : Cursor) : Type 0 where
  pub entered : LabelsSince old now (λ ls. ReachedFrom names old.source.now (length old.table.now) ls c)
  pub sound : Scannable old.source.now c
  pub few : now.count + 1 ≤ c.line

-- It has come to a line whose label is to be entered.
pub record Stopping (names : List Name) (old now : Labels) (p : LabelLine) : Type 0 where
  pub entered : LabelsSince old now (λ ls. LabelNext names old.source.now (length old.table.now) ls p)
  pub sound : Sound old.source.now p
  pub few : now.count + 1 ≤ p.line

-- It has ended.
abbrev Ended : List Name → Labels → Labels → Verdict → Type 0
Ended names old now v = LabelsSince old now (λ ls. WalkEnds names old.source.now (length old.table.now) ls v)

walks : {names : List Name} {old now : Labels} {v : Verdict} → Ended names old now v → now.count ≤ most_bytes → Walks names old now v
walks w few = record { labels = w.labels; ends = w.stands; counted = w.counted; few = few; holds = w.holds; linked = w.linked; lent = w.lent }

-- What is left, counted in lines.
abbrev pub left : List ℕ → Cursor → ℕ
left s c = length s + 2 - c.line

-- ---- how it begins

module _ {old : Labels} (x : Starts old) where
  none-entered : {P : List Meant → Type 0} → P [] → LabelsSince old old P
  unfolding unlinked over
  none-entered stands =
      let none : old.count ≡ 0 = x.none_entered in
      record {
        labels = [];
        stands = stands;
        counted = none;
        holds = subst (λ (k : ℕ). Holds old.source.now old.table.now (unlinked k old.table.now) []) (sym none) (record { table_is = refl; fits = omega arith; spelled = tt });
        linked = record {
          in_table = rw none (omega arith);
          in_text = λ i h. absurd (omega arith);
          onward = λ i h. absurd (omega arith);
          rootable = x.bare.rootable;
          rooted = λ slot j e. let y : ◌≡◌ {A = Maybe ℕ} None (Some j) = sym (ap place_before (x.bare.none_there slot)) ∙ e in cc;
          found = λ i h. absurd (omega arith);
          distinct = λ i j h. absurd (omega arith);
        };
        lent = record { same_source = refl; same_table = refl; same_roots = refl };
      }

  -- The source is refused before any line,
  pub walks-refused : (names : List Name) {t : Stopped} → Err t ≡ begun old.source.now → Walks names old old (Err t)
  unfolding most_bytes
  walks-refused names b = walks (none-entered (begins-stand names old.source.now x.short (length old.table.now) b)) (omega (arith, x.none_entered))

  -- or the walk reads on from the first line, which is line 1.
  pub walking-begin : (names : List Name) {c : Cursor} → Ok c ≡ begun old.source.now → Walking names old old c
  walking-begin names {c} b =
      let (first, reached) = begins-stand names old.source.now x.short (length old.table.now) b in
      record {
        entered = none-entered reached;
        sound = rw first (record { short = x.short; in_text = omega arith; few_lines = omega arith; few_words = omega arith });
        few = rw (x.none_entered, first) (omega arith);
      }

-- ---- how it reads on

module _ {names : List Name} {old now : Labels} {c : Cursor} (w : Walking names old now c) where
  progress : {p : Pass} → ReadsOn names old.source.now c p → LabelsSince old now (λ ls. Progress names old.source.now (length old.table.now) ls p)
  progress r = standing (λ ls h. reads-stand r w.sound (length old.table.now) ls h) w.entered

  -- To a label,
  pub walking-label : {p : LabelLine} → ReadsOn names old.source.now c (AtLabel p) → Stopping names old now p
  walking-label r = record { entered = progress r; sound = r.sound; few = omega (arith, w.few, r.after) }

  -- or to its end.
  pub walking-ends : {v : Verdict} → ReadsOn names old.source.now c (PassEnded v) → Walks names old now v
  walking-ends r = walks (progress r) (omega (arith, w.few, w.sound.few_lines, w.sound.in_text, w.sound.short))

-- ---- how it goes on

holds-long : {s : List ℕ} {old table : List Label} {ls : List Meant} → Holds s old table ls → length table ≡ length old
holds-long {s} {old} {table} {ls} h = table-long s old table ls h.table_is h.fits

-- A label is entered, or refused.
module _ {s : List ℕ} {old table : List Label} (p : LabelLine) {ls : List Meant} {n : ℕ} (count : n ≡ length ls) (inside : InText s p.label) (h : Holds s old table ls) where
  abbrev name : List ℕ
  name = spelled s p.label

  entry-is : entry_of (label_at s p) ≡ p.label
  entry-is = λ i. record { start = p.label.start; length = spelled-long s p.label inside i; address = p.label.address }

  known_is : any_named s (take n table) name ≡ is_known ls name
  known_is = rw count (table-known s old table ls h.table_is name h.spelled)

  module _ {table' : List Label} {e : Entry} (x : Enters s table n p.label table' e) where
    fault_is : fault_of e ≡ entry_fault (is_known ls name) (ltb (length ls) (length old))
    fault_is = x.answer ∙ rw (known_is, count, holds-long h)

    holds-is : table' ≡ elim (is_known ls name) [ true ↦ table | false ↦ set table (length ls) p.label ]
    holds-is = x.holds ∙ ap₂ (λ (b : Bool) (m : ℕ). elim b [ true ↦ table | false ↦ set table m p.label ]) known_is count

    kept_on : table' ≡ table → Holds s old table' ls
    kept_on k = record { table_is = k ∙ h.table_is; fits = h.fits; spelled = h.spelled }

    entered_on : length ls < length old → table' ≡ set table (length ls) p.label → Holds s old table' (ls ++ (label_at s p ∷ []))
    entered_on l k =
        record {
          table_is = k ∙ ap (set table (length ls)) (sym entry-is) ∙ table_more s old table ls h.table_is (label_at s p) l;
          fits = omega (arith, l, length-append ls (label_at s p ∷ []));
          spelled = spelled-more s ls (label_at s p) h.spelled (ap (spelled s) entry-is) (subst (InText s) (sym entry-is) inside);
        }

    holds_on : Holds s old table' (with_entry e ls (label_at s p))
    unfolding entry_fault
    holds_on = go (is_known ls name) (ltb (length ls) (length old)) refl e fault_is holds-is
      where
        go : (a b : Bool) → ltb (length ls) (length old) ≡ b → (k : Entry) → fault_of k ≡ entry_fault a b
            → table' ≡ elim a [ true ↦ table | false ↦ set table (length ls) p.label ] → Holds s old table' (with_entry k ls (label_at s p))
        go true b l (Err r) q k = kept_on k
        go true b l (Ok u) q k = let y : ◌≡◌ {A = ℕ} 0 1 = cc in absurd (omega arith)
        go false true l (Ok u) q k = entered_on (ltb-true (length ls) (length old) l) k
        go false true l (Err r) q k = let y : ◌≡◌ {A = ℕ} 0 1 = cc in absurd (omega arith)
        go false false l (Err r) q k = kept_on (k ∙ full l)
          where
            full : ltb (length ls) (length old) ≡ false → set table (length ls) p.label ≡ table
            full z = set_out table (length ls) p.label (omega (arith, ltb-false (length ls) (length old) z, holds-long h))
        go false false l (Ok u) q k = let y : ◌≡◌ {A = ℕ} 0 1 = cc in absurd (omega arith)

-- It stands at a label.
module _ {names : List Name} {old now : Labels} {p : LabelLine} (w : Stopping names old now p) where
  abbrev so-far : LabelsSince old now (λ ls. LabelNext names old.source.now (length old.table.now) ls p)
  so-far = w.entered

  -- What entering the label asks for.
  pub walking-enterable : Enterable now.source.now now.count p.label
  unfolding most_bytes
  walking-enterable =
      let k = w.sound in
      rw so-far.lent.same_source
      (record { in_text = k.in_text; short = k.short; few = omega (arith, k.short, k.line_fits, w.few); near = k.near })

  -- It goes on.
  module _ {next : Labels} {e : Entry} {n : Next} (x : Enters now.source.now (unlinked now.count now.table.now) now.count p.label (unlinked next.count next.table.now) e)
      (t : TreeAfter now.source.now now.table.now now.roots.now now.count p.label next.table.now next.roots.now e)
      (more : next.count ≡ count_after now.count e) (lent : SameLent now next) (g : n ≡ followed old.source.now p e) where
    enters : Enters old.source.now (unlinked now.count now.table.now) now.count p.label (unlinked next.count next.table.now) e
    enters = rw so-far.lent.same_source at x

    linked-after : (k : Entry) → TreeAfter now.source.now now.table.now now.roots.now now.count p.label next.table.now next.roots.now k
        → Tree now.source.now next.table.now next.roots.now (count_after now.count k)
    linked-after (Ok u) f = f.1
    linked-after (Err r) f = rw (f.0, f.1) so-far.linked

    goes : LabelsSince old next (λ ls. Resumes names old.source.now (length old.table.now) ls n)
    goes =
        record {
          labels = with_entry e so-far.labels (label_at old.source.now p);
          stands = rw g (goes-stand e (length old.table.now) so-far.labels so-far.stands (fault_is p so-far.counted w.sound.in_text so-far.holds enters));
          counted = more ∙ ap (λ (m : ℕ). count_after m e) so-far.counted ∙ sym (counted so-far.labels (label_at old.source.now p) e);
          holds = holds_on p so-far.counted w.sound.in_text so-far.holds enters;
          linked = rw (lent.same_source, more) (linked-after e t);
          lent = record {
            same_source = lent.same_source ∙ so-far.lent.same_source;
            same_table = lent.same_table ∙ so-far.lent.same_table;
            same_roots = lent.same_roots ∙ so-far.lent.same_roots;
          };
        }

    at-most-one : (k : Entry) → count_after now.count k ≤ now.count + 1
    at-most-one (Ok u) = omega arith
    at-most-one (Err r) = omega arith

    -- It has ended,
    pub walking_ended : {v : Verdict} → n ≡ NextEnded v → Walks names old next v
    walking_ended k = walks (rw k at goes) (omega (arith, more, at-most-one e, w.few, w.sound.line_fits, w.sound.short))

    -- or it reads on from a line after that of the label.
    module _ {c : Cursor} (k : n ≡ From c) where
      next-line : NextLine old.source.now 0 p.line (From c)
      next-line = subst (NextLine old.source.now 0 p.line) (sym g ∙ k) (goes-line w.sound e)

      pub walking_on : Walking names old next c
      walking_on = record { entered = rw k at goes; sound = next-line.0; few = omega (arith, more, at-most-one e, w.few, next-line.1) }

      -- Fewer lines are left than from the cursor on from which the label was reached.
      pub nearer : {d : Cursor} → ReadsOn names old.source.now d (AtLabel p) → left old.source.now c < left old.source.now d
      nearer r = omega (arith, w.sound.line_fits, r.after, next-line.1)

-- ---- what its end comes to

module _ {names : List Name} {old new : Labels} {v : Verdict} (w : Walks names old new v) where
  same-source : new.source.now ≡ old.source.now
  same-source = ap (λ (x : Bor (List ℕ)). x.now) w.lent.same_source

  -- A source has been read where its verdict is known.
  resolves : {v' : Verdict} → ReadingEnds names old.source.now (length old.table.now) w.labels v' → Finishable names new v' → Resolves names old new v'
  resolves e f = record { labels = w.labels; ends = e; counted = w.counted; holds = w.holds; finishable = f; linked = w.linked; lent = w.lent }

module _ {names : List Name} {old new : Labels} {f : Found} (w : Walks names old new (Ok f)) where
  addresses-are : (u : List ℕ) → address_at old.source.now (take new.count (unlinked new.count new.table.now)) u ≡ address_of w.labels u
  addresses-are u =
      let h = w.holds in
      ap (λ (n : ℕ). address_at old.source.now (take n (unlinked new.count new.table.now)) u) w.counted
      ∙ ap (λ (ls : List Label). address_at old.source.now ls u) (firsts-are old.source.now old.table.now (unlinked new.count new.table.now) w.labels h.table_is)
      ∙ address-is old.source.now u w.labels h.spelled

  -- The source has been read to its end: its labels may be looked up.
  pub walks-entered : Entered names new
  walks-entered = through-entered w.ends new (same-source w) w.linked w.few addresses-are

  -- None is refused,
  resolves-without : fault_in (reads names old.source.now) ≡ none → Resolves names old new (Ok f)
  resolves-without n =
      resolves w (through-accepts w.ends n) (walks-entered, subst (λ (s : List ℕ). Ready names s f.words (settings_meant f.config)) (sym (same-source w)) (through-ready w.ends n))

  -- since none is named,
  pub resolves-untargeted : f.targets ≡ false → Resolves names old new (Ok f)
  resolves-untargeted e = resolves-without (through-untargeted w.ends e)

  -- or each was looked up;
  pub resolves-checked : {u : ⊤} → Ok u ≡ refused_for (fault_in (reads names new.source.now)) → Resolves names old new (Ok f)
  resolves-checked {u} e = resolves-without (go (fault_in (reads names old.source.now)) (rw (same-source w) at e))
    where
      go : (o : Option Fault) → ◌≡◌ {A = Result ⊤ Stopped} (Ok u) (refused_for o) → o ≡ none
      go none h = refl
      go (some x) h = let y : ◌≡◌ {A = ℕ} 0 1 = cc in absurd (omega arith)

  -- or one is refused.
  pub resolves-refused : {t : Stopped} → Err t ≡ refused_for (fault_in (reads names new.source.now)) → Resolves names old new (Err t)
  resolves-refused e = resolves w (through-refused w.ends (rw (same-source w) at e)) tt

-- The second walk has ended too, and the entries are unlinked.
pub resolves-end : {names : List Name} {old new : Labels} {v : Verdict} → Resolves names old new v → {table' : List Label} {image image' : List ℕ} {r : Result Assembled AssembleError}
    → table' ≡ unlinked new.count new.table.now → Finishes names new image image' r v → Assembles names old.source.now old.table.now image table' image' r
resolves-end {names} {old} {new} {v} w {image = image} {image'} {r} e f =
    let same : new.source.now ≡ old.source.now = ap (λ (x : Bor (List ℕ)). x.now) w.lent.same_source in
    let a = ends-answers names old.source.now (length old.table.now) w.labels new image image' r same w.counted v w.ends f in
    record { answer = a.answer; table_holds = e ∙ w.holds.table_is ∙ ap (λ (ls : List Meant). over (map entry_of ls) old.table.now) a.labels_are; image_holds = a.image_holds }

-- ---- a source that is too long

pub overlong-assembles : (names : List Name) (s : List ℕ) (table : List Label) (image : List ℕ) → most_bytes < length s → Assembles names s table image table image overlong
unfolding over
overlong-assembles names s table image h =
    let a = overlong-answers names s (length table) image h in
    record { answer = a.answer; table_holds = ap (λ (ls : List Meant). over (map entry_of ls) table) a.labels_are; image_holds = a.image_holds }
