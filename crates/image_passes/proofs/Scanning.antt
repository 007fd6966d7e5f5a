-- Laws of the first walk. First what document 01's walk does at a line that has been reached and at a label that is entered or refused;
-- then that the pieces of the first walk do the same; last, that the code's loop follows the pieces.
use Prim.Native.Nat.{ℕ, zero, suc, ◌+◌, ◌-◌, ◌≤◌, ◌<◌}
use mathlib.Core.Path.{◌≡◌, refl, sym, ap, ap₂, subst, ◌∙◌}
use native.Mathlib.Omega.{arith}
use native.Mathlib.Numerals.{add-one}
use mathlib.Core.Bool.{Bool, true, false, ◌||◌}
use mathlib.Core.Option.{Option, none, some}
use mathlib.Core.List.{List, [], ◌∷◌, ◌++◌}
use lib.ListN.{length, take, drop, length-take, length-drop}
use lib.Dec.{ltb}
use borrow.Author.Tests.{lt-ltb, le-ltb}
use Rattle.std.specs.Prelude.{Some, None, Ok, Err}
use Rattle.std.specs.Prelude.{Option as Maybe}
use Rattle.refusal.specs.Refusals.{number_of, fault_of}
use Rattle.refusal.specs.declared.refusal.Refusal.{Refusal}
use Rattle.text_lexical.specs.Names.{Name}
use Rattle.text_lexical.proofs.Tests.{split}
use Rattle.text.specs.Lines.{lines, indent, read_line}
use Rattle.text.specs.Places.{rest_at, end_at}
use Rattle.text.proofs.Lines.{line_at, last_line}
use Rattle.image.specs.Settings.{Settings}
use Rattle.image.specs.Program.{entry}
use Rattle.image.specs.Assembling.{State, Step, next, stop, is_known, address_after, with_label, enter, read_on, changed_by, context_after, reads_from, reads, entering, doing, step, context_of, Walk, finished, stopped, walk, rust_line_of, refusing, read_to, most_bytes}
use Rattle.image.specs.Assembling.{Label as Meant, Effect as MeantEffect, Read as MeantRead}
use Rattle.image.specs.Assembling.{line_refused as assembling_refused}
use Rattle.image.specs.Meaning.{names_target, any_target}
use Rattle.image.specs.Promised.{settings_meant}
use Rattle.image_labels.specs.Promised.{spelled, entry_fault}
use Rattle.image_line.specs.Promised.{context_for, label_meant, LineIs}
use Rattle.image_line.specs.declared.line.Read.{Read}
use Rattle.image_passes.specs.Promised.{read_at, effect_at, Rest, found_with, ended, Entry, Verdict, WalkEnds, line_refused, label_pass, scanned, scanned_from, line_after, followed, RestFits, Sound, Scannable, ReadsOn}
use Rattle.image_passes.specs.declared.first_pass.Next.{Next}
use Rattle.image_passes.specs.declared.first_pass.Next.TheVariants.{From, Ended as NextEnded}
use Rattle.image_passes.specs.declared.first_pass.Cursor.{Cursor}
use Rattle.image_passes.specs.declared.first_pass.Pass.{Pass}
use Rattle.image_passes.specs.declared.first_pass.Pass.TheVariants.{Ended as PassEnded}
use Rattle.image_passes.specs.declared.first_pass.LabelLine.{LabelLine}
use Rattle.image_passes.specs.declared.first_pass.Done.{Done}
use Rattle.image_passes.specs.declared.first_pass.Found.{Found}
use Rattle.image_passes.proofs.Reaching.{comes_to, whole, Clean, clean-reading, reads_after, Reached, LabelNext, ReachedFrom, Progress, Resumes, with_entry, label_at}
use Rattle.image_passes.proofs.Passes.{line-split}
use Rattle.image_passes.proofs.Spelling.{label-part, label-solid}
use Rattle.image_passes.proofs.Steps.{grown, or-false, RestDone, line-is, rest_fits, comes-to}

-- ---- after a line

-- What is after a line that ends at a place, by what it leads to: the next line, if there is one.
unfoldable after_line : List Name → List ℕ → ℕ → ℕ → ℕ → Step → Walk
after_line names s room line end (stop n st) = stopped n line st
after_line names s room line end (next st) =
    elim (ltb end (length s)) [ true ↦ walk names room (suc line) (suc end) st (lines (drop (suc end) s)) | false ↦ finished st ]

-- A line whose label, if it has one, is entered: what is left is what it does, and the lines after it.
record Doing (names : List Name) (s : List ℕ) (room line at : ℕ) (labels : List Meant) (f : Found) : Type 0 where
  pub clean : Clean s
  pub state : State
  pub comes : whole names s room ≡ after_line names s room line (end_at s at) (doing (effect_at names s at (settings_meant f.config)) (next state))
  pub labels_are : state.labels ≡ labels
  pub words_are : state.words ≡ f.words
  pub setup_is : state.setup ≡ settings_meant f.config
  pub in_text : at ≤ length s
  pub targets_are : any_target (reads names s) ≡ (f.targets || any_target (reads_after names s at f.config))

-- The walk has ended with the refusal of a line.
ends-refused : (names : List Name) (s : List ℕ) (room line : ℕ) (r : Refusal) {ls : List Meant} → Clean s → (st : State)
    → whole names s room ≡ stopped (number_of r) line st → st.labels ≡ ls → WalkEnds names s room ls (Err (line_refused r line))
unfolding read_to assembling_refused
ends-refused names s room line r c st e l =
    clean-reading c names room ∙ ap (read_to (reads names s)) e ∙ ap (λ (x : List Meant). refusing (number_of r) (rust_line_of (number_of r) line) line x none) l

-- Whether lines name a label: the first does, or one of those after it.
or-assoc : (a b c : Bool) → (a || (b || c)) ≡ ((a || b) || c)
or-assoc true b c = refl
or-assoc false b c = refl

module _ {names : List Name} {s : List ℕ} {room line at : ℕ} {ls : List Meant} {f : Found} (d : Doing names s room line at ls f) where
  -- The line is refused.
  doing-refused : {r : Refusal} → comes_to names s at f ≡ Err r → WalkEnds names s room ls (Err (line_refused r line))
  unfolding after_line
  doing-refused {r} e =
      let h = rw e at (line-is names s at f) in
      ends-refused names s room line r d.clean d.state (d.comes ∙ ap (after_line names s room line (end_at s at)) (h d.state d.words_are)) d.labels_are

  -- It is not.
  module _ {d' : Done} (e : comes_to names s at f ≡ Ok d') where
    abbrev effect : MeantEffect
    effect = effect_at names s at (settings_meant f.config)

    done : RestDone effect f (end_at s at) d'
    done = rw e at (line-is names s at f)

    abbrev after : State
    after = grown d.state effect d'.found.words

    comes-after : whole names s room ≡ after_line names s room line d'.end (next after)
    comes-after =
        d.comes ∙ ap (after_line names s room line (end_at s at)) (done.does d.state d.words_are)
        ∙ ap (λ (n : ℕ). after_line names s room line n (next after)) (sym done.ends)

    after-setup : after.setup ≡ settings_meant d'.found.config
    after-setup = ap (λ (x : Settings). changed_by x effect) d.setup_is ∙ sym done.settings

    -- Whether lines name a label is known up to the line, and left to those after it.
    targets-after : (rest : List (List ℕ)) → lines (drop at s) ≡ rest_at s at ∷ rest
        → any_target (reads names s) ≡ (d'.found.targets || any_target (reads_from names (context_for d'.found.config) rest))
    unfolding any_target reads_from context_after
    targets-after rest q =
        d.targets_are
        ∙ ap (λ (l : List (List ℕ)). f.targets || any_target (reads_from names (context_for f.config) l)) q
        ∙ ap (λ (x : Settings). f.targets || (names_target effect || any_target (reads_from names (record { setup = x }) rest))) (sym done.settings)
        ∙ or-assoc f.targets (names_target effect) (any_target (reads_from names (context_for d'.found.config) rest))
        ∙ ap (λ (b : Bool). b || any_target (reads_from names (context_for d'.found.config) rest)) (sym done.targets)

    -- It is the last line,
    doing-last : length s ≤ d'.end → WalkEnds names s room ls (Ok d'.found)
    unfolding after_line any_target reads_from
    doing-last z =
        record {
          state = after;
          short = d.clean.short;
          clean = d.clean.ascii_only;
          walked = comes-after ∙ rw (after_line, le-ltb d'.end (length s) z);
          labels_are = d.labels_are;
          words_are = refl;
          setup_is = after-setup;
          targets_are = targets-after [] (last_line s at d.in_text (omega (arith, done.ends, z))) ∙ sym (or-false d'.found.targets);
        }

    -- or there is another after it.
    doing-on : d'.end < length s → Reached names s room (suc line) (suc d'.end) ls d'.found
    unfolding after_line
    doing-on z =
        record {
          clean = d.clean;
          state = after;
          on = sym (comes-after ∙ rw (after_line, lt-ltb d'.end (length s) z));
          labels_are = d.labels_are;
          words_are = refl;
          setup_is = after-setup;
          targets_are = targets-after (lines (drop (suc d'.end) s)) (line_at s at d.in_text (omega (arith, done.ends, z)) ∙ ap (λ (n : ℕ). rest_at s at ∷ lines (drop (suc n) s)) (sym done.ends));
        }

-- ---- a line that has been reached

module _ {names : List Name} {s : List ℕ} {room line at : ℕ} {ls : List Meant} {f : Found} (q : Reached names s room line at ls f) (inside : at ≤ length s) where
  abbrev place : ℕ
  place = at + indent (rest_at s at)

  abbrev read : MeantRead
  read = read_at names s at (settings_meant f.config)

  abbrev stepped : Step
  stepped = step room q.state place (read_on (context_of q.state) (read_line names (rest_at s at)))

  next_place : at + suc (length (rest_at s at)) ≡ suc (end_at s at)
  unfolding end_at
  next_place = omega arith

  -- what it leads to, if it is not the last one,
  there : end_at s at < length s → walk names room line at q.state (lines (drop at s)) ≡ after_line names s room line (end_at s at) stepped
  unfolding walk after_line
  there b = ap (walk names room line at q.state) (line_at s at inside b) ∙ go stepped
    where
      go : (d : Step) → elim d [ next st ↦ walk names room (suc line) (at + suc (length (rest_at s at))) st (lines (drop (suc (end_at s at)) s)) | stop n st ↦ stopped n line st ]
          ≡ after_line names s room line (end_at s at) d
      go (stop n st) = refl
      go (next st) = rw (after_line, lt-ltb (end_at s at) (length s) b, next_place)

  -- and if it is
  at_last : length s ≤ end_at s at → walk names room line at q.state (lines (drop at s)) ≡ after_line names s room line (end_at s at) stepped
  unfolding walk after_line
  at_last b = ap (walk names room line at q.state) (last_line s at inside b) ∙ go stepped
    where
      go : (d : Step) → elim d [ next st ↦ walk names room (suc line) (at + suc (length (rest_at s at))) st [] | stop n st ↦ stopped n line st ] ≡ after_line names s room line (end_at s at) d
      go (stop n st) = refl
      go (next st) = rw (after_line, le-ltb (end_at s at) (length s) b)

  line-comes : whole names s room ≡ after_line names s room line (end_at s at) (step room q.state place read)
  unfolding context_of
  line-comes =
      sym q.on ∙ split (end_at s at) (length s) there at_last
      ∙ ap (λ (x : Settings). after_line names s room line (end_at s at) (step room q.state place (read_on (record { setup = x }) (read_line names (rest_at s at))))) q.setup_is

  label-comes : {o : Option (List ℕ)} → read.label ≡ o → whole names s room ≡ after_line names s room line (end_at s at) (doing read.effect (entering room q.state place o))
  unfolding step
  label-comes e = line-comes ∙ ap (λ (o : Option (List ℕ)). after_line names s room line (end_at s at) (doing read.effect (entering room q.state place o))) e

  -- A line without a label.
  plain-doing : read.label ≡ none → Doing names s room line at ls f
  unfolding entering
  plain-doing e =
      record {
        clean = q.clean;
        state = q.state;
        comes = label-comes e;
        labels_are = q.labels_are;
        words_are = q.words_are;
        setup_is = q.setup_is;
        in_text = inside;
        targets_are = q.targets_are;
      }

-- ---- reading on

module _ (names : List Name) (s : List ℕ) (room : ℕ) (ls : List Meant) where
  -- Where reading on from a line comes to is where document 01's walk stands.
  abbrev Stands : ℕ → Found → ℕ → List (List ℕ) → Type 0
  Stands line f at ls' = Progress names s room ls (scanned names line f at ls')

  module _ (line : ℕ) (f : Found) (at : ℕ) (inside : at ≤ length s) (q : Reached names s room line at ls f) where
    abbrev comes : Rest
    comes = comes_to names s at f

    -- A line that has been reached, by what follows it where it is not refused.
    line-stands : (ls' : List (List ℕ)) → ((read_at names s at (settings_meant f.config)).label ≡ none → (d : Done) → comes ≡ Ok d → Stands (suc line) d.found (suc d.end) ls')
        → Stands line f at (rest_at s at ∷ ls')
    unfolding scanned end_at
    line-stands ls' more = go (read_at names s at (settings_meant f.config)).label refl
      where
        go : (o : Option (List ℕ)) → (read_at names s at (settings_meant f.config)).label ≡ o
            → Progress names s room ls (elim o [
              | some u ↦ label_pass (at + indent (rest_at s at)) (length u) f.words line comes
              | none ↦ elim comes [ Err r ↦ PassEnded (Err (line_refused r line)) | Ok d ↦ scanned names (suc line) d.found (suc d.end) ls' ]
            ])
        go (some u) e =
            record {
              at = at;
              in_text = inside;
              found = f;
              reached = q;
              reads = e ∙ ap (λ (v : List ℕ). some v) (label-part names s at (settings_meant f.config) u e);
              starts = refl;
              address_is = refl;
              rest-is = refl;
            }
        go none e = on comes refl
          where
            on : (x : Rest) → comes ≡ x → Progress names s room ls (elim x [ Err r ↦ PassEnded (Err (line_refused r line)) | Ok d ↦ scanned names (suc line) d.found (suc d.end) ls' ])
            on (Err r) k = doing-refused (plain-doing q inside e) k
            on (Ok d) k = more e d k

    ended-at : {d : Done} → comes ≡ Ok d → end_at s at ≡ d.end
    ended-at k = sym (rw k at (line-is names s at f)).ends

    lines-stand : ((f' : Found) → end_at s at < length s → Reached names s room (suc line) (suc (end_at s at)) ls f'
        → Stands (suc line) f' (suc (end_at s at)) (lines (drop (suc (end_at s at)) s)))
        → Stands line f at (lines (drop at s))
    unfolding scanned
    lines-stand more = split (end_at s at) (length s) another last
      where
        last : length s ≤ end_at s at → Stands line f at (lines (drop at s))
        last b = rw (last_line s at inside b) (line-stands [] (λ e d k. doing-last (plain-doing q inside e) k (omega (arith, ended-at k, b))))

        another : end_at s at < length s → Stands line f at (lines (drop at s))
        another b =
            rw (line_at s at inside b)
            (line-stands (lines (drop (suc (end_at s at)) s)) (λ e d k.
            subst (λ (x : ℕ). Stands (suc line) d.found (suc x) (lines (drop (suc (end_at s at)) s))) (ended-at k)
            (more d.found b (subst (λ (x : ℕ). Reached names s room (suc line) (suc x) ls d.found) (sym (ended-at k)) (doing-on (plain-doing q inside e) k (omega (arith, ended-at k, b)))))))

  -- From a line that has been reached, with so many bytes left at most.
  stands_from : (left line : ℕ) (f : Found) (at : ℕ) → length s ≤ at + left → at ≤ length s → Reached names s room line at ls f → Stands line f at (lines (drop at s))
  unfolding end_at
  stands_from zero line f at few inside q = lines-stand line f at inside q (λ f' b _. absurd (omega (arith, b, few)))
  stands_from (suc left) line f at few inside q =
      lines-stand line f at inside q (λ f' b r. stands_from left (suc line) f' (suc (end_at s at)) (omega (arith, few)) (omega (arith, b)) r)

-- Where the walk comes to as it reads on.
pub reads-stand : {names : List Name} {s : List ℕ} {c : Cursor} {p : Pass} → ReadsOn names s c p → Scannable s c → (room : ℕ) (ls : List Meant) → ReachedFrom names s room ls c
    → Progress names s room ls p
reads-stand {names} {s} {c} {p} r safe room ls h = rw r.answer (stands_from names s room ls (length s) c.line c.found c.at (omega arith) safe.in_text h)

-- ---- after a label

-- A label is refused, or entered, as document 01 has it.
module _ (room : ℕ) (st : State) (at : ℕ) (u : List ℕ) where
  enter-refused : (n : ℕ) → some n ≡ entry_fault (is_known st.labels u) (ltb (length st.labels) room) → enter room st at u ≡ stop n st
  unfolding enter entry_fault
  enter-refused n = go (is_known st.labels u) (ltb (length st.labels) room)
    where
      go : (a b : Bool) → some n ≡ entry_fault a b → ◌≡◌ {A = Step} (elim a [ true ↦ stop 4 st | false ↦ elim b [ true ↦ next (with_label st at u) | false ↦ stop 5 st ] ]) (stop n st)
      go true b e = let z : 4 ≡ n = cc in ap (λ (m : ℕ). stop m st) z
      go false true e = let y : ◌≡◌ {A = ℕ} 0 1 = cc in absurd (omega arith)
      go false false e = let z : 5 ≡ n = cc in ap (λ (m : ℕ). stop m st) z

  enter-good : none ≡ entry_fault (is_known st.labels u) (ltb (length st.labels) room) → enter room st at u ≡ next (with_label st at u)
  unfolding enter entry_fault
  enter-good = go (is_known st.labels u) (ltb (length st.labels) room)
    where
      go : (a b : Bool) → none ≡ entry_fault a b → ◌≡◌ {A = Step} (elim a [ true ↦ stop 4 st | false ↦ elim b [ true ↦ next (with_label st at u) | false ↦ stop 5 st ] ]) (next (with_label st at u))
      go true b e = let y : ◌≡◌ {A = ℕ} 0 1 = cc in absurd (omega arith)
      go false true e = refl
      go false false e = let y : ◌≡◌ {A = ℕ} 0 1 = cc in absurd (omega arith)

module _ {names : List Name} {s : List ℕ} {p : LabelLine} {room : ℕ} {ls : List Meant} (a : LabelNext names s room ls p) where
  abbrev name : List ℕ
  name = spelled s p.label

  abbrev known : Bool
  known = is_known ls name

  abbrev st : State
  st = a.reached.state

  abbrev does : MeantEffect
  does = effect_at names s a.at (settings_meant a.found.config)

  comes-there : whole names s room ≡ after_line names s room p.line (end_at s a.at) (doing does (enter room st p.label.start name))
  unfolding entering
  comes-there =
      label-comes a.reached a.in_text a.reads
      ∙ ap (λ (n : ℕ). after_line names s room p.line (end_at s a.at) (doing does (enter room st n name))) (sym a.starts)

  -- The label is refused.
  label-refused : (r : Refusal) → some (number_of r) ≡ entry_fault known (ltb (length ls) room) → WalkEnds names s room ls (Err (line_refused r p.line))
  unfolding after_line doing
  label-refused r e =
      let x : enter room st p.label.start name ≡ stop (number_of r) st = enter-refused room st p.label.start name (number_of r) (rw a.reached.labels_are e) in
      ends-refused names s room p.line r a.reached.clean st (comes-there ∙ rw x) a.reached.labels_are

  -- It is entered.
  module _ (e : none ≡ entry_fault known (ltb (length ls) room)) where
    abbrev named : State
    named = with_label st p.label.start name

    label-doing : Doing names s room p.line a.at (ls ++ (label_at s p ∷ [])) a.found
    unfolding with_label
    label-doing =
        let x : enter room st p.label.start name ≡ next named = enter-good room st p.label.start name (rw a.reached.labels_are e) in
        let at_address : address_after st.words ≡ p.label.address = ap address_after a.reached.words_are ∙ sym a.address_is in
        record {
          clean = a.reached.clean;
          state = named;
          comes = comes-there ∙ ap (λ (d : Step). after_line names s room p.line (end_at s a.at) (doing does d)) x;
          labels_are = ap₂ (λ (l : List Meant) (n : ℕ). l ++ (record { spelling = name; start = p.label.start; address = n } ∷ [])) a.reached.labels_are at_address;
          words_are = a.reached.words_are;
          setup_is = a.reached.setup_is;
          in_text = a.in_text;
          targets_are = a.reached.targets_are;
        }

    -- What follows the line.
    label-on : Resumes names s room (ls ++ (label_at s p ∷ [])) (line_after (length s) p.line p.rest)
    unfolding line_after
    label-on = go p.rest (sym a.rest-is)
      where
        go : (x : Rest) → comes_to names s a.at a.found ≡ x → Resumes names s room (ls ++ (label_at s p ∷ [])) (line_after (length s) p.line x)
        go (Err r) k = doing-refused label-doing k
        go (Ok d) k =
            split d.end (length s)
            (λ b. rw (line_after, lt-ltb d.end (length s) b) (rw (add-one p.line, add-one d.end) (doing-on label-doing k b)))
            (λ b. rw (line_after, le-ltb d.end (length s) b) (doing-last label-doing k b))

-- What follows a label that has been entered, or refused, as document 01 has it.
pub goes-stand : {names : List Name} {s : List ℕ} {p : LabelLine} (e : Entry) (room : ℕ) (ls : List Meant) → LabelNext names s room ls p
    → fault_of e ≡ entry_fault (is_known ls (spelled s p.label)) (ltb (length ls) room) → Resumes names s room (with_entry e ls (label_at s p)) (followed s p e)
goes-stand (Ok u) room ls a k = label-on a k
goes-stand (Err r) room ls a k = label-refused a r k

-- ---- the code's loop

-- What reading on from what follows a line comes to; where the walk has ended it stays so.
abbrev resumed : List Name → List ℕ → Next → Pass
resumed names s (From c) = scanned_from names s c
resumed names s (NextEnded v) = PassEnded v

-- A line and those after it: a label, or what follows the line.
module _ (names : List Name) (s : List ℕ) (c : Cursor) (inside : c.at ≤ length s) where
  abbrev comes-from : Rest
  comes-from = comes_to names s c.at c.found

  from-label : (u : List ℕ) → (read_at names s c.at (settings_meant c.found.config)).label ≡ some u
      → scanned_from names s c ≡ label_pass (c.at + indent (rest_at s c.at)) (length u) c.found.words c.line comes-from
  unfolding scanned end_at
  from-label u e = let (rest, q) = line-split s c.at inside in rw (q, scanned, e)

  -- the lines after it
  rest-is-after : (rest : List (List ℕ)) → lines (drop c.at s) ≡ rest_at s c.at ∷ rest → end_at s c.at < length s → rest ≡ lines (drop (suc (end_at s c.at)) s)
  rest-is-after rest q b = ap (drop 1) (sym q ∙ line_at s c.at inside b)

  none_after : (rest : List (List ℕ)) → lines (drop c.at s) ≡ rest_at s c.at ∷ rest → length s ≤ end_at s c.at → rest ≡ []
  none_after rest q b = ap (drop 1) (sym q ∙ last_line s c.at inside b)

  from-line : (read_at names s c.at (settings_meant c.found.config)).label ≡ none → scanned_from names s c ≡ resumed names s (line_after (length s) c.line comes-from)
  unfolding scanned end_at line_after
  from-line e = let (rest, q) = line-split s c.at inside in rw (q, scanned, e) (go rest q comes-from refl)
    where
      go : (rest : List (List ℕ)) → lines (drop c.at s) ≡ rest_at s c.at ∷ rest → (x : Rest) → comes-from ≡ x
          → elim x [ Err r ↦ PassEnded (Err (line_refused r c.line)) | Ok d ↦ scanned names (suc c.line) d.found (suc d.end) rest ]
          ≡ resumed names s (line_after (length s) c.line x)
      go rest q (Err r) k = refl
      go rest q (Ok d) k =
          let z : d.end ≡ end_at s c.at = (rw k at (line-is names s c.at c.found)).ends in
          split d.end (length s)
          (λ b. rw (line_after, lt-ltb d.end (length s) b, add-one c.line, add-one d.end)
          (ap (scanned names (suc c.line) d.found (suc d.end)) (rest-is-after rest q (subst (λ (n : ℕ). n < length s) z b) ∙ ap (λ (n : ℕ). lines (drop (suc n) s)) (sym z))))
          (λ b. rw (line_after, le-ltb d.end (length s) b) (ap (scanned names (suc c.line) d.found (suc d.end)) (none_after rest q (subst (λ (n : ℕ). length s ≤ n) z b))))

-- A line that is not refused ends at a place or after it.
abbrev EndsAfter : ℕ → Rest → Type 0
EndsAfter at (Err r) = Unit {0}
EndsAfter at (Ok d) = at ≤ d.end

done-after : (names : List Name) (s : List ℕ) (at : ℕ) (f : Found) → EndsAfter at (comes_to names s at f)
unfolding end_at
done-after names s at f = go (comes_to names s at f) refl
  where
    go : (x : Rest) → comes_to names s at f ≡ x → EndsAfter at x
    go (Err r) k = tt
    go (Ok d) k = omega (arith, (rw k at (line-is names s at f)).ends)

-- What is read next is a line after this one, from where the walk may read on; or the walk has ended.
abbrev pub NextLine : List ℕ → ℕ → ℕ → Next → Type 0
NextLine s at line (From d) = Scannable s d × (line < d.line) × (at < d.at)
NextLine s at line (NextEnded v) = Unit {0}

next-line-after : (s : List ℕ) (at line : ℕ) → length s ≤ most_bytes → (x : Rest) → RestFits line x → EndsAfter at x → NextLine s at line (line_after (length s) line x)
unfolding line_after
next-line-after s at line short (Err r) f a = tt
next-line-after s at line short (Ok d) f a =
    split d.end (length s)
    (λ b. rw (line_after, lt-ltb d.end (length s) b)
    (record { short = short; in_text = omega arith; few_lines = omega (arith, f.0); few_words = f.1 }, omega arith, omega (arith, a)))
    (λ b. rw (line_after, le-ltb d.end (length s) b) tt)

-- Where the loop stands: what reading on from there comes to is what it comes to from the first cursor on.
pub record Scanning (names : List Name) (s : List ℕ) (from c : Cursor) : Type 0 where
  pub safe : Scannable s c
  pub same : scanned_from names s c ≡ scanned_from names s from
  pub after : from.line ≤ c.line

module _ {names : List Name} {s : List ℕ} {from c : Cursor} (w : Scanning names s from c) {r : Read} (h : LineIs names s c.at (context_for c.found.config) r) where
  -- its label
  label_is : {o : Maybe ℕ} → r.label ≡ o → (read_at names s c.at (settings_meant c.found.config)).label ≡ label_meant s r.start o
  label_is b = ap (λ (x : MeantRead). x.label) (sym h.reads) ∙ ap (label_meant s r.start) b

  -- what the line comes to, its label aside
  abbrev pub comes-here : Rest
  comes-here = ended (found_with r.effect c.found) r.end

  came : comes-here ≡ comes_to names s c.at c.found
  came = comes-to c.found h

  -- It leaves room.
  fits : RestFits c.line comes-here
  unfolding end_at
  fits = rw came (rest_fits c.found (end_at s c.at) c.line (omega (arith, w.safe.few_lines)) w.safe.few_words (effect_at names s c.at (settings_meant c.found.config)))

  module _ {x : Rest} (z : x ≡ comes-here) where
    stands : x ≡ comes_to names s c.at c.found
    stands = z ∙ came

    -- A label.
    pub scans_label : {n : ℕ} {q : Pass} → r.label ≡ Some n → q ≡ label_pass r.start n c.found.words c.line x → ReadsOn names s from q
    unfolding address_after entry
    scans_label {n} b e =
        let inside_text : r.start + n ≤ length s = rw b at h.in_text in
        let long : length (take n (drop r.start s)) ≡ n = length-take n (drop r.start s) ∙ omega (arith, length-drop r.start s, inside_text) in
        let some-bytes : 0 < n = omega (arith, long, label-solid names s c.at (settings_meant c.found.config) (take n (drop r.start s)) (label_is b)) in
        rw e (record {
          answer =
              ap₂ (λ (m : ℕ) (y : Rest). label_pass m n c.found.words c.line y) h.starts stands
              ∙ ap (λ (m : ℕ). label_pass (c.at + indent (rest_at s c.at)) m c.found.words c.line (comes_to names s c.at c.found)) (sym long)
              ∙ sym (from-label names s c w.safe.in_text (take n (drop r.start s)) (label_is b)) ∙ w.same;
          sound =
              record {
                short = w.safe.short;
                in_text = inside_text;
                near = omega (arith, w.safe.few_words);
                line_fits = omega (arith, w.safe.few_lines, h.starts, inside_text, some-bytes);
                rest_fits = rw z fits;
              };
          after = w.after;
        })

    -- What follows the line.
    module _ (b : r.label ≡ None) {n : Next} (e : n ≡ line_after (length s) c.line x) where
      follows-line : resumed names s n ≡ scanned_from names s from
      follows-line = ap (resumed names s) (e ∙ ap (line_after (length s) c.line) stands) ∙ sym (from-line names s c w.safe.in_text (label_is b)) ∙ w.same

      pub scans_end : {v : Verdict} → n ≡ NextEnded v → ReadsOn names s from (PassEnded v)
      scans_end k = record { answer = rw k at follows-line; sound = tt; after = tt }

      -- The next line is after this one.
      next-after : {d : Cursor} → n ≡ From d → NextLine s c.at c.line (From d)
      unfolding end_at
      next-after k =
          let z = next-line-after s c.at c.line w.safe.short x (rw z fits) ends-after in
          subst (NextLine s c.at c.line) (sym e ∙ k) z
        where
          ends-after : EndsAfter c.at x
          ends-after = rw stands (done-after names s c.at c.found)

      pub scans_on : {d : Cursor} → n ≡ From d → Scanning names s from d
      scans_on k = let y = next-after k in record { safe = y.0; same = rw k at follows-line; after = omega (arith, w.after, y.1) }

      pub scans_less : {d : Cursor} → n ≡ From d → length s - d.at < length s - c.at
      scans_less k = let y = next-after k in omega (arith, y.2, y.0.in_text)

-- ---- going on

-- What follows a label that is entered, or refused: a line after its own, from where the walk may read on; or the walk has ended.
pub goes-line : {s : List ℕ} {p : LabelLine} → Sound s p → (e : Entry) → NextLine s 0 p.line (followed s p e)
goes-line {s} {p} d (Ok u) = next-line-after s 0 p.line d.short p.rest d.rest_fits (any p.rest)
  where
    any : (x : Rest) → EndsAfter 0 x
    any (Err r) = tt
    any (Ok d) = omega arith
goes-line d (Err r) = tt
