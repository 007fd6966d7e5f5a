-- What the lines of a source that is read to its end come to is what is read off the source: how many instructions there are, the labels
-- and their addresses, the settings. And what is known of an accepted source.
use mathlib.Core.Path.{◌≡◌, refl, sym, ap, ap₂, ◌∙◌, fun_ext, subst}
use Prim.Native.Nat.{ℕ, suc, ◌+◌, ◌≤◌}
use native.Mathlib.Nat.{add_assoc, add-zero}
use native.Mathlib.Omega.{arith}
use mathlib.Core.Bool.{Bool, true, false, true≢false}
use mathlib.Core.Option.{Option, none, some}
use mathlib.Core.List.{List, [], ◌∷◌, ◌++◌, map, append_assoc, append-nil}
use lib.ListN.{length, length-append}
use lib.Dec.{leb, ltb}
use borrow.Author.Tests.{ltb-true, leb-true}
use Rattle.std.proofs.lemmas.List.{map-append}
use Rattle.text_lexical.specs.Bytes.{ascii, every, same, before, find}
use Rattle.text_lexical.specs.Names.{Name}
use Rattle.text.specs.Lines.{lines, indent, read_line}
use Rattle.image.specs.Settings.{Settings}
use Rattle.image.specs.Program.{image_length}
use Rattle.image.specs.Assembling.{Label, State, start, Step, next, stop, Effect, nothing, sets, codes, faulty, Read, read_on, changed_by, context_after, reads_from, reads, is_known, address_of, address_after, with_label, enter, entering, with_settings, most_words, with_instruction, doing, step, context_of, Walk, finished, stopped, walk, words_of, is_labelled, address_in, Fault, fault_in, Assembled, accepted, rejected, refusing, line_refused, read_to, most_bytes, reading, fitted, assembling}
use Rattle.image.specs.Meaning.{coded_by, coded_in, instructions_of, settings_in, settings_of, is_accepted, Accepted}
use Rattle.image.specs.Lent.{addressed}

-- ---- how many words lines come to

unfoldable pub words_in : List Read → ℕ
words_in [] = 0
words_in (r ∷ rs) = words_of r.effect + words_in rs

coded-one : (addresses : List ℕ → Option ℕ) (words : ℕ) (e : Effect) → length (coded_by addresses words e) ≡ words_of e
unfolding coded_by words_of
coded-one addresses words nothing = refl
coded-one addresses words (sets s) = refl
coded-one addresses words (codes d) = refl
coded-one addresses words (faulty n) = refl

-- As many as they have instructions, wherever labels are.
pub coded-length : (addresses : List ℕ → Option ℕ) (words : ℕ) (rs : List Read) → length (coded_in addresses words rs) ≡ words_in rs
unfolding coded_in words_in
coded-length addresses words [] = refl
coded-length addresses words (r ∷ rs) =
    let is = coded_by addresses words r.effect in
    let js = coded_in addresses (words + words_of r.effect) rs in
    omega (arith, length-append is js, coded-one addresses words r.effect, coded-length addresses (words + words_of r.effect) rs)

-- ---- where labels are

-- A line's label, with so many words before it.
unfoldable pub own_label : ℕ → Option (List ℕ) → List (List ℕ × ℕ)
own_label words none = []
own_label words (some s) = (s, address_after words) ∷ []

-- The labels of some lines, in order.
unfoldable pub labels_in : ℕ → List Read → List (List ℕ × ℕ)
labels_in words [] = []
labels_in words (r ∷ rs) = own_label words r.label ++ labels_in (words + words_of r.effect) rs

-- The address of the first with a spelling, if there is one.
unfoldable first_address : List (List ℕ × ℕ) → List ℕ → Option ℕ
first_address [] u = none
first_address (l ∷ ls) u = elim (same l.0 u) [ true ↦ some l.1 | false ↦ first_address ls u ]

-- So labels have their addresses,
address-of-first : (labels : List Label) (u : List ℕ) → address_of labels u ≡ first_address (map addressed labels) u
unfolding address_of find first_address
address-of-first [] u = refl
address-of-first (l ∷ labels) u = go (same l.spelling u) (address-of-first labels u)
  where
    address : Option Label → Option ℕ
    address o = elim o [ none ↦ none | some m ↦ some m.address ]

    known : Option Label
    known = find (λ m. same m.spelling u) labels

    go : (v : Bool) → address known ≡ first_address (map addressed labels) u
        → address (elim v [ true ↦ some l | false ↦ known ]) ≡ elim v [ true ↦ some l.address | false ↦ first_address (map addressed labels) u ]
    go true h = refl
    go false h = h

-- and so do the lines that they are on.
address-in-first : (words : ℕ) (rs : List Read) (u : List ℕ) → address_in words rs u ≡ first_address (labels_in words rs) u
unfolding address_in is_labelled first_address labels_in own_label
address-in-first words [] u = refl
address-in-first words (r ∷ rs) u = go r.label (address-in-first later rs u)
  where
    later : ℕ
    later = words + words_of r.effect

    go : (o : Option (List ℕ)) → address_in later rs u ≡ first_address (labels_in later rs) u
        → ◌≡◌ {A = Option ℕ} (elim (is_labelled (record { label = o; effect = r.effect }) u) [ true ↦ some (address_after words) | false ↦ address_in later rs u ])
        (first_address (own_label words o ++ labels_in later rs) u)
    go none h = h
    go (some s) h = ap (λ (x : Option ℕ). elim (same s u) [ true ↦ some (address_after words) | false ↦ x ]) h

-- Lines with the same labels have the same addresses.
pub same-addresses : (words : ℕ) (rs rs' : List Read) → labels_in words rs ≡ labels_in words rs' → address_in words rs ≡ address_in words rs'
same-addresses words rs rs' e =
    fun_ext (λ u. address-in-first words rs u ∙ ap (λ (ls : List (List ℕ × ℕ)). first_address ls u) e ∙ sym (address-in-first words rs' u))

-- ---- a line

-- What a line's label leads to: words and settings stay, and the label is the last one.
record Enters (st : State) (label : Option (List ℕ)) (st' : State) : Type 0 where
  words : st'.words ≡ st.words
  setup : st'.setup ≡ st.setup
  labels : map addressed st'.labels ≡ map addressed st.labels ++ own_label st.words label

abbrev EntersIf : State → Option (List ℕ) → Step → Type 0
EntersIf st label (next st') = Enters st label st'
EntersIf st label (stop n st') = Unit {0}

enters : (room : ℕ) (st : State) (at : ℕ) (label : Option (List ℕ)) → EntersIf st label (entering room st at label)
unfolding entering enter with_label own_label
enters room st at none = record { words = refl; setup = refl; labels = sym (append-nil (map addressed st.labels)) }
enters room st at (some s) = go (is_known st.labels s) (ltb (length st.labels) room)
  where
    entered : Enters st (some s) (with_label st at s)
    entered = record { words = refl; setup = refl; labels = map-append addressed st.labels (record { spelling = s; start = at; address = address_after st.words } ∷ []) }

    go : (v w : Bool) → EntersIf st (some s) (elim v [ true ↦ stop 4 st | false ↦ elim w [ true ↦ next (with_label st at s) | false ↦ stop 5 st ] ])
    go true w = tt
    go false true = entered
    go false false = tt

-- What it does then: labels stay, and there are never more than 32,768 words.
record Does (st : State) (e : Effect) (st' : State) : Type 0 where
  words : st'.words ≡ st.words + words_of e
  setup : st'.setup ≡ changed_by st.setup e
  labels : st'.labels ≡ st.labels
  few : st.words ≤ 32768 → st'.words ≤ 32768

abbrev DoesIf : State → Effect → Step → Type 0
DoesIf st e (next st') = Does st e st'
DoesIf st e (stop n st') = Unit {0}

does : (st : State) (e : Effect) → DoesIf st e (doing e (next st))
unfolding doing words_of changed_by with_settings with_instruction most_words
does st nothing = record { words = sym (add-zero st.words); setup = refl; labels = refl; few = λ h. h }
does st (sets s) = record { words = sym (add-zero st.words); setup = refl; labels = refl; few = λ h. h }
does st (codes d) = go (ltb st.words 32768) refl
  where
    go : (v : Bool) → ltb st.words 32768 ≡ v
        → DoesIf st (codes d) (elim v [ true ↦ next (record { labels = st.labels; words = suc st.words; setup = st.setup }) | false ↦ stop 22 st ])
    go true e = record { words = omega arith; setup = refl; labels = refl; few = λ h. omega (arith, ltb-true st.words 32768 e) }
    go false e = tt
does st (faulty n) = tt

-- Both: what lines that go on come to, from a state on.
pub record Leads (st : State) (rs : List Read) (st' : State) : Type 0 where
  pub words : st'.words ≡ st.words + words_in rs
  pub setup : st'.setup ≡ settings_in st.setup rs
  pub labels : map addressed st'.labels ≡ map addressed st.labels ++ labels_in st.words rs
  pub few : st.words ≤ 32768 → st'.words ≤ 32768

leads-none : (st : State) → Leads st [] st
unfolding words_in settings_in labels_in
leads-none st = record { words = sym (add-zero st.words); setup = refl; labels = sym (append-nil (map addressed st.labels)); few = λ h. h }

-- A line that goes on, and those that follow it.
leads-on : (st st₁ st₂ st' : State) (r : Read) (rs : List Read) → Enters st r.label st₁ → Does st₁ r.effect st₂ → Leads st₂ rs st' → Leads st (r ∷ rs) st'
unfolding words_in settings_in labels_in
leads-on st st₁ st₂ st' r rs a b c =
    let w : st₂.words ≡ st.words + words_of r.effect = b.words ∙ ap (λ (n : ℕ). n + words_of r.effect) a.words in
    let s : st₂.setup ≡ changed_by st.setup r.effect = b.setup ∙ ap (λ (x : Settings). changed_by x r.effect) a.setup in
    record {
      words = c.words ∙ ap (λ (n : ℕ). n + words_in rs) w ∙ add_assoc st.words (words_of r.effect) (words_in rs);
      setup = c.setup ∙ ap (λ (x : Settings). settings_in x rs) s;
      labels = c.labels
          ∙ ap₂ (λ (x : List (List ℕ × ℕ)) (n : ℕ). x ++ labels_in n rs) (ap (map addressed) b.labels ∙ a.labels) w
          ∙ append_assoc (map addressed st.labels) (own_label st.words r.label) (labels_in (st.words + words_of r.effect) rs);
      few = λ h. c.few (b.few (omega (arith, a.words)));
    }

-- ---- all lines

abbrev pub LeadsIf : State → List Read → Walk → Type 0
LeadsIf st rs (finished st') = Leads st rs st'
LeadsIf st rs (stopped n line st') = Unit {0}

-- A walk from a line on.
pub walk-leads : (names : List Name) (room line at : ℕ) (st : State) (ls : List (List ℕ)) → LeadsIf st (reads_from names (context_of st) ls) (walk names room line at st ls)
unfolding walk reads_from context_of context_after step doing
walk-leads names room line at st [] = leads-none st
walk-leads names room line at st (l ∷ ls) =
    by-label (entering room st (at + indent l) read.label) (enters room st (at + indent l) read.label) (λ st'. walk-leads names room (suc line) (at + suc (length l)) st' ls)
  where
    read : Read
    read = read_on (record { setup = st.setup }) (read_line names l)

    after : List Read
    after = reads_from names (record { setup = changed_by st.setup read.effect }) ls

    Later : Type 0
    Later = (st' : State) → LeadsIf st' (reads_from names (record { setup = st'.setup }) ls) (walk names room (suc line) (at + suc (length l)) st' ls)

    onward : (st₁ st₂ : State) (w : Walk) → Enters st read.label st₁ → Does st₁ read.effect st₂ → LeadsIf st₂ (reads_from names (record { setup = st₂.setup }) ls) w
        → LeadsIf st (read ∷ after) w
    onward st₁ st₂ (stopped n k st') a b c = tt
    onward st₁ st₂ (finished st') a b c =
        let s : st₂.setup ≡ changed_by st.setup read.effect = b.setup ∙ ap (λ (x : Settings). changed_by x read.effect) a.setup in
        leads-on st st₁ st₂ st' read after a b (subst (λ (x : Settings). Leads st₂ (reads_from names (record { setup = x }) ls) st') s c)

    by-effect : (st₁ : State) (r : Step) → Enters st read.label st₁ → DoesIf st₁ read.effect r → Later
        → LeadsIf st (read ∷ after) (elim r [ next st' ↦ walk names room (suc line) (at + suc (length l)) st' ls | stop n st' ↦ stopped n line st' ])
    by-effect st₁ (stop n st') a b f = tt
    by-effect st₁ (next st₂) a b f = onward st₁ st₂ (walk names room (suc line) (at + suc (length l)) st₂ ls) a b (f st₂)

    by-label : (r : Step) → EntersIf st read.label r → Later
        → LeadsIf st (read ∷ after) (elim (doing read.effect r) [ next st' ↦ walk names room (suc line) (at + suc (length l)) st' ls | stop n st' ↦ stopped n line st' ])
    by-label (stop n st') a f = tt
    by-label (next st₁) a f = by-effect st₁ (doing read.effect (next st₁)) a (does st₁ read.effect) f

-- ---- a source that is read to its end

module _ (names : List Name) (source : List ℕ) (room : ℕ) (st : State) (e : walk names room 1 0 start (lines source) ≡ finished st) where
  finished-leads : Leads start (reads names source) st
  unfolding reads context_of start
  finished-leads = subst (LeadsIf start (reads names source)) e (walk-leads names room 1 0 start (lines source))

  -- There are as many words as instructions,
  pub finished-words : st.words ≡ length (instructions_of names source)
  unfolding instructions_of start
  finished-words =
      let w : st.words ≡ 0 + words_in (reads names source) = finished-leads.words in
      omega (arith, coded-length (address_in 0 (reads names source)) 0 (reads names source))

  -- at most 32,768,
  pub finished-few : st.words ≤ 32768
  unfolding start
  finished-few = finished-leads.few (omega arith)

  -- the settings are the source's,
  pub finished-setup : st.setup ≡ settings_of names source
  unfolding settings_of start
  finished-setup = finished-leads.setup

  -- the labels are those of its lines,
  pub finished-labels : map addressed st.labels ≡ labels_in 0 (reads names source)
  unfolding start
  finished-labels = finished-leads.labels

  -- and each has the address that its line has in the source.
  pub finished-addresses : (u : List ℕ) → address_of st.labels u ≡ address_in 0 (reads names source) u
  finished-addresses u =
      address-of-first st.labels u ∙ ap (λ (ls : List (List ℕ × ℕ)). first_address ls u) finished-labels ∙ sym (address-in-first 0 (reads names source) u)

-- ---- an accepted source

pub record Means (names : List Name) (source : List ℕ) (st : State) : Type 0 where
  pub words : st.words ≡ length (instructions_of names source)
  pub setup : st.setup ≡ settings_of names source
  pub few : st.words ≤ 32768
  pub labels : map addressed st.labels ≡ labels_in 0 (reads names source)
  pub addresses : (u : List ℕ) → address_of st.labels u ≡ address_in 0 (reads names source) u
  pub no-fault : fault_in (reads names source) ≡ none

abbrev pub MeansIf : List Name → List ℕ → Assembled → Type 0
MeansIf names source (accepted st) = Means names source st
MeansIf names source (rejected r) = Unit {0}

means-read : (names : List Name) (source : List ℕ) (room : ℕ) (w : Walk) → walk names room 1 0 start (lines source) ≡ w → MeansIf names source (read_to (reads names source) w)
unfolding read_to line_refused refusing
means-read names source room (stopped n line st) e = tt
means-read names source room (finished st) e = go (fault_in (reads names source)) refl
  where
    go : (o : Option Fault) → fault_in (reads names source) ≡ o → MeansIf names source (elim o [ none ↦ accepted st | some f ↦ line_refused f st.labels ])
    go (some f) h = tt
    go none h =
        record {
          words = finished-words names source room st e;
          setup = finished-setup names source room st e;
          few = finished-few names source room st e;
          labels = finished-labels names source room st e;
          addresses = finished-addresses names source room st e;
          no-fault = h;
        }

pub reading-means : (names : List Name) (source : List ℕ) (room : ℕ) → MeansIf names source (reading names source room)
unfolding reading refusing
reading-means names source room = go (leb (length source) most_bytes) (every ascii source)
  where
    go : (v u : Bool) → MeansIf names source (elim v [
      | false ↦ refusing 1 0 0 [] none
      | true ↦ elim u [
        | false ↦ refusing 2 0 (length (lines (before ascii source))) [] none
        | true ↦ read_to (reads names source) (walk names room 1 0 start (lines source))
      ]
    ])
    go false u = tt
    go true false = tt
    go true true = means-read names source room (walk names room 1 0 start (lines source)) refl

-- An accepted source: what the walk came to, and that the image buffer has room.
pub record Assembles (names : List Name) (source : List ℕ) (room size : ℕ) : Type 0 where
  pub state : State
  pub answer : assembling names source room size ≡ accepted state
  pub means : Means names source state
  pub fits : image_length state.words ≤ size

pub accepted-assembles : (names : List Name) (source : List ℕ) (room size : ℕ) → Accepted names source room size → Assembles names source room size
unfolding assembling fitted is_accepted refusing
accepted-assembles names source room size h = go (reading names source room) refl (reading-means names source room) h
  where
    by-room : (st : State) → reading names source room ≡ accepted st → Means names source st → (v : Bool) → leb (image_length st.words) size ≡ v
        → is_accepted (elim v [ true ↦ accepted st | false ↦ refusing 23 0 0 st.labels (some (image_length st.words)) ]) ≡ true
        → Assembles names source room size
    by-room st e m true l g =
        record { state = st; answer = ap (fitted size) e ∙ rw (fitted, l); means = m; fits = leb-true (image_length st.words) size l }
    by-room st e m false l g = absurd (true≢false (sym g))

    go : (a : Assembled) → reading names source room ≡ a → MeansIf names source a → is_accepted (fitted size a) ≡ true → Assembles names source room size
    go (accepted st) e m g = by-room st e m (leb (image_length st.words) size) refl g
    go (rejected r) e m g = absurd (true≢false (sym g))
