-- The labels that reading a source enters are spelled where they start: each is the part of the source that its line's content begins with.
use Prim.Native.Nat.{ℕ, suc, ◌+◌, ◌-◌, ◌≤◌, ◌<◌}
use mathlib.Core.Path.{◌≡◌, refl, sym, ap, ◌∙◌}
use native.Mathlib.Omega.{arith}
use mathlib.Core.Bool.{Bool, true, false}
use mathlib.Core.Option.{Option, none, some}
use mathlib.Core.List.{List, [], ◌∷◌, ◌++◌, append_assoc}
use lib.ListN.{length, take, drop, length-append, length-drop}
use lib.Seq.{drop-drop, drop-append-le, take_at}
use lib.Dec.{leb, ltb}
use Rattle.text_lexical.specs.Bytes.{ascii, every, before}
use Rattle.text_lexical.specs.Names.{Name}
use Rattle.text_lexical.proofs.Strings.{run-le}
use Rattle.text.specs.Tokens.{Token, identifier, tokens}
use Rattle.text.specs.Lines.{Line, lines, content, indent, kept, line_of, record_of, read_line}
use Rattle.text.proofs.Parts.{Front, first-spelled, Stand, lines-stand}
use Rattle.instruction.specs.Kinds.{Kind, empty, labelled, config, ignored, plain, kind_of}
use Rattle.instruction.proofs.Labelled.{BeginsWith, labelled-first}
use Rattle.image.specs.Program.{image_length}
use Rattle.image.specs.Assembling.{Label, State, start, Step, next, stop, Context, Effect, nothing, sets, codes, faulty, Read, read_kind, read_on, reads, is_known, with_label, enter, entering, with_settings, most_words, with_instruction, doing, step, context_of, Walk, finished, stopped, walk, Fault, fault_in, Assembled, accepted, rejected, refusing, line_refused, read_to, most_bytes, reading, fitted, assembling}
use Rattle.image.specs.Lent.{entered}

-- ---- the label of a line

no-label : {u : List ℕ} → ◌≡◌ {A = Option (List ℕ)} none (some u) → ⊥
no-label e = let y : ◌≡◌ {A = ℕ} 0 1 = cc in omega arith

-- It is that of the line's kind,
label-kind : (c : Context) (l : Line) (k : Kind) (u : List ℕ) → (read_kind c l k).label ≡ some u → k ≡ labelled u
unfolding read_kind
label-kind c l empty u e = absurd (no-label e)
label-kind c l (labelled v) u e = let z : v ≡ u = cc in ap labelled z
label-kind c l config u e = absurd (no-label e)
label-kind c l ignored u e = absurd (no-label e)
label-kind c l plain u e = absurd (no-label e)

-- whose first token is an Identifier of that spelling.
first-labelled : (ts : List Token) (u : List ℕ) → kind_of (take kept ts) ≡ labelled u → (us : List Token) × (ts ≡ identifier u ∷ us)
first-labelled ts u e = go ts (labelled-first u (take kept ts) e)
  where
    go : (ts : List Token) → BeginsWith u (take kept ts) → (us : List Token) × (ts ≡ identifier u ∷ us)
    go [] b = let q : [] ≡ identifier u ∷ b.second ∷ b.after = b.are in cc
    go (t ∷ ts) b =
        let q : t ∷ take (kept - 1) ts ≡ identifier u ∷ b.second ∷ b.after = b.are in
        let i : t ≡ identifier u = cc in
        (ts, ap (λ (x : Token). x ∷ ts) i)

-- So a label stands after its line's indent, and takes a byte at least.
pub label-front : (names : List Name) (c : Context) (l u : List ℕ) → (read_on c (read_line names l)).label ≡ some u → Front u (drop (indent l) l) × (0 < length u)
unfolding read_on read_line record_of line_of
label-front names c l u e = go (tokens names (content l)) refl e
  where
    go : (o : Option (List Token)) → tokens names (content l) ≡ o → (read_on c (record_of o)).label ≡ some u → Front u (drop (indent l) l) × (0 < length u)
    go none h g = absurd (no-label g)
    go (some ts) h g =
        let (us, k) = first-labelled ts u (label-kind c (line_of ts) (kind_of (take kept ts)) u g) in
        first-spelled names l u us (h ∙ ap (λ (x : List Token). some x) k)

-- ---- labels that are spelled where they start

pub record SpelledAt (s : List ℕ) (l : Label) : Type 0 where
  pub spells : take (length l.spelling) (drop l.start s) ≡ l.spelling
  pub in_text : l.start + length l.spelling ≤ length s

unfoldable pub AllSpelled : List ℕ → List Label → Type 0
AllSpelled s [] = Unit {0}
AllSpelled s (l ∷ ls) = SpelledAt s l × AllSpelled s ls

all-more : (s : List ℕ) (ls : List Label) (l : Label) → AllSpelled s ls → SpelledAt s l → AllSpelled s (ls ++ (l ∷ []))
unfolding AllSpelled
all-more s [] l h k = (k, tt)
all-more s (m ∷ ls) l (h, hs) k = (h, all-more s ls l hs k)

-- The label of a line that stands at a place of a source.
pub line-spelled : (names : List Name) (c : Context) (s : List ℕ) (at : ℕ) (l u : List ℕ) (address : ℕ) → Front l (drop at s)
    → (read_on c (read_line names l)).label ≡ some u → SpelledAt s (record { spelling = u; start = at + indent l; address = address })
unfolding indent
line-spelled names c s at l u address f e =
    let (g, n) = label-front names c l u e in
    let whole : drop (at + indent l) s ≡ u ++ (g.rest ++ f.rest) =
    sym (drop-drop (indent l) at s) ∙ ap (drop (indent l)) f.whole ∙ drop-append-le (indent l) l f.rest (run-le _ l) ∙ ap (λ (x : List ℕ). x ++ f.rest) g.whole
    ∙ append_assoc u g.rest f.rest in
    record {
      spells = ap (take (length u)) whole ∙ take_at u (g.rest ++ f.rest) (length u) refl;
      in_text = let k = length-drop (at + indent l) s in omega (arith, k, ap length whole, length-append u (g.rest ++ f.rest), n);
    }

-- ---- what a walk enters

-- The labels after a step, and after a walk.
abbrev labels_after : Step → List Label
labels_after (next st) = st.labels
labels_after (stop n st) = st.labels

abbrev labels_left : Walk → List Label
labels_left (finished st) = st.labels
labels_left (stopped n line st) = st.labels

module _ (s : List ℕ) where
  entering-spelled : (room : ℕ) (st : State) (at : ℕ) (label : Option (List ℕ)) → AllSpelled s st.labels
      → ((u : List ℕ) (address : ℕ) → label ≡ some u → SpelledAt s (record { spelling = u; start = at; address = address })) → AllSpelled s (labels_after (entering room st at label))
  unfolding entering enter with_label
  entering-spelled room st at none h f = h
  entering-spelled room st at (some u) h f = go (is_known st.labels u) (ltb (length st.labels) room)
    where
      go : (v w : Bool) → AllSpelled s (labels_after (elim v [ true ↦ stop 4 st | false ↦ elim w [ true ↦ next (with_label st at u) | false ↦ stop 5 st ] ]))
      go true w = h
      go false false = h
      go false true = all-more s st.labels _ h (f u _ refl)

  -- What the line does then enters nothing.
  doing-keeps : (e : Effect) (r : Step) → AllSpelled s (labels_after r) → AllSpelled s (labels_after (doing e r))
  unfolding doing with_settings with_instruction
  doing-keeps e (stop n st) h = h
  doing-keeps nothing (next st) h = h
  doing-keeps (sets x) (next st) h = h
  doing-keeps (faulty n) (next st) h = h
  doing-keeps (codes d) (next st) h = go (ltb st.words most_words)
    where
      go : (v : Bool) → AllSpelled s (labels_after (elim v [ true ↦ next (record { labels = st.labels; words = suc st.words; setup = st.setup }) | false ↦ stop 22 st ]))
      go true = h
      go false = h

  walk-spelled : (names : List Name) (room line at : ℕ) (st : State) (ls : List (List ℕ)) → Stand s at ls → AllSpelled s st.labels
      → AllSpelled s (labels_left (walk names room line at st ls))
  unfolding walk step Stand
  walk-spelled names room line at st [] f h = h
  walk-spelled names room line at st (l ∷ ls) (f, fs) h =
      go (step room st (at + indent l) read)
      (doing-keeps read.effect _ (entering-spelled room st (at + indent l) read.label h (λ u a e. line-spelled names (context_of st) s at l u a f e)))
      (λ st' k. walk-spelled names room (suc line) (at + suc (length l)) st' ls fs k)
    where
      read : Read
      read = read_on (context_of st) (read_line names l)

      go : (r : Step) → AllSpelled s (labels_after r)
          → ((st' : State) → AllSpelled s st'.labels → AllSpelled s (labels_left (walk names room (suc line) (at + suc (length l)) st' ls)))
          → AllSpelled s (labels_left (elim r [ next st' ↦ walk names room (suc line) (at + suc (length l)) st' ls | stop n st' ↦ stopped n line st' ]))
      go (next st') k more = more st' k
      go (stop n st') k more = k

-- ---- what reading a source enters

read-spelled : (s : List ℕ) (rs : List Read) (w : Walk) → AllSpelled s (labels_left w) → AllSpelled s (entered (read_to rs w))
unfolding read_to entered line_refused refusing
read-spelled s rs (stopped n line st) h = h
read-spelled s rs (finished st) h = go (fault_in rs)
  where
    go : (o : Option Fault) → AllSpelled s (entered (elim o [ none ↦ accepted st | some f ↦ line_refused f st.labels ]))
    go none = h
    go (some f) = h

reading-spelled : (names : List Name) (s : List ℕ) (room : ℕ) → AllSpelled s (entered (reading names s room))
unfolding reading refusing entered AllSpelled start
reading-spelled names s room = go (leb (length s) most_bytes) (every ascii s)
  where
    go : (v u : Bool) → AllSpelled s (entered (elim v [
      | false ↦ refusing 1 0 0 [] none
      | true ↦ elim u [
        | false ↦ refusing 2 0 (length (lines (before ascii s))) [] none
        | true ↦ read_to (reads names s) (walk names room 1 0 start (lines s))
      ]
    ]))
    go false u = tt
    go true false = tt
    go true true = read-spelled s (reads names s) _ (walk-spelled s names room 1 0 start (lines s) (lines-stand s) tt)

pub entered-spelled : (names : List Name) (s : List ℕ) (room size : ℕ) → AllSpelled s (entered (assembling names s room size))
unfolding assembling fitted refusing entered
entered-spelled names s room size = go (reading names s room) (reading-spelled names s room)
  where
    go : (a : Assembled) → AllSpelled s (entered a) → AllSpelled s (entered (fitted size a))
    go (rejected r) h = h
    go (accepted st) h = by (leb (image_length st.words) size)
      where
        by : (v : Bool) → AllSpelled s (entered (elim v [ true ↦ accepted st | false ↦ refusing 23 0 0 st.labels (some (image_length st.words)) ]))
        by true = h
        by false = h
