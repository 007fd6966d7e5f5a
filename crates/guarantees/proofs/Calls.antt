-- Calls do what demand 3 speaks of.
use Prim.Native.Nat.{ℕ, ◌+◌, ◌*◌, ◌≤◌}
use mathlib.Core.Path.{◌≡◌, refl, sym, ap, ap₂, ◌∙◌, subst}
use mathlib.Core.Logic.{◌↔◌}
use mathlib.Core.Bool.{true, true≢false}
use mathlib.Core.List.{List, [], map}
use native.Mathlib.Omega.{arith}
use lib.ListN.{length, take}
use Rattle.std.specs.Prelude.{Result as Answered, Ok}
use Rattle.text_lexical.specs.Names.{Name}
use Rattle.image.specs.Settings.{settings}
use Rattle.image.specs.Assembling.{Assembled as Reading, accepted, rejected, assembling}
use Rattle.image.specs.Listing.{text_of, Listing as Written, written, rejected as unwritten, listing}
use Rattle.image.specs.Meaning.{instructions_of, settings_of, image_of, is_accepted, Accepted, is_written, Listed}
use Rattle.image.specs.Promised.{config_for}
use Rattle.image.specs.Lent.{over, Answer, assembled, answer_of, entered, image_after, ListAnswer, listed, list_answer_of, text_after}
use Rattle.image_labels.specs.Promised.{entry_of}
use Rattle.image_labels.specs.declared.label.Label.{Label as Entry}
use Rattle.image_assembler.specs.declared.assembler.Assembled.{Assembled}
use Rattle.image_assembler.specs.declared.assembler.AssembleError.{AssembleError}
use Rattle.image_assembler.specs.Promised.{answer_meant, Assembles}
use Rattle.image_listing.specs.Promised.{listing_meant, Lists}
use Rattle.image_listing.specs.declared.disassembler.ListError.{ListError}
use Rattle.image.proofs.Lengths.{source-image-length}
use Rattle.image.proofs.Over.{take-over}
use Rattle.image.proofs.Walking.{accepted-assembles}
use Rattle.guarantees.specs.NameSets.{NameSet}
use Rattle.guarantees.specs.Promises.{AreBytes, HasSource}
use Rattle.guarantees.specs.Calls.{IsRefusal, IsUnlisted, word_count, text_length, AcceptedCall, filled, HasCall, Calls}
use Rattle.guarantees.proofs.NameSets.{present-set}
use Rattle.guarantees.proofs.Demand3.{demand-3}

-- ---- assembling

pub accepts : (a : Reading) (x : Answer) → x ≡ answer_of a → (IsRefusal x → ⊥) → is_accepted a ≡ true
unfolding answer_of is_accepted
accepts (accepted st) x e k = refl
accepts (rejected r) x e k = absurd (k (subst IsRefusal (sym e) tt))

not_refused : (a : Reading) (x : Answer) → x ≡ answer_of a → is_accepted a ≡ true → IsRefusal x → ⊥
unfolding answer_of is_accepted
not_refused (accepted st) x e h k = subst IsRefusal e k
not_refused (rejected r) x e h k = true≢false (sym h)

module _ (names : List Name) (source : List ℕ) (room : ℕ) (image image' : List ℕ) (x : Answer) (e : x ≡ answer_of (assembling names source room (length image)))
    (h : image' ≡ image_after names source (assembling names source room (length image)) image) (k : Accepted names source room (length image)) where
  pub answers : x ≡ assembled (length (instructions_of names source)) (length (entered (assembling names source room (length image)))) (settings_of names source)
  unfolding answer_of entered
  answers =
      let a = accepted-assembles names source room (length image) k in
      let n = ap (λ (w : Reading). length (entered w)) a.answer in
      e ∙ ap answer_of a.answer ∙ (λ i. assembled (a.means.words i) (sym n i) (a.means.setup i))

  fills : image' ≡ over (image_of names source) image
  unfolding image_after
  fills = let a = accepted-assembles names source room (length image) k in h ∙ ap (λ (w : Reading). image_after names source w image) a.answer

-- ---- the bytes that a call has filled

module _ {names : List Name} {source : List ℕ} (c : AcceptedCall names source) where
  pub accepted-here : Accepted names source (length c.table) (length c.image)
  accepted-here = accepts _ (answer_meant c.answer) c.promised.answer c.not_refused

  -- They are the source's image.
  pub filled-image : filled c ≡ image_of names source
  filled-image =
      let room = length c.table in
      let a = answers names source room c.image c.image' (answer_meant c.answer) c.promised.answer c.promised.image_holds accepted-here in
      let f = fills names source room c.image c.image' (answer_meant c.answer) c.promised.answer c.promised.image_holds accepted-here in
      ap₂ (λ (n : ℕ) (x : List ℕ). take (32 + 4 * n) x) (ap word_count a) f
      ∙ ap (λ (n : ℕ). take n (over (image_of names source) c.image)) (sym (source-image-length names source))
      ∙ take-over (image_of names source) c.image

-- Equations of what is filled are those of images.
filled-tell : {names names' : List Name} {source source' : List ℕ} {P : Type 0} (c : AcceptedCall names source) (c' : AcceptedCall names' source')
    → (image_of names source ≡ image_of names' source') ↔ P → (filled c ≡ filled c') ↔ P
filled-tell c c' (to, from) = (λ e. to (sym (filled-image c) ∙ e ∙ filled-image c'), λ p. filled-image c ∙ from p ∙ sym (filled-image c'))

-- A source that is accepted with a table and an image buffer has such a call, since what the contract promises of one are equations.
accepted-is-called : (names : List Name) (source : List ℕ) (table : List Entry) (image : List ℕ) → Accepted names source (length table) (length image) → AcceptedCall names source
unfolding answer_of settings
accepted-is-called names source table image k =
    let w = assembling names source (length table) (length image) in
    let a = accepted-assembles names source (length table) (length image) k in
    let st = a.state in
    record {
      table = table;
      image = image;
      table' = over (map entry_of (entered w)) table;
      image' = image_after names source w image;
      answer = Ok (record { words = st.words; labels = length st.labels; config = config_for st.setup });
      promised = record { answer = sym (ap answer_of a.answer); table_holds = refl; image_holds = refl };
      not_refused = λ r. r;
    }

-- ---- listing

writes : (w : Written) (x : ListAnswer) → x ≡ list_answer_of w → (IsUnlisted x → ⊥) → is_written w ≡ true
unfolding list_answer_of is_written
writes (written t) x e k = refl
writes (unwritten r) x e k = absurd (k (subst IsUnlisted (sym e) tt))

not-unlisted : (w : Written) (x : ListAnswer) → x ≡ list_answer_of w → is_written w ≡ true → IsUnlisted x → ⊥
unfolding list_answer_of is_written
not-unlisted (written t) x e h k = subst IsUnlisted e k
not-unlisted (unwritten r) x e h k = true≢false (sym h)

again : (names : List Name) (bs : List ℕ) (table : List Entry) (image : List ℕ) (table' : List Entry) (image' : List ℕ) (r : Answered Assembled AssembleError)
    → Accepted names (text_of bs) (length table) (length image) × (image_of names (text_of bs) ≡ bs) → Assembles names (text_of bs) table image table' image' r
    → (IsRefusal (answer_meant r) → ⊥) × (image' ≡ over bs image)
again names bs table image table' image' r (k, e) h =
    let a = assembling names (text_of bs) (length table) (length image) in (
      not_refused a (answer_meant r) h.answer k,
      fills names (text_of bs) (length table) image image' (answer_meant r) h.answer h.image_holds k ∙ ap (λ (b : List ℕ). over b image) e,
    )

-- ---- what a call has written, and the calls that fill bytes

module _ (bs text text' : List ℕ) (r : Answered ℕ ListError) (h : Lists bs text text' r) where
  is-listed : (IsUnlisted (listing_meant r) → ⊥) → Listed bs (length text)
  is-listed = writes (listing bs (length text)) (listing_meant r) h.answer

  is-written : Listed bs (length text) → (listing_meant r ≡ listed (length (text_of bs))) × (text' ≡ over (text_of bs) text)
  unfolding list_answer_of text_after
  is-written k =
      let q = demand-3.writes_text bs (length text) k in
      (h.answer ∙ ap list_answer_of q, h.text ∙ ap (λ (w : Written). text_after w text) q)

  -- The front of the text buffer, as long as is answered, is the text.
  front-text : Listed bs (length text) → take (text_length (listing_meant r)) text' ≡ text_of bs
  front-text k =
      let (a, e) = is-written k in
      ap₂ (λ (n : ℕ) (x : List ℕ). take n x) (ap text_length a) e ∙ take-over (text_of bs) text

-- Bytes that are listed are filled by a call: that of their text, with a label table without entries and an image buffer of their length.
listed-has-call : (N : NameSet) (bs : List ℕ) (n : ℕ) → AreBytes bs → Listed bs n → HasCall N.names bs
listed-has-call N bs n b k =
    let (x, y) = demand-3.text_assembles N bs n 0 (length bs) b k (omega arith) in
    let c = accepted-is-called N.names (text_of bs) [] bs x in
    record { source = text_of bs; call = c; fills = filled-image c ∙ y }

-- Bytes that a call has filled have a source.
called-has-source : (names : List Name) (bs : List ℕ) → HasCall names bs → HasSource names bs
called-has-source names bs h =
    let c = h.call in
    record {
      source = h.source;
      table = length c.table;
      size = length c.image;
      is_accepted = accepted-here c;
      same_image = sym (filled-image c) ∙ h.fills;
    }

pub calls : Calls
unfolding present-set
calls =
    record {
      present_is = (present-set, refl);
      accepted_call = λ names source table image table' image' r h.
          let a = assembling names source (length table) (length image) in
          (accepts a (answer_meant r) h.answer, not_refused a (answer_meant r) h.answer);
      fills_image = λ names source table image table' image' r h k.
          let room = length table in
          (answers names source room image image' (answer_meant r) h.answer h.image_holds k, fills names source room image image' (answer_meant r) h.answer h.image_holds k);
      listed_call = λ image text text' r h. (is-listed image text text' r h, not-unlisted (listing image (length text)) (listing_meant r) h.answer);
      fills_text = λ image text text' r h k. is-written image text text' r h k;
      equal_images = λ N N' s s' c c'.
          filled-tell c c'
          (demand-3.images_tell N N' s s' (length c.table) (length c'.table) (length c.image) (length c'.image) (accepted-here c) (accepted-here c'));
      lists_exactly = λ N bs text text' r b h.
          let (to, from) = demand-3.lists_exactly N bs (length text) b in (
            (λ u. let k = is-listed bs text text' r h u in (listed-has-call N bs (length text) b k, (to k).1)),
            (λ (x : HasCall N.names bs × (length (text_of bs) ≤ length text)). not-unlisted (listing bs (length text)) (listing_meant r) h.answer (from (called-has-source N.names bs x.0, x.1))),
          );
      text_again = λ N bs text text' r b h u table image table' image' r' l h'.
          let k = is-listed bs text text' r h u in
          again N.names bs table image table' image' r' (demand-3.text_assembles N bs (length text) (length table) (length image) b k l)
          (subst (λ (s : List ℕ). Assembles N.names s table image table' image' r') (front-text bs text text' r h k) h');
    }
