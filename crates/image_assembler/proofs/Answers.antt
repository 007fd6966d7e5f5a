-- What assembling answers by what reading and the second walk come to.
use Rattle.std.specs.Prelude.{⊤, Result, Ok, Err}
use Prim.Native.Nat.{ℕ, ◌<◌}
use mathlib.Core.Path.{◌≡◌, refl, sym, ap, ◌∙◌}
use mathlib.Core.Bool.{Bool, true, false}
use mathlib.Core.Option.{none, some}
use mathlib.Core.List.{List, []}
use lib.ListN.{length}
use lib.Dec.{leb}
use borrow.Author.Tests.{lt-leb}
use Rattle.text_lexical.specs.Names.{Name}
use Rattle.refusal.specs.Refusals.{number_of}
use Rattle.image.specs.Program.{image_length}
use Rattle.image.specs.Assembling.{Label, Assembled, accepted, refusing, read_to, most_bytes, reading, fitted, assembling}
use Rattle.image.specs.Lent.{answer_of, entered, image_after}
use Rattle.image_labels.specs.declared.label.Labels.{Labels}
use Rattle.image_passes.specs.Promised.{Verdict, ReadingEnds}
use Rattle.image_passes.specs.declared.second_pass.TooShort.{TooShort as Short}
use Rattle.image_assembler.specs.Promised.{answer_meant, overlong, answer_for, Finishes}
use Rattle.image_assembler.specs.declared.assembler.Assembled.{Assembled as Made}
use Rattle.image_assembler.specs.declared.assembler.AssembleError.{AssembleError}

-- What assembling answers, what its image buffer holds, and which labels it has entered.
pub record Answers (names : List Name) (s : List ℕ) (room : ℕ) (ls : List Label) (old new : List ℕ) (r : Result Made AssembleError) : Type 0 where
  pub answer : answer_meant r ≡ answer_of (assembling names s room (length old))
  pub image_holds : new ≡ image_after names s (assembling names s room (length old)) old
  pub labels_are : ls ≡ entered (assembling names s room (length old))

pub ends-answers : (names : List Name) (s : List ℕ) (room : ℕ) (ls : List Label) (labels : Labels) (old new : List ℕ) (r : Result Made AssembleError) → labels.source.now ≡ s → labels.count ≡ length ls
    → (v : Verdict) → ReadingEnds names s room ls v → Finishes names labels old new r v → Answers names s room ls old new r
unfolding read_to assembling fitted refusing answer_of entered image_after
ends-answers names s room ls labels old new r same counted = go
  where
    go : (v : Verdict) → ReadingEnds names s room ls v → Finishes names labels old new r v → Answers names s room ls old new r
    go (Err t) e (x, y) =
        let a : assembling names s room (length old) ≡ refusing (number_of t.refusal) t.rust_line t.line ls none = ap (fitted (length old)) e in
        record {
          answer = ap answer_meant x ∙ rw counted (ap answer_of (sym a));
          image_holds = y ∙ ap (λ (z : Assembled). image_after names s z old) (sym a);
          labels_are = ap entered (sym a);
        }
    go (Ok f) j h = on (leb (image_length j.state.words) (length old)) refl
      where
        on : (b : Bool) → leb (image_length j.state.words) (length old) ≡ b → Answers names s room ls old new r
        on true q =
            let a : assembling names s room (length old) ≡ accepted j.state = ap (fitted (length old)) j.accepts ∙ rw (fitted, q) in
            let t = rw (← j.words_are, q) at h.fills.answer in
            let x : answer_meant r ≡ answer_of (accepted j.state) = ap answer_meant (h.answer ∙ ap (λ (z : Result ⊤ Short). answer_for z f.words labels.count f.config) t) ∙ rw (← j.words_are, ← j.setup_is, counted, ← j.labels_are) in
            let y = rw (← j.words_are, q, same) at h.fills.holds in
            record { answer = x ∙ ap answer_of (sym a); image_holds = y ∙ ap (λ (z : Assembled). image_after names s z old) (sym a); labels_are = sym j.labels_are ∙ ap entered (sym a) }
        on false q =
            let n = image_length j.state.words in
            let a : assembling names s room (length old) ≡ refusing 23 0 0 j.state.labels (some n) = ap (fitted (length old)) j.accepts ∙ rw (fitted, q) in
            let t = rw (← j.words_are, q, ← j.words_are) at h.fills.answer in
            let x : answer_meant r ≡ answer_of (refusing 23 0 0 j.state.labels (some n)) = ap answer_meant (h.answer ∙ ap (λ (z : Result ⊤ Short). answer_for z f.words labels.count f.config) t) ∙ rw (counted, ← j.labels_are) in
            let y = rw (← j.words_are, q) at h.fills.holds in
            record { answer = x ∙ ap answer_of (sym a); image_holds = y ∙ ap (λ (z : Assembled). image_after names s z old) (sym a); labels_are = sym j.labels_are ∙ ap entered (sym a) }

-- A source that is too long.
pub overlong-answers : (names : List Name) (s : List ℕ) (room : ℕ) (old : List ℕ) → most_bytes < length s → Answers names s room [] old old overlong
unfolding reading assembling fitted refusing answer_of entered image_after
overlong-answers names s room old h =
    let e : reading names s room ≡ refusing 1 0 0 [] none = rw (reading, lt-leb (length s) most_bytes h) in
    let a : assembling names s room (length old) ≡ refusing 1 0 0 [] none = ap (fitted (length old)) e in
    record { answer = ap answer_of (sym a); image_holds = ap (λ (z : Assembled). image_after names s z old) (sym a); labels_are = ap entered (sym a) }
