-- What is printed: the front of a buffer, and what an answer of assembling or listing says of it.
use mathlib.Core.Path.{◌≡◌, refl, sym, ap, ◌∙◌}
use Prim.Native.Nat.{ℕ, ◌+◌, ◌*◌, ◌^◌, ◌≤◌, ◌<◌}
use native.Mathlib.Omega.{arith}
use mathlib.Core.Bool.{Bool, true, false}
use mathlib.Core.Option.{Option, none, some}
use mathlib.Core.List.{List, [], ◌∷◌, ◌++◌}
use lib.ListN.{length, take, length-append}
use lib.Dec.{leb}
use borrow.Author.Tests.{le-leb, lt-leb}
use Rattle.text_lexical.specs.Bytes.{bytes, ascii, every, before}
use Rattle.text_lexical.specs.Numbers.{decimal}
use Rattle.text_lexical.specs.Names.{present}
use Rattle.text_lexical.proofs.Numbers.{decimal-length}
use Rattle.text.specs.Lines.{lines}
use Rattle.image.specs.Settings.{Settings}
use Rattle.image.specs.Assembling.{State, reads, Walk, finished, stopped, Assembled, accepted, rejected, start, walk, Fault, fault_in, most_bytes, refusing, line_refused, read_to, reading, assembling}
use Rattle.image.specs.Listing.{text_of, written, listing}
use Rattle.image.specs.Meaning.{instructions_of, image_of}
use Rattle.image.specs.Lent.{over, assembled, refusal, answer_of, image_after, listed, unlisted, list_answer_of, text_after}
use Rattle.image_listing.specs.Promised.{Lists}
use Rattle.zkasm.specs.Zkasm.{most_input, table_room, image_room, refusal_text, output_of, program_output}
use Rattle.std.specs.Prelude.{Ok}
use Rattle.image.proofs.Lengths.{source-image-length}
use Rattle.image.proofs.Over.{take-over, length_over}
use Rattle.image.proofs.Walking.{MeansIf, reading-means}
use Rattle.zkasm.specs.Promised.{Prints}
use Rattle.zkasm.proofs.Rooms.{never-23}

-- ---- the front of a buffer

pub prints-over : (text old : List ℕ) {new : List ℕ} {r : ℕ} → length text ≤ length old → r ≡ length text → new ≡ over text old → Prints text old new r
prints-over text old {new} {r} room size holds =
    record {
      size = size;
      holds = holds;
      fits = omega (arith, ap length holds, length_over text old room);
      printed = rw (size, holds) (take-over text old);
    }

-- ---- a refusal is short

pub refusal-short : (n line : ℕ) → n < 256 → line < 2 ^ 64 → length (refusal_text n line) ≤ 64
unfolding refusal_text bytes
refusal-short n line h k =
    omega (
      arith,
      length-append (decimal n) (bytes " line " ++ (decimal line ++ (10 ∷ []))),
      length-append (decimal line) (10 ∷ []),
      decimal-length 2 n (omega arith),
      decimal-length 19 line (omega arith),
    )

-- ---- an image that is listed

module _ (b old : List ℕ) (e : listing b (length old) ≡ written (text_of b)) where
  pub lists_length : {n : ℕ} → listed n ≡ list_answer_of (listing b (length old)) → n ≡ length (text_of b)
  unfolding list_answer_of
  lists_length {n} q = let p : listed n ≡ listed (length (text_of b)) = q ∙ ap list_answer_of e in cc

  pub lists-always : {X : Type 0} {n : ℕ} {i k : Option ℕ} → unlisted n i k ≡ list_answer_of (listing b (length old)) → X
  unfolding list_answer_of
  lists-always {n = n} {i = i} {k = k} q =
      let p : unlisted n i k ≡ listed (length (text_of b)) = q ∙ ap list_answer_of e in
      let z : ◌≡◌ {A = ℕ} 0 1 = cc in absurd (omega arith)

  pub lists-prints : {new : List ℕ} {n : ℕ} → length (text_of b) ≤ length old → Lists b old new (Ok n) → Prints (text_of b) old new n
  unfolding text_after
  lists-prints room l = prints-over (text_of b) old room (lists_length l.answer) (l.text ∙ ap (λ x. text_after x old) e)

-- ---- what an answer says of the output

-- Only 23 names a length that is needed.
abbrev Unneeded : Assembled → Type 0
Unneeded (accepted st) = Unit {0}
Unneeded (rejected r) = r.needed ≡ none

reading-unneeded : (s : List ℕ) (room : ℕ) → Unneeded (reading present s room)
unfolding reading refusing line_refused read_to
reading-unneeded s room = go (leb (length s) most_bytes) (every ascii s) (walk present room 1 0 start (lines s))
  where
    by-fault : (st : State) (o : Option Fault) → Unneeded (elim o [ none ↦ accepted st | some f ↦ line_refused f st.labels ])
    by-fault st none = tt
    by-fault st (some f) = refl

    go : (v u : Bool) (w : Walk) → Unneeded (elim v [
      | false ↦ refusing 1 0 0 [] none
      | true ↦ elim u [ false ↦ refusing 2 0 (length (lines (before ascii s))) [] none | true ↦ read_to (reads present s) w ]
    ])
    go false u w = refl
    go true false w = refl
    go true true (finished st) = by-fault st (fault_in (reads present s))
    go true true (stopped n line st) = refl

pub output_long : (s : List ℕ) → most_input < length s → program_output s ≡ refusal_text 1 0
unfolding program_output
output_long s h = rw (program_output, lt-leb (length s) most_input h)

-- What the program does with an input that it accepts.
pub record Listable (s : List ℕ) (words : ℕ) (a : Assembled) : Type 0 where
  pub output : program_output s ≡ text_of (image_of present s)
  pub count : length (instructions_of present s) ≡ words
  pub holds : (old : List ℕ) → image_after present s a old ≡ over (image_of present s) old

module _ (s : List ℕ) (size : ℕ) (short : length s ≤ most_input) (room : image_room ≤ size) where
  abbrev answers : Assembled
  answers = assembling present s table_room size

  output-is : program_output s ≡ output_of s answers
  unfolding program_output
  output-is = rw (program_output, le-leb (length s) most_input short, never-23 s size short room)

  means : MeansIf present s answers
  means = rw (never-23 s size short room) (reading-means present s table_room)

  unneeded : Unneeded answers
  unneeded = rw (never-23 s size short room) (reading-unneeded s table_room)

  pub output-refused : {n rust line labels : ℕ} → refusal n rust line labels none ≡ answer_of answers → program_output s ≡ refusal_text n line
  unfolding answer_of output_of
  output-refused {n} {rust} {line} {labels} q = output-is ∙ go answers q
    where
      go : (a : Assembled) → refusal n rust line labels none ≡ answer_of a → output_of s a ≡ refusal_text n line
      go (accepted st) e = let z : ◌≡◌ {A = ℕ} 0 1 = cc in absurd (omega arith)
      go (rejected r) e = cc

  pub no-need : {X : Type 0} {n rust line labels k : ℕ} → refusal n rust line labels (some k) ≡ answer_of answers → X
  unfolding answer_of
  no-need {X} {n} {rust} {line} {labels} {k} q = go answers unneeded q
    where
      go : (a : Assembled) → Unneeded a → refusal n rust line labels (some k) ≡ answer_of a → X
      go (accepted st) u e = let z : ◌≡◌ {A = ℕ} 0 1 = cc in absurd (omega arith)
      go (rejected r) u e = let z : ◌≡◌ {A = ℕ} 0 1 = cc in absurd (omega arith)

  pub listable : {words labels : ℕ} {setup : Settings} → assembled words labels setup ≡ answer_of answers → Listable s words answers
  unfolding answer_of output_of image_after
  listable {words} {labels} {setup} q = go answers output-is means q
    where
      go : (a : Assembled) → program_output s ≡ output_of s a → MeansIf present s a → assembled words labels setup ≡ answer_of a → Listable s words a
      go (accepted st) o m e =
          let n : words ≡ st.words = cc in
          record { output = o; count = sym m.words ∙ sym n; holds = λ old. refl }
      go (rejected r) o m e = let z : ◌≡◌ {A = ℕ} 0 1 = cc in absurd (omega arith)

-- The bytes of an image, at the front of the buffer.
pub image-front : (s old : List ℕ) (words : ℕ) → length (instructions_of present s) ≡ words → take (32 + 4 * words) (over (image_of present s) old) ≡ image_of present s
image-front s old words e =
    rw (← (source-image-length present s ∙ ap (λ (n : ℕ). 32 + 4 * n) e)) (take-over (image_of present s) old)
