-- What a caller can rely on holds of every call.
use Prim.Native.Nat.{ℕ, ◌+◌, ◌*◌, ◌≤◌}
use mathlib.Core.Path.{◌≡◌, refl, sym, ap, ◌∙◌, subst}
use mathlib.Core.Logic.{◌↔◌}
use mathlib.Core.Bool.{Bool, true, false, true≢false}
use mathlib.Core.Option.{Option, none, some}
use mathlib.Core.List.{List, ◌∷◌}
use native.Mathlib.Omega.{arith}
use lib.ListN.{length, get_or}
use lib.Dec.{leb, eqb}
use borrow.Author.Tests.{le-leb}
use Rattle.text_lexical.specs.Bytes.{Result, value, refused}
use Rattle.text_lexical.specs.Names.{Name}
use Rattle.image.specs.Program.{header_size, image_length}
use Rattle.image.specs.Opening.{Opened as Parts, opening_fault, opening}
use Rattle.image.specs.Assembling.{Assembled as Reading, accepted, rejected, reading, fitted, assembling}
use Rattle.image.specs.Listing.{Listing as Written, written, rejected as unwritten, Refusal, refusal, text_of, listing_fault, listing}
use Rattle.image.specs.Meaning.{is_accepted, Accepted, is_written}
use Rattle.image.specs.Lent.{answer_of, image_after, list_answer_of, text_after}
use Rattle.image.proofs.Listed.{listed-usual}
use Rattle.image.proofs.Lengths.{listed-short}
use Rattle.image.proofs.Walking.{MeansIf, reading-means, accepted-assembles}
use Rattle.guarantees.specs.Calls.{reading_numbers, assembling_numbers, opening_numbers, textless_numbers, listing_numbers, is_one_of, OneOf}
use Rattle.image.proofs.Refused.{by-test, by-fault, OfFault}
use Rattle.guarantees.proofs.Numbered.{OfAnswer, OfRefusal, OfListing, reading-numbered, assembling-numbered, opening_numbered, fault-numbered, listing_numbered}
use Rattle.capi.specs.Promised.{assemble_number, assemble_values, open_number, list_number, list_values}
use Rattle.capi.specs.Promises.{Promises}

-- ---- numbers

-- A number that is one of some is not one that is missing there.
not-missing : (ns : List ℕ) (m n : ℕ) → is_one_of ns m ≡ false → OneOf ns n → n ≡ m → ⊥
not-missing ns m n miss h e = true≢false (sym h ∙ ap (is_one_of ns) e ∙ miss)

-- It is one of these and 0 as well.
or-zero : (ns : List ℕ) (n : ℕ) → OneOf ns n → OneOf (0 ∷ ns) n
or-zero ns n h = by-test (λ (b : Bool). b ≡ true) (eqb n 0) refl h

-- What is known of a number is known of the one that is returned.
returned : {n r : ℕ} {P : Type 0} → r ≡ n → (n ≡ 0) ↔ P → (r ≡ 0) ↔ P
returned {P = P} e h = subst (λ (m : ℕ). (m ≡ 0) ↔ P) (sym e) h

-- ---- assembling

assembling-zero : (a : Reading) → OfAnswer assembling_numbers a → (assemble_number (answer_of a) ≡ 0) ↔ (is_accepted a ≡ true)
unfolding answer_of is_accepted
assembling-zero (accepted st) h = (λ _. refl, λ _. refl)
assembling-zero (rejected r) h = (λ e. absurd (not-missing assembling_numbers 0 r.number refl h e), λ e. absurd (true≢false (sym e)))

assembling-number : (a : Reading) → OfAnswer assembling_numbers a → OneOf (0 ∷ assembling_numbers) (assemble_number (answer_of a))
unfolding answer_of
assembling-number (accepted st) h = refl
assembling-number (rejected r) h = or-zero assembling_numbers r.number h

image-left : (names : List Name) (source image : List ℕ) (a : Reading) → (assemble_number (answer_of a) ≡ 0 → ⊥) → image_after names source a image ≡ image
unfolding answer_of image_after
image-left names source image (accepted st) k = absurd (k refl)
image-left names source image (rejected r) k = refl

-- A source is not read to more than 32,768 words,
words-answered : (names : List Name) (source : List ℕ) (room size : ℕ) → Accepted names source room size → get_or (assemble_values (answer_of (assembling names source room size))) 0 0 ≤ 32768
unfolding answer_of
words-answered names source room size k =
    let a = accepted-assembles names source room size k in
    omega (arith, ap (λ (w : Reading). get_or (assemble_values (answer_of w)) 0 0) a.answer, a.means.few)

-- so a buffer for as many is never too short.
never-23 : (names : List Name) (source : List ℕ) (room size : ℕ) → 131104 ≤ size → assemble_number (answer_of (assembling names source room size)) ≡ 23 → ⊥
unfolding assembling fitted image_length header_size answer_of
never-23 names source room size h = go (reading names source room) (reading-means names source room) (reading-numbered names source room)
  where
    go : (a : Reading) → MeansIf names source a → OfAnswer reading_numbers a → assemble_number (answer_of (fitted size a)) ≡ 23 → ⊥
    go (rejected r) m n e = not-missing reading_numbers 23 r.number refl n e
    go (accepted st) m n e =
        let f : fitted size (accepted st) ≡ accepted st = rw (fitted, le-leb (32 + 4 * st.words) size (omega (arith, m.few))) in
        let z : ◌≡◌ {A = ℕ} 0 23 = sym (ap (λ (w : Reading). assemble_number (answer_of w)) f) ∙ e in
        omega arith

-- ---- opening

opened-zero : (parts : Parts) (o : Option ℕ) → OfFault (OneOf opening_numbers) o → (open_number (elim o [ some n ↦ refused n | none ↦ value parts ]) ≡ 0) ↔ (o ≡ none)
opened-zero parts none h = (λ _. refl, λ _. refl)
opened-zero parts (some n) h = (λ e. absurd (not-missing opening_numbers 0 n refl h e), λ e. cc)

opening-zero : (b : List ℕ) → (open_number (opening b) ≡ 0) ↔ (opening_fault b ≡ none)
unfolding opening
opening-zero b = opened-zero _ (opening_fault b) (opening_numbered b)

opening-number : (b : List ℕ) → OneOf (0 ∷ opening_numbers) (open_number (opening b))
unfolding opening
opening-number b = by-fault (λ (r : Result Parts). OneOf (0 ∷ opening_numbers) (open_number r)) (opening_fault b) (opening_numbered b) refl (or-zero opening_numbers)

-- ---- listing

listing-zero : (w : Written) → OfListing w → (list_number (list_answer_of w) ≡ 0) ↔ (is_written w ≡ true)
unfolding list_answer_of is_written
listing-zero (written t) h = (λ _. refl, λ _. refl)
listing-zero (unwritten r) h = (λ e. absurd (not-missing listing_numbers 0 r.number refl h e), λ e. absurd (true≢false (sym e)))

listing-number : (w : Written) → OfListing w → OneOf (0 ∷ listing_numbers) (list_number (list_answer_of w))
unfolding list_answer_of
listing-number (written t) h = refl
listing-number (unwritten r) h = or-zero listing_numbers r.number h

text-left : (text : List ℕ) (w : Written) → (list_number (list_answer_of w) ≡ 0 → ⊥) → text_after w text ≡ text
unfolding list_answer_of text_after
text-left text (written t) k = absurd (k refl)
text-left text (unwritten r) k = refl

-- An image that has a text has at most 32,768 words.
text-most : (b : List ℕ) → listing_fault b ≡ none → length (text_of b) ≤ 720959
text-most b h = omega (arith, listed-short b h, (listed-usual b h).few)

module _ (b : List ℕ) (size : ℕ) where
  text-answered : get_or (list_values (list_answer_of (listing b size))) 0 0 ≤ 720959
  unfolding listing list_answer_of refusal
  text-answered = go (listing_fault b) refl (leb (length (text_of b)) size)
    where
      go : (o : Option Refusal) → listing_fault b ≡ o → (u : Bool) → get_or (list_values (list_answer_of (elim o [
        | some r ↦ unwritten r
        | none ↦ elim u [ true ↦ written (text_of b) | false ↦ unwritten (refusal 32 none (some (length (text_of b)))) ]
      ]))) 0 0 ≤ 720959
      go (some r) e u = omega arith
      go none e true = text-most b e
      go none e false = omega arith

  never-32 : 720959 ≤ size → list_number (list_answer_of (listing b size)) ≡ 32 → ⊥
  unfolding listing list_answer_of refusal
  never-32 h = go (listing_fault b) refl (fault-numbered b) (leb (length (text_of b)) size) refl
    where
      go : (o : Option Refusal) → listing_fault b ≡ o → OfRefusal o → (u : Bool) → leb (length (text_of b)) size ≡ u → list_number (list_answer_of (elim o [
        | some r ↦ unwritten r
        | none ↦ elim u [ true ↦ written (text_of b) | false ↦ unwritten (refusal 32 none (some (length (text_of b)))) ]
      ])) ≡ 32 → ⊥
      go (some r) e k u l q = not-missing textless_numbers 32 r.number refl k q
      go none e k true l q = omega arith
      go none e k false l q = true≢false (sym (le-leb (length (text_of b)) size (omega (arith, text-most b e))) ∙ l)

-- ---- every call

pub promises : Promises
promises =
    record {
      assembling = λ names source table image table' image' answer' r h.
          let room = length table in
          let size = length image in
          let a = assembling names source room size in
          let n = assembling-numbered names source room size in
          let z = returned h.number (assembling-zero a n) in
          record {
            zero = z;
            number = subst (OneOf (0 ∷ assembling_numbers)) (sym h.number) (assembling-number a n);
            image_kept = λ k. h.image_holds ∙ image-left names source image a (λ e. k (h.number ∙ e));
            image-length = λ e. omega (arith, ap (λ (x : List ℕ). get_or x 0 0) h.answer, words-answered names source room size (z.0 e));
            image_fits = λ l e. never-23 names source room size (omega arith) (sym h.number ∙ e);
          };
      opening = λ image answer' r h.
          record {
            zero = returned h.number (opening-zero image);
            number = subst (OneOf (0 ∷ opening_numbers)) (sym h.number) (opening-number image);
          };
      listing = λ image text text' answer' r h.
          let size = length text in
          let w = listing image size in
          let n = listing_numbered image size in
          record {
            zero = returned h.number (listing-zero w n);
            number = subst (OneOf (0 ∷ listing_numbers)) (sym h.number) (listing-number w n);
            text_kept = λ k. h.text_holds ∙ text-left text w (λ e. k (h.number ∙ e));
            text-length = λ e. omega (arith, ap (λ (x : List ℕ). get_or x 0 0) h.answer, text-answered image size);
            text_fits = λ l e. never-32 image size (omega arith) (sym h.number ∙ e);
          };
    }
