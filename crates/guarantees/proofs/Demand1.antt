-- Demand 1 holds of every call.
use Prim.Native.Nat.{ℕ}
use mathlib.Core.Path.{◌≡◌, sym, ap, subst}
use mathlib.Core.List.{List}
use lib.ListN.{length}
use Rattle.text_lexical.specs.Bytes.{Result}
use Rattle.text_lexical.specs.Names.{Name}
use Rattle.image.specs.Opening.{Opened, opening_fault, opening}
use Rattle.image.specs.Assembling.{Assembled as Reading, accepted, rejected, assembling}
use Rattle.image.specs.Listing.{Listing as Written, written, rejected as unwritten, listing}
use Rattle.image.specs.Lent.{Answer, answer_of, entered, image_after, ListAnswer, list_answer_of, text_after}
use Rattle.refusal.specs.Refusals.{answered}
use Rattle.image.specs.Promised.{opened_meant}
use Rattle.image_assembler.specs.Promised.{answer_meant}
use Rattle.image_listing.specs.Promised.{listing_meant}
use Rattle.guarantees.specs.Calls.{assembling_numbers, IsNumbered, IsOpening, IsListing, IsRefusal, IsUnlisted, label_count, Demand1}
use Rattle.image.proofs.Refused.{by-fault}
use Rattle.guarantees.proofs.Numbered.{OfAnswer, OfListing, assembling-numbered, opening_numbered, listing_numbered}

-- An answer that is a refusal is that of a refused source, which leaves the image.
image-left : (names : List Name) (source image image' : List ℕ) (a : Reading) (x : Answer) → x ≡ answer_of a → image' ≡ image_after names source a image → IsRefusal x → image' ≡ image
unfolding answer_of image_after
image-left names source image image' (rejected r) x e h k = h
image-left names source image image' (accepted st) x e h k = absurd (subst IsRefusal e k)

labels-entered : (a : Reading) (x : Answer) → x ≡ answer_of a → length (entered a) ≡ label_count x
unfolding answer_of entered
labels-entered (accepted st) x e = sym (ap label_count e)
labels-entered (rejected r) x e = sym (ap label_count e)

text-left : (text text' : List ℕ) (w : Written) (x : ListAnswer) → x ≡ list_answer_of w → text' ≡ text_after w text → IsUnlisted x → text' ≡ text
unfolding list_answer_of text_after
text-left text text' (unwritten r) x e h k = h
text-left text text' (written t) x e h k = absurd (subst IsUnlisted e k)

is-numbered : (a : Reading) (x : Answer) → x ≡ answer_of a → OfAnswer assembling_numbers a → IsNumbered x
unfolding answer_of
is-numbered (accepted st) x e h = subst IsNumbered (sym e) tt
is-numbered (rejected r) x e h = subst IsNumbered (sym e) h

is-opening : (b : List ℕ) (x : Result Opened) → x ≡ opening b → IsOpening x
unfolding opening
is-opening b x e = subst IsOpening (sym e) (by-fault IsOpening (opening_fault b) (opening_numbered b) tt (λ n k. k))

is-listing : (w : Written) (x : ListAnswer) → x ≡ list_answer_of w → OfListing w → IsListing x
unfolding list_answer_of
is-listing (written t) x e h = subst IsListing (sym e) tt
is-listing (unwritten r) x e h = subst IsListing (sym e) h

pub demand-1 : Demand1
demand-1 =
    record {
      numbered = λ names source table image table' image' r h.
          let room = length table in
          is-numbered (assembling names source room (length image)) (answer_meant r) h.answer (assembling-numbered names source room (length image));
      opening_numbered = λ image r h. is-opening image (answered (opened_meant image) r) h;
      listing_numbered = λ image text text' r h. is-listing (listing image (length text)) (listing_meant r) h.answer (listing_numbered image (length text));
      image_kept = λ names source table image table' image' r h k.
          image-left names source image image' (assembling names source (length table) (length image)) (answer_meant r) h.answer h.image_holds k;
      table_holds = λ names source table image table' image' r h.
          let a = assembling names source (length table) (length image) in
          record {
            as_many = labels-entered a (answer_meant r) h.answer;
            ahead = h.table_holds;
          };
      text_kept = λ image text text' r h k. text-left text text' (listing image (length text)) (listing_meant r) h.answer h.text k;
    }
