-- Laws of texts that are put into a buffer, and of texts written one after the other; and with them the laws of the two sinks.
use mathlib.Core.Path.{◌≡◌, refl, sym, ap, ◌∙◌}
use mathlib.Core.List.{List, [], ◌∷◌, ◌++◌, append_assoc}
use Prim.Native.Nat.{ℕ, ◌+◌, ◌≤◌, ◌<◌}
use native.Mathlib.Nat.{add-zero, add_assoc}
use native.Mathlib.Numerals.{add-one}
use native.Mathlib.Omega.{arith}
use lib.ListN.{length, take, drop, set, length-append, length-drop, take-append-drop}
use lib.Seq.{length-take-le, take_at, drop-append-add, drop-drop, set_split}
use Rattle.text_writer.specs.Promised.{put, Written}
use Rattle.text_writer.specs.Sinks.{SinkLaws, HasLength, Counted, HasRoom, WrittenOn}

-- ---- a text in a buffer

-- No text leaves the buffer as it is.
pub put-none : (l : List ℕ) (at : ℕ) → put l at [] ≡ l
unfolding put
put-none l at = rw (add-zero at, take-append-drop at l)

-- A byte that is stored is a text of one byte.
pub put_byte : (l : List ℕ) (at b : ℕ) → at < length l → put l at (b ∷ []) ≡ set l at b
unfolding put
put_byte l at b h = rw (add-one at, set_split l at b h)

pub put-length : (l : List ℕ) (at : ℕ) (s : List ℕ) → at + length s ≤ length l → length (put l at s) ≡ length l
unfolding put
put-length l at s h = simp (length-append, length-drop) (omega (arith, length-take-le at l (omega arith)))

drop-behind : (p q : List ℕ) (n m : ℕ) → length p ≡ n → drop (n + m) (p ++ q) ≡ drop m q
drop-behind p q n m e = rw (← e) (drop-append-add p q m)

-- A text, and then another behind it.
pub put-append : (l : List ℕ) (at : ℕ) (s t : List ℕ) → at ≤ length l → put (put l at s) (at + length s) t ≡ put l at (s ++ t)
unfolding put
put-append l at s t h =
    let e : length (take at l ++ s) ≡ at + length s = simp length-append (omega (arith, length-take-le at l h)) in
    let r = drop (at + length s) l in
    let d : drop (at + length s + length t) (take at l ++ s ++ r) ≡ drop (at + length s + length t) l =
    drop-behind (take at l ++ s) r (at + length s) (length t) e ∙ drop-drop (length t) (at + length s) l in
    rw (← append_assoc (take at l) s r, take_at (take at l ++ s) r (at + length s) e, d, length-append s t, ← add_assoc at (length s) (length t))
    (append_assoc (take at l) s _ ∙ ap (λ (x : List ℕ). take at l ++ x) (sym (append_assoc s t _)))

-- ---- texts written one after the other

pub written_none : (l : List ℕ) (at : ℕ) → Written l at [] at l
written_none l at = record { ends = sym (add-zero at); holds = sym (put-none l at) }

pub written_byte : (l : List ℕ) (at b : ℕ) → at < length l → Written l at (b ∷ []) (at + 1) (set l at b)
written_byte l at b h = record { ends = refl; holds = sym (put_byte l at b h) }

module _ {l m : List ℕ} {at p : ℕ} {s : List ℕ} (w : Written l at s p m) where
  -- the buffer is as long as it was
  pub written-length : at + length s ≤ length l → length m ≡ length l
  written-length h = ap length w.holds ∙ put-length l at s h

  -- what is written next stands behind it
  pub written-append : {n : List ℕ} {q : ℕ} {t : List ℕ} → at ≤ length l → Written m p t q n → Written l at (s ++ t) q n
  written-append {n} {q} {t} h v =
      record {
        ends = omega (arith, w.ends, v.ends, length-append s t);
        holds = v.holds ∙ rw (w.holds, w.ends) (put-append l at s t h);
      }

  -- and has the room that is left
  pub room-behind : (t : List ℕ) → at + length (s ++ t) ≤ length l → p + length t ≤ length m
  room-behind t h = let e = length-append s t in omega (arith, w.ends, written-length (omega arith))

-- The first of two texts has room where both have.
pub room-before : (l : List ℕ) (at : ℕ) (s t : List ℕ) → at + length (s ++ t) ≤ length l → at + length s ≤ length l
room-before l at s t h = omega (arith, length-append s t)

-- ---- sinks

pub length_laws : SinkLaws HasLength Counted
length_laws = record {
  fits_front = λ s a b h. tt;
  fits_after = λ s a t b h k. tt;
  took_none = λ s. omega arith;
  took_append = λ s a t b u h k l. omega (arith, length-append a b);
}

pub writer_laws : SinkLaws HasRoom WrittenOn
writer_laws = record {
  fits_front = λ s a b h. room-before s.out.now s.at a b h;
  fits_after = λ s a t b h k. room-behind k.written b h;
  took_none = λ s. record { written = written_none s.out.now s.at; same_buffer = refl };
  took_append = λ s a t b u h k l. record {
    written = written-append k.written (omega arith) l.written;
    same_buffer = l.same_buffer ∙ k.same_buffer;
  };
}
