-- Laws of what reading does with the bytes that the input has left, where those are known.
use Rattle.std.proofs.Common.{◌≡◌, ℕ, zero, suc, ◌<◌, ◌≤◌, ℤ, pos, negsuc, arith, List, [], ◌++◌, length, take, None, Some, refl, sym, ap, ◌∙◌, subst}
use lib.Seq.{take-append-le}
use Rattle.std.specs.declared.option.Option.{Option}
use Rattle.std.specs.Prelude.{Ok, Err}
use Rattle.std.specs.IoError.{raw_os_error}
use Rattle.std.specs.declared.io.Error.{Error}
use Rattle.std.specs.Io.KnownBytes.{Consumes, IsAtEnd, Keeps}
use Rattle.std.proofs.KnownBytes.{Consumes-nil, Consumes-kept}
use Rattle.zkasm.specs.Zkasm.{program_output}
use Rattle.zkasm.specs.Stdin.{input_room, failure_of, failed, delivery_of, count_of}
use Rattle.zkasm.specs.Promised.{Received}
use Rattle.zkasm.specs.Source.{Brings, Takes, PrintsInput}
use Rattle.zkasm.specs.declared.stdin.Delivery.{Delivery}
use Rattle.zkasm.specs.declared.stdin.Delivery.TheVariants.{Piece, End, Interrupted, Failed}
use Rattle.zkasm.specs.declared.stdin.Input.{Input}
use Rattle.zkasm.specs.declared.stdin.Input.TheVariants.{Whole, TooLong, Incomplete}
use Rattle.zkasm.specs.declared.stdin.Step.TheVariants.{Done}
use Rattle.zkasm.proofs.Transcripts.{failed-none, whole-front, too-long-fills, rest-alike}

-- ---- one read

brought : (n : ℕ) → count_of (delivery_of (Ok n)) ≡ n
unfolding delivery_of count_of
brought zero = refl
brought (suc n) = refl

ended-none : (n : ℕ) → delivery_of (Ok n) ≡ End → n ≡ 0
unfolding delivery_of
ended-none zero e = refl
ended-none (suc n) e = let z : ◌≡◌ {A = ℕ} 0 1 = cc in absurd (omega arith)

failure-not-ended : {X : Type 0} (number : ℤ) → failure_of number ≡ End → X
unfolding failure_of
failure-not-ended (pos n) e = grind arith
failure-not-ended (negsuc n) e = let z : ◌≡◌ {A = ℕ} 0 1 = cc in absurd (omega arith)

failed-not-ended : {X : Type 0} (number : Option ℤ) → failed number ≡ End → X
failed-not-ended (Some number) e = failure-not-ended number e
failed-not-ended None e = let z : ◌≡◌ {A = ℕ} 0 1 = cc in absurd (omega arith)

module _ (left rest : Option (List ℕ)) (buffer : List ℕ) {r : Delivery} where
  -- A call that did not fail.
  pub brings-read : (n : ℕ) → r ≡ delivery_of (Ok n) → 0 < length buffer → Consumes left rest (take n buffer)
      → (n ≡ 0 → 0 < length buffer → IsAtEnd rest) → Brings left rest (take (count_of r) buffer) r
  brings-read n e room came ended = rw (e, brought n) (came, λ h. ended (ended-none n h) room)

  -- A call that failed.
  pub brings-none : (error : Error) → r ≡ delivery_of (Err error) → Keeps left rest → Brings left rest (take (count_of r) buffer) r
  unfolding delivery_of
  brings-none error e kept =
      rw (e, failed-none (raw_os_error error)) (Consumes-kept left left rest [] (Consumes-nil left) kept, λ h. failed-not-ended (raw_os_error error) h)

  -- The piece is the front of a longer buffer too.
  pub brings-longer : (more : List ℕ) → count_of r ≤ length buffer → Brings left rest (take (count_of r) buffer) r → Brings left rest (take (count_of r) (buffer ++ more)) r
  brings-longer more few b = (subst (Consumes left rest) (sym (take-append-le (count_of r) buffer more few)) b.0, b.1)

-- Nothing comes by a delivery that is no piece.
pub none_came : (r : Delivery) → ((n : ℕ) → r ≡ Piece n → ⊥) → count_of r ≡ 0
unfolding count_of
none_came (Piece n) h = absurd (h n refl)
none_came End h = refl
none_came Interrupted h = refl
none_came Failed h = refl

-- ---- what was read

module _ {old new : List ℕ} (room : length old ≡ input_room) (left rest : Option (List ℕ)) where
  pub takes : (i : Input) → (t : Received old new (Done i)) × Consumes left rest t.came → ((n : ℕ) → i ≡ Whole n → IsAtEnd rest) → Takes left rest new i
  takes (Whole n) t ended = (subst (Consumes left rest) (sym (whole-front room t.0)) t.1, ended n refl)
  takes TooLong t ended = subst (Consumes left rest) (sym (too-long-fills room t.0)) t.1
  takes Incomplete t ended = (t.0.came, t.1)

-- What is printed for an input that is too long is what is printed for its front.
pub prints-front : (left rest : Option (List ℕ)) (came buffer : List ℕ) (n : ℕ) → length came ≡ input_room → Consumes left rest came
    → take n buffer ≡ program_output came → PrintsInput left buffer (Ok n)
prints-front None rest came buffer n full h e = tt
prints-front (Some input) None came buffer n full h e = absurd h
prints-front (Some input) (Some more) came buffer n full h e = e ∙ sym (rest-alike came more full) ∙ ap program_output (sym h)
