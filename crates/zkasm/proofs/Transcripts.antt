-- Laws of calls of `read`: how many bytes came, what the last call delivered, where the bytes stand, and what is printed.
use mathlib.Core.Path.{◌≡◌, refl, sym, ap, ◌∙◌}
use Prim.Native.Nat.{ℕ, zero, suc, ◌+◌, ◌-◌, ◌≤◌, ◌<◌}
use native.Mathlib.Omega.{arith}
use mathlib.Core.Bool.{Bool, true, false}
use mathlib.Core.Option.{Option, none, some}
use mathlib.Core.Logic.{◌⊎◌, inl, inr, ⊎_elim}
use mathlib.Core.List.{List, [], ◌++◌, append-nil}
use lib.ListN.{length, take, length-append, drop_of_length-le}
use lib.Seq.{length-take-le}
use lib.Dec.{eqb, ltb}
use lib.IntN.{ℤ, pos, negsuc}
use borrow.Author.Tests.{ltb-true, ltb-false}
use Rattle.std.proofs.Common.{Option as Maybe, Some, None}
use Rattle.std.specs.Prelude.{Ok, Err, Result as Answer}
use Rattle.std.specs.IoError.{raw_os_error}
use Rattle.std.specs.declared.io.Error.{Error as IoError}
use Rattle.std.specs.Io.KnownBytes.{Consumes}
use Rattle.std.proofs.KnownBytes.{Consumes-trans}
use Rattle.text_writer.specs.Promised.{put}
use Rattle.text_writer.proofs.Writing.{put-append}
use Rattle.image.specs.Lent.{over}
use Rattle.zkasm.specs.Zkasm.{program_output}
use Rattle.image.proofs.Over.{length_over, take-over}
use Rattle.zkasm.specs.Stdin.{Moved, input_room, interruption, failure_of, failed, delivery_of, count_of, step_of, Transcript, start, next, writing_of}
use Rattle.zkasm.specs.Promised.{Delivers, ReadsPiece, Received, Writes, Replies}
use Rattle.zkasm.specs.declared.stdin.Delivery.{Delivery}
use Rattle.zkasm.specs.declared.stdin.Delivery.TheVariants.{Piece, End, Interrupted, Failed}
use Rattle.zkasm.specs.declared.stdin.Input.{Input}
use Rattle.zkasm.specs.declared.stdin.Input.TheVariants.{Whole, TooLong, Incomplete}
use Rattle.zkasm.specs.declared.stdin.Step.{Step}
use Rattle.zkasm.specs.declared.stdin.Step.TheVariants.{Again, Done}
use Rattle.zkasm.proofs.Printing.{output_long}

-- ---- one read

pub failure-none : (number : ℤ) → count_of (failure_of number) ≡ 0
unfolding failure_of count_of
failure-none (pos n) = go (eqb n interruption)
  where
    go : (v : Bool) → count_of (elim v [ true ↦ Interrupted | false ↦ Failed ]) ≡ 0
    go true = refl
    go false = refl
failure-none (negsuc n) = refl

pub failed-none : (number : Maybe ℤ) → count_of (failed number) ≡ 0
unfolding count_of
failed-none (Some number) = failure-none number
failed-none None = refl

-- No more bytes come than were asked for.
delivered-fits : (room : ℕ) (answer : Answer ℕ IoError) → Moved room answer → count_of (delivery_of answer) ≤ room
unfolding delivery_of count_of
delivered-fits room (Ok zero) h = omega arith
delivered-fits room (Ok (suc n)) h = h
delivered-fits room (Err e) h = omega (arith, failed-none (raw_os_error e))

-- A piece is never empty.
abbrev Advances : Delivery → Type 0
Advances (Piece n) = 0 < n
Advances End = Unit {0}
Advances Interrupted = Unit {0}
Advances Failed = Unit {0}

failure-advances : (number : ℤ) → Advances (failure_of number)
unfolding failure_of
failure-advances (pos n) = go (eqb n interruption)
  where
    go : (v : Bool) → Advances (elim v [ true ↦ Interrupted | false ↦ Failed ])
    go true = tt
    go false = tt
failure-advances (negsuc n) = tt

failed-advances : (number : Maybe ℤ) → Advances (failed number)
failed-advances (Some number) = failure-advances number
failed-advances None = tt

delivered-advances : (answer : Answer ℕ IoError) → Advances (delivery_of answer)
unfolding delivery_of
delivered-advances (Ok zero) = tt
delivered-advances (Ok (suc n)) = omega arith
delivered-advances (Err e) = failed-advances (raw_os_error e)

module _ {room : ℕ} {r : Delivery} (a : Delivers room r) where
  pub delivers-fit : count_of r ≤ room
  delivers-fit = rw a.delivery (delivered-fits room a.answer a.moved)

  delivers-advance : Advances r
  delivers-advance = rw a.delivery (delivered-advances a.answer)

-- ---- how many bytes came

-- By the step that the calls lead to.
abbrev Counted : Step → List ℕ → Type 0
Counted (Again filled tries) came = (filled ≡ length came) × (filled < input_room)
Counted (Done (Whole n)) came = (n ≡ length came) × (n < input_room)
Counted (Done TooLong) came = length came ≡ input_room
Counted (Done Incomplete) came = length came ≤ input_room

step-counted : (filled tries : ℕ) (came piece : List ℕ) (a : Delivery) → filled ≡ length came → filled < input_room → length piece ≡ count_of a
    → filled + length piece ≤ input_room → Counted (step_of filled tries a) (came ++ piece)
unfolding step_of count_of
step-counted filled tries came piece (Piece n) e small count fits = go (ltb (filled + n) input_room) refl
  where
    go : (v : Bool) → ltb (filled + n) input_room ≡ v → Counted (elim v [ true ↦ Again (filled + n) tries | false ↦ Done TooLong ]) (came ++ piece)
    go true h = (omega (arith, length-append came piece), ltb-true (filled + n) input_room h)
    go false h = omega (arith, length-append came piece, ltb-false (filled + n) input_room h)
step-counted filled tries came piece End e small count fits = (omega (arith, length-append came piece), small)
step-counted filled zero came piece Interrupted e small count fits = omega (arith, length-append came piece)
step-counted filled (suc tries) came piece Interrupted e small count fits = (omega (arith, length-append came piece), small)
step-counted filled tries came piece Failed e small count fits = omega (arith, length-append came piece)

counted : {step : Step} {came : List ℕ} → Transcript step came → Counted step came
counted start = (refl, omega arith)
counted (next {filled} {tries} {came} delivery piece calls count fits e) =
    let c = counted calls in
    rw e (step-counted filled tries came piece delivery c.0 c.1 count fits)

-- ---- the last call

pub last_of : {step : Step} {came : List ℕ} → Transcript step came → Option Delivery
last_of start = none
last_of (next delivery piece calls count fits e) = some delivery

-- Only the end leads to a whole input.
pub whole-by-end : {n : ℕ} (a : Delivery) (filled tries : ℕ) → Done (Whole n) ≡ step_of filled tries a → a ≡ End
unfolding step_of
whole-by-end {n} (Piece k) filled tries e = go (ltb (filled + k) input_room) e
  where
    go : (v : Bool) → Done (Whole n) ≡ elim v [ true ↦ Again (filled + k) tries | false ↦ Done TooLong ] → Piece k ≡ End
    go true e = let z : ◌≡◌ {A = ℕ} 0 1 = cc in absurd (omega arith)
    go false e = let z : ◌≡◌ {A = ℕ} 0 1 = cc in absurd (omega arith)
whole-by-end End filled tries e = refl
whole-by-end Interrupted filled zero e = let z : ◌≡◌ {A = ℕ} 0 1 = cc in absurd (omega arith)
whole-by-end Interrupted filled (suc tries) e = let z : ◌≡◌ {A = ℕ} 0 1 = cc in absurd (omega arith)
whole-by-end Failed filled tries e = let z : ◌≡◌ {A = ℕ} 0 1 = cc in absurd (omega arith)

-- An input is whole only if the last call answered that it had ended.
pub whole-ended : {n : ℕ} {came : List ℕ} (calls : Transcript (Done (Whole n)) came) → last_of calls ≡ some End
unfolding last_of
whole-ended {n} (next {filled} {tries} delivery piece calls count fits e) = ap some (whole-by-end delivery filled tries e)

-- ---- another call

-- After it there is less room, or there are fewer tries.
step_less : (filled tries more left : ℕ) (a : Delivery) → Advances a → filled + count_of a ≤ input_room → Again more left ≡ step_of filled tries a
    → input_room - more + left < input_room - filled + tries
unfolding count_of step_of
step_less filled tries more left (Piece n) h fits e = go (ltb (filled + n) input_room) e
  where
    go : (v : Bool) → Again more left ≡ elim v [ true ↦ Again (filled + n) tries | false ↦ Done TooLong ] → input_room - more + left < input_room - filled + tries
    go true e = let p : more ≡ filled + n = cc in let q : left ≡ tries = cc in omega arith
    go false e = let z : ◌≡◌ {A = ℕ} 0 1 = cc in absurd (omega arith)
step_less filled tries more left End h fits e = let z : ◌≡◌ {A = ℕ} 0 1 = cc in absurd (omega arith)
step_less filled zero more left Interrupted h fits e = let z : ◌≡◌ {A = ℕ} 0 1 = cc in absurd (omega arith)
step_less filled (suc tries) more left Interrupted h fits e = let p : more ≡ filled = cc in let q : left ≡ tries = cc in omega arith
step_less filled tries more left Failed h fits e = let z : ◌≡◌ {A = ℕ} 0 1 = cc in absurd (omega arith)

-- The bytes that come by it stand after those that came before.
put-over : (came piece old : List ℕ) → put (over came old) (length came) piece ≡ over (came ++ piece) old
unfolding put over
put-over came piece old =
    let e : (n : ℕ) → 0 + n ≡ n = λ n. omega arith in
    rw (← e (length came), ← e (length (came ++ piece))) (put-append old 0 came piece (omega arith))

module _ {old new : List ℕ} {filled tries : ℕ} (r : Received old new (Again filled tries)) (room : length old ≡ input_room) where
  pub filled-small : filled < input_room
  filled-small = (counted r.calls).1

  pub still-room : length new ≡ input_room
  still-room = ap length r.holds ∙ length_over r.came old (omega (arith, (counted r.calls).0, (counted r.calls).1)) ∙ room

  module _ {piece new' : List ℕ} {delivery : Delivery} (p : ReadsPiece filled new piece new' delivery) where
    pub next_fits : filled + count_of delivery ≤ input_room
    next_fits = omega (arith, delivers-fit p.delivers, filled-small, still-room)

    pub next-less : (more left : ℕ) → Again more left ≡ step_of filled tries delivery → input_room - more + left < input_room - filled + tries
    next-less more left e = step_less filled tries more left delivery (delivers-advance p.delivers) next_fits e

    -- Where it is known what the input has left, the bytes that came by then are the first of it.
    pub reads-on : {step : Step} → step ≡ step_of filled tries delivery → length piece ≡ input_room → (left now rest : Maybe (List ℕ))
        → Consumes left now r.came → Consumes now rest (take (count_of delivery) piece) → (t : Received old new' step) × Consumes left rest t.came
    reads-on e size left now rest before after =
        let count : length (take (count_of delivery) piece) ≡ count_of delivery = length-take-le (count_of delivery) piece (omega (arith, next_fits)) in (
          record {
            came = r.came ++ take (count_of delivery) piece;
            calls = next delivery (take (count_of delivery) piece) r.calls count (omega (arith, next_fits)) e;
            holds = p.holds ∙ rw (r.holds, (counted r.calls).0) (put-over r.came (take (count_of delivery) piece) old);
          },
          Consumes-trans left now rest r.came (take (count_of delivery) piece) before after,
        )

-- ---- what was read

module _ {old new : List ℕ} (room : length old ≡ input_room) where
  -- A whole input is the front of the buffer.
  pub whole-fits : {n : ℕ} → Received old new (Done (Whole n)) → n ≤ length new
  whole-fits r =
      let c = counted r.calls in
      omega (arith, c.1, ap length r.holds, length_over r.came old (omega (arith, c.0, c.1)))

  pub whole-front : {n : ℕ} (r : Received old new (Done (Whole n))) → take n new ≡ r.came
  whole-front r = rw (r.holds, (counted r.calls).0) (take-over r.came old)

  -- One that is too long fills it.
  pub too-long-fills : (r : Received old new (Done TooLong)) → new ≡ r.came
  unfolding over
  too-long-fills r =
      let e : length old ≤ length r.came = omega (arith, counted r.calls) in
      r.holds ∙ rw (drop_of_length-le old e, append-nil r.came)

-- ---- what is written

-- Whatever follows an input that is too long, what is printed is the same. So it need not be read.
pub rest-alike : (came rest : List ℕ) → length came ≡ input_room → program_output (came ++ rest) ≡ program_output came
rest-alike came rest h = output_long (came ++ rest) (omega (arith, length-append came rest)) ∙ sym (output_long came (omega arith))

module _ {old new : List ℕ} {n : ℕ} where
  -- A text is printed only after a call that answered that the input had ended, or if the input is too long by now.
  pub output-ended : (r : Replies old new (Ok n)) → (last_of r.calls ≡ some End) ⊎ (length r.came ≡ input_room)
  unfolding writing_of
  output-ended r = go r.read r.calls r.writes
    where
      go : (i : Input) {came : List ℕ} (calls : Transcript (Done i) came) → Writes (writing_of i came) old new (Ok n)
          → (last_of calls ≡ some End) ⊎ (length came ≡ input_room)
      go (Whole k) calls w = inl (whole-ended calls)
      go TooLong calls w = inr (counted calls)
      go Incomplete calls w = absurd w

  -- It is what the program prints for the bytes that came.
  pub output-text : (r : Replies old new (Ok n)) → take n new ≡ program_output r.came
  unfolding writing_of
  output-text r = go r.read r.writes
    where
      go : (i : Input) → Writes (writing_of i r.came) old new (Ok n) → take n new ≡ program_output r.came
      go (Whole k) w = w.printed
      go TooLong w = w.printed
      go Incomplete w = absurd w

  -- So it is what the program prints for the whole input, if the input is the bytes that came and a rest, and if there is no rest once
  -- a call has answered that the input had ended. That the bytes are the input's, and the answer true, is all that is left to `read`.
  pub prints-whole : (r : Replies old new (Ok n)) (rest : List ℕ) → (last_of r.calls ≡ some End → rest ≡ [])
      → take n new ≡ program_output (r.came ++ rest)
  prints-whole r rest ended =
      output-text r
      ∙ ⊎_elim (λ e. rw (ended e, append-nil r.came)) (λ h. sym (rest-alike r.came rest h)) (output-ended r)
