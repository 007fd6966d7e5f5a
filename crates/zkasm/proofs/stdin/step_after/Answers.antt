use Rattle.std.proofs.Common.{◌≡◌, refl, ap, ℕ, zero, suc, ◌+◌, ◌-◌, ◌≤◌, ◌<◌, arith, lt-ltb, le-ltb}
use Rattle.zkasm.specs.Stdin.{input_room, count_of, step_of}
use Rattle.zkasm.specs.declared.stdin.Delivery.TheVariants.{Piece, Interrupted}
use Rattle.zkasm.specs.declared.stdin.Input.TheVariants.{TooLong, Incomplete}
use Rattle.zkasm.specs.declared.stdin.Step.TheVariants.{Again, Done}
use Rattle.zkasm.proofs.stdin.step_after.Goals as goal

module _ (filled tries : ℕ) where
  goes_on : (n : ℕ) → filled + n < input_room → Again (filled + n) tries ≡ step_of filled tries (Piece n)
  unfolding step_of
  goes_on n h = rw (step_of, lt-ltb (filled + n) input_room h)

  too_long : (n : ℕ) → input_room ≤ filled + n → Done TooLong ≡ step_of filled tries (Piece n)
  unfolding step_of
  too_long n h = rw (step_of, le-ltb (filled + n) input_room h)

again : (filled tries : ℕ) → 0 < tries → Again filled (tries - 1) ≡ step_of filled tries Interrupted
unfolding step_of
again filled zero h = absurd (omega arith)
again filled (suc tries) h = let e : suc tries - 1 ≡ tries = omega arith in ap (Again filled) e

gives_up : (filled tries : ℕ) → tries ≤ 0 → Done Incomplete ≡ step_of filled tries Interrupted
unfolding step_of
gives_up filled zero h = refl
gives_up filled (suc tries) h = absurd (omega arith)

pub overflow_add-filled : goal.overflow_add-filled
unfolding count_of
overflow_add-filled c =
    let h = rw c.in-Piece.is at c.requires in
    record { fits = omega arith }

pub returns-then-filled-lt-ROOM : goal.returns-then-filled-lt-ROOM
returns-then-filled-lt-ROOM c = rw c.in-Piece.is (goes_on c.args.filled c.args.tries c.in-Piece.n c.if-filled-lt-ROOM.true)

pub returns-else-filled-lt-ROOM : goal.returns-else-filled-lt-ROOM
returns-else-filled-lt-ROOM c = rw c.in-Piece.is (too_long c.args.filled c.args.tries c.in-Piece.n c.if-filled-lt-ROOM.false)

pub returns-in-End : goal.returns-in-End
unfolding step_of
returns-in-End c = rw c.in-End.is

pub returns-then-tries-gt0 : goal.returns-then-tries-gt0
returns-then-tries-gt0 c = rw c.in-Interrupted.is (again c.args.filled c.args.tries c.if-tries-gt0.true)

pub returns-else-tries-gt0 : goal.returns-else-tries-gt0
returns-else-tries-gt0 c = rw c.in-Interrupted.is (gives_up c.args.filled c.args.tries c.if-tries-gt0.false)

pub returns-in-Failed : goal.returns-in-Failed
unfolding step_of
returns-in-Failed c = rw c.in-Failed.is
