use Rattle.std.proofs.Common.{◌≡◌, suc, ◌-◌, length, [], sym, ◌∙◌, arith, length-set}
use Rattle.test_replay.specs.List.{byte_at, behind, line_bytes, line_end}
use Rattle.test_replay.proofs.Lines.{left-more, line-stop, line-full, left-none}
use Rattle.test_replay.proofs.list.line_at.Goals as goal
use Rattle.test_replay.proofs.list.line_at.Goals.{Left-loop-place, else-loop-place-test, then-loop-place-test+then-byte_at-eq10}

pub loop-place-preserved : goal.loop-place-preserved
loop-place-preserved c =
    let n : byte_at c.args.list.now c.loop-place.at ≡ 10 → ⊥ = λ e. c.if-byte_at-eq10.false (c.byte_at.ensures ∙ e) in
    let l = left-more c.loop-place.invariant.2 (omega arith) n in
    (simp length-set c.loop-place.invariant.0, c.loop-place.invariant.1, rw c.unescaped_at-spelled.ensures l)

-- Where the loop stops the line ends, and nothing of it is left: at byte 10, or where there is no more room.
stopped : (c : Left-loop-place)
    → (c.loop-place-test.end ≡ c.loop-place.place)
    × (line_bytes (length c.loop-place.room - suc c.loop-place.place) c.args.list.now c.loop-place.at ≡ [])
    × (line_end (length c.loop-place.room - suc c.loop-place.place) c.args.list.now c.loop-place.at ≡ c.loop-place.at)
stopped c =
    let s = c.args.list.now in
    let most = length c.loop-place.room - suc c.loop-place.place in
    elim c.loop-place-test.branch [
      | else-loop-place-test w ↦ let e = line-full most s c.loop-place.at (omega arith) in (omega (arith, w.end-is), e.0, e.1)
      | then-loop-place-test+then-byte_at-eq10 w ↦
          let e = line-stop most s c.loop-place.at (sym w.byte_at.ensures ∙ w.if-byte_at-eq10.true) in
          (w.end-is, e.0, e.1)
    ]

pub returns-clause-value : goal.returns-clause-value
unfolding behind
returns-clause-value c = let e = stopped c in rw e.0 (left-none c.loop-place.invariant.2 (e.1, e.2)).0

pub returns-clause-room_after : goal.returns-clause-room_after
returns-clause-room_after c = let e = stopped c in rw e.0 (left-none c.loop-place.invariant.2 (e.1, e.2)).1
