use Rattle.std.proofs.Common.{◌≡◌, ◌-◌, drop}
use Rattle.test_tokens.specs.Entries.{same_tokens}
use Rattle.test_tokens.proofs.list.are_entries.Given as goal

-- What is left of the places and of the list agrees as all does.
abbrev pub invariant-loop-i : goal.invariant-loop-i
invariant-loop-i l =
    (l.cursor.list ≡ l.fn.place.list)
    × (same_tokens (l.fn.line.count - l.i) l.fn.from (drop l.i l.fn.line.tokens) l.fn.place.list.now l.cursor.at
    ≡ same_tokens l.fn.line.count l.fn.from l.fn.line.tokens l.fn.place.list.now l.fn.place.at)
