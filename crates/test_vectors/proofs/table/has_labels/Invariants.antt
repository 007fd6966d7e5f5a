use Rattle.std.proofs.Common.{◌≡◌, ◌-◌, drop}
use Rattle.test_vectors.specs.Tables.{same_labels}
use Rattle.test_vectors.proofs.table.has_labels.Given as goal

-- What is left of the table and of the list agrees as all does.
abbrev pub invariant-loop-i : goal.invariant-loop-i
invariant-loop-i l = (l.cursor.list ≡ l.fn.labels.list) × (same_labels (l.count - l.i) (drop l.i l.table) l.fn.labels.list.now l.cursor.at ≡ same_labels l.fn.count l.fn.table l.fn.labels.list.now l.fn.labels.at)
