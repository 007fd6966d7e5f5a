use Rattle.std.proofs.Common.{◌≡◌, ◌+◌, ◌-◌, true, false, ◌&&◌, get_or, drop, sym, ◌∙◌, rules}
use Rattle.image_labels.specs.declared.label.Label.{Label}
use Rattle.test_vectors.specs.Tables.{same_label, same_labels}
use Rattle.test_vectors.proofs.Tables.{labels_more, labels_blank}
use Rattle.test_vectors.proofs.table.has_labels.Goals as goal
use Rattle.test_vectors.proofs.table.has_labels.Goals.{After-ne, then-i-count, else-i-count}

-- What stands past the last entry.
abbrev past : Label
past = record { start = 0; length = 0; address = 0 }

-- What is left agrees if the entry does, and what is left behind it.
goes : (c : After-ne) → same_labels c.args.count c.args.table.now c.args.labels.list.now c.args.labels.at
    ≡ (same_label (get_or c.args.table.now c.loop-i.i past) c.if-i-count.wanted
    && same_labels (c.args.count - (c.loop-i.i + 1)) (drop (c.loop-i.i + 1) c.args.table.now) c.args.labels.list.now c.if-i-count.cursor.at)
goes c =
    let a = c.args in
    let l = c.loop-i in
    elim c.if-i-count.branch [
      | then-i-count w ↦
          rw (w.wanted-is, w.label-wanted.ensures.value, w.cursor-is, w.label-wanted.ensures.place, l.invariant.0)
          (sym l.invariant.1 ∙ labels_more a.count l.i a.table.now a.labels.list.now l.cursor.at past c.loop-i-test.true w.if-i-count.true)
      | else-i-count w ↦
          rw (w.wanted-is, w.blank-wanted.ensures, w.cursor-is)
          (sym l.invariant.1 ∙ labels_blank a.count l.i a.table.now a.labels.list.now l.cursor.at past c.loop-i-test.true w.if-i-count.false)
    ]

pub returns-then-ne : goal.returns-then-ne
returns-then-ne c =
    let e : same_label (get_or c.args.table.now c.loop-i.i past) c.if-i-count.wanted ≡ false = search rules in
    sym (goes (goal.at.returns-then-ne c).After-ne ∙ rw e)

pub loop-i-preserved : goal.loop-i-preserved
loop-i-preserved c =
    let e : same_label (get_or c.args.table.now c.loop-i.i past) c.if-i-count.wanted ≡ true = search rules in
    (search rules, sym (goes (goal.at.loop-i-preserved c).After-ne ∙ rw e))
