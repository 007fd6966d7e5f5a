-- Laws of the labels that a table's entries hold, entry by entry.
use Rattle.std.proofs.Common.{◌≡◌, ℕ, suc, ◌+◌, ◌-◌, ◌<◌, ◌≤◌, true, ◌&&◌, List, length, get_or, drop, add-one, arith, drop_of_length-le, drop-cons}
use Rattle.image_labels.specs.declared.label.Label.{Label}
use Rattle.test_vectors.specs.Tables.{blank, label_at, label_end, same_label, same_labels}

module _ (count i : ℕ) (es : List Label) (s : List ℕ) (at : ℕ) where
  -- A label that was entered.
  pub labels_more : (d : Label) → i < length es → i < count →
      same_labels (count - i) (drop i es) s at ≡ (same_label (get_or es i d) (label_at s at) && same_labels (count - (i + 1)) (drop (i + 1) es) s (label_end s at))
  unfolding same_labels
  labels_more d h g =
      let n : count - i ≡ suc (count - suc i) = omega arith in
      rw (add-one i, n, drop-cons es i d h, same_labels)

  -- An entry past the labels.
  pub labels_blank : (d : Label) → i < length es → count ≤ i →
      same_labels (count - i) (drop i es) s at ≡ (same_label (get_or es i d) blank && same_labels (count - (i + 1)) (drop (i + 1) es) s at)
  unfolding same_labels
  labels_blank d h g =
      let n : count - i ≡ 0 = omega arith in
      let m : count - suc i ≡ 0 = omega arith in
      rw (add-one i, n, m, drop-cons es i d h, same_labels)

  pub labels_none : (left : ℕ) → length es ≤ i → same_labels left (drop i es) s at ≡ true
  unfolding same_labels
  labels_none left h = rw (drop_of_length-le es h)
