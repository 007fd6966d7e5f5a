-- When a label table has the labels that the list has.
use Rattle.std.specs.Prelude.{ℕ, zero, suc, Bool, true, ◌&&◌, List, [], ◌∷◌, ◌==◌}
use Rattle.image_labels.specs.declared.label.Label.{Label}
use Rattle.test_replay.specs.List.{behind, number_at}

-- `l START LENGTH ADDRESS` at a place.
unfoldable pub label_at : List ℕ → ℕ → Label
label_at s at =
    let start = number_at 10 s (behind at 2) in
    let size = number_at 10 s start.next in
    let address = number_at 10 s size.next in
    record { start = start.value; length = size.value; address = address.value }

-- The place after that line.
unfoldable pub label_end : List ℕ → ℕ → ℕ
label_end s at = (number_at 10 s (number_at 10 s (number_at 10 s (behind at 2)).next).next).next

-- What an entry holds before the table is lent: in each field 0xA5A5A5A5A5A5A5A5.
abbrev pub blank : Label
blank = record { start = 11936128518282651045; length = 11936128518282651045; address = 11936128518282651045 }

abbrev pub same_label : Label → Label → Bool
same_label held wanted = held.start == wanted.start && held.length == wanted.length && held.address == wanted.address

-- The entries are the `left` labels that the list has from a place on, and then what they were.
unfoldable pub same_labels : ℕ → List Label → List ℕ → ℕ → Bool
same_labels left [] s at = true
same_labels zero (e ∷ es) s at = same_label e blank && same_labels zero es s at
same_labels (suc left) (e ∷ es) s at = same_label e (label_at s at) && same_labels left es s (label_end s at)
