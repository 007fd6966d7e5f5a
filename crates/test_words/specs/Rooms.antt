-- A room that takes any text, as far as it goes.
use Rattle.std.specs.Prelude.{◌≡◌, ℕ, List, length, refl}
use Rattle.std.proofs.Common.{◌∙◌}
use Rattle.text_writer.specs.Sinks.{SinkLaws}
use Rattle.test_words.specs.declared.calls.Room.{Room}

abbrev pub AnyText : Room → List ℕ → Type 0
AnyText r text = Unit {0}

-- The room stays the one that was lent, and keeps its length.
pub record Went (r : Room) (text : List ℕ) (t : Room) : Type 0 where
  pub same_length : length t.report.room.now ≡ length r.report.room.now
  pub same_room : t.report.room.ghost_name ≡ r.report.room.ghost_name

pub room_laws : SinkLaws AnyText Went
room_laws = record {
  fits_front = λ s a b h. tt;
  fits_after = λ s a t b h k. tt;
  took_none = λ s. record { same_length = refl; same_room = refl };
  took_append = λ s a t b u h k l. record {
    same_length = l.same_length ∙ k.same_length;
    same_room = l.same_room ∙ k.same_room;
  };
}
