-- The text of each form in the pieces that the code puts.
use mathlib.Core.Path.{refl}
use mathlib.Core.Option.{none, some}
use mathlib.Core.List.{[], ◌∷◌, append_assoc, append-nil}
use Rattle.text_lexical.specs.Numbers.{signed_decimal}
use Rattle.text_lexical.specs.Promised.{index_of, whole_meant}
use Rattle.text_lexical.specs.declared.register.Register.{Register}
use Rattle.text_lexical.specs.declared.number.Whole.{Whole}
use Rattle.text_writer.proofs.Sinks.{Two, Three}
use Rattle.instruction.specs.Table.{R, I, Load, Jump, places}
use Rattle.instruction.specs.Text.{register_text, number_text, places_text, operands_text}
use Rattle.instruction.specs.Promised.{row_of}
use Rattle.instruction.specs.declared.opcode.Mnemonic.{Mnemonic}
use Rattle.instruction_codec.specs.Promised.{next_text, base_text, start_text, form_text}

module _ (m : Mnemonic) where
  pub r-type-text : (a b c : Register)
      → Three (form_text R m (index_of a ∷ index_of b ∷ index_of c ∷ []) none) (start_text m a) (next_text b) (register_text (index_of c))
  unfolding form_text operands_text places_text places
  r-type-text a b c = record { are = simp (append_assoc, append-nil) }

  pub i-type-text : (a b : Register) (n : Whole)
      → Three (form_text I m (index_of a ∷ index_of b ∷ []) (some (whole_meant n))) (start_text m a) (next_text b) (signed_decimal (whole_meant n))
  unfolding form_text operands_text places_text places number_text
  i-type-text a b n = record { are = simp (append_assoc, append-nil) }

  pub memory-text : (a b : Register) (n : Whole)
      → Three (form_text Load m (index_of a ∷ index_of b ∷ []) (some (whole_meant n))) (start_text m a) (signed_decimal (whole_meant n)) (base_text b)
  unfolding form_text operands_text places_text places number_text
  memory-text a b n = record { are = simp append_assoc }

  pub j-type-text : (a : Register) (n : Whole)
      → Two (form_text Jump m (index_of a ∷ []) (some (whole_meant n))) (start_text m a) (signed_decimal (whole_meant n))
  unfolding form_text operands_text places_text places number_text
  j-type-text a n = record { are = simp (append_assoc, append-nil) }

  pub start-text : (a : Register) → Three (start_text m a) (row_of m).mnemonic (32 ∷ []) (next_text a)
  start-text a = record { are = refl }

pub next-text : (a : Register) → Two (next_text a) (register_text (index_of a)) (44 ∷ 32 ∷ [])
next-text a = record { are = refl }

pub base-text : (a : Register) → Three (base_text a) (40 ∷ []) (register_text (index_of a)) (41 ∷ [])
base-text a = record { are = refl }
