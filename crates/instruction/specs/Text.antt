-- The text of an instruction: "lower case, `r` names, comma and space, decimal numbers". Quotations are document 01's.
use Rattle.std.specs.Prelude.{ℕ, List, [], ◌∷◌, ◌++◌, ℤ}
use Rattle.std.proofs.Math.Option.{Option, none, some}
use Rattle.text_lexical.specs.Numbers.{decimal, signed_decimal}
use Rattle.instruction.specs.Table.{Separator, a-comma, an-opening, a-closing, Place, reg, num, mark, places}
use Rattle.instruction.specs.Operands.{Instruction}

unfoldable pub register_text : ℕ → List ℕ
register_text n = 114 ∷ decimal n

unfoldable pub number_text : Option ℤ → List ℕ
number_text none = []
number_text (some z) = signed_decimal z

-- "comma and space"; a bracket stands alone.
abbrev pub separator_text : Separator → List ℕ
separator_text a-comma = 44 ∷ 32 ∷ []
separator_text an-opening = 40 ∷ []
separator_text a-closing = 41 ∷ []

unfoldable pub places_text : List Place → List ℕ → Option ℤ → List ℕ
places_text [] rs n = []
places_text (reg bit ∷ ps) [] n = places_text ps [] n
places_text (reg bit ∷ ps) (r ∷ rs) n = register_text r ++ places_text ps rs n
places_text (num bit width signed ∷ ps) rs n = number_text n ++ places_text ps rs n
places_text (mark m ∷ ps) rs n = separator_text m ++ places_text ps rs n

-- A space stands before operands, where there are some.
unfoldable pub operands_text : List Place → List ℕ → Option ℤ → List ℕ
operands_text [] rs n = []
operands_text (p ∷ ps) rs n = 32 ∷ places_text (p ∷ ps) rs n

unfoldable pub instruction_text : Instruction → List ℕ
instruction_text i = i.row.mnemonic ++ operands_text (places i.row.form) i.registers i.number
