-- The present names are a name set, by which mnemonics and keys are no registers.
use mathlib.Core.Path.{refl}
use Rattle.text_lexical.specs.Names.{present}
use Rattle.text.proofs.NameSets.{present-naming}
use Rattle.guarantees.specs.NameSets.{keys, NameSet}
use Rattle.guarantees.proofs.Computing.{computing}

unfoldable pub present-set : NameSet
unfolding keys computing
present-set = record { names = present; naming = present-naming; mnemonics_free = refl; keys_free = refl }
