-- The examples hold, by computation over the definitions.
use mathlib.Core.Path.{◌≡◌, refl}
use mathlib.Core.Bool.{true}
use Rattle.text_lexical.specs.Bytes.{each}
use Rattle.guarantees.specs.Examples.{settings_list, refusal_list, meets, holds, gives, program, starred, unstarred, out_of_range, ranged}
use Rattle.guarantees.proofs.Computing.{computing}

-- Every entry of the table.
pub starred-hold : each holds starred ≡ true
unfolding settings_list refusal_list meets holds gives program starred computing
starred-hold = refl

pub unstarred-hold : each holds unstarred ≡ true
unfolding settings_list refusal_list meets holds gives unstarred computing
unstarred-hold = refl

pub ranged-hold : each holds ranged ≡ true
unfolding settings_list refusal_list meets holds gives out_of_range ranged computing
ranged-hold = refl
