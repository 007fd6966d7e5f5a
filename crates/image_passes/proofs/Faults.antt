-- Whatever a line is refused for, for itself or for a label that it names, is one of the refusals: the walk's numbers are those of the code's
-- refusals.
use borrow.Author.Tests.{eqb-true}
use Rattle.std.specs.Prelude.{ℕ, ◌≡◌, refl, Bool, true, List, eqb}
use Rattle.std.proofs.Math.Option.{Option}
use Rattle.text_lexical.specs.Bytes.{each}
use Rattle.refusal.specs.Refusals.{number_of, refusal_at, refusals}
use Rattle.text.specs.Lines.{Line}
use Rattle.image.specs.Assembling.{Context, Effect, nothing, sets, codes, faulty, Read, read_on, Fault, fault_in}
use Rattle.image.proofs.Refused.{OfEffect, OfFault, of-line, of-fault}

-- A number is that of a refusal.
abbrev pub Numbered : ℕ → Type 0
Numbered n = number_of (refusal_at n) ≡ n

abbrev pub Named : Effect → Type 0
Named = OfEffect Numbered

-- It is found out by computing it.
abbrev is_numbered : ℕ → Bool
is_numbered n = eqb (number_of (refusal_at n)) n

named : (e : Effect) → OfEffect (λ n. is_numbered n ≡ true) e → Named e
named nothing h = tt
named (sets s) h = tt
named (codes i) h = tt
named (faulty n) h = eqb-true (number_of (refusal_at n)) n h

pub effect-named : (c : Context) (o : Option Line) → Named (read_on c o).effect
unfolding refusals each
effect-named c o = named (read_on c o).effect (of-line is_numbered refl c o)

pub fault-named : (rs : List Read) → OfFault (λ (f : Fault). Numbered f.number) (fault_in rs)
unfolding refusals
fault-named rs = of-fault Numbered refl refl rs
