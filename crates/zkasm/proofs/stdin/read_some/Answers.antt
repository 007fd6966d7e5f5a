use Rattle.std.proofs.Common.{◌≡◌, ℕ, ◌<◌, arith, List, length, take, Option}
use Rattle.std.specs.Prelude.{Ok, Err, Result, IfOk}
use Rattle.std.specs.declared.io.Error.{Error}
use Rattle.std.specs.Counts.{IsPrefixLen}
use Rattle.std.specs.Io.KnownBytes.{ReadConsumes}
use Rattle.zkasm.specs.Stdin.{Moved, delivery_of, count_of}
use Rattle.zkasm.specs.Source.{Brings}
use Rattle.zkasm.specs.declared.stdin.Delivery.{Delivery}
use Rattle.zkasm.proofs.Sources.{brings-read, brings-none}
use Rattle.zkasm.proofs.stdin.read_some.Goals as goal

brings : (left rest : Option (List ℕ)) (buffer : List ℕ) {r : Delivery} (answer : Result ℕ Error) → r ≡ delivery_of answer → 0 < length buffer
    → ReadConsumes left rest answer buffer → Brings left rest (take (count_of r) buffer) r
brings left rest buffer (Ok n) e room h = brings-read left rest buffer n e room h.0 h.1
brings left rest buffer (Err error) e room h = brings-none left rest buffer error e h

pub returns-clause-bytes : goal.returns-clause-bytes
returns-clause-bytes g c = brings _ _ c.read.new.buf c.read.result c.delivery_of.ensures (omega (arith, c.requires, c.read.auto.buf)) c.read.ensures.bytes

moved : (lent : ℕ) (buffer : List ℕ) → length buffer ≡ lent → (answer : Result ℕ Error) → IfOk answer (λ n. IsPrefixLen n buffer) → Moved lent answer
moved lent buffer same (Ok n) h = omega (arith, same, h.0)
moved lent buffer same (Err error) h = tt

pub returns-clause-delivery : goal.returns-clause-delivery
returns-clause-delivery g c = record { answer = c.read.result; moved = moved _ c.read.new.buf c.read.auto.buf c.read.result c.read.ensures.bound; delivery = c.delivery_of.ensures }
