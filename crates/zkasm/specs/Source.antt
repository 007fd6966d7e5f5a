-- What reading does with the bytes that the input has left, where those are known, and what is printed for them.
use Rattle.std.specs.Prelude.{ℕ, ◌≡◌, List, take, ⊤, None, Some, Ok, Err, Result}
use Rattle.std.specs.Io.KnownBytes.{Consumes, IsAtEnd}
use Rattle.std.specs.declared.option.Option.{Option}
use Rattle.zkasm.specs.Zkasm.{program_output}
use Rattle.zkasm.specs.declared.stdin.Delivery.{Delivery}
use Rattle.zkasm.specs.declared.stdin.Delivery.TheVariants.{End}
use Rattle.zkasm.specs.declared.stdin.Input.{Input}
use Rattle.zkasm.specs.declared.stdin.Input.TheVariants.{Whole, TooLong, Incomplete}
use Rattle.zkasm.specs.declared.reply.Unread.{Unread}

-- A piece is the next bytes that the input has left, and nothing is left where the call says that the input has ended.
abbrev pub Brings : Option (List ℕ) → Option (List ℕ) → List ℕ → Delivery → Type 0
Brings left rest piece delivery = Consumes left rest piece × (delivery ≡ End → IsAtEnd rest)

-- The buffer holds the next bytes that the input has left: all of them if it is whole, and as many as there is room for if it is too long.
-- Of an incomplete one some bytes came, the next that it had left.
abbrev pub Takes : Option (List ℕ) → Option (List ℕ) → List ℕ → Input → Type 0
Takes left rest buffer (Whole n) = Consumes left rest (take n buffer) × IsAtEnd rest
Takes left rest buffer TooLong = Consumes left rest buffer
Takes left rest buffer Incomplete = (came : List ℕ) × Consumes left rest came

-- A text for standard output is what the program prints for the whole input.
abbrev pub PrintsInput : Option (List ℕ) → List ℕ → Result ℕ Unread → Type 0
PrintsInput None buffer reply = ⊤
PrintsInput (Some input) buffer (Ok n) = take n buffer ≡ program_output input
PrintsInput (Some input) buffer (Err u) = ⊤
