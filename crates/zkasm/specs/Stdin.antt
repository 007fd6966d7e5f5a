-- Standard input: what an answer of `read` means, when reading goes on, and what is written in the end. "A program reads standard
-- input (at most 16,384 bytes, otherwise 1; ..) and prints the listing": the quotations are document 01's. The meaning of an answer
-- is POSIX's. Which bytes come, where it is known what the input has left, `Source` says.
use Rattle.std.specs.Prelude.{ℕ, zero, suc, ◌+◌, ◌≤◌, ◌≡◌, true, false, List, [], ◌∷◌, ◌++◌, length, eqb, ltb, ℤ, pos, negsuc, ⊤, Option, Some, None, Result, Ok, Err}
use Rattle.std.specs.IoError.{raw_os_error}
use Rattle.std.specs.declared.io.Error.{Error}
use Rattle.text_lexical.specs.Bytes.{bytes}
use Rattle.zkasm.specs.Zkasm.{most_input, program_output}
use Rattle.zkasm.specs.declared.stdin.Delivery.{Delivery}
use Rattle.zkasm.specs.declared.stdin.Delivery.TheVariants.{Piece, End, Interrupted, Failed}
use Rattle.zkasm.specs.declared.stdin.Input.{Input}
use Rattle.zkasm.specs.declared.stdin.Input.TheVariants.{Whole, TooLong, Incomplete}
use Rattle.zkasm.specs.declared.stdin.Step.{Step}
use Rattle.zkasm.specs.declared.stdin.Step.TheVariants.{Again, Done}

-- "at most 16,384 bytes", and one byte more, so that a longer input is seen.
abbrev pub input_room : ℕ
input_room = most_input + 1

-- The number of times that an interrupted read is tried again.
abbrev pub most_tries : ℕ
most_tries = 100

-- The number of the error of a call that was interrupted before a byte came (EINTR).
abbrev pub interruption : ℕ
interruption = 4

-- ---- one read

-- What a call that is lent a buffer of n bytes may answer: how many bytes came, at most n, or an error.
abbrev pub Moved : ℕ → Result ℕ Error → Type 0
Moved n (Ok k) = k ≤ n
Moved n (Err e) = ⊤

-- A call that failed, by the number that the operating system has for its error,
unfoldable pub failure_of : ℤ → Delivery
failure_of (pos number) = elim (eqb number interruption) [ true ↦ Interrupted | false ↦ Failed ]
failure_of (negsuc n) = Failed

-- if it has one.
abbrev pub failed : Option ℤ → Delivery
failed (Some number) = failure_of number
failed None = Failed

-- `read` answers the number of bytes that came, 0 at the end of the input, or an error.
unfoldable pub delivery_of : Result ℕ Error → Delivery
delivery_of (Ok zero) = End
delivery_of (Ok (suc n)) = Piece (suc n)
delivery_of (Err e) = failed (raw_os_error e)

-- The number of bytes that came.
unfoldable pub count_of : Delivery → ℕ
count_of (Piece n) = n
count_of End = 0
count_of Interrupted = 0
count_of Failed = 0

-- ---- reading on

-- With so many bytes read and so many tries left: a piece is followed by another read unless the input is too long by now, and an
-- interruption unless no try is left. Only the end makes an input whole.
unfoldable pub step_of : ℕ → ℕ → Delivery → Step
step_of filled tries (Piece n) = elim (ltb (filled + n) input_room) [ true ↦ Again (filled + n) tries | false ↦ Done TooLong ]
step_of filled tries End = Done (Whole filled)
step_of filled zero Interrupted = Done Incomplete
step_of filled (suc tries) Interrupted = Again filled tries
step_of filled tries Failed = Done Incomplete

-- The calls of `read`, one after the other: the step that they lead to, and the bytes that came, in the order of the calls. A call is
-- made only if those before it lead to `Again`, and brings no more than there is room for.
pub data Transcript : Step → List ℕ → Type 0 where
  start : Transcript (Again 0 most_tries) []
  next : {filled tries : ℕ} {came : List ℕ} {step : Step} (delivery : Delivery) (piece : List ℕ) → Transcript (Again filled tries) came
      → length piece ≡ count_of delivery → filled + length piece ≤ input_room → step ≡ step_of filled tries delivery → Transcript step (came ++ piece)

-- ---- what is written

-- A text to standard output, or a line to standard error.
pub data Writing : Type 0 where
  printed : List ℕ → Writing
  told : List ℕ → Writing

unfoldable pub incomplete_line : List ℕ
incomplete_line = bytes "zkasm: standard input could not be read to its end" ++ (10 ∷ [])

-- "prints the listing, or `refused N line L`" for the bytes that came, if they are the whole input or too many. Otherwise nothing is
-- printed.
unfoldable pub writing_of : Input → List ℕ → Writing
writing_of (Whole n) came = printed (program_output came)
writing_of TooLong came = printed (program_output came)
writing_of Incomplete came = told incomplete_line
