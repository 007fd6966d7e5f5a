-- What the program's functions promise.
use Rattle.std.specs.Prelude.{ℕ, ◌-◌, ◌≤◌, ◌≡◌, List, length, take}
use Rattle.std.specs.declared.io.Error.{Error}
use Rattle.std.specs.Prelude.{Ok, Err, Result as Answer}
use Rattle.text_lexical.specs.Names.{present}
use Rattle.text_writer.specs.Promised.{put}
use Rattle.image.specs.Assembling.{assembling}
use Rattle.image.specs.Lent.{over, answer_of, image_after}
use Rattle.image_assembler.specs.Promised.{answer_meant}
use Rattle.image_assembler.specs.declared.assembler.Assembled.{Assembled}
use Rattle.image_assembler.specs.declared.assembler.AssembleError.{AssembleError}
use Rattle.zkasm.specs.Zkasm.{table_room}
use Rattle.zkasm.specs.Stdin.{Moved, delivery_of, count_of, Transcript, Writing, printed, told, incomplete_line, writing_of}
use Rattle.zkasm.specs.declared.stdin.Delivery.{Delivery}
use Rattle.zkasm.specs.declared.stdin.Input.{Input}
use Rattle.zkasm.specs.declared.stdin.Step.{Step}
use Rattle.zkasm.specs.declared.stdin.Step.TheVariants.{Done}
use Rattle.zkasm.specs.declared.reply.Unread.{Unread}

-- Assembling an input with the program's label table.
pub record AssemblesInput (input old new : List ℕ) (r : Answer Assembled AssembleError) : Type 0 where
  pub answer : answer_meant r ≡ answer_of (assembling present input table_room (length old))
  pub image_holds : new ≡ image_after present input (assembling present input table_room (length old)) old

-- What stands at the front of a buffer that keeps its other bytes, and how long it is.
pub record Prints (text old new : List ℕ) (r : ℕ) : Type 0 where
  pub size : r ≡ length text
  pub holds : new ≡ over text old
  pub fits : r ≤ length new
  pub printed : take r new ≡ text

-- The delivery of a call of `read` that is lent a buffer of so many bytes, by its answer.
pub record Delivers (room : ℕ) (r : Delivery) : Type 0 where
  pub answer : Answer ℕ Error
  pub moved : Moved room answer
  pub delivery : r ≡ delivery_of answer

-- A read of as much as there is room for, into a buffer of its own, after which it holds `piece`: the front of that, as much as came,
-- is put after the bytes that came before.
pub record ReadsPiece (filled : ℕ) (old piece new : List ℕ) (r : Delivery) : Type 0 where
  pub delivers : Delivers (length old - filled) r
  pub holds : new ≡ put old filled (take (count_of r) piece)

-- Calls of `read` that lead to a step. The bytes that came stand at the front of a buffer that keeps its other bytes.
pub record Received (old new : List ℕ) (step : Step) : Type 0 where
  pub came : List ℕ
  pub calls : Transcript step came
  pub holds : new ≡ over came old

-- A text to standard output stands at the front of a buffer; for a line to standard error the buffer keeps its bytes.
abbrev pub Writes : Writing → List ℕ → List ℕ → Answer ℕ Unread → Type 0
Writes (printed text) old new (Ok n) = Prints text old new n
Writes (printed text) old new (Err u) = ⊥
Writes (told line) old new (Ok n) = ⊥
Writes (told line) old new (Err u) = (line ≡ incomplete_line) × (new ≡ old)

-- Calls of `read` that lead to an outcome, and what is written for it and for the bytes that came.
pub record Replies (old new : List ℕ) (r : Answer ℕ Unread) : Type 0 where
  pub read : Input
  pub came : List ℕ
  pub calls : Transcript (Done read) came
  pub writes : Writes (writing_of read came) old new r
