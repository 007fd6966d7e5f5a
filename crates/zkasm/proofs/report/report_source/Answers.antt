use Rattle.std.proofs.Common.{◌≡◌, ℕ, ◌+◌, ◌*◌, ◌≤◌, sym, ap, ◌∙◌, arith, List, length, take}
use lib.Seq.{length-take-le}
use Rattle.text_lexical.specs.Names.{present}
use Rattle.image.specs.Assembling.{assembling, most_words}
use Rattle.image.specs.Listing.{text_of}
use Rattle.image.specs.Meaning.{image_of}
use Rattle.image.specs.Program.{header_size, image_length}
use Rattle.image_assembler.specs.declared.assembler.Assembled.{Assembled}
use Rattle.image_assembler.specs.declared.assembler.AssembleError.{AssembleError}
use Rattle.image_assembler.specs.Promised.{answer_meant}
use Rattle.std.specs.Prelude.{Ok, Err, Result as Answer}
use Rattle.zkasm.specs.Zkasm.{most_input, table_room, image_room}
use Rattle.zkasm.specs.Promised.{AssemblesInput}
use Rattle.zkasm.proofs.Rooms.{words-few, text-short, never-32}
use Rattle.zkasm.proofs.Printing.{Listable, listable, output-refused, no-need, image-front}
use Rattle.zkasm.proofs.report.report_source.Goals as goal

module _ {input old new : List ℕ} {x : Assembled} {r : Answer Assembled AssembleError} (short : length input ≤ most_input) (room : image_room ≤ length old)
    (a : AssemblesInput input old new r) (is : r ≡ Ok x) where
  -- The input is accepted,
  accepted : Listable input x.words (assembling present input table_room (length old))
  accepted = listable input (length old) short room (rw is at a.answer)

  -- its words are few,
  few : x.words ≤ 16385
  few = omega (arith, words-few input short, accepted.count)

  -- and its image stands at the buffer's front,
  front : {n : ℕ} → n ≡ image_length x.words → take n new ≡ image_of present input
  unfolding image_length header_size
  front e = rw e (ap (take (32 + 4 * x.words)) (a.image_holds ∙ accepted.holds old) ∙ image-front input old x.words accepted.count)

  -- which is long enough for it.
  long : {n : ℕ} → n ≡ image_length x.words → n ≤ length old
  unfolding image_length header_size
  long e = omega (arith, few, room, e)

pub image_length-length-requires : goal.image_length-length-requires
unfolding most_words
image_length-length-requires c = omega (arith, few c.requires.input_fits c.requires.image_room_in c.assemble.ensures c.in-Ok.is)

pub slice_bounds-write_listing-end : goal.slice_bounds-write_listing-end
slice_bounds-write_listing-end c =
    omega (arith, long c.requires.input_fits c.requires.image_room_in c.assemble.ensures c.in-Ok.is c.image_length-length.ensures, c.assemble.auto.image)

pub slice_bounds-write_listing-end-in-Ok : goal.slice_bounds-write_listing-end-in-Ok
slice_bounds-write_listing-end-in-Ok c =
    sym (length-take-le _ _
    (omega (arith, long c.requires.input_fits c.requires.image_room_in c.assemble.ensures c.in-Ok.is c.image_length-length.ensures, c.assemble.auto.image)))

pub write_listing-requires-clause-listed : goal.write_listing-requires-clause-listed
write_listing-requires-clause-listed c =
    let q = c.requires in
    rw (front q.input_fits q.image_room_in c.assemble.ensures c.in-Ok.is c.image_length-length.ensures) (never-32 c.args.input.now q.input_fits (length c.args.out.now) q.text_room_in)

pub write_listing-requires-clause-text_room_in : goal.write_listing-requires-clause-text_room_in
write_listing-requires-clause-text_room_in c =
    let q = c.requires in
    rw (front q.input_fits q.image_room_in c.assemble.ensures c.in-Ok.is c.image_length-length.ensures) (omega (arith, text-short c.args.input.now q.input_fits, q.text_room_in))

pub returns-in-Err-Refused : goal.returns-in-Err-Refused
returns-in-Err-Refused c =
    let a = c.args in
    let q = c.requires in
    rw (output-refused a.input.now (length a.image.now) q.input_fits q.image_room_in (sym (ap answer_meant (c.in-Err-Refused.is ∙ ap Err c.in-Err-Refused.field-0-is)) ∙ c.assemble.ensures.answer)) c.write_refusal.ensures

pub returns-in-Ok : goal.returns-in-Ok
returns-in-Ok c =
    let q = c.requires in
    rw ((accepted q.input_fits q.image_room_in c.assemble.ensures c.in-Ok.is).output
    ∙ ap text_of (sym (front q.input_fits q.image_room_in c.assemble.ensures c.in-Ok.is c.image_length-length.ensures))) c.write_listing.ensures

pub unreachable-requires : goal.unreachable-requires
unreachable-requires c =
    let q = c.requires in
    no-need c.args.input.now (length c.args.image.now) q.input_fits q.image_room_in (sym (ap answer_meant (c.in-Err-TooShort.is ∙ ap Err c.in-Err-TooShort.field-0-is)) ∙ c.assemble.ensures.answer)
