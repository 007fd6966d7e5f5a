use Rattle.std.proofs.Common.{◌≡◌, refl, List, ℕ, length}
use Rattle.std.specs.Prelude.{Ok, Err, Result as Answer}
use Rattle.std.specs.Result.{IsOk}
use Rattle.image.specs.Listing.{text_of, written, listing}
use Rattle.image_listing.specs.Promised.{Lists}
use Rattle.image_listing.specs.declared.disassembler.ListError.{ListError}
use Rattle.zkasm.proofs.Printing.{lists-always, lists-prints}
use Rattle.zkasm.proofs.report.write_listing.Goals as goal

-- Such an image is not refused.
accepted : (b old new : List ℕ) → listing b (length old) ≡ written (text_of b) → (answer : Answer ℕ ListError) → Lists b old new answer → IsOk answer
accepted b old new w (Ok k) l = refl
accepted b old new w (Err f) l = lists-always b old w l.answer

pub unwrap-requires : goal.unwrap-requires
unwrap-requires c = accepted _ _ _ c.requires.listed c.list.result c.list.ensures

pub returns : goal.returns
returns c = lists-prints _ _ c.requires.listed c.requires.text_room_in (rw c.unwrap.ensures at c.list.ensures)
