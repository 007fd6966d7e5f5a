use Rattle.image.specs.Listing.{words_of}
use Rattle.image_listing.proofs.Texts.{Puts}
use Rattle.image_listing.proofs.disassembler.put_words.Given as goal

abbrev pub invariant-loop-index : goal.invariant-loop-index
invariant-loop-index g l = Puts g.S.Sink.Fits g.S.Sink.Took l.initial.sink (words_of l.code) l.sink l.index
