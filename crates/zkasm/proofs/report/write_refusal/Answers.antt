use mathlib.Core.Path.{◌≡◌, refl, sym, ◌∙◌}
use mathlib.Core.List.{List, [], ◌∷◌, ◌++◌}
use Prim.Native.Nat.{ℕ, ◌^◌, ◌≤◌, ◌<◌}
use native.Mathlib.Omega.{arith}
use lib.ListN.{length}
use Rattle.std.proofs.Common.{rules}
use Rattle.text_lexical.specs.Bytes.{bytes}
use Rattle.text_lexical.specs.Numbers.{decimal}
use Rattle.text_writer.specs.Laws.{writer_laws}
use Rattle.text_writer.specs.Sinks.{HasRoom, WrittenOn}
use Rattle.text_writer.specs.declared.sink.Writer.{Writer}
use Rattle.text_writer.proofs.Sinks.{Left, left-all, left-fits, left-next}
use Rattle.refusal.specs.Refusals.{number_of}
use Rattle.image.specs.Lent.{over}
use Rattle.image.proofs.Over.{written_over}
use Rattle.zkasm.specs.Zkasm.{text_room, refusal_text}
use Rattle.zkasm.proofs.Printing.{refusal-short, prints-over}
use Rattle.zkasm.proofs.report.write_refusal.Goals as goal

-- What stands behind a number, and behind the text's first word.
abbrev line-text : ℕ → List ℕ
line-text line = bytes " line " ++ (decimal line ++ (10 ∷ []))

abbrev number-text : ℕ → ℕ → List ℕ
number-text n line = decimal n ++ line-text line

-- At first all of the text is left, and the buffer has room for it.
all-left : {s : Writer} (n line : ℕ) → s.at ≡ 0 → n < 256 → line < 2 ^ 64 → text_room ≤ length s.out.now
    → Left HasRoom WrittenOn s (refusal_text n line) s (bytes "refused " ++ number-text n line)
unfolding refusal_text
all-left n line first small fits room = left-all writer_laws refl (omega (arith, first, room, refusal-short n line small fits))

pub put_decimal-requires : goal.put_decimal-requires
unfolding bytes
put_decimal-requires c =
    let n = c.from-2.result in
    let all = all-left n c.args.line refl (omega arith) (omega arith) c.requires in
    left-fits writer_laws (line-text c.args.line) (left-next writer_laws c.put_bytes.ensures all)

pub put_bytes-requires-2 : goal.put_bytes-requires-2
unfolding bytes
put_bytes-requires-2 c =
    let all = all-left c.from-2.result c.args.line refl (omega arith) (omega arith) c.requires in
    let number = left-next writer_laws c.put_bytes.ensures all in
    left-fits writer_laws {piece = bytes " line "} _ (left-next writer_laws c.put_decimal.ensures number)

pub put_decimal-requires-2 : goal.put_decimal-requires-2
unfolding bytes
put_decimal-requires-2 c =
    let all = all-left c.from-2.result c.args.line refl (omega arith) (omega arith) c.requires in
    let number = left-next writer_laws c.put_bytes.ensures all in
    let rest = left-next writer_laws {piece = bytes " line "} c.put_bytes-2.ensures (left-next writer_laws c.put_decimal.ensures number) in
    left-fits writer_laws (10 ∷ []) rest

pub put-requires : goal.put-requires
unfolding bytes
put-requires c =
    let all = all-left c.from-2.result c.args.line refl (omega arith) (omega arith) c.requires in
    let number = left-next writer_laws c.put_bytes.ensures all in
    let rest = left-next writer_laws {piece = bytes " line "} c.put_bytes-2.ensures (left-next writer_laws c.put_decimal.ensures number) in
    (left-next writer_laws c.put_decimal-2.ensures rest).fits

pub returns : goal.returns
unfolding bytes
returns c =
    let n = c.from-2.result in
    let line = c.args.line in
    let all = all-left n line refl (omega arith) (omega arith) c.requires in
    let number = left-next writer_laws c.put_bytes.ensures all in
    let rest = left-next writer_laws {piece = bytes " line "} c.put_bytes-2.ensures (left-next writer_laws c.put_decimal.ensures number) in
    let e = (left-next writer_laws c.put_decimal-2.ensures rest).taken _ c.put.ensures in
    let same = sym e.same_buffer in
    let is : n ≡ number_of c.args.refusal = c.from-2.ensures ∙ c.from.ensures in
    rw (← is) (
    let text : c.put.new.self.out.now ≡ over (refusal_text n line) c.args.out.now = written_over e.written in
    prints-over (refusal_text n line) c.args.out.now (omega (arith, refusal-short n line (omega arith) (omega arith), c.requires)) (omega (arith, e.written.ends)) (search rules)
    )
