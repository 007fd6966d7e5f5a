-- `image_line::bytes`: a line's bytes give a number or a label as they promise.
use mathlib.Core.Path.{◌≡◌, refl, sym, ◌∙◌}
use native.Mathlib.Omega.{arith}
use Rattle.std.proofs.Common.{rules}
use Rattle.std.specs.Prelude.{Some}
use Rattle.text_lexical.specs.Bytes.{blank}
use Rattle.text_lexical.specs.Names.{present}
use Rattle.text.proofs.Fronts.{run_in}
use Rattle.text.proofs.NameSets.{present-naming}
use Rattle.image_line.specs.Promised.{bytes_spell}
use Rattle.image_line.proofs.Places.{blanks-uncut, number-reads, label-bounds, label-amount, label-reads}
use Rattle.image_line.proofs.Operands.{token-taken}
use Rattle.image_line.proofs.bytes.BytesOperandSource.amount.Goals as goal

pub number_at-requires-clause-in_text : goal.number_at-requires-clause-in_text
number_at-requires-clause-in_text c = let s = c.args.self.now in omega (arith, c.past_blanks-start.ensures, run_in blank s.text.now s.at s.in_text)

pub identifier_length-requires : goal.identifier_length-requires
identifier_length-requires c = let s = c.args.self.now in omega (arith, c.past_blanks-start.ensures, run_in blank s.text.now s.at s.in_text)

pub invariant_of-self : goal.invariant_of-self
invariant_of-self c =
    let s = c.args.self.now in
    let (k, n, r) = number-reads present present-naming s.text.now s.at c.past_blanks-start.result c.past_blanks-start.ensures c.args.range c.in-Some.found c.in-Some.ensures (bytes_spell s) c.args.label in
    record { in_text = r.in_text }

pub returns-in-Some : goal.returns-in-Some
returns-in-Some c =
    let s = c.args.self.now in
    let (k, n, r) = number-reads present present-naming s.text.now s.at c.past_blanks-start.result c.past_blanks-start.ensures c.args.range c.in-Some.found c.in-Some.ensures (bytes_spell s) c.args.label in
    (token-taken refl k n r, tt)

-- The length that is found.
pub overflow_add-self : goal.overflow_add-self
overflow_add-self c =
    let s = c.args.self.now in
    let is_some : c.identifier_length.result ≡ Some c.in_ok-length.length = search (rules, c.in_ok-length.ensures.value) in
    let (l, n) = label-bounds present present-naming s.text.now s.at c.past_blanks-start.result c.past_blanks-start.ensures c.in_ok-length.length (rw is_some at c.identifier_length.ensures) in
    omega arith

pub invariant_of-self-2 : goal.invariant_of-self-2
invariant_of-self-2 c =
    let s = c.args.self.now in
    let is_some : c.identifier_length.result ≡ Some c.in_ok-length.length = search (rules, c.in_ok-length.ensures.value) in
    record { in_text = (label-bounds present present-naming s.text.now s.at c.past_blanks-start.result c.past_blanks-start.ensures c.in_ok-length.length (rw is_some at c.identifier_length.ensures)).1 }

pub returns : goal.returns
returns c =
    let s = c.args.self.now in
    let at = c.past_blanks-start.result in
    let q = c.past_blanks-start.ensures in
    let n = c.in_ok-length.length in
    let is_some : c.identifier_length.result ≡ Some n = search (rules, c.in_ok-length.ensures.value) in
    let e = rw is_some at c.identifier_length.ensures in
    let (r, here) = label-reads present present-naming s.text.now s.at at q n e in (
      token-taken refl _ (label-amount present present-naming s.text.now s.at at q n e c.args.range c.args.label c.if-not-label.false) r,
      record { same_text = refl; reads = here; no_earlier = omega arith; after = refl; uncut = blanks-uncut s.text.now s.at at q; ends = sym here.ends ∙ r.ends },
    )
