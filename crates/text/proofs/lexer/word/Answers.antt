-- `text::lexer::word` meets its contract.
use Rattle.std.proofs.Common.{◌≡◌, arith, ap, ◌+◌, Some, None, rules}
use Rattle.text_lexical.specs.Bytes.{name_part}
use Rattle.text_lexical.specs.Names.{present}
use Rattle.text.specs.Promised.{scan_if}
use Rattle.text.proofs.NameSets.{present-naming}
use Rattle.text.proofs.Fronts.{run_in, name_kind, name-begins, no-name, word_at}
use Rattle.text.proofs.lexer.word.Goals as goal
use Rattle.text.proofs.lexer.word.Goals.{in-Is, in-NoSuch, in-Other}

pub returns-in_err-end : goal.returns-in_err-end
unfolding scan_if
returns-in_err-end c =
    let none : c.name_end.result ≡ None = search (rules, c.in_err-end.ensures) in
    let passed : c.from_residual.result ≡ None = search rules in
    rw (passed, scan_if, no-name c.args.text.now c.args.at (rw none at c.name_end.ensures))

pub slice_bounds-parse_register-count : goal.slice_bounds-parse_register-count
slice_bounds-parse_register-count c =
    let (l, n, q) = name-begins c.args.text.now c.args.at c.in_ok-end.end c.in_ok-end.ensures in
    omega (arith, q)

pub slice_bounds-parse_register-end : goal.slice_bounds-parse_register-end
slice_bounds-parse_register-end c =
    let (l, n, q) = name-begins c.args.text.now c.args.at c.in_ok-end.end c.in_ok-end.ensures in
    omega (arith, q, run_in name_part c.args.text.now (c.args.at + 1) (omega arith))

pub slice_bounds-parse_register-start : goal.slice_bounds-parse_register-start
slice_bounds-parse_register-start c =
    let (l, n, q) = name-begins c.args.text.now c.args.at c.in_ok-end.end c.in_ok-end.ensures in
    omega (arith, q)

pub found-requires : goal.found-requires
found-requires c =
    let (l, n, q) = name-begins c.args.text.now c.args.at c.in_ok-end.end c.in_ok-end.ensures in
    omega (arith, q)

pub returns : goal.returns
unfolding scan_if
returns c =
    let (l, starts, q) = name-begins c.args.text.now c.args.at c.in_ok-end.end c.in_ok-end.ensures in
    let kind : c.match-parse_register.kind ≡ name_kind c.parse_register.result = elim c.match-parse_register.branch [
      | in-Is w ↦ rw w.in-Is.is w.kind-is
      | in-NoSuch w ↦ rw w.in-NoSuch.is w.kind-is
      | in-Other w ↦ rw w.in-Other.is w.kind-is
    ] in
    rw (scan_if, starts, c.found.ensures, kind)
    (ap Some (word_at present present-naming c.args.text.now c.args.at c.in_ok-end.end c.parse_register.result l starts q c.parse_register.ensures))
