-- `image::program::open` meets its contract.
use Rattle.std.proofs.Common.{◌≡◌, ◌%◌, ◌∙◌, sym, ap, arith, rules, Err}
use Rattle.image.specs.Program.{Header}
use Rattle.image.specs.Opening.{header_fault}
use Rattle.image.proofs.Heads.{opening-short, opening-header, opening_code, opening-length, opening-good, opened-parts}
use Rattle.image.proofs.program.open.Goals as goal

pub returns-then-image-lt-HEADER_SIZE : goal.returns-then-image-lt-HEADER_SIZE
returns-then-image-lt-HEADER_SIZE c = sym (opening-short c.args.image.now c.if-image-lt-HEADER_SIZE.true)

pub returns-in_err-validate : goal.returns-in_err-validate
returns-in_err-validate c =
    let passed : c.from_residual.result ≡ Err c.in_err-validate.field-0.0 = search rules in
    rw passed (sym (opening-header c.args.image.now (omega arith) _ (sym (c.in_err-validate.ensures ∙ ap header_fault c.read_header-header.ensures))))

pub returns-then-header-ne0 : goal.returns-then-header-ne0
returns-then-header-ne0 c =
    let h = c.read_header-header.ensures in
    let good = sym (c.in_ok-validate.ensures ∙ ap header_fault h) in
    sym (opening_code c.args.image.now (omega arith) good (λ e. c.if-header-ne0.true (ap (λ (x : Header). x.code_size % 4) h ∙ e)))

pub returns-then-image-code_end : goal.returns-then-image-code_end
returns-then-image-code_end c =
    let h = c.read_header-header.ensures in
    let good = sym (c.in_ok-validate.ensures ∙ ap header_fault h) in
    let n = ap (λ (x : Header). x.code_size) h in
    let m = ap (λ (x : Header). x.data_size) h in
    sym (opening-length c.args.image.now (omega arith) good (omega (arith, n, c.if-header-ne0.false)) (λ e. c.if-image-code_end.true (omega (arith, n, m, e))))

pub returns : goal.returns
returns c =
    let h = c.read_header-header.ensures in
    let good = sym (c.in_ok-validate.ensures ∙ ap header_fault h) in
    let n = ap (λ (x : Header). x.code_size) h in
    let m = ap (λ (x : Header). x.data_size) h in
    opened-parts c.args.image.now c.read_header-header.result h
    ∙ sym (opening-good c.args.image.now (omega arith) good (omega (arith, n, c.if-header-ne0.false)) (omega (arith, n, m, c.if-image-code_end.false)))
