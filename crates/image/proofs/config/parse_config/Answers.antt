-- `image::config::parse_config` meets its contract.
use Rattle.std.proofs.Common.{◌≡◌, ◌∙◌, sym, ap, rules, Err, arith, get_or}
use Rattle.text_lexical.specs.Promised.{whole_meant}
use Rattle.text.specs.Promised.{extract_meant}
use Rattle.text.specs.declared.lexer.Kind.TheVariants.{Identifier}
use Rattle.text.specs.declared.lexer.Token.{Token}
use Rattle.image.specs.Promised.{settings_meant, record_meant}
use Rattle.image.proofs.Checks.{setting-byte, config-count, config-key, config-number, config-sets}
use Rattle.image.proofs.config.parse_config.Goals as goal

-- What an array of tokens is read as past its end.
abbrev past : Token
past = record { kind = Identifier; start = 0; length = 0 }

pub returns-then-line-ne3 : goal.returns-then-line-ne3
returns-then-line-ne3 c = sym (config-count (settings_meant c.args.config) (record_meant c.args.source.now c.args.line.now) c.if-line-ne3.true)

pub returns-in_default : goal.returns-in_default
returns-in_default c = sym (config-key (settings_meant c.args.config) c.args.source.now c.args.line.now past c.requires.places c.if-line-ne3.false c.in_default.not-Identifier)

pub returns-in_err-number : goal.returns-in_err-number
returns-in_err-number c =
    let passed : c.from_residual.result ≡ Err c.in_err-number.field-0.0 = search rules in
    rw passed
    (sym (config-number (settings_meant c.args.config) c.args.source.now c.args.line.now past c.requires.places c.if-line-ne3.false c.in-Identifier.is _
    (sym (ap extract_meant c.in_err-number.ensures))))

pub overflow_cast-magnitude : goal.overflow_cast-magnitude
overflow_cast-magnitude c =
    let l = setting-byte (get_or c.args.line.now.tokens 2 past).kind (whole_meant c.in_ok-number.number) (sym (ap extract_meant c.in_ok-number.ensures)) in
    omega (arith, l, c.magnitude.ensures)

pub returns : goal.returns
returns c =
    c.set_field.ensures
    ∙ rw c.spelling.ensures
    (sym (config-sets (settings_meant c.args.config) c.args.source.now c.args.line.now past c.requires.places c.if-line-ne3.false c.in-Identifier.is
    (whole_meant c.in_ok-number.number) (sym (ap extract_meant c.in_ok-number.ensures)) (λ l. omega (arith, l, c.magnitude.ensures))))
