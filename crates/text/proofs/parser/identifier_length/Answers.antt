-- `text::parser::identifier_length` meets its contract.
use Rattle.std.proofs.Common.{sym, ap, ◌∙◌}
use Rattle.text_lexical.specs.Bytes.{name_start}
use Rattle.text_lexical.specs.Names.{present}
use Rattle.text.specs.Promised.{length_with, length_of}
use Rattle.text.specs.declared.lexer.Kind.{Kind}
use Rattle.text.proofs.NameSets.{present-naming}
use Rattle.text.proofs.Fronts.{begins-otherwise}
use Rattle.text.proofs.Identifiers.{identifier-is, identifier-not, length-none, no-token, identifier-at, identifier_none}
use Rattle.text.proofs.parser.identifier_length.Goals as goal

pub returns-in_err-token : goal.returns-in_err-token
returns-in_err-token c =
    let s = c.args.text.now in
    c.from_residual.ensures ∙ identifier_none present s c.args.at present-naming (λ l. begins-otherwise name_start present s c.args.at (sym c.in_err-token.was ∙ c.word.ensures))

pub returns-in_default : goal.returns-in_default
returns-in_default c = no-token _ c.in_default.not-Found ∙ identifier-at present c.args.text.now c.args.at _ (sym c.in_ok-token.was ∙ c.word.ensures)

pub returns-then-eq : goal.returns-then-eq
returns-then-eq c =
    ap (λ (k : Kind). length_with k c.in-Found.token.length) (sym (identifier-is _ (sym c.eq.ensures ∙ c.if-eq.true))) ∙ ap length_of (sym c.in-Found.is)
    ∙ identifier-at present c.args.text.now c.args.at _ (sym c.in_ok-token.was ∙ c.word.ensures)

pub returns : goal.returns
returns c =
    length-none _ c.in-Found.token.length (identifier-not _ (sym c.eq.ensures ∙ c.if-eq.false)) ∙ ap length_of (sym c.in-Found.is)
    ∙ identifier-at present c.args.text.now c.args.at _ (sym c.in_ok-token.was ∙ c.word.ensures)
