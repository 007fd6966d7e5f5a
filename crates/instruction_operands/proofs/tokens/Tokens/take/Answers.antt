-- `instruction_operands::tokens::Tokens::take` meets its contract: what is left after a token is a part of the source too.
use Rattle.std.proofs.Common.{rules, ◌≡◌, suc, ◌∷◌}
use Rattle.instruction_operands.proofs.tokens.Tokens.take.Goals as goal

pub invariant_of-self : goal.invariant_of-self
invariant_of-self c =
    let s = c.args.self.now in
    let taken : s.left.now ≡ c.in_ok-token.token.now ∷ c.in_ok-token.left.now = search rules in
    record { in_source = λ i. rw taken at (s.in_source (suc i)) }
