-- What operands that were read mean in terms of the definitions, and what the functions promise.
use Rattle.std.specs.Prelude.{ℕ, ◌+◌, ◌-◌, ◌≡◌, Bool, List, [], ◌∷◌, ◌++◌, map, drop, get_or, Ok, Err}
use Rattle.std.specs.Prelude.{Result as Answer}
use Rattle.text_lexical.specs.Bytes.{refused}
use Rattle.refusal.specs.Refusals.{answered, number_of}
use Rattle.refusal.specs.declared.refusal.Refusal.{Refusal}
use Rattle.refusal.specs.declared.refusal.Refusal.TheVariants.{OperandCount}
use Rattle.text.specs.Tokens.{Token}
use Rattle.text.specs.Promised.{meant, filler, firsts}
use Rattle.text.specs.declared.lexer.Token.{Token as KeptToken}
use Rattle.text.specs.declared.parser.Line.{Line}
use Rattle.instruction.specs.Table.{Place}
use Rattle.instruction.specs.Operands.{read_operands, read_row, read_instruction, behind}
use Rattle.instruction.specs.Promised.{row_of, spelled_in, draft_meant, DraftSettled}
use Rattle.instruction.specs.declared.instruction.Target.{Target}
use Rattle.instruction.specs.declared.instruction.Amount.{Amount}
use Rattle.instruction.specs.declared.instruction.Amount.TheVariants.{Number, Label}
use Rattle.instruction.specs.declared.instruction.Draft.{Draft}
use Rattle.instruction.specs.declared.opcode.Mnemonic.{Mnemonic}
use Rattle.instruction_operands.specs.declared.tokens.Tokens.{Tokens}

-- ---- the tokens of a line as a source

-- What those that are left mean.
abbrev pub left_meant : Tokens → List Token
left_meant t = map (meant t.source.now) t.left.now

-- Tokens that mean these were taken from its front.
abbrev pub TokensTook : Tokens → List Token → Tokens → Type 0
TokensTook s ts t = (t.source.now ≡ s.source.now) × (ks : List KeptToken) × (s.left.now ≡ ks ++ t.left.now) × (ts ≡ map (meant s.source.now) ks)

abbrev pub TokensRefuse : Tokens → Bool → List Place → Refusal → Type 0
TokensRefuse s label ps e = read_operands label ps (left_meant s) ≡ refused (number_of e)

abbrev pub tokens_spell : Tokens → Target → List ℕ
tokens_spell s p = spelled_in s.source.now p

-- The next token was taken, and a label is where it stands.
abbrev pub TokensStand : Tokens → Target → Tokens → Type 0
TokensStand s p t = (k : KeptToken) × (s.left.now ≡ k ∷ t.left.now) × (p ≡ record { start = k.start; length = k.length })

-- The next token was taken; or there is none.
abbrev pub TokenGone : Tokens → Answer KeptToken Refusal → Tokens → Type 0
TokenGone s (Ok k) t = (t.source.now ≡ s.source.now) × (s.left.now ≡ k ∷ t.left.now)
TokenGone s (Err e) t = (s.left.now ≡ []) × (e ≡ OperandCount)

-- ---- drafts

-- A label is the last token of a line.
abbrev pub LastToken : Line → Amount → Type 0
LastToken l (Number w) = Unit {0}
LastToken l (Label p) = let k = get_or l.tokens (l.count - 1) filler in p ≡ record { start = k.start; length = k.length }

-- No part of a draft is free: its label, if it names one, is the last token.
abbrev pub DraftFixed : List ℕ → Line → Answer Draft Refusal → Type 0
DraftFixed s l (Ok d) = DraftSettled (spelled_in s) d × LastToken l d.amount
DraftFixed s l (Err e) = Unit {0}

-- A row's operands are read from the tokens of a line after one.
pub record RowIs (s : List ℕ) (m : Mnemonic) (l : Line) (at : ℕ) (r : Answer Draft Refusal) : Type 0 where
  pub means : answered (draft_meant (spelled_in s)) r ≡ read_row (row_of m) (l.count - at - 1) (drop (at + 1) (firsts s l.tokens l.count))
  pub settled : DraftFixed s l r

-- The tokens of a line from one on are read as an instruction.
pub record ParsedIs (s : List ℕ) (l : Line) (at : ℕ) (r : Answer Draft Refusal) : Type 0 where
  pub means : answered (draft_meant (spelled_in s)) r ≡ read_instruction (behind at (record { count = l.count; first = firsts s l.tokens l.count }))
  pub settled : DraftFixed s l r
