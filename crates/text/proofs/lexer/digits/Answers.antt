-- `text::lexer::digits` meets its contract.
use Rattle.std.proofs.Common.{◌≡◌, ◌+◌, ◌<◌, arith, length, get_or}
use Rattle.text_lexical.specs.Names.{present}
use Rattle.text.proofs.NameSets.{present-naming}
use Rattle.text.proofs.Fronts.{decimal-here}
use Rattle.text.proofs.lexer.digits.Goals as goal
use Rattle.text.proofs.lexer.digits.Goals.{then-text-at-eq48+then-second-text+else-text-second-eq120+else-text-second-eq98, else-text-at-eq48, else-text-at-eq48-via-then-text-at-eq48+else-second-text, else-text-at-eq48-via-else-text-at-eq48}

-- Where a decimal is read no 0x or 0b begins.
pub decimal-requires : goal.decimal-requires
decimal-requires c =
    let a = c.args in
    let second : get_or a.text.now a.at 0 ≡ 48 → a.at + 1 < length a.text.now
    → (get_or a.text.now (a.at + 1) 0 ≡ 120 → ⊥) × (get_or a.text.now (a.at + 1) 0 ≡ 98 → ⊥) = λ z l.
    elim c.if-text-at-eq48.branch [
      | then-text-at-eq48+then-second-text+else-text-second-eq120+else-text-second-eq98 w ↦ (w.if-text-second-eq120.false, w.if-text-second-eq98.false)
      | else-text-at-eq48 w ↦ elim w.else-text-at-eq48.branch [
        | else-text-at-eq48-via-then-text-at-eq48+else-second-text v ↦ absurd (omega arith)
        | else-text-at-eq48-via-else-text-at-eq48 v ↦ absurd (v.if-text-at-eq48.false z)
      ]
    ] in
    decimal-here present present-naming a.text.now a.at c.requires.in_text c.requires.digit_here second
