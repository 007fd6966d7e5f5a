use Rattle.std.proofs.Common.{◌≡◌, ◌+◌, ◌-◌, true, false, ◌&&◌, drop, sym, ◌∙◌, rules}
use Rattle.text.specs.declared.lexer.Kind.TheVariants.{Identifier}
use Rattle.text.specs.declared.lexer.Token.{Token}
use Rattle.test_tokens.specs.Entries.{same_entry, same_tokens}
use Rattle.test_tokens.proofs.Entries.{tokens_more, tokens_blank, tokens_none}
use Rattle.test_tokens.proofs.list.are_entries.Goals as goal
use Rattle.test_tokens.proofs.list.are_entries.Goals.{After-ne, then-i-line, else-i-line}

-- What stands past the last place.
abbrev past : Token
past = record { kind = Identifier; start = 0; length = 0 }

-- What is left agrees if the place does, and what is left behind it.
goes : (c : After-ne) → same_tokens c.args.line.count c.args.from c.args.line.tokens c.args.place.list.now c.args.place.at
    ≡ (same_entry c.entry_of.result c.if-i-line.wanted
    && same_tokens (c.args.line.count - (c.loop-i.i + 1)) c.args.from (drop (c.loop-i.i + 1) c.args.line.tokens) c.args.place.list.now c.if-i-line.cursor.at)
goes c =
    let a = c.args in
    let l = c.loop-i in
    elim c.if-i-line.branch [
      | then-i-line w ↦
          rw (c.entry_of.ensures, w.wanted-is, w.read_entry-wanted.ensures.value, w.cursor-is, w.read_entry-wanted.ensures.place, l.invariant.0)
          (sym l.invariant.1 ∙ tokens_more a.line.count l.i a.from a.line.tokens a.place.list.now l.cursor.at past (search rules) w.if-i-line.true)
      | else-i-line w ↦
          rw (c.entry_of.ensures, w.wanted-is, w.filler-wanted.ensures, w.cursor-is)
          (sym l.invariant.1 ∙ tokens_blank a.line.count l.i a.from a.line.tokens a.place.list.now l.cursor.at past (search rules) w.if-i-line.false)
    ]

pub returns-then-ne : goal.returns-then-ne
returns-then-ne c =
    let e : same_entry c.entry_of.result c.if-i-line.wanted ≡ false = search rules in
    sym (goes (goal.at.returns-then-ne c).After-ne ∙ rw e)

pub loop-i-preserved : goal.loop-i-preserved
loop-i-preserved c =
    let e : same_entry c.entry_of.result c.if-i-line.wanted ≡ true = search rules in
    (search rules, sym (goes (goal.at.loop-i-preserved c).After-ne ∙ rw e))

pub returns : goal.returns
returns c =
    let a = c.args in
    let l = c.loop-i in
    rw (c.is_record_end.ensures, l.invariant.0)
    (sym (tokens_none a.line.count l.i a.from a.line.tokens a.place.list.now l.cursor.at (a.line.count - l.i) (search rules)) ∙ l.invariant.1)
