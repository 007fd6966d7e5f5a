-- `text_lexical::name::lower_key` meets its contract.
use Rattle.text_lexical.proofs.Words.{no_name, whole_name}
use Rattle.text_lexical.proofs.name.lower_key.Goals as goal

pub returns-then-word-spelling : goal.returns-then-word-spelling
returns-then-word-spelling c = no_name c.args.spelling.now c.lower_word-word.result c.lower_word-word.ensures c.if-word-spelling.true

pub returns : goal.returns
returns c = whole_name c.args.spelling.now c.lower_word-word.result c.lower_word-word.ensures c.if-word-spelling.false
