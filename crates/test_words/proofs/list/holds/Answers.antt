use Rattle.std.proofs.Common.{◌≡◌, ℕ, ◌+◌, true, eqb, length, rules, arith, le-leb}
use borrow.Author.Tests.{tests}
use Rattle.std.specs.List.{list_all, enumerate_from}
use Rattle.std.proofs.lemmas.Iterator.{YieldsList-from_slice}
use Rattle.std.proofs.lemmas.Iterator.Consumers.{YieldsList-from_enumerate}
use Rattle.std.proofs.lemmas.Iterator.Search.{all_from_yields_List}
use Rattle.test_replay.specs.List.{byte_at, behind}
use Rattle.test_words.specs.Records.{room_byte, holds_text}
use Rattle.test_words.proofs.list.holds.Goals as goal

pub returns-then-byte-eq10 : goal.returns-then-byte-eq10
unfolding holds_text
returns-then-byte-eq10 c =
    let a = c.args in
    let test = λ (p : ℕ × ℕ). eqb p.1 (room_byte a.count a.text.list.now a.text.at p.0) in
    let e : c.all.result ≡ list_all test (enumerate_from 0 a.room.now) =
    all_from_yields_List test _ _ c.all.result c.all.ensures.ran (YieldsList-from_enumerate (YieldsList-from_slice a.room.now (search rules)) (search rules)) (λ x b q k. search (rules, tests)) in
    let f : eqb (byte_at a.text.list.now (behind a.text.at a.count)) 10 ≡ true = search (rules, tests) in
    rw (le-leb (8 + a.count) (length a.room.now) (omega arith), f) e
