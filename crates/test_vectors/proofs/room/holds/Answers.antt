use Rattle.std.proofs.Common.{◌≡◌, ℕ, eqb, take, rules, le-leb}
use borrow.Author.Tests.{tests}
use Rattle.std.specs.List.{list_all, enumerate_from}
use Rattle.std.proofs.lemmas.Iterator.{YieldsList-from_slice}
use Rattle.std.proofs.lemmas.Iterator.Consumers.{YieldsList-from_enumerate}
use Rattle.std.proofs.lemmas.Iterator.Search.{all_from_yields_List}
use Rattle.test_vectors.specs.Rooms.{buffer_byte, holds_bytes}
use Rattle.test_vectors.proofs.room.holds.Goals as goal

pub returns : goal.returns
unfolding holds_bytes
returns c =
    let a = c.args in
    let test = λ (p : ℕ × ℕ). eqb p.1 (buffer_byte a.bytes.now p.0) in
    let e : c.all.result ≡ list_all test (enumerate_from 0 (take a.count a.room.now)) =
    all_from_yields_List test _ _ c.all.result c.all.ensures.ran (YieldsList-from_enumerate (YieldsList-from_slice (take a.count a.room.now) (search rules)) (search rules)) (λ x b q k. search (rules, tests)) in
    rw (le-leb _ _ c.if-room-count.false, le-leb _ _ c.if-count-bytes.false) e
