use Rattle.std.proofs.Common.{◌≡◌, length, arith}
use Rattle.set_query.proofs.FrontLemmas.{ended, filled}
use Rattle.set_query.specs.declared.reading.TheConstants.{ROOM}
use Rattle.set_query.proofs.reading.read_text.Goals as goal

pub returns-in-End-clause-front : goal.returns-in-End-clause-front
returns-in-End-clause-front g c =
    let e = c.in-End.ensures in
    ended _ _ _ _ ROOM c.loop-buf.invariant.2 e.bytes.0 e.bytes.1 c.loop-buf.invariant.0

pub returns-clause-front : goal.returns-clause-front
returns-clause-front g c =
    let few = c.loop-buf.invariant.0 in
    let many = c.loop-buf-test.false in
    let same = c.len.ensures in
    let all : length c.loop-buf.text.items ≡ ROOM = omega (arith, few, many, same) in
    filled _ _ _ ROOM c.loop-buf.invariant.2 all
