use Rattle.std.proofs.Common.{◌≤◌, length, arith}
use Rattle.bcder.specs.steps.Peek.{asked, IsPeeked}
use Rattle.bcder.proofs.Peeking.{at_hand}
use Rattle.bcder.proofs.decode.header.peek_long.Goals as goal

pub returns-in-Some-clause-peeked : goal.returns-in-Some-clause-peeked
returns-in-Some-clause-peeked g c =
    let enough : c.in_ok-found.found ≤ length c.slice.result.now = omega (arith, c.in_ok-found.ensures.ok.count, c.slice.ensures.enough) in
    at_hand (IsPeeked c.args.mode (asked c.args.wanted) c.in-Some.seen) _ _ _ _ c.slice.ensures.front enough c.in_ok-found.ensures.ok.count c.in-Some.ensures

pub returns-in-Some-look-clause-peeked : goal.returns-in-Some-look-clause-peeked
returns-in-Some-look-clause-peeked g c =
    let enough : c.in_ok-found.found ≤ length c.slice.result.now = omega (arith, c.in_ok-found.ensures.ok.count, c.slice.ensures.enough) in
    at_hand (IsPeeked c.args.mode (asked c.args.wanted) c.in-Some-look.seen) _ _ _ _ c.slice.ensures.front enough c.in_ok-found.ensures.ok.count
    c.in-Some-look.ensures
