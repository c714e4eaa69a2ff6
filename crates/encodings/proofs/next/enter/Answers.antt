use Rattle.std.proofs.Common.{◌<◌, length, refl, ap, rules}
use Rattle.encodings.specs.Next.{no_offset}
use Rattle.encodings.proofs.Stepping.{stops_without_header, enters_primitive, enters_definite, enters_indefinite, full_definite, full_indefinite}
use Rattle.encodings.proofs.next.enter.Goals as goal

pub returns-in_default-clause-entered : goal.returns-in_default-clause-entered
returns-in_default-clause-entered c =
    λ _ _ s due. stops_without_header _ _ _ _ _ _ s _ _ _ due c.in_default.ensures.none

pub returns-then-not-front-clause-entered : goal.returns-then-not-front-clause-entered
returns-then-not-front-clause-entered c =
    let f = c.in-Some.ensures.found in
    let k = ap (λ k. record { heading = c.heading_of.result; at = c.args.walk.now.at; depth = c.args.walk.now.depth; kind = k }) c.kind_of.ensures in
    λ _ _ s due. enters_primitive _ _ _ _ _ _ s due _ _ _ f.0 _ f.1 f.2 _ refl _ c.heading_of.ensures _ k _ _ _ c.in-Some-len.is
    (search rules) (search rules) refl refl

pub returns-then-walk-stack-clause-entered : goal.returns-then-walk-stack-clause-entered
returns-then-walk-stack-clause-entered c =
    let f = c.in-Some.ensures.found in
    λ _ _ s due. full_definite _ _ _ _ _ _ s due _ _ _ f.0 _ f.1 f.2 _ _ _ _ c.in-Some-len.is (search rules) (search rules) (search rules)

pub returns-then-walk-stack-2-clause-entered : goal.returns-then-walk-stack-2-clause-entered
returns-then-walk-stack-2-clause-entered c =
    let f = c.in-Some.ensures.found in
    λ _ _ s due. full_indefinite _ _ _ _ _ _ s due _ _ _ f.0 _ f.1 f.2 _ _ _ c.in-None.is (search rules)

pub returns-else-walk-stack-clause-entered : goal.returns-else-walk-stack-clause-entered
returns-else-walk-stack-clause-entered c =
    let f = c.in-Some.ensures.found in
    let k = ap (λ k. record { heading = c.heading_of.result; at = c.args.walk.now.at; depth = c.args.walk.now.depth; kind = k }) c.kind_of.ensures in
    let small : length c.args.octets.now < no_offset = search rules in
    let room : c.args.walk.now.depth < length c.args.stack.now = search rules in
    λ _ _ s due. enters_definite _ _ _ _ _ _ s due _ _ _ f.0 _ f.1 f.2 _ refl _ c.heading_of.ensures _ k _ _ _ c.in-Some-len.is
    (search rules) (search rules) room small c.open.ensures.stack c.open.ensures.walk

pub returns-else-walk-stack-2-clause-entered : goal.returns-else-walk-stack-2-clause-entered
returns-else-walk-stack-2-clause-entered c =
    let f = c.in-Some.ensures.found in
    let k = ap (λ k. record { heading = c.heading_of.result; at = c.args.walk.now.at; depth = c.args.walk.now.depth; kind = k }) c.kind_of.ensures in
    let room : c.args.walk.now.depth < length c.args.stack.now = search rules in
    λ _ _ s due. enters_indefinite _ _ _ _ _ _ s due _ _ _ f.0 _ f.1 f.2 _ refl _ c.heading_of.ensures _ k _ _ c.in-None.is room
    c.open-in-None.ensures.stack c.open-in-None.ensures.walk
