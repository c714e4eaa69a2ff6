use Rattle.std.proofs.Common.{◌≡◌, ◌<◌, true, length, Some, None, option_map, ap, subst, rules}
use Rattle.bcder.specs.declared.mode.Mode.TheVariants.{Cer}
use Rattle.bcder.specs.x690.OctetString.{IsLast}
use Rattle.encodings.specs.Strings.{PassesPiece}
use Rattle.encodings.proofs.Strings.{full_starts, full_smaller, full_piece, full_other, full_nested, full_none, full_few, full_ends}
use Rattle.encodings.proofs.string.join_full.Goals as goal

pub loop-rest-init : goal.loop-rest-init
loop-rest-init c = full_starts _ _ c.requires

pub loop-rest-smaller : goal.loop-rest-smaller
loop-rest-smaller c =
    let some : 0 < length c.loop-rest.rest.now = search (rules, c.is_empty.ensures, c.loop-rest-test.ensures) in
    full_smaller _ _ _ _ _ _ _ c.loop-rest.invariant some _ _ c.in-Some.ensures.passed

pub returns-then-not-may_follow : goal.returns-then-not-may_follow
returns-then-not-may_follow c =
    let some : 0 < length c.loop-rest.rest.now = search (rules, c.is_empty.ensures, c.loop-rest-test.ensures) in
    let q : PassesPiece Cer c.loop-rest.rest.now (Some c.in-Some-segment.segment.now) c.in-Some.piece.rest.now =
    subst (λ s. PassesPiece Cer c.loop-rest.rest.now s c.in-Some.piece.rest.now) (ap (option_map (λ s. s.now)) c.in-Some-segment.is)
    c.in-Some.ensures.passed in
    full_other _ _ _ _ _ _ _ c.loop-rest.invariant some _ _ q (λ full last. search rules)

pub loop-rest-preserved : goal.loop-rest-preserved
loop-rest-preserved c =
    let some : 0 < length c.loop-rest.rest.now = search (rules, c.is_empty.ensures, c.loop-rest-test.ensures) in
    let q : PassesPiece Cer c.loop-rest.rest.now (Some c.in-Some-segment.segment.now) c.in-Some.piece.rest.now =
    subst (λ s. PassesPiece Cer c.loop-rest.rest.now s c.in-Some.piece.rest.now) (ap (option_map (λ s. s.now)) c.in-Some-segment.is)
    c.in-Some.ensures.passed in
    let full : c.loop-rest.full ≡ true = search rules in
    let last : IsLast (length c.in-Some-segment.segment.now) = search rules in
    full_piece _ _ _ _ _ _ _ c.loop-rest.invariant some _ _ _ _ q full last.0 last.1 c.append.ensures.stored

pub returns-in-None-segment : goal.returns-in-None-segment
returns-in-None-segment c =
    let some : 0 < length c.loop-rest.rest.now = search (rules, c.is_empty.ensures, c.loop-rest-test.ensures) in
    let q : PassesPiece Cer c.loop-rest.rest.now None c.in-Some.piece.rest.now =
    subst (λ s. PassesPiece Cer c.loop-rest.rest.now s c.in-Some.piece.rest.now) (ap (option_map (λ s. s.now)) c.in-None-segment.is)
    c.in-Some.ensures.passed in
    full_nested _ _ _ _ _ _ _ c.loop-rest.invariant some _ q

pub returns-in-None : goal.returns-in-None
returns-in-None c =
    let some : 0 < length c.loop-rest.rest.now = search (rules, c.is_empty.ensures, c.loop-rest-test.ensures) in
    full_none _ _ _ _ _ _ _ c.loop-rest.invariant some c.in-None.ensures.none

pub returns-then-count-lt2 : goal.returns-then-count-lt2
returns-then-count-lt2 c = full_few _ _ _ _ _ _ _ c.loop-rest.invariant (search rules) (search rules)

pub returns : goal.returns
returns c = full_ends _ _ _ _ _ _ _ c.loop-rest.invariant (search rules) (search rules)
