use Rattle.std.proofs.Common.{◌≤◌, length, Some, None, option_map, ap, subst, rules}
use Rattle.bcder.specs.declared.mode.Mode.TheVariants.{Ber}
use Rattle.encodings.specs.Strings.{PassesPiece}
use Rattle.encodings.proofs.Strings.{nested_starts, nested_smaller, nested_piece, nested_goes, nested_none, nested_ends}
use Rattle.encodings.proofs.string.join_nested.Goals as goal

pub loop-rest-init : goal.loop-rest-init
loop-rest-init c = nested_starts _ _ c.requires

pub loop-rest-smaller-in-Some-segment : goal.loop-rest-smaller-in-Some-segment
loop-rest-smaller-in-Some-segment c =
    let some : 1 ≤ length c.loop-rest.rest.now = search rules in
    nested_smaller _ _ _ _ _ c.loop-rest.invariant some _ _ c.in-Some.ensures.passed

pub loop-rest-preserved-in-Some-segment : goal.loop-rest-preserved-in-Some-segment
loop-rest-preserved-in-Some-segment c =
    let some : 1 ≤ length c.loop-rest.rest.now = search rules in
    let q : PassesPiece Ber c.loop-rest.rest.now (Some c.in-Some-segment.segment.now) c.in-Some.piece.rest.now =
    subst (λ s. PassesPiece Ber c.loop-rest.rest.now s c.in-Some.piece.rest.now) (ap (option_map (λ s. s.now)) c.in-Some-segment.is)
    c.in-Some.ensures.passed in
    nested_piece _ _ _ _ _ c.loop-rest.invariant some _ _ _ _ q c.append.ensures.stored

pub loop-rest-smaller : goal.loop-rest-smaller
loop-rest-smaller c =
    let some : 1 ≤ length c.loop-rest.rest.now = search rules in
    nested_smaller _ _ _ _ _ c.loop-rest.invariant some _ _ c.in-Some.ensures.passed

pub loop-rest-preserved : goal.loop-rest-preserved
loop-rest-preserved c =
    let some : 1 ≤ length c.loop-rest.rest.now = search rules in
    let q : PassesPiece Ber c.loop-rest.rest.now None c.in-Some.piece.rest.now =
    subst (λ s. PassesPiece Ber c.loop-rest.rest.now s c.in-Some.piece.rest.now) (ap (option_map (λ s. s.now)) c.in-None-segment.is)
    c.in-Some.ensures.passed in
    nested_goes _ _ _ _ _ c.loop-rest.invariant some _ q

pub returns-in-None : goal.returns-in-None
returns-in-None c =
    let some : 1 ≤ length c.loop-rest.rest.now = search rules in
    nested_none _ _ _ _ _ c.loop-rest.invariant some c.in-None.ensures.none

pub returns : goal.returns
returns c = nested_ends _ _ _ _ _ c.loop-rest.invariant (search rules)
