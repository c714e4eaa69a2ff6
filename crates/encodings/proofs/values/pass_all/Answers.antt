use Rattle.std.proofs.Common.{◌<◌, length, arith, rules}
use Rattle.encodings.proofs.Listing.{list_starts, list_goes_on, list_shrinks, list_refused}
use Rattle.encodings.proofs.values.pass_all.Goals as goal

pub loop-rest-init : goal.loop-rest-init
loop-rest-init c = record { list = list_starts _ _ _ c.requires; shallow = search rules }

pub loop-rest-smaller : goal.loop-rest-smaller
loop-rest-smaller c = list_shrinks _ _ _ _ c.loop-rest.invariant.list _ _ c.in-Ok.ensures.passed

pub loop-rest-preserved : goal.loop-rest-preserved
loop-rest-preserved c = record {
  list = list_goes_on _ _ _ _ c.loop-rest.invariant.list _ _ c.in-Ok.ensures.passed c.in-Ok.ensures.values;
  shallow = omega (arith, c.in-Ok.ensures.shallow, c.loop-rest.invariant.shallow);
}

pub returns-in-Err : goal.returns-in-Err
returns-in-Err c =
    let some : 0 < length c.loop-rest.rest.now = search rules in
    list_refused _ _ _ _ c.loop-rest.invariant.list _ _ _ some c.loop-rest.invariant.shallow c.in-Err.ensures.shallow
    c.in-Err.ensures.refused c.in-Err.ensures.deep
