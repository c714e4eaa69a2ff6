use Rattle.bcder.specs.laws.Composed.{item_means}
use Rattle.bcder.proofs.Writing.{lacks_more}
use Rattle.bcder.proofs.Noting.{nothing_left}
use Rattle.bcder.proofs.encode.values.mapped.write_item.Goals as goal

pub write_known-requires : goal.write_known-requires
write_known-requires g c =
    let gives = c.call_on-value.ensures in
    record {
      can = c.requires.may.1 _ gives.shown gives.shows gives.met;
      sized = nothing_left _ _ c.none.ensures;
      known = (c.requires.known.0, item_means g.F.Fn c.args.f.now c.requires.may gives _ c.requires.known.1);
    }

pub returns : goal.returns
returns g c = λ e meant.
    let gives = c.call_on-value.ensures in
    let can = c.requires.may.1 _ gives.shown gives.shows gives.met in
    let one = (g.met.V.Values.lawful c.call_on-value.result c.args.mode can).one in
    lacks_more _ (λ h. record { value = c.call_on-value.result; given = gives; lacks = h })
    (c.write_known.ensures.written one e (item_means g.F.Fn c.args.f.now c.requires.may gives _ meant))
