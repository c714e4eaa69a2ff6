use Rattle.std.proofs.Common.{◌≡◌, length, rules}
use Rattle.berconv.proofs.Sorted.{in_place}
use Rattle.berconv.proofs.run.in_order.Goals as goal

pub returns-in-Ok-clause-converted : goal.returns-in-Ok-clause-converted
returns-in-Ok-clause-converted c =
    let k : length c.sort.new.values ≡ c.in_ok-values.values.len = search rules in (
      c.in_ok-values.values.items,
      c.in_ok-values.ensures.converted,
      in_place c.args.request.sorts c.args.request.to c.deref_mut.result.now c.in_ok-values.values.items c.sort.new.values _ _ c.deref_mut.ensures.value k
          c.in-Ok.ensures,
    )
