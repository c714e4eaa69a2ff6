use Rattle.std.proofs.Common.{arith}
use Rattle.bcder.specs.x690.Identifier.{AreOctets}
use Rattle.bcder.proofs.Fronts.{list_is_found}
use Rattle.bcder.proofs.plain.is_list.Goals as goal

pub returns : goal.returns
returns c =
    let o : AreOctets c.args.octets.now = λ i. omega (arith, c.type_inv.octets i) in
    list_is_found _ _ _ _ o (omega arith) c.is_list_within.ensures.list c.is_list_within.ensures.none
