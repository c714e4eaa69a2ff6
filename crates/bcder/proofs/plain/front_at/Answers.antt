use Rattle.std.proofs.Common.{arith}
use Rattle.bcder.specs.x690.Identifier.{AreOctets}
use Rattle.bcder.proofs.Fronts.{header_found, no_header_found}
use Rattle.bcder.proofs.plain.front_at.Goals as goal

pub returns-in_default-clause-none : goal.returns-in_default-clause-none
returns-in_default-clause-none c = no_header_found _ _ c.in_default.ensures.read

pub returns-clause-found : goal.returns-clause-found
returns-clause-found c =
    let o : AreOctets c.args.octets.now = λ i. omega (arith, c.type_inv.octets i) in
    rw c.is_constructed.ensures (header_found _ _ _ _ _ _ _ o c.in-Some.ensures.read c.number_told.ensures)
