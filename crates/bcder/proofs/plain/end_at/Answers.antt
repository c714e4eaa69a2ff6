use Rattle.std.proofs.Common.{arith}
use Rattle.bcder.specs.x690.Identifier.{AreOctets}
use Rattle.bcder.proofs.Fronts.{end_found, no_end_found}
use Rattle.bcder.proofs.plain.end_at.Goals as goal

pub returns-clause-found : goal.returns-clause-found
returns-clause-found c =
    let o : AreOctets c.args.octets.now = λ i. omega (arith, c.type_inv.octets i) in
    end_found c.after_end.result (λ r. r.now) c.args.mode c.args.octets.now o c.after_end.ensures

pub returns-clause-none : goal.returns-clause-none
returns-clause-none c = no_end_found c.after_end.result (λ r. r.now) c.args.mode c.args.octets.now c.after_end.ensures
