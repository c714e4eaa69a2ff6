use Rattle.std.proofs.Common.{arith}
use Rattle.bcder.specs.x690.Identifier.{AreOctets}
use Rattle.bcder.proofs.PlainReader.{found, if_found, if_nothing_found, whole_read}
use Rattle.bcder.proofs.plain.skip_one.Goals as goal

pub returns-in-Some-clause-found : goal.returns-in-Some-clause-found
returns-in-Some-clause-found c =
    let o : AreOctets c.args.octets.now = λ i. omega (arith, c.type_inv.octets i) in
    found _ _ _ o (whole_read _ _ _ _ (c.in-Some.ensures.begins c.args.mode) c.split_at.ensures.back)

pub returns-in-None-clause-found : goal.returns-in-None-clause-found
returns-in-None-clause-found c =
    let o : AreOctets c.args.octets.now = λ i. omega (arith, c.type_inv.octets i) in
    if_found c.value_at.result (λ r. r.now) _ _ o c.value_at.ensures.read

pub returns-in-None-clause-none : goal.returns-in-None-clause-none
returns-in-None-clause-none c = if_nothing_found c.value_at.result _ _ c.value_at.ensures.none
