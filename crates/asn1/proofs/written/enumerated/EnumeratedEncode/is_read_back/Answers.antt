use Rattle.std.proofs.Common.{ℤ}
use Rattle.std.specs.Int.{w64}
use Rattle.asn1.specs.declared.leaves.enumerated.Enumerated.{Enumerated}
use Rattle.asn1.proofs.Numbered.{numbered_back}
use Rattle.asn1.proofs.written.enumerated.EnumeratedEncode.is_read_back.Goals as goal

pub returns : goal.returns
returns g c = λ x k.
    let number : Enumerated g.row.E.Denot → ℤ = λ y. g.E.Enumeration.number y.0 in
    numbered_back w64 number c.args._tag x k
