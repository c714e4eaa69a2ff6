use Rattle.std.proofs.Common.{ℤ}
use Rattle.std.specs.Int.{w64}
use Rattle.asn1.specs.declared.leaves.enumerated.Enumerated.{Enumerated}
use Rattle.asn1.proofs.Ones.{leaf_once}
use Rattle.asn1.proofs.Numbered.{IsNumbered, numbered_one, numbered_once}
use Rattle.asn1.proofs.leaves.enumerated.EnumeratedType.values_are_one.Goals as goal

pub returns-clause-one : goal.returns-clause-one
returns-clause-one g c = λ mode.
    let number : Enumerated g.row.E.Denot → ℤ = λ x. g.E.Enumeration.number x.0 in
    numbered_one w64 number

pub returns-clause-once : goal.returns-clause-once
returns-clause-once g c = λ k mode ne.
    let number : Enumerated g.row.E.Denot → ℤ = λ x. g.E.Enumeration.number x.0 in
    leaf_once mode (IsNumbered w64 number) number (numbered_once w64 number)
