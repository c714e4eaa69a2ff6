use Rattle.std.proofs.Common.{◌≡◌, ℤ, rules, subst, to_z, of_z}
use Rattle.std.specs.Int.{w64}
use Rattle.bcder.specs.calls.Encoders.{SizeOfValues}
use Rattle.bcder.specs.calls.Meaning.{Exactly, ValueMeans, primitive_meaning}
use Rattle.bcder.specs.x690.Integer.{integer_octets}
use Rattle.asn1.proofs.written.enumerated.EnumeratedEncode.encoded_len_as.Goals as goal

pub returns : goal.returns
returns g c =
    let same : to_z w64 (of_z w64 c.number.result) ≡ g.E.Enumeration.number c.args.self.now.0 = search rules in
    subst (λ (z : ℤ). SizeOfValues (ValueMeans c.args.tag (primitive_meaning c.args.tag) (Exactly (integer_octets z))) ⊥ c.encoded_len_as.result) same
    c.encoded_len_as.ensures
