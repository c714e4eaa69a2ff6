use Rattle.std.proofs.Common.{refl, inl}
use Rattle.bcder.specs.calls.Meaning.{nothing}
use Rattle.asn1.proofs.ReadingBack.{appends_none}
use Rattle.asn1.proofs.written.additions.ExtensionAdditionsEncodeFields.write_fields.Goals as goal

pub returns : goal.returns
returns g c =
    record { went = inl (nothing, refl, record { done = appends_none (g.W.Write.contents c.args._target.now) }) }
