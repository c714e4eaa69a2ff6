use Rattle.std.proofs.Common.{refl, inl}
use Rattle.bcder.specs.calls.Meaning.{nothing}
use Rattle.asn1.proofs.ReadingBack.{appends_none}
use Rattle.asn1.proofs.written.OptionEncodeFields.write_fields.Goals as goal

pub returns-in-None : goal.returns-in-None
returns-in-None g c =
    rw c.in-None.is (record { went = inl (nothing, refl, record { done = appends_none (g.W.Write.contents c.args.target.now) }) })
