use Rattle.std.proofs.Common.{refl}
use Rattle.bcder.specs.calls.Meaning.{nothing}
use Rattle.asn1.proofs.written.additions.ExtensionAdditionsEncodeFields.len_fields.Goals as goal

pub returns : goal.returns
returns c = (nothing, refl, refl)
