use Rattle.std.proofs.Common.{◌≡◌, Bool, true, false, length, refl}
use Rattle.bcder.specs.calls.Meaning.{truth_octets}
use Rattle.bcder.proofs.encode.primitive.plain.BoolPrimitiveContent.encoded_len.Goals as goal

one_octet : (b : Bool) → 1 ≡ length (truth_octets b)
one_octet true = refl
one_octet false = refl

pub returns : goal.returns
returns c = (truth_octets c.args.self.now, refl, one_octet c.args.self.now)
