use Rattle.std.proofs.Common.{subst, rules}
use Rattle.bcder.specs.declared.encode.error.EncodeError.TheVariants.{LongCerBitString}
use Rattle.bcder.specs.x690.Identifier.{AreOctets}
use Rattle.bcder.proofs.TakenBack.{bits_taken}
use Rattle.bcder.proofs.laws.taken_back.a_slice_of_bits_is_taken_back.Goals as goal

pub returns : goal.returns
returns g c = bits_taken LongCerBitString c.args.mode (record { unused = c.args.unused; octets = g.T.AsSlice.items c.args.value.now }) c.requires.bits
    (subst AreOctets c.as_slice-slice.ensures (search rules)) c.requires.fits c.requires.short
