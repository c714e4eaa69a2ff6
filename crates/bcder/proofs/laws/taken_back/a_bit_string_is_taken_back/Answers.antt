use Rattle.bcder.specs.declared.encode.error.EncodeError.TheVariants.{LongCerPrimitive}
use Rattle.bcder.proofs.TakenBack.{bits_taken, bits_skipped}
use Rattle.bcder.proofs.laws.taken_back.a_bit_string_is_taken_back.Goals as goal

pub returns-clause-taken : goal.returns-clause-taken
returns-clause-taken g c = bits_taken LongCerPrimitive c.args.mode c.args.x.now c.see.ensures.bits c.see.ensures.octets c.requires.fits c.requires.short

pub returns-clause-skipped : goal.returns-clause-skipped
returns-clause-skipped g c = bits_skipped LongCerPrimitive c.args.mode c.args.x.now c.see.ensures.bits c.see.ensures.octets c.requires.fits c.requires.short
