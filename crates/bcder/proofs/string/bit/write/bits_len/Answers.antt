use Rattle.std.proofs.Common.{arith, sym, ◌∙◌}
use Rattle.bcder.specs.x690.BitString.{Bits, contents_octets, as_written}
use Rattle.bcder.specs.x690.Identifier.{AreOctets}
use Rattle.bcder.proofs.Bits.{as_many_octets}
use Rattle.bcder.proofs.WrittenBits.{bits_fit, bits_refused}
use Rattle.bcder.proofs.string.bit.write.bits_len.Goals as goal

pub returns-then-fits_primitive : goal.returns-then-fits_primitive
returns-then-fits_primitive c =
    let x : Bits = record { unused = c.args._unused; octets = c.args.octets.now } in
    let o : AreOctets c.args.octets.now = λ i. omega (arith, c.type_inv.octets i) in (
      contents_octets (as_written c.args.mode x),
      bits_fit c.args.refusal c.args.mode x (omega arith) o
          (sym c.fits_primitive.ensures ∙ c.if-fits_primitive.true),
      omega (arith, as_many_octets c.args.mode x),
    )

pub returns-else-fits_primitive : goal.returns-else-fits_primitive
returns-else-fits_primitive c =
    let x : Bits = record { unused = c.args._unused; octets = c.args.octets.now } in
    let o : AreOctets c.args.octets.now = λ i. omega (arith, c.type_inv.octets i) in
    bits_refused c.args.refusal c.args.mode x (omega arith) o c.requires (sym c.fits_primitive.ensures ∙ c.if-fits_primitive.false)
