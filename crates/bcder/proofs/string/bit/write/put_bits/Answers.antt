use Rattle.std.proofs.Common.{rules, arith, ap, sym, ◌∙◌, inl, inr}
use Rattle.std.specs.Prelude.{Err}
use Rattle.bcder.specs.x690.BitString.{Bits, contents_octets, as_written}
use Rattle.bcder.specs.x690.Identifier.{AreOctets}
use Rattle.bcder.proofs.WrittenBits.{bits_fit, bits_refused}
use Rattle.bcder.proofs.string.bit.write.put_bits.Goals as goal

pub returns-then-not-fits_primitive : goal.returns-then-not-fits_primitive
returns-then-not-fits_primitive g c =
    let x : Bits = record { unused = c.args.unused; octets = c.args.octets.now } in
    let o : AreOctets c.args.octets.now = λ i. omega (arith, c.type_inv.octets i) in
    record {
      went = inr (
        c.args.refusal,
        ap Err c.store_refusal.ensures,
        bits_refused c.args.refusal c.args.mode x
            (omega arith) o c.requires (sym c.fits_primitive.ensures ∙ c.if-not-fits_primitive.true),
        search rules,
      );
    }

pub returns : goal.returns
returns g c =
    let x : Bits = record { unused = c.args.unused; octets = c.args.octets.now } in
    let o : AreOctets c.args.octets.now = λ i. omega (arith, c.type_inv.octets i) in
    record {
      went = inl (
        contents_octets (as_written c.args.mode x),
        bits_fit c.args.refusal c.args.mode x (omega arith) o (sym c.fits_primitive.ensures ∙ c.if-not-fits_primitive.false),
        c.put_contents.ensures,
      );
    }
