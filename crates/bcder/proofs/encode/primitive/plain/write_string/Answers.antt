use Rattle.std.proofs.Common.{rules, arith, refl, sym, ◌∙◌, inl, inr}
use Rattle.bcder.specs.x690.Identifier.{AreOctets}
use Rattle.bcder.specs.declared.encode.error.EncodeError.TheVariants.{LongCerPrimitive}
use Rattle.bcder.proofs.WholeStrings.{string_fits, refuses_string}
use Rattle.bcder.proofs.encode.primitive.plain.write_string.Goals as goal

pub returns-then-fits_primitive : goal.returns-then-fits_primitive
returns-then-fits_primitive g c =
    let o : AreOctets c.args.octets.now = λ i. omega (arith, c.type_inv.octets i) in
    record {
      went = inl (
        c.args.octets.now,
        string_fits LongCerPrimitive c.args.mode c.args.octets.now o (sym c.fits_primitive.ensures ∙ c.if-fits_primitive.true),
        c.write_all.ensures,
      );
    }

pub returns-else-fits_primitive : goal.returns-else-fits_primitive
returns-else-fits_primitive g c =
    let o : AreOctets c.args.octets.now = λ i. omega (arith, c.type_inv.octets i) in
    record {
      went = inr (
        LongCerPrimitive,
        refl,
        refuses_string LongCerPrimitive c.args.mode c.args.octets.now (λ e. cc) o
            (sym c.fits_primitive.ensures ∙ c.if-fits_primitive.false),
        search rules,
      );
    }
