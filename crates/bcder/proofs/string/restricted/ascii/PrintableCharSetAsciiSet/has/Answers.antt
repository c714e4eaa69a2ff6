use Rattle.std.proofs.Common.{ℕ, refl, false, ◌∙◌, ap, slice_index_or, arith}
use Rattle.std.proofs.lemmas.Bool.{agree_below_at}
use Rattle.bcder.specs.x690.AsciiSets.{is_printable}
use Rattle.bcder.specs.declared.string.restricted.ascii.TheConstants.{PRINTABLE}
use Rattle.bcder.proofs.string.restricted.ascii.PrintableCharSetAsciiSet.has.Goals as goal

-- the table has each octet as the set has it
pub returns : goal.returns
returns c =
    ap (λ (b : ℕ). slice_index_or PRINTABLE b false) c.from.ensures
    ∙ agree_below_at (λ b. slice_index_or PRINTABLE b false) is_printable 256 c.args.octet refl (omega (arith, c.ranges.octet.fits))
