use Rattle.std.proofs.Common.{◌∙◌, sym}
use Rattle.std.specs.Prelude.{pos}
use Rattle.std.specs.Cmp.{signed_Decides}
use Rattle.bcder.proofs.IntegerOctets.{octets_equal}
use Rattle.bcder.proofs.int.Integer.eq_unsigned.Goals as goal

pub returns : goal.returns
returns c =
    let e = octets_equal c.args.self.now (pos c.args.other.now) c.as_slice.result.now c.as_slice-2.result.now c.eq.result c.as_slice.ensures.octets
    c.as_slice-2.ensures.octets c.as_slice.ensures.integer c.as_slice-2.ensures.integer c.eq.ensures in
    (λ t. (signed_Decides c.args.self.now (pos c.args.other.now)).0 (sym e ∙ t), λ z. e ∙ (signed_Decides c.args.self.now (pos c.args.other.now)).1 z)
