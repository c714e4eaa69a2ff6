use Rattle.bcder.specs.x690.Tree.{no_trees}
use Rattle.std.proofs.Common.{◌≡◌, refl}
use Rattle.asn1.specs.Sets.{AreSet}
use Rattle.asn1.proofs.ReadingBack.{inside_read_back}
use Rattle.asn1.proofs.SetTaken.{set_back}
use Rattle.asn1.proofs.written.sets.SetEncode.is_read_back.Goals as goal

pub returns : goal.returns
returns g c = λ x k.
    let mode = c.args.mode in
    let back = set_back mode g.F.SetOrder.place (g.F.Fields.takes mode) g.F.Fields.keys x (g.F.EncodeFields.may_precede x mode)
    (g.F.EncodeFields.lays x mode) k.1 k.2
    (c.are_read_back.ensures x k.0) in
    inside_read_back c.args._tag g.F.Fields.keys x (AreSet mode g.F.SetOrder.place (g.F.Fields.takes mode)) (λ us. us ≡ no_trees) mode
    (g.F.EncodeFields.lays x mode) refl back
