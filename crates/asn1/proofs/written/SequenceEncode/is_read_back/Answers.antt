use Rattle.asn1.proofs.ReadingBack.{inside_read_back}
use Rattle.asn1.proofs.written.SequenceEncode.is_read_back.Goals as goal

pub returns : goal.returns
returns g c = λ x k.
    let mode = c.args.mode in
    inside_read_back c.args._tag g.F.Fields.keys x (g.F.Fields.takes mode) (g.F.EncodeFields.may_precede x mode) mode (g.F.EncodeFields.lays x mode) k.1
    (c.are_read_back.ensures x k.0)
