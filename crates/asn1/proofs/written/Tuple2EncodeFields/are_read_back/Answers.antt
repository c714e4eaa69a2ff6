use Rattle.asn1.proofs.ReadingBack.{both_read_back}
use Rattle.asn1.proofs.written.Tuple2EncodeFields.are_read_back.Goals as goal

pub returns : goal.returns
returns g c = λ x k.
    both_read_back (g.A.Fields.takes c.args.mode) (g.B.Fields.takes c.args.mode) g.A.Fields.keys g.B.Fields.keys (g.A.EncodeFields.may_precede x.0 c.args.mode)
    (g.B.EncodeFields.may_precede x.1 c.args.mode) x.0 x.1 (g.A.EncodeFields.lays x.0 c.args.mode) (g.B.EncodeFields.lays x.1 c.args.mode)
    (c.are_read_back.ensures x.0 k.0) (c.are_read_back-2.ensures x.1 k.1)
