use Rattle.bcder.specs.calls.Views.{of_constructed}
use Rattle.asn1.proofs.Lists.{list_as_fields}
use Rattle.asn1.proofs.list.VecDecodeFields.trace_fields.Goals as goal

pub returns-clause-took : goal.returns-clause-took
returns-clause-took g c =
    list_as_fields (g.T.Type.tags g.T.Type.TAG) g.T.Type.means (of_constructed g.S.Source.stream c.args.cons.now)
    (of_constructed g.S.Source.stream c.take_list.new.cons) c.take_list.result c.take_list.ensures.took
