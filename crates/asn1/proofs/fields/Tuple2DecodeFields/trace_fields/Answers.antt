use Rattle.bcder.specs.calls.Views.{of_constructed}
use Rattle.asn1.proofs.Pairs.{reads_both, refuses_first, refuses_second}
use Rattle.asn1.proofs.fields.Tuple2DecodeFields.trace_fields.Goals as goal

pub returns-in-Ok-trace_fields-clause-took : goal.returns-in-Ok-trace_fields-clause-took
returns-in-Ok-trace_fields-clause-took g c =
    let i = of_constructed g.S.Source.stream c.args.cons.now in
    let j = of_constructed g.S.Source.stream c.trace_fields.new.cons in
    let k = of_constructed g.S.Source.stream c.trace_fields-2.new.cons in
    reads_both g.A.Fields.takes g.B.Fields.takes g.A.DecodeFields.may_lack g.B.DecodeFields.may_lack i j k
    c.in-Ok.first c.in-Ok-trace_fields.second c.in-Ok.ensures.took c.in-Ok-trace_fields.ensures.took

pub returns-in-Err-clause-took : goal.returns-in-Err-clause-took
returns-in-Err-clause-took g c =
    let i = of_constructed g.S.Source.stream c.args.cons.now in
    let j = of_constructed g.S.Source.stream c.trace_fields.new.cons in
    refuses_first g.A.Fields.takes g.B.Fields.takes g.A.DecodeFields.may_lack g.B.DecodeFields.may_lack i j c.in-Err.error c.in-Err.ensures.took

pub returns-in-Err-trace_fields-clause-took : goal.returns-in-Err-trace_fields-clause-took
returns-in-Err-trace_fields-clause-took g c =
    let i = of_constructed g.S.Source.stream c.args.cons.now in
    let j = of_constructed g.S.Source.stream c.trace_fields.new.cons in
    let k = of_constructed g.S.Source.stream c.trace_fields-2.new.cons in
    refuses_second g.A.Fields.takes g.B.Fields.takes g.A.DecodeFields.may_lack g.B.DecodeFields.may_lack i j k
    c.in-Err-trace_fields.error c.in-Ok.first c.in-Ok.ensures.took c.in-Err-trace_fields.ensures.took
