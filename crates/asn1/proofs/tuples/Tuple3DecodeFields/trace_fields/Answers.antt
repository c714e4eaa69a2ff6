use Rattle.bcder.specs.calls.Views.{of_constructed}
use Rattle.asn1.proofs.Threes.{reads_three, refuses_first_of_3, refuses_second_of_3, refuses_third_of_3}
use Rattle.asn1.proofs.tuples.Tuple3DecodeFields.trace_fields.Goals as goal

pub returns-in-Ok-trace_fields-2-clause-took : goal.returns-in-Ok-trace_fields-2-clause-took
returns-in-Ok-trace_fields-2-clause-took g c =
    let i = of_constructed g.S.Source.stream in
    reads_three g.A.Fields.takes g.B.Fields.takes g.C.Fields.takes g.A.DecodeFields.may_lack g.B.DecodeFields.may_lack g.C.DecodeFields.may_lack
    (i c.args.cons.now) (i c.trace_fields.new.cons) (i c.trace_fields-2.new.cons) (i c.trace_fields-3.new.cons)
    c.in-Ok.a c.in-Ok-trace_fields.b c.in-Ok-trace_fields-2.c c.in-Ok.ensures.took c.in-Ok-trace_fields.ensures.took c.in-Ok-trace_fields-2.ensures.took

pub returns-in-Err-clause-took : goal.returns-in-Err-clause-took
returns-in-Err-clause-took g c =
    let i = of_constructed g.S.Source.stream in
    refuses_first_of_3 g.A.Fields.takes g.B.Fields.takes g.C.Fields.takes g.A.DecodeFields.may_lack g.B.DecodeFields.may_lack g.C.DecodeFields.may_lack
    (i c.args.cons.now) (i c.trace_fields.new.cons) c.in-Err.error c.in-Err.ensures.took

pub returns-in-Err-trace_fields-clause-took : goal.returns-in-Err-trace_fields-clause-took
returns-in-Err-trace_fields-clause-took g c =
    let i = of_constructed g.S.Source.stream in
    refuses_second_of_3 g.A.Fields.takes g.B.Fields.takes g.C.Fields.takes g.A.DecodeFields.may_lack g.B.DecodeFields.may_lack g.C.DecodeFields.may_lack
    (i c.args.cons.now) (i c.trace_fields.new.cons) (i c.trace_fields-2.new.cons) c.in-Err-trace_fields.error
    c.in-Ok.a c.in-Ok.ensures.took c.in-Err-trace_fields.ensures.took

pub returns-in-Err-trace_fields-2-clause-took : goal.returns-in-Err-trace_fields-2-clause-took
returns-in-Err-trace_fields-2-clause-took g c =
    let i = of_constructed g.S.Source.stream in
    refuses_third_of_3 g.A.Fields.takes g.B.Fields.takes g.C.Fields.takes g.A.DecodeFields.may_lack g.B.DecodeFields.may_lack g.C.DecodeFields.may_lack
    (i c.args.cons.now) (i c.trace_fields.new.cons) (i c.trace_fields-2.new.cons) (i c.trace_fields-3.new.cons) c.in-Err-trace_fields-2.error
    c.in-Ok.a c.in-Ok-trace_fields.b c.in-Ok.ensures.took c.in-Ok-trace_fields.ensures.took c.in-Err-trace_fields-2.ensures.took
