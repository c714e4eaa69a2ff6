use Rattle.bcder.specs.calls.Views.{of_constructed}
use Rattle.asn1.proofs.Fours.{reads_four, refuses_first_of_4, refuses_second_of_4, refuses_third_of_4, refuses_fourth_of_4}
use Rattle.asn1.proofs.tuples.Tuple4DecodeFields.trace_fields.Goals as goal

pub returns-in-Ok-trace_fields-3-clause-took : goal.returns-in-Ok-trace_fields-3-clause-took
returns-in-Ok-trace_fields-3-clause-took g c =
    let i = of_constructed g.S.Source.stream in
    reads_four g.A.Fields.takes g.B.Fields.takes g.C.Fields.takes g.D.Fields.takes
    g.A.DecodeFields.may_lack g.B.DecodeFields.may_lack g.C.DecodeFields.may_lack g.D.DecodeFields.may_lack
    (i c.args.cons.now) (i c.trace_fields.new.cons) (i c.trace_fields-2.new.cons) (i c.trace_fields-3.new.cons) (i c.trace_fields-4.new.cons)
    c.in-Ok.a c.in-Ok-trace_fields.b c.in-Ok-trace_fields-2.c c.in-Ok-trace_fields-3.d
    c.in-Ok.ensures.took c.in-Ok-trace_fields.ensures.took c.in-Ok-trace_fields-2.ensures.took c.in-Ok-trace_fields-3.ensures.took

pub returns-in-Err-clause-took : goal.returns-in-Err-clause-took
returns-in-Err-clause-took g c =
    let i = of_constructed g.S.Source.stream in
    refuses_first_of_4 g.A.Fields.takes g.B.Fields.takes g.C.Fields.takes g.D.Fields.takes
    g.A.DecodeFields.may_lack g.B.DecodeFields.may_lack g.C.DecodeFields.may_lack g.D.DecodeFields.may_lack
    (i c.args.cons.now) (i c.trace_fields.new.cons) c.in-Err.error c.in-Err.ensures.took

pub returns-in-Err-trace_fields-clause-took : goal.returns-in-Err-trace_fields-clause-took
returns-in-Err-trace_fields-clause-took g c =
    let i = of_constructed g.S.Source.stream in
    refuses_second_of_4 g.A.Fields.takes g.B.Fields.takes g.C.Fields.takes g.D.Fields.takes
    g.A.DecodeFields.may_lack g.B.DecodeFields.may_lack g.C.DecodeFields.may_lack g.D.DecodeFields.may_lack
    (i c.args.cons.now) (i c.trace_fields.new.cons) c.in-Err-trace_fields.error c.in-Ok.a c.in-Ok.ensures.took (i c.trace_fields-2.new.cons)
    c.in-Err-trace_fields.ensures.took

pub returns-in-Err-trace_fields-2-clause-took : goal.returns-in-Err-trace_fields-2-clause-took
returns-in-Err-trace_fields-2-clause-took g c =
    let i = of_constructed g.S.Source.stream in
    refuses_third_of_4 g.A.Fields.takes g.B.Fields.takes g.C.Fields.takes g.D.Fields.takes
    g.A.DecodeFields.may_lack g.B.DecodeFields.may_lack g.C.DecodeFields.may_lack g.D.DecodeFields.may_lack
    (i c.args.cons.now) (i c.trace_fields.new.cons) c.in-Err-trace_fields-2.error c.in-Ok.a c.in-Ok.ensures.took
    (i c.trace_fields-2.new.cons) (i c.trace_fields-3.new.cons) c.in-Ok-trace_fields.b c.in-Ok-trace_fields.ensures.took
    c.in-Err-trace_fields-2.ensures.took

pub returns-in-Err-trace_fields-3-clause-took : goal.returns-in-Err-trace_fields-3-clause-took
returns-in-Err-trace_fields-3-clause-took g c =
    let i = of_constructed g.S.Source.stream in
    refuses_fourth_of_4 g.A.Fields.takes g.B.Fields.takes g.C.Fields.takes g.D.Fields.takes
    g.A.DecodeFields.may_lack g.B.DecodeFields.may_lack g.C.DecodeFields.may_lack g.D.DecodeFields.may_lack
    (i c.args.cons.now) (i c.trace_fields.new.cons) c.in-Err-trace_fields-3.error c.in-Ok.a c.in-Ok.ensures.took
    (i c.trace_fields-2.new.cons) (i c.trace_fields-3.new.cons) (i c.trace_fields-4.new.cons)
    c.in-Ok-trace_fields.b c.in-Ok-trace_fields-2.c c.in-Ok-trace_fields.ensures.took c.in-Ok-trace_fields-2.ensures.took
    c.in-Err-trace_fields-3.ensures.took
