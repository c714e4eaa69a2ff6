use Rattle.bcder.specs.calls.Views.{of_constructed}
use Rattle.asn1.specs.Tuples.{grouped_11}
use Rattle.asn1.proofs.Pairs.{reads_seen, refuses_seen}
use Rattle.asn1.proofs.tuples.Tuple11DecodeFields.trace_fields.Goals as goal

pub returns-in-Ok-clause-took : goal.returns-in-Ok-clause-took
returns-in-Ok-clause-took g c =
    let i = of_constructed g.S.Source.stream c.args.cons.now in
    let j = of_constructed g.S.Source.stream c.trace_fields.new.cons in
    let f = c.in-Ok.fields in
    reads_seen _ grouped_11 i j (f.0.0, f.0.1, f.0.2, f.0.3, f.1.0, f.1.1, f.1.2, f.1.3, f.1.4, f.1.5, f.1.6) c.in-Ok.ensures.took

pub returns-in-Err-clause-took : goal.returns-in-Err-clause-took
returns-in-Err-clause-took g c =
    let i = of_constructed g.S.Source.stream c.args.cons.now in
    let j = of_constructed g.S.Source.stream c.trace_fields.new.cons in
    refuses_seen _ grouped_11 i j c.in-Err.error c.in-Err.ensures.took
