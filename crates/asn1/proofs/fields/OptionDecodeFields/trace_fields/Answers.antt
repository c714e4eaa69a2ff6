use Rattle.bcder.specs.calls.Views.{of_constructed}
use Rattle.bcder.specs.laws.Moved.{untouched_is_moved}
use Rattle.bcder.proofs.Lemmas.{constructed_is_within_owed}
use Rattle.asn1.proofs.Reading.{reads_optional}
use Rattle.asn1.proofs.fields.OptionDecodeFields.trace_fields.Goals as goal

pub returns-clause-took : goal.returns-clause-took
returns-clause-took g c =
    let i = of_constructed g.S.Source.stream c.args.cons.now in
    let j = of_constructed g.S.Source.stream c.trace_opt_from-value.new.cons in
    let w = constructed_is_within_owed g.S.Source.stream g.met.S.Source.sound c.args.cons.now in
    let m = c.trace_opt_from-value.ensures.moves i (untouched_is_moved i) in
    reads_optional (g.T.Type.tags g.T.Type.TAG) (g.T.Type.means i.mode) i j w m
    (record { own = g.T.Type.TAG; is_own = g.met.T.Type.tagged; value_tags = g.met.T.Type.value_tags }) c.trace_opt_from-value.result
    c.trace_opt_from-value.ensures.took
