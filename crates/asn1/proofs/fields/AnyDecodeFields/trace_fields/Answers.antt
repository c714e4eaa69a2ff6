use Rattle.std.proofs.Common.{Some, None, rules}
use Rattle.std.specs.Prelude.{Ok}
use Rattle.bcder.specs.calls.Cause.{IsRefusal}
use Rattle.bcder.specs.calls.Views.{of_constructed}
use Rattle.bcder.specs.laws.Moved.{untouched_is_moved}
use Rattle.bcder.proofs.Lemmas.{constructed_is_within_owed}
use Rattle.asn1.specs.Types.{TakesNextTyped}
use Rattle.asn1.proofs.Reading.{reads_member, misses_member, refuses_member}
use Rattle.asn1.proofs.fields.AnyDecodeFields.trace_fields.Goals as goal

pub returns-in-Ok-Some-clause-took : goal.returns-in-Ok-Some-clause-took
returns-in-Ok-Some-clause-took g c =
    let i = of_constructed g.S.Source.stream c.args.cons.now in
    let j = of_constructed g.S.Source.stream c.trace_opt_from.new.cons in
    let w = constructed_is_within_owed g.S.Source.stream g.met.S.Source.sound c.args.cons.now in
    let m = c.trace_opt_from.ensures.moves i (untouched_is_moved i) in
    let n : TakesNextTyped (g.T.Type.tags g.T.Type.TAG) (g.T.Type.means i.mode) g.T.Decode.may_lack i (Ok (Some c.in-Ok-Some.value)) j =
    rw c.in-Ok-Some.field-0-is at c.in-Ok-Some.ensures.took in
    reads_member (g.T.Type.tags g.T.Type.TAG) (g.T.Type.means i.mode) i j w m _ n

pub returns-in-Ok-None-clause-took : goal.returns-in-Ok-None-clause-took
returns-in-Ok-None-clause-took g c =
    let i = of_constructed g.S.Source.stream c.args.cons.now in
    let j = of_constructed g.S.Source.stream c.trace_opt_from.new.cons in
    let w = constructed_is_within_owed g.S.Source.stream g.met.S.Source.sound c.args.cons.now in
    let m = c.trace_opt_from.ensures.moves i (untouched_is_moved i) in
    let n : TakesNextTyped (g.T.Type.tags g.T.Type.TAG) (g.T.Type.means i.mode) g.T.Decode.may_lack i (Ok None) j =
    rw c.in-Ok-None.field-0-is at c.in-Ok-None.ensures.took in
    let refusal : IsRefusal c.next_err.result = search rules in
    misses_member (g.T.Type.tags g.T.Type.TAG) (g.T.Type.means i.mode) i j w m
    (record { own = g.T.Type.TAG; is_own = g.met.T.Type.tagged; value_tags = g.met.T.Type.value_tags }) _ refusal n

pub returns-in-Err-clause-took : goal.returns-in-Err-clause-took
returns-in-Err-clause-took g c =
    let i = of_constructed g.S.Source.stream c.args.cons.now in
    let j = of_constructed g.S.Source.stream c.trace_opt_from.new.cons in
    let w = constructed_is_within_owed g.S.Source.stream g.met.S.Source.sound c.args.cons.now in
    let m = c.trace_opt_from.ensures.moves i (untouched_is_moved i) in
    refuses_member (g.T.Type.tags g.T.Type.TAG) (g.T.Type.means i.mode) i j w m _ c.in-Err.ensures.took
