use Rattle.std.proofs.Common.{Some, None}
use Rattle.std.specs.Prelude.{Ok}
use Rattle.bcder.specs.calls.Views.{of_constructed}
use Rattle.bcder.specs.laws.Moved.{untouched_is_moved}
use Rattle.bcder.proofs.Lemmas.{constructed_is_within_owed}
use Rattle.asn1.specs.Types.{TakesNextTyped}
use Rattle.asn1.proofs.Reading.{AreTags}
use Rattle.asn1.proofs.Alternatives.{next_one, fails_one, next_two, next_neither, fails_two}
use Rattle.asn1.proofs.choice.Choice2Decode.trace_opt_if.Goals as goal

pub returns-in-Ok-Some-clause-took : goal.returns-in-Ok-Some-clause-took
returns-in-Ok-Some-clause-took g c =
    let P = g.A.Type.tags g.A.Type.TAG in
    let Q = g.B.Type.tags g.B.Type.TAG in
    let i = of_constructed g.S.Source.stream c.args.cons.now in
    let j = of_constructed g.S.Source.stream c.trace_opt_from.new.cons in
    let w = constructed_is_within_owed g.S.Source.stream g.met.S.Source.sound c.args.cons.now in
    let n : TakesNextTyped P (g.A.Type.means i.mode) g.A.Decode.may_lack {X = g.row.S-Error.Denot} i (Ok (Some c.in-Ok-Some.one)) j =
    rw c.in-Ok-Some.field-0-is at c.in-Ok-Some.ensures.took in
    next_one P g.A.Type.means Q g.B.Type.means g.A.Decode.may_lack g.B.Decode.may_lack i j w c.in-Ok-Some.one n

pub returns-in-Err-clause-took : goal.returns-in-Err-clause-took
returns-in-Err-clause-took g c =
    let P = g.A.Type.tags g.A.Type.TAG in
    let Q = g.B.Type.tags g.B.Type.TAG in
    let i = of_constructed g.S.Source.stream c.args.cons.now in
    let j = of_constructed g.S.Source.stream c.trace_opt_from.new.cons in
    let w = constructed_is_within_owed g.S.Source.stream g.met.S.Source.sound c.args.cons.now in
    fails_one P g.A.Type.means Q g.B.Type.means g.A.Decode.may_lack g.B.Decode.may_lack i j w c.in-Err.error c.in-Err.ensures.took

pub returns-in-Ok-Some-trace_opt_from-clause-took : goal.returns-in-Ok-Some-trace_opt_from-clause-took
returns-in-Ok-Some-trace_opt_from-clause-took g c =
    let P = g.A.Type.tags g.A.Type.TAG in
    let Q = g.B.Type.tags g.B.Type.TAG in
    let i = of_constructed g.S.Source.stream c.args.cons.now in
    let j = of_constructed g.S.Source.stream c.trace_opt_from.new.cons in
    let k = of_constructed g.S.Source.stream c.trace_opt_from-2.new.cons in
    let w = constructed_is_within_owed g.S.Source.stream g.met.S.Source.sound c.args.cons.now in
    let x = constructed_is_within_owed g.S.Source.stream g.met.S.Source.sound c.trace_opt_from.new.cons in
    let m = c.trace_opt_from.ensures.moves i (untouched_is_moved i) in
    let v : AreTags P = record { own = g.A.Type.TAG; is_own = g.met.A.Type.tagged; value_tags = g.met.A.Type.value_tags } in
    let n : TakesNextTyped P (g.A.Type.means i.mode) g.A.Decode.may_lack {X = g.row.S-Error.Denot} i (Ok None) j =
    rw c.in-Ok-None.field-0-is at c.in-Ok-None.ensures.took in
    let h : TakesNextTyped Q (g.B.Type.means j.mode) g.B.Decode.may_lack {X = g.row.S-Error.Denot} j (Ok (Some c.in-Ok-Some-trace_opt_from.two)) k =
    rw c.in-Ok-Some-trace_opt_from.field-0-is at c.in-Ok-Some-trace_opt_from.ensures.took in
    next_two P g.A.Type.means Q g.B.Type.means g.A.Decode.may_lack g.B.Decode.may_lack i j w m v n x k c.in-Ok-Some-trace_opt_from.two h

pub returns-in-Ok-None-trace_opt_from-clause-took : goal.returns-in-Ok-None-trace_opt_from-clause-took
returns-in-Ok-None-trace_opt_from-clause-took g c =
    let P = g.A.Type.tags g.A.Type.TAG in
    let Q = g.B.Type.tags g.B.Type.TAG in
    let i = of_constructed g.S.Source.stream c.args.cons.now in
    let j = of_constructed g.S.Source.stream c.trace_opt_from.new.cons in
    let k = of_constructed g.S.Source.stream c.trace_opt_from-2.new.cons in
    let w = constructed_is_within_owed g.S.Source.stream g.met.S.Source.sound c.args.cons.now in
    let x = constructed_is_within_owed g.S.Source.stream g.met.S.Source.sound c.trace_opt_from.new.cons in
    let m = c.trace_opt_from.ensures.moves i (untouched_is_moved i) in
    let q = c.trace_opt_from-2.ensures.moves j (untouched_is_moved j) in
    let v : AreTags P = record { own = g.A.Type.TAG; is_own = g.met.A.Type.tagged; value_tags = g.met.A.Type.value_tags } in
    let u : AreTags Q = record { own = g.B.Type.TAG; is_own = g.met.B.Type.tagged; value_tags = g.met.B.Type.value_tags } in
    let n : TakesNextTyped P (g.A.Type.means i.mode) g.A.Decode.may_lack {X = g.row.S-Error.Denot} i (Ok None) j =
    rw c.in-Ok-None.field-0-is at c.in-Ok-None.ensures.took in
    let h : TakesNextTyped Q (g.B.Type.means j.mode) g.B.Decode.may_lack {X = g.row.S-Error.Denot} j (Ok None) k =
    rw c.in-Ok-None-trace_opt_from.field-0-is at c.in-Ok-None-trace_opt_from.ensures.took in
    next_neither P g.A.Type.means Q g.B.Type.means g.A.Decode.may_lack g.B.Decode.may_lack i j w m v n x k u q h

pub returns-in-Err-trace_opt_from-clause-took : goal.returns-in-Err-trace_opt_from-clause-took
returns-in-Err-trace_opt_from-clause-took g c =
    let P = g.A.Type.tags g.A.Type.TAG in
    let Q = g.B.Type.tags g.B.Type.TAG in
    let i = of_constructed g.S.Source.stream c.args.cons.now in
    let j = of_constructed g.S.Source.stream c.trace_opt_from.new.cons in
    let k = of_constructed g.S.Source.stream c.trace_opt_from-2.new.cons in
    let w = constructed_is_within_owed g.S.Source.stream g.met.S.Source.sound c.args.cons.now in
    let x = constructed_is_within_owed g.S.Source.stream g.met.S.Source.sound c.trace_opt_from.new.cons in
    let m = c.trace_opt_from.ensures.moves i (untouched_is_moved i) in
    let q = c.trace_opt_from-2.ensures.moves j (untouched_is_moved j) in
    let u : AreTags Q = record { own = g.B.Type.TAG; is_own = g.met.B.Type.tagged; value_tags = g.met.B.Type.value_tags } in
    let v : AreTags P = record { own = g.A.Type.TAG; is_own = g.met.A.Type.tagged; value_tags = g.met.A.Type.value_tags } in
    let n : TakesNextTyped P (g.A.Type.means i.mode) g.A.Decode.may_lack {X = g.row.S-Error.Denot} i (Ok None) j =
    rw c.in-Ok-None.field-0-is at c.in-Ok-None.ensures.took in
    fails_two P g.A.Type.means Q g.B.Type.means g.A.Decode.may_lack g.B.Decode.may_lack i j w m v n x k u q c.in-Err-trace_opt_from.error
    c.in-Err-trace_opt_from.ensures.took
