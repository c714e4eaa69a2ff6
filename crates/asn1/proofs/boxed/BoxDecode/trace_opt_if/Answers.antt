use Rattle.std.proofs.Common.{Global, Some, sym, subst}
use Rattle.std.specs.Prelude.{Box, Ok}
use Rattle.bcder.specs.calls.Views.{of_constructed}
use Rattle.bcder.proofs.Lemmas.{constructed_is_within_owed}
use Rattle.asn1.specs.Types.{TakesNextTyped}
use Rattle.asn1.proofs.Seen.{value_seen, refuses_taken}
use Rattle.asn1.proofs.boxed.BoxDecode.trace_opt_if.Goals as goal

pub returns-in-Ok-clause-took : goal.returns-in-Ok-clause-took
returns-in-Ok-clause-took g c =
    let i = of_constructed g.S.Source.stream c.args.cons.now in
    let j = of_constructed g.S.Source.stream c.trace_opt_if.new.cons in
    let Tags = g.T.Type.tags c.args.tag in
    let Means = g.T.Type.means i.mode in
    let n : TakesNextTyped Tags Means g.T.Decode.may_lack {X = g.row.S-Error.Denot} i (Ok (Some c.in-Ok-Some.value)) j =
    rw c.in-Ok-Some.field-0-is at c.in-Ok-Some.ensures.took in
    value_seen Tags Means (λ (b : Box g.row.T.Denot Global). b.value) i j c.in-Ok.boxed
    (subst (λ x. TakesNextTyped Tags Means g.T.Decode.may_lack {X = g.row.S-Error.Denot} i (Ok (Some x)) j) (sym c.in-Ok.ensures.ok) n)

pub returns-in-Ok-Some-clause-took : goal.returns-in-Ok-Some-clause-took
returns-in-Ok-Some-clause-took g c =
    let i = of_constructed g.S.Source.stream c.args.cons.now in
    let j = of_constructed g.S.Source.stream c.trace_opt_if.new.cons in
    let k = of_constructed g.S.Source.stream c.fail.new.self in
    let w = constructed_is_within_owed g.S.Source.stream g.met.S.Source.sound c.args.cons.now in
    let Tags = g.T.Type.tags c.args.tag in
    let Means = g.T.Type.means i.mode in
    let n : TakesNextTyped Tags Means g.T.Decode.may_lack {X = g.row.S-Error.Denot} i (Ok (Some c.in-Ok-Some.value)) j =
    rw c.in-Ok-Some.field-0-is at c.in-Ok-Some.ensures.took in
    refuses_taken Tags Means (λ (b : Box g.row.T.Denot Global). b.value) i j w c.in-Ok-Some.value n k c.fail.ensures.failed c.fail.ensures.mode
    c.fail.ensures.marked c.no_memory.result c.no_memory.ensures
