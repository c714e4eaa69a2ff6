use Rattle.std.proofs.Common.{None}
use Rattle.std.specs.Prelude.{Ok}
use Rattle.bcder.specs.calls.Views.{of_constructed}
use Rattle.asn1.specs.Types.{Only, TakesNextTyped}
use Rattle.asn1.proofs.Seen.{retagged_none, retagged_refuses}
use Rattle.asn1.proofs.implicit.ImplicitDecode.trace_opt_if.Goals as goal

pub returns-in-Ok-None-clause-took : goal.returns-in-Ok-None-clause-took
returns-in-Ok-None-clause-took g c =
    let i = of_constructed g.S.Source.stream c.args.cons.now in
    let j = of_constructed g.S.Source.stream c.trace_opt_if.new.cons in
    let f = g.met.T.FixedTag.fixed c.args.tag in
    let n : TakesNextTyped (g.T.Type.tags c.args.tag) (g.T.Type.means i.mode) g.T.Decode.may_lack {X = g.row.S-Error.Denot} i (Ok None) j =
    rw c.in-Ok-None.field-0-is at c.in-Ok-None.ensures.took in
    retagged_none (g.T.Type.tags c.args.tag) (Only c.args.tag) (λ t. (f t).0) (λ t. (f t).1) (g.T.Type.means i.mode) (λ x. x) i j n

pub returns-in-Err-clause-took : goal.returns-in-Err-clause-took
returns-in-Err-clause-took g c =
    let i = of_constructed g.S.Source.stream c.args.cons.now in
    let j = of_constructed g.S.Source.stream c.trace_opt_if.new.cons in
    let f = g.met.T.FixedTag.fixed c.args.tag in
    retagged_refuses (g.T.Type.tags c.args.tag) (Only c.args.tag) (λ t. (f t).0) (λ t. (f t).1) (g.T.Type.means i.mode) (λ x. x) i j c.in-Err.error
    c.in-Err.ensures.took
