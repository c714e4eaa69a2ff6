use Rattle.std.proofs.Common.{sym, subst}
use Rattle.std.specs.Prelude.{IfErr}
use Rattle.bcder.specs.calls.Calls.{RefusesEnd}
use Rattle.bcder.specs.calls.Cause.{cause_of}
use Rattle.bcder.specs.calls.Views.{of_constructed, of_primitive, of_content}
use Rattle.bcder.proofs.decode.content.inside.ContentInside.finish.Goals as goal

pub returns-in-Primitive-clause-refused : goal.returns-in-Primitive-clause-refused
returns-in-Primitive-clause-refused g c =
    let j = of_primitive g.S.Source.stream c.finish.new.self in
    subst (λ z. IfErr c.finish.result (λ e. RefusesEnd cause_of (of_content g.S.Source.stream z) e j)) (sym c.in-Primitive.is) c.finish.ensures.refused

pub returns-in-Constructed-clause-refused : goal.returns-in-Constructed-clause-refused
returns-in-Constructed-clause-refused g c =
    let j = of_constructed g.S.Source.stream c.finish-in-Constructed.new.self in
    subst (λ z. IfErr c.finish-in-Constructed.result (λ e. RefusesEnd cause_of (of_content g.S.Source.stream z) e j)) (sym c.in-Constructed.is)
    c.finish-in-Constructed.ensures.refused
