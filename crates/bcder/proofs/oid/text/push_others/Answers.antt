use Rattle.std.proofs.Common.{◌≡◌, ◌∙◌, [], ◌++◌, ap, rules, append-nil, sym}
use Rattle.bcder.specs.steps.Pushed.{texts_of, AreSpelled}
use Rattle.bcder.proofs.Spelling.{pushed_more, spelled_none, refused_here, refused_later}
use Rattle.bcder.proofs.oid.text.push_others.Goals as goal

pub loop-rest-preserved : goal.loop-rest-preserved
loop-rest-preserved c =
    let same : c.from.result ≡ c.in-Some-component.number = search rules in
    pushed_more _ _ (texts_of c.loop-rest.rest) _ (ap texts_of c.in-Some.is ∙ c.split_text.ensures) _ _ _ _ c.in-Some-component.ensures
    (rw same at c.in-Ok.ensures) c.loop-rest.invariant

pub returns-in_default-component-clause-err : goal.returns-in_default-component-clause-err
returns-in_default-component-clause-err c =
    let (v, d, goes, refused) = c.loop-rest.invariant in
    refused_here _ _ (texts_of c.loop-rest.rest) _ (ap texts_of c.in-Some.is ∙ c.split_text.ensures) c.in_default-component.ensures refused

pub returns-in-Err-clause-err : goal.returns-in-Err-clause-err
returns-in-Err-clause-err c =
    let (v, d, goes, refused) = c.loop-rest.invariant in
    refused_later _ _ (texts_of c.loop-rest.rest) _
    (ap texts_of c.in-Some.is ∙ c.split_text.ensures) _ c.in-Some-component.ensures refused _ c.why_no_component.ensures

pub returns-clause-ok : goal.returns-clause-ok
returns-clause-ok c =
    let (v, d, goes, none) = c.loop-rest.invariant in
    let left : texts_of c.loop-rest.rest ≡ [] = search rules in
    let spelled : AreSpelled (texts_of c.loop-rest.rest) [] = rw left spelled_none in
    (v ++ [], goes [] spelled, d ∙ ap (λ l. c.args.octets.now.items ++ l) (sym (append-nil v)))
