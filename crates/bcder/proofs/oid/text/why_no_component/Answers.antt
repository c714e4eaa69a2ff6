use Rattle.std.proofs.Common.{◌≡◌, ◌∙◌, [], ap, rules, refl, inr}
use Rattle.bcder.specs.steps.Pushed.{texts_of}
use Rattle.bcder.specs.declared.oid.text.OidError.TheVariants.{NoMemory}
use Rattle.bcder.proofs.Spelling.{refused_here, refused_later}
use Rattle.bcder.proofs.oid.text.why_no_component.Goals as goal

pub loop-rest-preserved : goal.loop-rest-preserved
loop-rest-preserved c =
    refused_later _ _ (texts_of c.loop-rest.rest) _ (ap texts_of c.in-Some.is ∙ c.split_text.ensures) _ c.in-Some-component.ensures c.loop-rest.invariant

pub returns-in_default-component : goal.returns-in_default-component
returns-in_default-component c =
    refused_here _ _ (texts_of c.loop-rest.rest) _ (ap texts_of c.in-Some.is ∙ c.split_text.ensures) c.in_default-component.ensures c.loop-rest.invariant

pub returns : goal.returns
returns c =
    let left : texts_of c.loop-rest.rest ≡ [] = search rules in
    c.loop-rest.invariant NoMemory (rw left (inr (refl, [], tt)))
