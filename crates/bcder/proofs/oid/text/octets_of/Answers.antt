use Rattle.std.proofs.Common.{◌∙◌, ap, arith, refl}
use Rattle.bcder.specs.calls.Identifiers.{MayBegin, RefusesText}
use Rattle.bcder.specs.calls.Identifiers.RefusesTexts.{first_too_large, second_is_none, second_too_large}
use Rattle.bcder.specs.steps.Pushed.{texts_of}
use Rattle.bcder.proofs.Refusing.{residual}
use Rattle.bcder.proofs.Spelling.{refuses, others_refused}
use Rattle.bcder.proofs.oid.text.octets_of.Goals as goal
use Rattle.bcder.proofs.oid.text.octets_of.Goals.{else-first-lt2-via-then-first-lt2+else-second-ge40, else-first-lt2-via-else-first-lt2}

pub returns-then-first-gt2-clause-err : goal.returns-then-first-gt2-clause-err
returns-then-first-gt2-clause-err c =
    refuses c.args.text.now _ _ _ _ c.split_text.ensures (ap texts_of c.in-Some.is ∙ c.split_text-2.ensures) _
    (first_too_large _ refl c.in-Some-component.ensures c.if-first-gt2.true)

pub returns-in_default-component-2-clause-err : goal.returns-in_default-component-2-clause-err
returns-in_default-component-2-clause-err c =
    refuses c.args.text.now _ _ _ _ c.split_text.ensures (ap texts_of c.in-Some.is ∙ c.split_text-2.ensures) _
    (second_is_none _ refl c.in-Some-component.ensures c.if-first-gt2.false c.in_default-component-2.ensures)

pub returns-then-second-ge40-clause-err : goal.returns-then-second-ge40-clause-err
returns-then-second-ge40-clause-err c =
    refuses c.args.text.now _ _ _ _ c.split_text.ensures (ap texts_of c.in-Some.is ∙ c.split_text-2.ensures) _
    (second_too_large _ _ refl c.in-Some-component.ensures c.if-first-lt2.true c.in-Some-component-2.ensures c.if-second-ge40.true)

pub returns-in-Err-clause-err : goal.returns-in-Err-clause-err
returns-in-Err-clause-err c =
    let begins : MayBegin c.in-Some-component.first c.in-Some-component-2.second =
    elim c.else-first-lt2.branch [
      | else-first-lt2-via-then-first-lt2+else-second-ge40 w ↦ record { first = c.if-first-gt2.false; second = λ h. omega arith }
      | else-first-lt2-via-else-first-lt2 w ↦ record { first = c.if-first-gt2.false; second = λ h. omega arith }
    ]
    in
    refuses c.args.text.now _ _ _ _ c.split_text.ensures (ap texts_of c.in-Some.is ∙ c.split_text-2.ensures) _
    (others_refused c.in-Some-component.ensures c.in-Some-component-2.ensures begins c.why_no_component.ensures)

pub returns-in_err-push_others-in-Ok-clause-err : goal.returns-in_err-push_others-in-Ok-clause-err
returns-in_err-push_others-in-Ok-clause-err c =
    let e = c.in_err-push_others-in-Ok.field-0.0 in
    let begins : MayBegin c.in-Some-component.first c.in-Some-component-2.second =
    elim c.else-first-lt2.branch [
      | else-first-lt2-via-then-first-lt2+else-second-ge40 w ↦ record { first = c.if-first-gt2.false; second = λ h. omega arith }
      | else-first-lt2-via-else-first-lt2 w ↦ record { first = c.if-first-gt2.false; second = λ h. omega arith }
    ]
    in
    let refused : RefusesText c.args.text.now e =
    refuses c.args.text.now _ _ _ _ c.split_text.ensures (ap texts_of c.in-Some.is ∙ c.split_text-2.ensures) e
    (others_refused c.in-Some-component.ensures c.in-Some-component-2.ensures begins c.in_err-push_others-in-Ok.ensures.err)
    in
    residual c.from_residual.result e (RefusesText c.args.text.now) c.from_residual.ensures.1 refused
