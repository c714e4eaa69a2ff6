use Rattle.std.proofs.Common.{◌≡◌, ◌-◌, length, take, slice_get, Some, refl, rules}
use Rattle.std.proofs.lemmas.Result.{IfOk-weaker}
use Rattle.encodings.proofs.CopySteps.{enters_on, ends_on, encloses, last_first}
use Rattle.encodings.proofs.sets.step.Goals as goal

pub returns-in_default : goal.returns-in_default
returns-in_default c = IfOk-weaker c.enter.result _ _
    (λ y e. enters_on c.args.mode c.args.rest.now c.args.opened.now.items _ c.args.copied.now.items _ c.args.out.now.items _ _ e)
    c.enter.ensures

pub leave-requires : goal.leave-requires
leave-requires c =
    let os = c.args.opened.now.items in
    let g : slice_get os (length os - 1) ≡ Some c.in-Some.field-0.now = search rules in
    encloses c.args.mode c.args.rest.now os (take (length os - 1) os) c.args.copied.now.items c.args.out.now.items c.in-Some.field-0.now
    (last_first os (take (length os - 1) os) c.in-Some.field-0.now g refl) c.requires.stands

pub returns-in_ok-leave-in-Some-end_of : goal.returns-in_ok-leave-in-Some-end_of
returns-in_ok-leave-in-Some-end_of c =
    let os = c.args.opened.now.items in
    let g : slice_get os (length os - 1) ≡ Some c.in-Some.field-0.now = search rules in
    let p : c.pop-ended.new.self.items ≡ take (length os - 1) os = search rules in
    ends_on c.args.mode c.requires.canonical c.args.rest.now os c.pop-ended.new.self.items c.args.copied.now.items c.leave.new.copied.items
    c.args.out.now.items c.leave.new.out.items c.in-Some-end_of.end.now c.in-Some-end_of.after.now c.in-Some.field-0.now
    (last_first os c.pop-ended.new.self.items c.in-Some.field-0.now g p) c.in-Some-end_of.ensures c.in_ok-leave-in-Some-end_of.ensures

pub returns-in-None : goal.returns-in-None
returns-in-None c = IfOk-weaker c.enter-in-None.result _ _
    (λ y e. enters_on c.args.mode c.args.rest.now c.args.opened.now.items _ c.args.copied.now.items _ c.args.out.now.items _ _ e)
    c.enter-in-None.ensures
