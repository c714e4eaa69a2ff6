use Rattle.bcder.specs.calls.Views.{of_constructed}
use Rattle.bcder.specs.laws.Moved.{untouched_is_moved}
use Rattle.bcder.proofs.Lemmas.{constructed_is_within_owed, constructed_is_not_octets}
use Rattle.asn1.proofs.PassedOver.{none_to_skip, refuses_to_skip, skipped_all, refuses_behind}
use Rattle.asn1.proofs.additions.ExtensionAdditionsDecodeFields.trace_fields.Goals as goal

pub returns-in-Ok-clause-took : goal.returns-in-Ok-clause-took
returns-in-Ok-clause-took g c =
    let stream = g.S.Source.stream in
    let i = of_constructed stream c.args.cons.now in
    let j = of_constructed stream c.skip_one.new.self in
    let w = constructed_is_within_owed stream g.met.S.Source.sound c.args.cons.now in
    let m = c.skip_one.ensures.moves i (untouched_is_moved i) in
    skipped_all i j (of_constructed stream c.skip_all.new.self) w (constructed_is_not_octets stream c.skip_one.new.self)
    (constructed_is_not_octets stream c.skip_all.new.self) m _ (rw c.in-Ok-Some.field-0-is at c.in-Ok-Some.ensures.skipped) _
    c.in-Ok.ensures.skipped

pub returns-in-Err-skip_all-clause-took : goal.returns-in-Err-skip_all-clause-took
returns-in-Err-skip_all-clause-took g c =
    let stream = g.S.Source.stream in
    let i = of_constructed stream c.args.cons.now in
    let j = of_constructed stream c.skip_one.new.self in
    let w = constructed_is_within_owed stream g.met.S.Source.sound c.args.cons.now in
    let m = c.skip_one.ensures.moves i (untouched_is_moved i) in
    refuses_behind i j (of_constructed stream c.skip_all.new.self) w (constructed_is_not_octets stream c.skip_one.new.self)
    (constructed_is_not_octets stream c.skip_all.new.self) m _ (rw c.in-Ok-Some.field-0-is at c.in-Ok-Some.ensures.skipped) _
    c.in-Err-skip_all.ensures.skipped

pub returns-in-Ok-None-clause-took : goal.returns-in-Ok-None-clause-took
returns-in-Ok-None-clause-took g c =
    let stream = g.S.Source.stream in
    let i = of_constructed stream c.args.cons.now in
    let j = of_constructed stream c.skip_one.new.self in
    none_to_skip _ i j (constructed_is_not_octets stream c.args.cons.now) (constructed_is_not_octets stream c.skip_one.new.self)
    (rw c.in-Ok-None.field-0-is at c.in-Ok-None.ensures.skipped)

pub returns-in-Err-clause-took : goal.returns-in-Err-clause-took
returns-in-Err-clause-took g c =
    let stream = g.S.Source.stream in
    let i = of_constructed stream c.args.cons.now in
    let j = of_constructed stream c.skip_one.new.self in
    refuses_to_skip i j (constructed_is_not_octets stream c.args.cons.now) _ c.in-Err.ensures.skipped
