use Rattle.std.proofs.Common.{◌≡◌, true, false, rules, subst}
use Rattle.bcder.specs.x690.Identifier.{null_tag}
use Rattle.bcder.specs.declared.mode.Mode.TheVariants.{Der}
use Rattle.bcder.specs.calls.Views.{of_constructed}
use Rattle.asn1.specs.Sets.{Rise, kept_place}
use Rattle.asn1.proofs.SetTaken.{keeps_none, refuses_tags, refuses_order, reads_set, refuses_members}
use Rattle.asn1.proofs.set.take_members.Goals as goal

pub returns-in-Err-clause-took : goal.returns-in-Err-clause-took
returns-in-Err-clause-took g c =
    keeps_none null_tag g.F.SetOrder.place g.F.Fields.takes (of_constructed g.S.Source.stream c.args.cons.now)
    (of_constructed g.S.Source.stream c.take_list.new.cons)
    c.in-Err.error c.in-Err.ensures.took

pub returns-then-not-stand_by_tag-clause-took : goal.returns-then-not-stand_by_tag-clause-took
returns-then-not-stand_by_tag-clause-took g c =
    let t : c.stand_by_tag.result ≡ false = search rules in
    let n = c.stand_by_tag.ensures.no t in
    refuses_tags null_tag g.F.SetOrder.place g.F.Fields.takes (of_constructed g.S.Source.stream c.args.cons.now)
    (of_constructed g.S.Source.stream c.take_list.new.cons)
    c.in-Ok.values.items c.in-Ok.ensures.took c.mode-mode.result c.mode-mode.ensures c.refuse_order.result
    (subst (λ z. (c.mode-mode.result ≡ Der) × (Rise kept_place z → ⊥)) c.as_slice.ensures.value n)
    c.refuse_order.ensures

pub returns-then-not-put_in_order-clause-took : goal.returns-then-not-put_in_order-clause-took
returns-then-not-put_in_order-clause-took g c =
    let t : c.put_in_order.result ≡ false = search rules in
    refuses_order null_tag g.F.SetOrder.place g.F.Fields.takes (of_constructed g.S.Source.stream c.args.cons.now)
    (of_constructed g.S.Source.stream c.take_list.new.cons)
    c.in-Ok.values.items c.in-Ok.ensures.took c.mode-mode.result c.mode-mode.ensures c.refuse_order-then-not-put_in_order.result (c.put_in_order.ensures.no t)
    c.refuse_order-then-not-put_in_order.ensures

pub returns-in-Ok-read_members-clause-took : goal.returns-in-Ok-read_members-clause-took
returns-in-Ok-read_members-clause-took g c =
    let t : c.put_in_order.result ≡ true = search rules in
    let b : c.stand_by_tag.result ≡ true = search rules in
    let s = subst (λ z. c.mode-mode.result ≡ Der → Rise kept_place z) c.as_slice.ensures.value (c.stand_by_tag.ensures.yes b) in
    reads_set null_tag g.F.SetOrder.place g.F.Fields.takes (of_constructed g.S.Source.stream c.args.cons.now)
    (of_constructed g.S.Source.stream c.take_list.new.cons)
    c.in-Ok.values.items c.in-Ok.ensures.took c.mode-mode.result c.mode-mode.ensures s c.put_in_order.new.values.items (c.put_in_order.ensures.yes t)
    c.in-Ok-read_members.fields c.in-Ok-read_members.ensures.value

pub returns-clause-took : goal.returns-clause-took
returns-clause-took g c =
    let t : c.put_in_order.result ≡ true = search rules in
    let b : c.stand_by_tag.result ≡ true = search rules in
    let s = subst (λ z. c.mode-mode.result ≡ Der → Rise kept_place z) c.as_slice.ensures.value (c.stand_by_tag.ensures.yes b) in
    refuses_members null_tag g.F.SetOrder.place g.F.Fields.takes (of_constructed g.S.Source.stream c.args.cons.now)
    (of_constructed g.S.Source.stream c.take_list.new.cons)
    c.in-Ok.values.items c.in-Ok.ensures.took c.mode-mode.result c.mode-mode.ensures s c.put_in_order.new.values.items (c.put_in_order.ensures.yes t)
    c.in-Err-read_members.error c.in-Err-read_members.ensures.refused
