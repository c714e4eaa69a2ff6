use Rattle.std.proofs.Common.{true, ap, sym, subst}
use Rattle.std.specs.Prelude.{Some}
use Rattle.bcder.specs.declared.decode.header.Header.{Header as CodeHeader}
use Rattle.bcder.specs.steps.StopCause.{stop_cause}
use Rattle.bcder.specs.calls.Content.{tagged}
use Rattle.bcder.specs.steps.Entering.{Enters}
use Rattle.bcder.specs.steps.Peek.{header_of}
use Rattle.bcder.specs.calls.Views.{of_constructed, of_primitive}
use Rattle.bcder.specs.laws.Moved.{moved_carries}
use Rattle.bcder.proofs.Ahead.{next_stops}
use Rattle.bcder.proofs.Taking.{takes_next, moves_next, next_none, inside_entered}
use Rattle.bcder.proofs.decode.content.Constructed.take_opt_primitive_if.Goals as goal

pub take_primitive_body-requires-clause-callable : goal.take_primitive_body-requires-clause-callable
take_primitive_body-requires-clause-callable g c p i =
    let h = c.octets_header.ensures in
    let t = ap (λ (k : CodeHeader). k.tag) h in
    let e = subst (λ k. Enters (of_constructed g.S.Source.stream c.args.self.now) (header_of k) (of_constructed g.S.Source.stream c.next_octets_if.new.self))
    (sym h) (rw c.in-Ok-Some.field-0-is at c.in-Ok-Some.ensures.entered.entered) in
    c.requires.callable _ p (inside_entered (of_constructed g.S.Source.stream c.args.self.now) _ _ _ (tagged c.args.tag) t e i)

pub take_primitive_body-requires-clause-lawful : goal.take_primitive_body-requires-clause-lawful
take_primitive_body-requires-clause-lawful g c p r q i d =
    let h = c.octets_header.ensures in
    let t = ap (λ (k : CodeHeader). k.tag) h in
    let e = subst (λ k. Enters (of_constructed g.S.Source.stream c.args.self.now) (header_of k) (of_constructed g.S.Source.stream c.next_octets_if.new.self))
    (sym h) (rw c.in-Ok-Some.field-0-is at c.in-Ok-Some.ensures.entered.entered) in
    c.requires.lawful _ p r q (inside_entered (of_constructed g.S.Source.stream c.args.self.now) _ _ _ (tagged c.args.tag) t e i) d

pub take_primitive_body-requires-clause-fits : goal.take_primitive_body-requires-clause-fits
unfolding of_constructed
take_primitive_body-requires-clause-fits g c =
    let h = c.octets_header.ensures in
    let t = ap (λ (k : CodeHeader). k.tag) h in
    let e = subst (λ k. Enters (of_constructed g.S.Source.stream c.args.self.now) (header_of k) (of_constructed g.S.Source.stream c.next_octets_if.new.self))
    (sym h) (rw c.in-Ok-Some.field-0-is at c.in-Ok-Some.ensures.entered.entered) in
    e.fits

pub returns-clause-moves : goal.returns-clause-moves
returns-clause-moves g c =
    let h = c.octets_header.ensures in
    let t = ap (λ (k : CodeHeader). k.tag) h in
    let e = subst (λ k. Enters (of_constructed g.S.Source.stream c.args.self.now) (header_of k) (of_constructed g.S.Source.stream c.next_octets_if.new.self))
    (sym h) (rw c.in-Ok-Some.field-0-is at c.in-Ok-Some.ensures.entered.entered) in
    moved_carries _ _ (moves_next (of_primitive g.S.Source.stream) _ (Some true) (tagged c.args.tag) (of_constructed g.S.Source.stream c.args.self.now) _ _
    (header_of c.octets_header.result) t e _ c.take_primitive_body.ensures)

pub returns-clause-took : goal.returns-clause-took
returns-clause-took g c =
    let h = c.octets_header.ensures in
    let t = ap (λ (k : CodeHeader). k.tag) h in
    let e = subst (λ k. Enters (of_constructed g.S.Source.stream c.args.self.now) (header_of k) (of_constructed g.S.Source.stream c.next_octets_if.new.self))
    (sym h) (rw c.in-Ok-Some.field-0-is at c.in-Ok-Some.ensures.entered.entered) in
    takes_next (of_primitive g.S.Source.stream) _ (Some true) (tagged c.args.tag) (of_constructed g.S.Source.stream c.args.self.now) _ _
    (header_of c.octets_header.result) t e _ c.take_primitive_body.ensures

pub returns-in-Ok-None-clause-moves : goal.returns-in-Ok-None-clause-moves
returns-in-Ok-None-clause-moves g c = moved_carries _ _ c.next_octets_if.ensures.moves

pub returns-in-Ok-None-clause-took : goal.returns-in-Ok-None-clause-took
unfolding of_constructed
returns-in-Ok-None-clause-took g c =
    next_none (of_primitive g.S.Source.stream) _ (Some true) (tagged c.args.tag) _ (of_constructed g.S.Source.stream c.next_octets_if.new.self)
    c.next_octets_if.ensures.entered.mode (rw c.in-Ok-None.field-0-is at c.in-Ok-None.ensures.entered.none)

pub returns-in-Err-clause-moves : goal.returns-in-Err-clause-moves
returns-in-Err-clause-moves g c = moved_carries _ _ c.next_octets_if.ensures.moves

pub returns-in-Err-clause-took : goal.returns-in-Err-clause-took
unfolding of_constructed
returns-in-Err-clause-took g c =
    next_stops (of_primitive g.S.Source.stream) _ (of_constructed g.S.Source.stream c.args.self.now)
    (of_constructed g.S.Source.stream c.next_octets_if.new.self) c.next_octets_if.ensures.entered.mode c.args.tag
    stop_cause _ _ c.refuse_for.ensures c.next_octets_if.ensures.entered.marked c.in-Err.ensures.entered.failed c.in-Err.ensures.entered.refused
