use Rattle.std.proofs.Common.{false}
use Rattle.std.specs.Prelude.{Some}
use Rattle.bcder.specs.steps.StopCause.{stop_cause}
use Rattle.bcder.specs.calls.Content.{tagged}
use Rattle.bcder.specs.steps.Peek.{header_of}
use Rattle.bcder.specs.calls.Views.{of_constructed}
use Rattle.bcder.specs.laws.Moved.{moved_carries}
use Rattle.bcder.proofs.Ahead.{next_answered}
use Rattle.bcder.proofs.Taking.{takes_next, moves_next, next_none, inside_entered}
use Rattle.bcder.proofs.decode.content.Constructed.take_opt_constructed_if.Goals as goal

pub take_constructed_body-requires-clause-callable : goal.take_constructed_body-requires-clause-callable
take_constructed_body-requires-clause-callable g c p i =
    let e = rw c.in-Ok-Some.field-0-is at c.in-Ok-Some.ensures.entered in
    c.requires.callable _ p (inside_entered (of_constructed g.S.Source.stream c.args.self.now) _ _ _ (tagged c.args.tag) e.0 e.1 i)

pub take_constructed_body-requires-clause-lawful : goal.take_constructed_body-requires-clause-lawful
take_constructed_body-requires-clause-lawful g c p r q i d =
    let e = rw c.in-Ok-Some.field-0-is at c.in-Ok-Some.ensures.entered in
    c.requires.lawful _ p r q (inside_entered (of_constructed g.S.Source.stream c.args.self.now) _ _ _ (tagged c.args.tag) e.0 e.1 i) d

pub take_constructed_body-requires-clause-fits : goal.take_constructed_body-requires-clause-fits
unfolding of_constructed
take_constructed_body-requires-clause-fits g c =
    let e = rw c.in-Ok-Some.field-0-is at c.in-Ok-Some.ensures.entered in
    e.1.fits

pub returns-clause-moves : goal.returns-clause-moves
returns-clause-moves g c =
    let e = rw c.in-Ok-Some.field-0-is at c.in-Ok-Some.ensures.entered in
    moved_carries _ _ (moves_next (of_constructed g.S.Source.stream) _ (Some false) (tagged c.args.tag) (of_constructed g.S.Source.stream c.args.self.now) _ _
    (header_of c.in-Ok-Some.header) e.0 e.1 _ c.take_constructed_body.ensures)

pub returns-clause-took : goal.returns-clause-took
returns-clause-took g c =
    let e = rw c.in-Ok-Some.field-0-is at c.in-Ok-Some.ensures.entered in
    takes_next (of_constructed g.S.Source.stream) _ (Some false) (tagged c.args.tag) (of_constructed g.S.Source.stream c.args.self.now) _ _
    (header_of c.in-Ok-Some.header) e.0 e.1 _ c.take_constructed_body.ensures

pub returns-in-Ok-None-clause-moves : goal.returns-in-Ok-None-clause-moves
returns-in-Ok-None-clause-moves g c = moved_carries _ _ c.next_header.ensures.moves

pub returns-in-Ok-None-clause-took : goal.returns-in-Ok-None-clause-took
unfolding of_constructed
returns-in-Ok-None-clause-took g c = next_none (of_constructed g.S.Source.stream) _ (Some false) (tagged c.args.tag) _
    (of_constructed g.S.Source.stream c.next_header.new.self) c.next_header.ensures.mode (rw c.in-Ok-None.field-0-is at c.in-Ok-None.ensures.none)

pub returns-in-Err-clause-moves : goal.returns-in-Err-clause-moves
returns-in-Err-clause-moves g c = moved_carries _ _ c.next_header.ensures.moves

pub returns-in-Err-clause-took : goal.returns-in-Err-clause-took
unfolding of_constructed
returns-in-Err-clause-took g c =
    next_answered (of_constructed g.S.Source.stream) _ (Some false) (tagged c.args.tag) (of_constructed g.S.Source.stream c.args.self.now)
    (of_constructed g.S.Source.stream c.next_header.new.self) c.next_header.ensures.mode
    stop_cause _ _ c.refuse_for.ensures c.next_header.ensures.marked c.in-Err.ensures.failed c.in-Err.ensures.refused
