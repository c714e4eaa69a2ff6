use Rattle.bcder.specs.steps.StopCause.{stop_cause}
use Rattle.bcder.specs.calls.Views.{of_constructed}
use Rattle.bcder.specs.laws.Moved.{untouched_is_moved, moved_twice_is_moved, moved_carries}
use Rattle.bcder.proofs.SameBorrow.{within_constructed}
use Rattle.bcder.proofs.CapturingValues.{next_captured, next_failed, failed_moves, next_ended, next_stopped}
use Rattle.bcder.proofs.decode.content.Constructed.capture_opt_one.Goals as goal

pub returns-in-Ok-clause-moves : goal.returns-in-Ok-clause-moves
returns-in-Ok-clause-moves g c =
    let j = of_constructed g.S.Source.stream c.find_next.new.self in
    moved_carries _ _ (moved_twice_is_moved _ _ _ c.find_next.ensures.moves (c.capture_one.ensures.moves j (untouched_is_moved j)))

pub returns-in-Ok-clause-captured : goal.returns-in-Ok-clause-captured
returns-in-Ok-clause-captured g c =
    let i = of_constructed g.S.Source.stream c.args.self.now in
    let j = of_constructed g.S.Source.stream c.find_next.new.self in
    let k = of_constructed g.S.Source.stream c.capture_one.new.self in
    let f = rw c.in-Ok-Some.field-0-is at c.in-Ok-Some.ensures.found in
    next_captured i j f c.in-Ok-Some.ensures.no_fault k c.in-Ok.captured c.in-Ok.ensures.captured

pub returns-in-Err-capture_one-clause-moves : goal.returns-in-Err-capture_one-clause-moves
unfolding of_constructed
returns-in-Err-capture_one-clause-moves g c =
    let i = of_constructed g.S.Source.stream c.args.self.now in
    let j = of_constructed g.S.Source.stream c.find_next.new.self in
    let k = of_constructed g.S.Source.stream c.capture_one.new.self in
    let f = rw c.in-Ok-Some.field-0-is at c.in-Ok-Some.ensures.found in
    moved_carries _ _ (moved_twice_is_moved _ _ _ c.find_next.ensures.moves (moved_twice_is_moved _ _ _ (c.capture_one.ensures.moves j (untouched_is_moved j))
    (failed_moves i j f c.in-Ok-Some.ensures.no_fault k c.in-Err-capture_one.error c.in-Err-capture_one.ensures.captured)))

pub returns-in-Err-capture_one-clause-captured : goal.returns-in-Err-capture_one-clause-captured
unfolding of_constructed
returns-in-Err-capture_one-clause-captured g c =
    let i = of_constructed g.S.Source.stream c.args.self.now in
    let j = of_constructed g.S.Source.stream c.find_next.new.self in
    let k = of_constructed g.S.Source.stream c.capture_one.new.self in
    let f = rw c.in-Ok-Some.field-0-is at c.in-Ok-Some.ensures.found in
    next_failed i j f c.in-Ok-Some.ensures.no_fault k c.in-Err-capture_one.error c.in-Err-capture_one.ensures.captured

pub returns-in-Ok-None-clause-moves : goal.returns-in-Ok-None-clause-moves
returns-in-Ok-None-clause-moves g c = moved_carries _ _ c.find_next.ensures.moves

pub returns-in-Ok-None-clause-captured : goal.returns-in-Ok-None-clause-captured
unfolding of_constructed
returns-in-Ok-None-clause-captured g c =
    let i = of_constructed g.S.Source.stream c.args.self.now in
    let k = of_constructed g.S.Source.stream c.find_next.new.self in
    let n = rw c.in-Ok-None.field-0-is at c.in-Ok-None.ensures.none in
    next_ended i k n c.find_next.ensures.mode

pub returns-in-Err-clause-moves : goal.returns-in-Err-clause-moves
returns-in-Err-clause-moves g c = moved_carries _ _ c.find_next.ensures.moves

pub returns-in-Err-clause-captured : goal.returns-in-Err-clause-captured
unfolding of_constructed
returns-in-Err-clause-captured g c =
    let i = of_constructed g.S.Source.stream c.args.self.now in
    let k = of_constructed g.S.Source.stream c.find_next.new.self in
    next_stopped stop_cause c.in-Err.stop c.stop_error.result i k (within_constructed g.S.Source.stream g.met.S.Source.sound c.args.self.now)
    c.stop_error.ensures c.in-Err.ensures.refused c.in-Err.ensures.failed c.find_next.ensures.mode c.find_next.ensures.marked
