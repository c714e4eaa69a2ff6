use Rattle.std.proofs.Common.{refl, inl, rules}
use Rattle.bcder.specs.steps.StopCause.{stop_cause}
use Rattle.bcder.specs.calls.Content.{failed, source}
use Rattle.bcder.specs.calls.Views.{of_constructed}
use Rattle.bcder.specs.laws.Moved.{moved_twice_is_moved}
use Rattle.bcder.proofs.Ahead.{ahead}
use Rattle.bcder.proofs.Entering.{looked_moves, looked_failed, no_fewer, grew_least}
use Rattle.bcder.proofs.SameBorrow.{with_source, resembles_with_source}
use Rattle.bcder.proofs.decode.content.Constructed.next_octets_if.Goals as goal

pub returns-in-Failed-clause-entered : goal.returns-in-Failed-clause-entered
unfolding of_constructed
returns-in-Failed-clause-entered g c =
    record { entered = tt; none = tt; refused = inl (failed c.in-Failed.is tt); failed = c.in-Failed.is; mode = refl; marked = refl }

pub returns-in-Ended-clause-entered : goal.returns-in-Ended-clause-entered
unfolding of_constructed
returns-in-Ended-clause-entered g c = record { entered = tt; none = search rules; refused = tt; failed = tt; mode = refl; marked = refl }

pub returns-in-Some-eq0-clause-entered : goal.returns-in-Some-eq0-clause-entered
unfolding of_constructed
returns-in-Some-eq0-clause-entered g c = record { entered = tt; none = search rules; refused = tt; failed = tt; mode = refl; marked = refl }

pub returns-in-Ok-Some-clause-moves : goal.returns-in-Ok-Some-clause-moves
unfolding of_constructed
returns-in-Ok-Some-clause-moves g c = moved_twice_is_moved _ _ _ (looked_moves _ _ (resembles_with_source g.S.Source.stream c.args.self.now
    c.peek_short.new.source c.peek_short.ensures.rest c.peek_short.ensures.kept) (no_fewer _ _ c.in-Ok-Some.ensures.no_fault)) c.enter_octets.ensures.moves

pub returns-in-Ok-Some-clause-entered : goal.returns-in-Ok-Some-clause-entered
unfolding of_constructed
returns-in-Ok-Some-clause-entered g c =
    ahead (of_constructed g.S.Source.stream c.args.self.now) (of_constructed g.S.Source.stream (with_source c.args.self.now c.peek_short.new.source))
    (of_constructed g.S.Source.stream c.enter_octets.new.self)
    (resembles_with_source g.S.Source.stream c.args.self.now c.peek_short.new.source c.peek_short.ensures.rest c.peek_short.ensures.kept)
    c.in-Ok-Some.ensures.no_fault c.args.tag stop_cause c.enter_octets.result c.enter_octets.ensures.entered

pub returns-in-Ok-None-clause-moves : goal.returns-in-Ok-None-clause-moves
unfolding of_constructed
returns-in-Ok-None-clause-moves g c = moved_twice_is_moved _ _ _ (looked_moves _ _ (resembles_with_source g.S.Source.stream c.args.self.now
    c.peek_short.new.source c.peek_short.ensures.rest c.peek_short.ensures.kept) (no_fewer _ _ c.in-Ok-None.ensures.no_fault)) c.next_long_if.ensures.moves

pub returns-in-Ok-None-clause-entered : goal.returns-in-Ok-None-clause-entered
unfolding of_constructed
returns-in-Ok-None-clause-entered g c =
    ahead (of_constructed g.S.Source.stream c.args.self.now) (of_constructed g.S.Source.stream (with_source c.args.self.now c.peek_short.new.source))
    (of_constructed g.S.Source.stream c.next_long_if.new.self)
    (resembles_with_source g.S.Source.stream c.args.self.now c.peek_short.new.source c.peek_short.ensures.rest c.peek_short.ensures.kept)
    c.in-Ok-None.ensures.no_fault c.args.tag stop_cause c.next_long_if.result c.next_long_if.ensures.entered

pub returns-in-Err-clause-moves : goal.returns-in-Err-clause-moves
unfolding of_constructed
returns-in-Err-clause-moves g c =
    looked_failed _ _ (resembles_with_source g.S.Source.stream c.args.self.now c.peek_short.new.source c.peek_short.ensures.rest c.peek_short.ensures.kept)
    (grew_least _ _ c.in-Err.ensures.fault) _ c.in-Open.is refl refl refl refl refl refl refl

pub returns-in-Err-clause-entered : goal.returns-in-Err-clause-entered
unfolding of_constructed
returns-in-Err-clause-entered g c = record {
  entered = tt;
  none = tt;
  refused = inl (source refl c.in-Err.ensures.fault);
  failed = refl;
  mode = (resembles_with_source g.S.Source.stream c.args.self.now c.peek_short.new.source c.peek_short.ensures.rest c.peek_short.ensures.kept).mode;
  marked = (resembles_with_source g.S.Source.stream c.args.self.now c.peek_short.new.source c.peek_short.ensures.rest c.peek_short.ensures.kept).marked;
}

pub enter_octets-requires-clause-read : goal.enter_octets-requires-clause-read
enter_octets-requires-clause-read g c = (rw c.in-Ok-Some.field-0-is at c.in-Ok-Some.ensures.peeked) c.args.self.now.mode
