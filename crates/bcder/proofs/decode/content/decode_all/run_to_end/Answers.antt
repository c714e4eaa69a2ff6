use Rattle.std.proofs.Common.{refl}
use Rattle.bcder.specs.calls.Decoding.{by_closure, by_rest}
use Rattle.bcder.specs.calls.Views.{of_constructed}
use Rattle.bcder.specs.laws.Moved.{moved_twice_is_moved}
use Rattle.bcder.proofs.Entering.{no_fewer, looked_moves}
use Rattle.bcder.proofs.Decoding.{rest_refused, rest_faults, limited_refused, asked_same, asked_exhausted}
use Rattle.bcder.proofs.decode.content.decode_all.run_to_end.Goals as goal

pub returns-in-Ok-exhausted-clause-moves : goal.returns-in-Ok-exhausted-clause-moves
unfolding of_constructed
returns-in-Ok-exhausted-clause-moves g c =
    let e = c.exhausted.ensures in
    let d = of_constructed g.S.Source.stream c.run.new.cons in
    let s = g.S.Source.stream c.run.new.cons.source.now.source in
    let t = g.S.Source.stream c.exhausted.new.self.source in
    moved_twice_is_moved _ d _ c.run.ensures.moves
    (looked_moves d _ (asked_same d _ _ _ s t refl refl refl refl e.limit e.rest e.kept refl refl refl refl refl)
    (no_fewer _ _ c.in-Ok-exhausted.ensures.no_fault))

pub returns-in-Ok-exhausted-clause-ok : goal.returns-in-Ok-exhausted-clause-ok
unfolding of_constructed
returns-in-Ok-exhausted-clause-ok g c =
    let e = c.exhausted.ensures in
    let d = of_constructed g.S.Source.stream c.run.new.cons in
    let s = g.S.Source.stream c.run.new.cons.source.now.source in
    let t = g.S.Source.stream c.exhausted.new.self.source in
    record {
      left = d;
      answered = c.in-Ok.ensures.ok;
      usable = c.in-Ok.ensures.usable;
      same = asked_same d _ _ _ s t refl refl refl refl e.limit e.rest e.kept refl refl refl refl refl;
      no_fault = c.in-Ok-exhausted.ensures.no_fault;
      none_left = asked_exhausted c.run.new.cons.source.now.limit c.exhausted.new.self.limit s t e.limit e.rest c.in-Ok-exhausted.ensures.ok;
    }

pub returns-in-Err-exhausted-clause-moves : goal.returns-in-Err-exhausted-clause-moves
unfolding of_constructed
returns-in-Err-exhausted-clause-moves g c =
    let e = c.exhausted.ensures in
    let d = of_constructed g.S.Source.stream c.run.new.cons in
    let s = g.S.Source.stream c.run.new.cons.source.now.source in
    let t = g.S.Source.stream c.exhausted.new.self.source in
    let r = rest_refused _ s t _ c.in-Err-exhausted.ensures.cause c.in-Err-exhausted.ensures.at in
    moved_twice_is_moved _ d _ c.run.ensures.moves
    (looked_moves d _ (asked_same d _ _ _ s t refl refl refl refl e.limit e.rest e.kept refl refl refl refl refl)
    (rest_faults c.run.new.cons.source.now.limit s t c.in-Err-exhausted.error r))

pub returns-in-Err-exhausted-clause-refused : goal.returns-in-Err-exhausted-clause-refused
unfolding of_constructed
returns-in-Err-exhausted-clause-refused g c =
    let e = c.exhausted.ensures in
    let d = of_constructed g.S.Source.stream c.run.new.cons in
    let s = g.S.Source.stream c.run.new.cons.source.now.source in
    let t = g.S.Source.stream c.exhausted.new.self.source in
    by_rest c.in-Ok.value d c.in-Ok.ensures.ok c.in-Ok.ensures.usable
    (asked_same d _ _ _ s t refl refl refl refl e.limit e.rest e.kept refl refl refl refl refl)
    (limited_refused c.run.new.cons.source.now.limit c.exhausted.new.self.limit s t _
    (rest_refused _ s t _ c.in-Err-exhausted.ensures.cause c.in-Err-exhausted.ensures.at))

pub returns-in-Err-clause-refused : goal.returns-in-Err-clause-refused
returns-in-Err-clause-refused g c = by_closure c.in-Err.ensures.refused
