use Rattle.std.proofs.Common.{refl, ◌∙◌, ◌||◌}
use Rattle.bcder.specs.calls.Content.{Reading, values}
use Rattle.bcder.specs.calls.Views.{of_constructed, limited_stream}
use Rattle.bcder.specs.laws.Moved.{moved_carries}
use Rattle.bcder.proofs.Capturing.{captured_hands, captured_moves, captured_ends, captured_what, refused_moves, refused_what}
use Rattle.bcder.proofs.decode.content.Constructed.capture.Goals as goal

pub capture_over-result-requires-clause-callable : goal.capture_over-result-requires-clause-callable
unfolding of_constructed
capture_over-result-requires-clause-callable g c =
    λ p h. c.requires.callable p (captured_hands (of_constructed g.S.Source.stream c.args.self.now) _
    (g.S.Source.stream c.args.self.now.source.now.source) c.args.self.now.source.now.limit _ _ _ _ refl refl refl refl refl c.owed-limit.ensures h)

pub capture_over-result-requires-clause-lawful : goal.capture_over-result-requires-clause-lawful
unfolding of_constructed
capture_over-result-requires-clause-lawful g c =
    λ p r q h. c.requires.lawful p r q (captured_hands (of_constructed g.S.Source.stream c.args.self.now) _
    (g.S.Source.stream c.args.self.now.source.now.source) c.args.self.now.source.now.limit _ _ _ _ refl refl refl refl refl c.owed-limit.ensures h)

pub strip_marker-octets-requires : goal.strip_marker-octets-requires
unfolding of_constructed
strip_marker-octets-requires g c =
    let old = c.args.self.now in let new = c.capture_over-result.new.source in let r = c.capture_over-result.result in
    let d : Reading = record {
      stream = limited_stream g.S.Source.stream new;
      owed = new.limit;
      kind = values old.kind;
      state = r.1;
      mode = old.mode;
      marked = (old.marked || r.2);
      name = old.source.ghost_name;
    } in
    captured_ends _ _ (of_constructed g.S.Source.stream old) d (g.S.Source.stream old.source.now.source)
    (g.S.Source.stream new.source) old.source.now.limit new.limit _ old.kind old.state r.1 old.mode r.2 refl refl refl refl refl refl refl refl refl refl
    refl c.owed-limit.ensures _ _ c.in-Ok.is c.capture_over-result.ensures refl _ _ c.label-mode.ensures c.ends.ensures

pub returns-in-Ok-clause-moves : goal.returns-in-Ok-clause-moves
unfolding of_constructed
returns-in-Ok-clause-moves g c =
    let old = c.args.self.now in let new = c.capture_over-result.new.source in let r = c.capture_over-result.result in
    let d : Reading = record {
      stream = limited_stream g.S.Source.stream new;
      owed = new.limit;
      kind = values old.kind;
      state = r.1;
      mode = old.mode;
      marked = (old.marked || r.2);
      name = old.source.ghost_name;
    } in
    moved_carries _ _ (captured_moves _ _ (of_constructed g.S.Source.stream old) d (g.S.Source.stream old.source.now.source)
    (g.S.Source.stream new.source) old.source.now.limit new.limit _ old.kind old.state r.1 old.mode r.2 refl refl refl refl refl refl refl refl refl refl
    refl c.owed-limit.ensures _ _ c.in-Ok.is c.capture_over-result.ensures refl)

pub returns-in-Ok-clause-captured : goal.returns-in-Ok-clause-captured
unfolding of_constructed
returns-in-Ok-clause-captured g c =
    let old = c.args.self.now in let new = c.capture_over-result.new.source in let r = c.capture_over-result.result in
    let d : Reading = record {
      stream = limited_stream g.S.Source.stream new;
      owed = new.limit;
      kind = values old.kind;
      state = r.1;
      mode = old.mode;
      marked = (old.marked || r.2);
      name = old.source.ghost_name;
    } in
    captured_what _ _ (of_constructed g.S.Source.stream old) d (g.S.Source.stream old.source.now.source)
    (g.S.Source.stream new.source) old.source.now.limit new.limit _ old.kind old.state r.1 old.mode r.2 refl refl refl refl refl refl refl refl refl refl
    refl c.owed-limit.ensures _ _ c.in-Ok.is c.capture_over-result.ensures refl c.new.result _ _ c.label-mode.ensures c.ends.ensures
    (rw c.new.ensures.octets c.strip_marker-octets.ensures) c.new.ensures.mode (c.new.ensures.start ∙ c.position-start.ensures)

pub returns-in-Err-clause-moves : goal.returns-in-Err-clause-moves
unfolding of_constructed
returns-in-Err-clause-moves g c =
    let old = c.args.self.now in let new = c.capture_over-result.new.source in let r = c.capture_over-result.result in
    let d : Reading = record {
      stream = limited_stream g.S.Source.stream new;
      owed = new.limit;
      kind = values old.kind;
      state = old.state;
      mode = old.mode;
      marked = (old.marked || r.2);
      name = old.source.ghost_name;
    } in
    moved_carries _ _ (refused_moves _ _ (of_constructed g.S.Source.stream old) d (g.S.Source.stream old.source.now.source)
    (g.S.Source.stream new.source) old.source.now.limit new.limit _ old.kind old.state r.1 old.mode r.2 refl refl refl refl refl refl refl refl refl refl
    refl c.owed-limit.ensures _ _ c.in-Err.is c.capture_over-result.ensures refl)

pub returns-in-Err-clause-refused : goal.returns-in-Err-clause-refused
unfolding of_constructed
returns-in-Err-clause-refused g c =
    let old = c.args.self.now in let new = c.capture_over-result.new.source in let r = c.capture_over-result.result in
    let d : Reading = record {
      stream = limited_stream g.S.Source.stream new;
      owed = new.limit;
      kind = values old.kind;
      state = old.state;
      mode = old.mode;
      marked = (old.marked || r.2);
      name = old.source.ghost_name;
    } in
    refused_what _ _ (of_constructed g.S.Source.stream old) d (g.S.Source.stream old.source.now.source)
    (g.S.Source.stream new.source) old.source.now.limit new.limit _ old.kind old.state r.1 old.mode r.2 refl refl refl refl refl refl refl refl refl refl
    refl c.owed-limit.ensures _ _ c.in-Err.is c.capture_over-result.ensures refl
