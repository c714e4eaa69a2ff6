use Rattle.std.proofs.Common.{refl}
use Rattle.bcder.specs.calls.Views.{of_primitive}
use Rattle.bcder.specs.laws.Moved.{moved_carries}
use Rattle.bcder.proofs.Entering.{no_fewer, grew_least}
use Rattle.bcder.proofs.Remaining.{limit_stays, asked_moves}
use Rattle.bcder.proofs.decode.content.Primitive.request_all.Goals as goal

pub returns-then-found-owed-clause-moves : goal.returns-then-found-owed-clause-moves
unfolding of_primitive
returns-then-found-owed-clause-moves g c =
    moved_carries _ _ (asked_moves _ _ (g.S.Source.stream c.args.self.now.source.now.source) (g.S.Source.stream c.request.new.self.source)
    c.args.self.now.source.now.limit c.request.new.self.limit refl refl refl refl c.request.ensures.rest c.request.ensures.kept
    (no_fewer _ _ c.in-Ok.ensures.no_fault) refl refl refl refl refl)

pub returns-else-found-owed-clause-moves : goal.returns-else-found-owed-clause-moves
unfolding of_primitive
returns-else-found-owed-clause-moves g c =
    moved_carries _ _ (asked_moves _ _ (g.S.Source.stream c.args.self.now.source.now.source) (g.S.Source.stream c.request.new.self.source)
    c.args.self.now.source.now.limit c.request.new.self.limit refl refl refl refl c.request.ensures.rest c.request.ensures.kept
    (no_fewer _ _ c.in-Ok.ensures.no_fault) refl refl refl refl refl)

pub returns-else-found-owed-clause-owed : goal.returns-else-found-owed-clause-owed
unfolding of_primitive
returns-else-found-owed-clause-owed g c = limit_stays _ _ (g.S.Source.stream c.args.self.now.source.now.source)
    (g.S.Source.stream c.request.new.self.source) c.request.ensures.rest c.request.ensures.kept

pub returns-in-Err-clause-moves : goal.returns-in-Err-clause-moves
unfolding of_primitive
returns-in-Err-clause-moves g c =
    moved_carries _ _ (asked_moves _ _ (g.S.Source.stream c.args.self.now.source.now.source) (g.S.Source.stream c.request.new.self.source)
    c.args.self.now.source.now.limit c.request.new.self.limit refl refl refl refl c.request.ensures.rest c.request.ensures.kept
    (grew_least _ _ c.in-Err.ensures.fault) refl refl refl refl refl)

pub returns-in-Err-clause-owed : goal.returns-in-Err-clause-owed
unfolding of_primitive
returns-in-Err-clause-owed g c = limit_stays _ _ (g.S.Source.stream c.args.self.now.source.now.source)
    (g.S.Source.stream c.request.new.self.source) c.request.ensures.rest c.request.ensures.kept
