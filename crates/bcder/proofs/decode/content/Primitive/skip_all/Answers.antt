use Rattle.std.proofs.Common.{◌≡◌, ◌≤◌, ◌∙◌, Some, length, refl, sym, arith}
use Rattle.bcder.specs.calls.Stream.{cut}
use Rattle.bcder.specs.laws.Limits.{limited_sound}
use Rattle.bcder.specs.calls.Views.{of_primitive}
use Rattle.bcder.specs.laws.Moved.{untouched_is_moved, moved_carries}
use Rattle.bcder.proofs.Entering.{no_fewer, grew_least}
use Rattle.bcder.proofs.Remaining.{limit_stays, limit_used, asked_moves, passed_moves}
use Rattle.bcder.proofs.decode.content.Primitive.skip_all.Goals as goal

pub returns-then-found-owed-clause-moves : goal.returns-then-found-owed-clause-moves
unfolding of_primitive
returns-then-found-owed-clause-moves g c =
    moved_carries _ _ (asked_moves _ _ (g.S.Source.stream c.args.self.now.source.now.source) (g.S.Source.stream c.request.new.self.source)
    c.args.self.now.source.now.limit c.request.new.self.limit refl refl refl refl c.request.ensures.rest c.request.ensures.kept
    (no_fewer _ _ c.in-Ok.ensures.no_fault) refl refl refl refl refl)

pub returns-else-found-owed-clause-moves : goal.returns-else-found-owed-clause-moves
unfolding of_primitive
returns-else-found-owed-clause-moves g c =
    moved_carries _ _ (passed_moves _ _ (g.S.Source.stream c.args.self.now.source.now.source) (g.S.Source.stream c.request.new.self.source) (g.S.Source.stream
    c.advance.new.self.source) c.args.self.now.source.now.limit c.request.new.self.limit c.advance.new.self.limit c.in-Some.owed refl refl refl refl
    (g.met.S.Source.sound c.request.new.self.source) c.request.ensures.rest c.request.ensures.kept (no_fewer _ _ c.in-Ok.ensures.no_fault) (let a =
    c.in-Ok.ensures.ok in omega (arith, a.count)) c.advance.ensures.rest c.advance.ensures.kept c.advance.ensures.faults refl refl refl refl refl refl refl)

pub returns-else-found-owed-clause-none_owed : goal.returns-else-found-owed-clause-none_owed
unfolding of_primitive
returns-else-found-owed-clause-none_owed g c =
    let s = g.S.Source.stream c.args.self.now.source.now.source in
    let t = g.S.Source.stream c.request.new.self.source in
    let e : c.request.new.self.limit ≡ Some c.in-Some.owed =
    limit_stays _ _ s t c.request.ensures.rest c.request.ensures.kept ∙ sym c.limit.ensures ∙ c.in-Some.is in
    let a = c.in-Ok.ensures.ok in
    let h = limited_sound c.request.new.self.limit t (g.met.S.Source.sound c.request.new.self.source) in
    let w : c.in-Some.owed ≤ length (cut c.request.new.self.limit t.rest) = omega (arith, a.count, h.at_hand) in
    limit_used c.request.new.self.limit c.advance.new.self.limit c.in-Some.owed t
    (g.S.Source.stream c.advance.new.self.source) e c.advance.ensures.rest c.advance.ensures.kept w

pub returns-in-Err-clause-moves : goal.returns-in-Err-clause-moves
unfolding of_primitive
returns-in-Err-clause-moves g c =
    moved_carries _ _ (asked_moves _ _ (g.S.Source.stream c.args.self.now.source.now.source) (g.S.Source.stream c.request.new.self.source)
    c.args.self.now.source.now.limit c.request.new.self.limit refl refl refl refl c.request.ensures.rest c.request.ensures.kept
    (grew_least _ _ c.in-Err.ensures.fault) refl refl refl refl refl)

pub returns-in-Err-clause-still_owed : goal.returns-in-Err-clause-still_owed
unfolding of_primitive
returns-in-Err-clause-still_owed g c = limit_stays _ _ (g.S.Source.stream c.args.self.now.source.now.source)
    (g.S.Source.stream c.request.new.self.source) c.request.ensures.rest c.request.ensures.kept

pub returns-in-None-clause-moves : goal.returns-in-None-clause-moves
returns-in-None-clause-moves g c = moved_carries _ _ (untouched_is_moved _)
