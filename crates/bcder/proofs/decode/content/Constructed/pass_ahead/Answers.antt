use Rattle.std.proofs.Common.{◌∙◌, take, refl, sym, rules, subst}
use Rattle.bcder.specs.x690.Encoding.{IsEncoding}
use Rattle.bcder.specs.calls.Views.{of_constructed}
use Rattle.bcder.specs.laws.Moved.{moved_twice_is_moved}
use Rattle.bcder.proofs.Entering.{looked_moves, looked_failed, no_fewer, grew_least}
use Rattle.bcder.proofs.Passing.{passes_encoding, moves_encoding, looked_passes}
use Rattle.bcder.proofs.decode.content.Constructed.pass_ahead.Goals as goal

pub returns-in-Ok-None-clause-moves : goal.returns-in-Ok-None-clause-moves
returns-in-Ok-None-clause-moves g c = looked_moves _ _ c.look_ahead.ensures.same (no_fewer _ _ c.in-Ok-None.ensures.no_fault)

pub returns-in-Ok-Some-clause-moves : goal.returns-in-Ok-Some-clause-moves
unfolding of_constructed
returns-in-Ok-Some-clause-moves g c =
    let i = of_constructed g.S.Source.stream c.args.self.now in
    let j = of_constructed g.S.Source.stream c.look_ahead.new.self in
    let s = c.look_ahead.ensures.same in
    let b = rw c.in-Ok-Some.field-0-is at c.in-Ok-Some.ensures.whole in
    moved_twice_is_moved _ _ _ (looked_moves i j s (no_fewer _ _ c.in-Ok-Some.ensures.no_fault))
    (moves_encoding j _ c.in-Ok-Some.size b.tree (subst (λ m. IsEncoding m b.tree (take c.in-Ok-Some.size j.stream.rest)) (sym s.mode) b.encodes)
    c.pass_over.ensures.advances (s.state ∙ c.requires) (c.pass_over.ensures.state ∙ s.state ∙ c.requires) c.pass_over.ensures.marked)

pub returns-in-Ok-Some-clause-passed : goal.returns-in-Ok-Some-clause-passed
unfolding of_constructed
returns-in-Ok-Some-clause-passed g c =
    let i = of_constructed g.S.Source.stream c.args.self.now in
    let j = of_constructed g.S.Source.stream c.look_ahead.new.self in
    let s = c.look_ahead.ensures.same in
    let b = rw c.in-Ok-Some.field-0-is at c.in-Ok-Some.ensures.whole in
    record {
      passed = λ _. looked_passes i j _ s (passes_encoding j _ c.in-Ok-Some.size b.tree (subst (λ m. IsEncoding m b.tree (take c.in-Ok-Some.size j.stream.rest))
          (sym s.mode) b.encodes) c.pass_over.ensures.advances (s.state ∙ c.requires) (c.pass_over.ensures.state ∙ s.state ∙ c.requires));
      same = search rules;
      no_fault = c.pass_over.ensures.no_fault ∙ c.in-Ok-Some.ensures.no_fault;
      fault = search rules;
      failed = search rules;
      mode = c.pass_over.ensures.advances.mode ∙ s.mode;
      marked = c.pass_over.ensures.marked ∙ s.marked;
    }

pub returns-in-Err-clause-moves : goal.returns-in-Err-clause-moves
unfolding of_constructed
returns-in-Err-clause-moves g c =
    looked_failed _ _ c.look_ahead.ensures.same (grew_least _ _ c.in-Err.ensures.fault) _ c.requires refl refl refl refl refl refl refl
