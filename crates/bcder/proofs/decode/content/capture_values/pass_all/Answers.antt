use Rattle.std.proofs.Common.{◌∙◌, arith, refl}
use Rattle.bcder.specs.calls.Content.{any}
use Rattle.bcder.specs.calls.Calls.{HasNone}
use Rattle.bcder.specs.calls.Walking.{PassesValue}
use Rattle.bcder.specs.calls.Views.{of_constructed}
use Rattle.bcder.specs.laws.Moved.{untouched_is_moved, moved_twice_is_moved, moved_carries}
use Rattle.bcder.proofs.SameBorrow.{within_constructed, constructed_form}
use Rattle.bcder.proofs.WalkSteps.{walks_refl, walks_value, walks_all, value_shorter}
use Rattle.bcder.proofs.WalkCalls.{value_there, none_there}
use Rattle.bcder.proofs.CapturingValues.{loop_refused_one, pass_refused}
use Rattle.bcder.proofs.decode.content.capture_values.pass_all.Goals as goal

pub loop-init : goal.loop-init
loop-init g c = record { walks = walks_refl _; no_fault = refl }

pub loop-preserved : goal.loop-preserved
loop-preserved g c =
    let i = of_constructed g.S.Source.stream c.args.cons.now in
    let j = of_constructed g.S.Source.stream c.loop.cons in
    let k = of_constructed g.S.Source.stream c.skip_one.new.self in
    let p = c.in_ok-skip_one.ensures.skipped in
    record {
      walks = walks_value i j k (within_constructed g.S.Source.stream g.met.S.Source.sound c.loop.cons) c.loop.invariant.walks
          (c.skip_one.ensures.moves j (untouched_is_moved j)) p.mode p.marked (value_there (HasNone any j k) (PassesValue j k) _ c.if-is_some.ensures p.value);
      no_fault = p.no_fault ∙ c.loop.invariant.no_fault;
    }

pub loop-smaller : goal.loop-smaller
loop-smaller g c =
    let j = of_constructed g.S.Source.stream c.loop.cons in
    let k = of_constructed g.S.Source.stream c.skip_one.new.self in
    let h = value_shorter j k (value_there (HasNone any j k) (PassesValue j k) _ c.if-is_some.ensures c.in_ok-skip_one.ensures.skipped.value) in omega (arith, h)

pub returns-in_err-skip_one-clause-moves : goal.returns-in_err-skip_one-clause-moves
returns-in_err-skip_one-clause-moves g c =
    let j = of_constructed g.S.Source.stream c.loop.cons in
    moved_carries _ _ (moved_twice_is_moved _ _ _ c.loop.invariant.walks.moves (c.skip_one.ensures.moves j (untouched_is_moved j)))

pub returns-in_err-skip_one-clause-passed : goal.returns-in_err-skip_one-clause-passed
returns-in_err-skip_one-clause-passed g c =
    let i = of_constructed g.S.Source.stream c.args.cons.now in
    let j = of_constructed g.S.Source.stream c.loop.cons in
    let k = of_constructed g.S.Source.stream c.skip_one.new.self in
    pass_refused i k c.from_residual.result _ c.from_residual.ensures.1 (loop_refused_one _ i j k (constructed_form g.S.Source.stream c.args.cons.now)
    c.loop.invariant.walks c.in_err-skip_one.ensures.skipped.refused.1) (c.in_err-skip_one.ensures.skipped.marked ∙ c.loop.invariant.walks.marked)

pub returns-clause-moves : goal.returns-clause-moves
returns-clause-moves g c =
    let j = of_constructed g.S.Source.stream c.loop.cons in
    moved_carries _ _ (moved_twice_is_moved _ _ _ c.loop.invariant.walks.moves (c.skip_one.ensures.moves j (untouched_is_moved j)))

pub returns-clause-passed : goal.returns-clause-passed
returns-clause-passed g c =
    let i = of_constructed g.S.Source.stream c.args.cons.now in
    let j = of_constructed g.S.Source.stream c.loop.cons in
    let k = of_constructed g.S.Source.stream c.skip_one.new.self in
    let p = c.in_ok-skip_one.ensures.skipped in
    let n = none_there (HasNone any j k) (PassesValue j k) _ c.if-is_some.ensures p.value in
    record {
      passed = record {
        done = n.missing.1;
        all = walks_all i j k (constructed_form g.S.Source.stream c.args.cons.now) c.loop.invariant.walks n.missing.0;
      };
      no_fault = p.no_fault ∙ c.loop.invariant.no_fault;
      refused = tt;
      marked = p.marked ∙ c.loop.invariant.walks.marked;
    }
