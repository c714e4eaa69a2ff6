use Rattle.std.proofs.Common.{◌∙◌, refl, arith}
use Rattle.bcder.specs.calls.Cause.{cause_of}
use Rattle.bcder.specs.calls.Content.{any}
use Rattle.bcder.specs.calls.Calls.{HasNone}
use Rattle.bcder.specs.calls.Walking.{PassesValue}
use Rattle.bcder.specs.calls.Views.{of_constructed}
use Rattle.bcder.specs.laws.Moved.{moved_carries, untouched_is_moved, moved_twice_is_moved}
use Rattle.bcder.proofs.SameBorrow.{within_constructed, constructed_form}
use Rattle.bcder.specs.calls.Walking.{RefusesSkipAll}
use Rattle.bcder.proofs.SkipCalls.{loop_refused}
use Rattle.bcder.proofs.WalkCalls.{value_there, none_there}
use Rattle.bcder.proofs.WalkSteps.{all_refused, walks_refl, walks_value, walks_all, value_shorter}
use Rattle.bcder.proofs.decode.content.Constructed.skip_all.Goals as goal

pub loop-init : goal.loop-init
loop-init g c = record { walks = walks_refl _; no_fault = refl }

pub returns-in_err-skip_one-clause-moves : goal.returns-in_err-skip_one-clause-moves
returns-in_err-skip_one-clause-moves g c =
    let i = of_constructed g.S.Source.stream c.args.self.now in
    let j = of_constructed g.S.Source.stream c.loop.self in
    let k = of_constructed g.S.Source.stream c.skip_one.new.self in
    moved_carries i k (moved_twice_is_moved i j k c.loop.invariant.walks.moves (c.skip_one.ensures.moves j (untouched_is_moved j)))

pub returns-in_err-skip_one-clause-skipped : goal.returns-in_err-skip_one-clause-skipped
returns-in_err-skip_one-clause-skipped g c =
    let i = of_constructed g.S.Source.stream c.args.self.now in
    let j = of_constructed g.S.Source.stream c.loop.self in
    let k = of_constructed g.S.Source.stream c.skip_one.new.self in
    all_refused (RefusesSkipAll cause_of) i k c.from_residual.result _ c.from_residual.ensures.1
    (loop_refused cause_of _ i j k (constructed_form g.S.Source.stream c.args.self.now) c.loop.invariant.walks c.in_err-skip_one.ensures.skipped.refused.1)
    c.in_err-skip_one.ensures.skipped.refused.0
    (c.skip_one.ensures.skipped.mode ∙ c.loop.invariant.walks.mode)
    (c.skip_one.ensures.skipped.marked ∙ c.loop.invariant.walks.marked)

pub loop-smaller : goal.loop-smaller
loop-smaller g c =
    let j = of_constructed g.S.Source.stream c.loop.self in
    let k = of_constructed g.S.Source.stream c.skip_one.new.self in
    let h = value_shorter j k (value_there (HasNone any j k) (PassesValue j k) _ c.if-is_some.ensures c.in_ok-skip_one.ensures.skipped.value) in omega (arith, h)

pub loop-preserved : goal.loop-preserved
loop-preserved g c =
    let i = of_constructed g.S.Source.stream c.args.self.now in
    let j = of_constructed g.S.Source.stream c.loop.self in
    let k = of_constructed g.S.Source.stream c.skip_one.new.self in
    record {
      walks =
          walks_value i j k (within_constructed g.S.Source.stream g.met.S.Source.sound c.loop.self) c.loop.invariant.walks
          (c.skip_one.ensures.moves j (untouched_is_moved j)) c.skip_one.ensures.skipped.mode c.skip_one.ensures.skipped.marked
          (value_there (HasNone any j k) (PassesValue j k) _ c.if-is_some.ensures c.in_ok-skip_one.ensures.skipped.value);
      no_fault = c.in_ok-skip_one.ensures.skipped.no_fault ∙ c.loop.invariant.no_fault;
    }

pub returns-clause-moves : goal.returns-clause-moves
returns-clause-moves g c =
    let i = of_constructed g.S.Source.stream c.args.self.now in
    let j = of_constructed g.S.Source.stream c.loop.self in
    let k = of_constructed g.S.Source.stream c.skip_one.new.self in
    moved_carries i k (moved_twice_is_moved i j k c.loop.invariant.walks.moves (c.skip_one.ensures.moves j (untouched_is_moved j)))

pub returns-clause-skipped : goal.returns-clause-skipped
returns-clause-skipped g c =
    let i = of_constructed g.S.Source.stream c.args.self.now in
    let j = of_constructed g.S.Source.stream c.loop.self in
    let k = of_constructed g.S.Source.stream c.skip_one.new.self in
    let n = none_there (HasNone any j k) (PassesValue j k) _ c.if-is_some.ensures c.in_ok-skip_one.ensures.skipped.value in
    record {
      value = (walks_all i j k (constructed_form g.S.Source.stream c.args.self.now) c.loop.invariant.walks n.missing.0, n.missing.1);
      no_fault = c.in_ok-skip_one.ensures.skipped.no_fault ∙ c.loop.invariant.no_fault;
      refused = tt;
      mode = c.skip_one.ensures.skipped.mode ∙ c.loop.invariant.walks.mode;
      marked = c.skip_one.ensures.skipped.marked ∙ c.loop.invariant.walks.marked;
    }
