use Rattle.std.proofs.Common.{rules, false, ◌≡◌, ◌∙◌, ◌+◌, ◌≤◌, length, arith, refl, ap, sym, subst}
use Rattle.std.specs.Prelude.{Ok, Some}
use Rattle.bcder.specs.declared.length.Length.TheVariants.{Definite, Indefinite}
use Rattle.bcder.specs.steps.StopCause.{stop_cause}
use Rattle.bcder.specs.calls.Content.{any, FitsOwed, IsDone, Octets, values}
use Rattle.bcder.specs.calls.Calls.{HasNone}
use Rattle.bcder.specs.calls.Content.{otherwise}
use Rattle.bcder.specs.steps.Peek.{is_constructed, len_of, header_of}
use Rattle.bcder.specs.calls.Walking.{PassesValue, RefusesValues}
use Rattle.bcder.specs.steps.WalkSteps.{itself, walked}
use Rattle.bcder.specs.calls.Views.{of_constructed, limited_stream}
use Rattle.bcder.specs.laws.Moved.{moved_twice_is_moved, moved_is_no_longer}
use Rattle.bcder.proofs.SameBorrow.{within_constructed, moves_constructed_name}
use Rattle.bcder.proofs.Refusing.{if_err}
use Rattle.bcder.proofs.Inner.{takes_values, takes_marked}
use Rattle.bcder.proofs.Taking.{taken_value, taken_moves, refused_front, refused_moves}
use Rattle.bcder.proofs.ContentSteps.{step_refused, next_refused, entered_shorter, stop_reason, or_none, ran_values, skips}
use Rattle.bcder.proofs.WalkSteps.{walks_refl, walks_value, walks_refused, stopped_at_error, value_shorter}
use Rattle.bcder.proofs.WalkCalls.{walks_one, value_there, none_there}
use Rattle.bcder.proofs.decode.content.walk.+walk.Goals as goal

pub step-pass_content-requires : goal.step-pass_content-requires
unfolding of_constructed
step-pass_content-requires g t c κs within =
    let e = (rw c.in-Ok-Some.field-0-is at c.in-Ok-Some.ensures.entered).1 in
    let f = e.fits in
    let h : length (of_constructed g.S.Source.stream c.next_header.new.self).stream.rest + 2
    ≤ length (of_constructed g.S.Source.stream c.args.cons.now).stream.rest = entered_shorter _ _ _ e in
    search rules

pub step-returns-in-Ok-clause-moves : goal.step-returns-in-Ok-clause-moves
unfolding of_constructed
step-returns-in-Ok-clause-moves g t c =
    let e = (rw c.in-Ok-Some.field-0-is at c.in-Ok-Some.ensures.entered).1 in
    taken_moves (of_constructed g.S.Source.stream c.args.cons.now) (of_constructed g.S.Source.stream c.next_header.new.self)
    (of_constructed g.S.Source.stream c.pass_content.new.cons) (header_of c.in-Ok-Some.header) any refl e stop_cause itself
    (walked stop_cause) _ refl refl refl _ c.in-Ok.ensures.taken refl refl refl refl

pub step-returns-in-Ok-clause-passed : goal.step-returns-in-Ok-clause-passed
unfolding of_constructed
step-returns-in-Ok-clause-passed g t c =
    let e = (rw c.in-Ok-Some.field-0-is at c.in-Ok-Some.ensures.entered).1 in
    record {
      value = walks_one stop_cause itself (walked stop_cause) (λ t p r q x. x) (of_constructed g.S.Source.stream c.args.cons.now) _ (Ok (Some _))
          (taken_value (of_constructed g.S.Source.stream c.args.cons.now) (of_constructed g.S.Source.stream c.next_header.new.self)
          (of_constructed g.S.Source.stream c.pass_content.new.cons) (header_of c.in-Ok-Some.header) any refl e stop_cause itself
          (walked stop_cause) _ refl refl refl _ c.in-Ok.ensures.taken);
      no_fault = c.in-Ok.ensures.no_fault ∙ c.in-Ok-Some.ensures.no_fault;
      refused = tt;
      mode = c.pass_content.ensures.mode ∙ c.next_header.ensures.mode;
      marked = c.pass_content.ensures.marked ∙ c.next_header.ensures.marked;
    }

pub step-returns-in-Err-pass_content-clause-moves : goal.step-returns-in-Err-pass_content-clause-moves
unfolding of_constructed
step-returns-in-Err-pass_content-clause-moves g t c =
    let e = (rw c.in-Ok-Some.field-0-is at c.in-Ok-Some.ensures.entered).1 in
    refused_moves (of_constructed g.S.Source.stream c.args.cons.now) (of_constructed g.S.Source.stream c.next_header.new.self) (of_constructed g.S.Source.stream
    c.pass_content.new.cons) (header_of c.in-Ok-Some.header) any refl e stop_cause itself (walked stop_cause) _ c.in-Err-pass_content.ensures.taken

pub step-returns-in-Err-pass_content-clause-passed : goal.step-returns-in-Err-pass_content-clause-passed
unfolding of_constructed
step-returns-in-Err-pass_content-clause-passed g t c =
    let e = (rw c.in-Ok-Some.field-0-is at c.in-Ok-Some.ensures.entered).1 in
    record {
      value = tt;
      no_fault = tt;
      refused = (
        c.pass_content.ensures.state ∙ e.opened,
        step_refused stop_cause (of_constructed g.S.Source.stream c.args.cons.now) (of_constructed g.S.Source.stream c.pass_content.new.cons) _
            (within_constructed g.S.Source.stream g.met.S.Source.sound c.args.cons.now)
            (otherwise (refused_front (of_constructed g.S.Source.stream c.args.cons.now) (of_constructed g.S.Source.stream c.next_header.new.self)
            (of_constructed g.S.Source.stream c.pass_content.new.cons) (header_of c.in-Ok-Some.header) any refl e stop_cause itself
            (walked stop_cause) _ c.in-Err-pass_content.ensures.taken)),
      );
      mode = c.pass_content.ensures.mode ∙ c.next_header.ensures.mode;
      marked = c.pass_content.ensures.marked ∙ c.next_header.ensures.marked;
    }

pub step-returns-in-Err-clause-passed : goal.step-returns-in-Err-clause-passed
unfolding of_constructed
step-returns-in-Err-clause-passed g t c = record {
  value = tt;
  no_fault = tt;
  refused = (
    c.in-Err.ensures.failed,
    next_refused stop_cause (of_constructed g.S.Source.stream c.args.cons.now) (of_constructed g.S.Source.stream c.next_header.new.self) _
        (within_constructed g.S.Source.stream g.met.S.Source.sound c.args.cons.now) c.in-Err.ensures.refused,
  );
  mode = c.next_header.ensures.mode;
  marked = c.next_header.ensures.marked;
}

pub pass_content-returns-in-Constructed-Definite-clause-taken : goal.pass_content-returns-in-Constructed-Definite-clause-taken
unfolding of_constructed
pass_content-returns-in-Constructed-Definite-clause-taken g t c =
    let e : c.in-Constructed-Definite.field-0 ≡ Definite c.in-Constructed-Definite.len =
    rw c.in-Constructed-Definite.is at c.in-Constructed-Definite.field-0-is in
    takes_values stop_cause itself (walked stop_cause) (of_constructed g.S.Source.stream c.args.cons.now) _
    (header_of c.args.header) _ refl refl refl refl false (or_none _ _ refl)
    g.S.Source.stream c.in-Constructed-Definite.len c.args.cons.now.source.now c.set_limit.new.self c.walk_over-result.new.source c.pop.new.source
    c.limit-outer.result (ap len_of c.in-Constructed-Definite.is ∙ e)
    refl refl c.limit-outer.ensures c.set_limit.ensures.limit c.set_limit.ensures.source c.pop.ensures.limit c.pop.ensures.source refl refl c.requires
    (ap is_constructed c.in-Constructed-Definite.is) (c.walk_over-result.ensures.ran c.args.header.tag)

pub pass_content-returns-in-Primitive-clause-taken : goal.pass_content-returns-in-Primitive-clause-taken
unfolding of_constructed
pass_content-returns-in-Primitive-clause-taken g t c =
    let s = g.S.Source.stream c.args.cons.now.source.now.source in
    let x = g.S.Source.stream c.skip_owed.new.self.source in
    skips stop_cause (of_constructed g.S.Source.stream c.args.cons.now) _ (header_of c.args.header) c.in-Primitive.len s x c.args.cons.now.source.now.limit
    (ap len_of c.in-Primitive.is) (ap is_constructed c.in-Primitive.is) (subst (λ z. FitsOwed (len_of z) c.args.cons.now.source.now.limit) c.in-Primitive.is
    c.requires) (g.met.S.Source.sound c.args.cons.now.source.now.source) refl refl refl refl refl refl refl
    c.skip_owed.result c.skip_owed.new.self.limit refl refl c.skip_owed.ensures.limit c.skip_owed.ensures.enough c.skip_owed.ensures.rest
    c.skip_owed.ensures.no_fault (if_err c.skip_owed.result _ _ (λ e h. stop_reason _ _ e h) c.skip_owed.ensures.cause)
    c.skip_owed.ensures.err c.skip_owed.ensures.err_limit c.skip_owed.ensures.no_fewer c.skip_owed.ensures.kept

pub pass_content-returns-in-Constructed-Indefinite-clause-taken : goal.pass_content-returns-in-Constructed-Indefinite-clause-taken
unfolding of_constructed
pass_content-returns-in-Constructed-Indefinite-clause-taken g t c =
    let e : c.in-Constructed-Indefinite.field-0 ≡ Indefinite = rw c.in-Constructed-Indefinite.is at c.in-Constructed-Indefinite.field-0-is in
    takes_marked stop_cause itself (walked stop_cause) (of_constructed g.S.Source.stream c.args.cons.now) _ (header_of c.args.header) _ refl refl refl refl
    false (or_none _ _ refl) (ap len_of c.in-Constructed-Indefinite.is ∙ e) (c.walk_over.ensures.ran c.args.header.tag)

pub walk_over-loop-init : goal.walk_over-loop-init
walk_over-loop-init g t c = record { walks = walks_refl _; no_fault = refl; name = refl }

pub walk_over-step-requires : goal.walk_over-step-requires
unfolding of_constructed
walk_over-step-requires g t c κs within =
    let h : length (of_constructed g.S.Source.stream c.loop.cons).stream.rest ≤ length (limited_stream g.S.Source.stream c.args.source.now).rest =
    subst (λ z. length (of_constructed g.S.Source.stream c.loop.cons).stream.rest ≤ length (limited_stream g.S.Source.stream z).rest)
    c.over-cons.ensures.source (moved_is_no_longer _ _ c.loop.invariant.walks.moves) in
    search rules

pub walk_over-returns-in_err-step-clause-ran : goal.walk_over-returns-in_err-step-clause-ran
unfolding of_constructed
walk_over-returns-in_err-step-clause-ran g t c u =
    let j = of_constructed g.S.Source.stream c.loop.cons in
    let k = of_constructed g.S.Source.stream c.step.new.cons in
    let name = moves_constructed_name g.S.Source.stream c.loop.cons c.step.new.cons c.step.ensures.moves in
    let r = walks_refused stop_cause _ _ j k
    (λ e. (let x : values c.args.kind ≡ Octets = sym (ap values c.over-cons.ensures.kind) ∙ e in cc))
    c.loop.invariant.walks c.in_err-step.ensures.passed.refused.1 in
    let p = stopped_at_error (RefusesValues stop_cause) _ k c.from_residual.result _ c.from_residual.ensures.1 r (IsDone k) in
    ran_values stop_cause _ k c.from_residual.result
    (moved_twice_is_moved _ j k c.loop.invariant.walks.moves c.in_err-step.ensures.moves)
    (c.in_err-step.ensures.passed.marked ∙ c.loop.invariant.walks.marked) p.0 p.1
    (limited_stream g.S.Source.stream c.args.source.now) _ c.args.source.now.limit _ (values c.args.kind) c.args.mode u
    (ap (limited_stream g.S.Source.stream) c.over-cons.ensures.source) (ap (λ s. s.limit) c.over-cons.ensures.source) (ap values c.over-cons.ensures.kind)
    c.over-cons.ensures.state c.over-cons.ensures.mode c.over-cons.ensures.marked (search rules) (search rules)

pub walk_over-loop-smaller : goal.walk_over-loop-smaller
walk_over-loop-smaller g t c =
    let j = of_constructed g.S.Source.stream c.loop.cons in
    let k = of_constructed g.S.Source.stream c.step.new.cons in
    let h = value_shorter j k (value_there (HasNone any j k) (PassesValue j k) _ c.if-is_some.ensures c.in_ok-step.ensures.passed.value) in omega (arith, h)

pub walk_over-loop-preserved : goal.walk_over-loop-preserved
walk_over-loop-preserved g t c =
    let j = of_constructed g.S.Source.stream c.loop.cons in
    let k = of_constructed g.S.Source.stream c.step.new.cons in
    record {
      walks =
          walks_value _ j k (within_constructed g.S.Source.stream g.met.S.Source.sound c.loop.cons) c.loop.invariant.walks c.in_ok-step.ensures.moves
          c.in_ok-step.ensures.passed.mode c.in_ok-step.ensures.passed.marked
          (value_there (HasNone any j k) (PassesValue j k) _ c.if-is_some.ensures c.in_ok-step.ensures.passed.value);
      no_fault = c.in_ok-step.ensures.passed.no_fault ∙ c.loop.invariant.no_fault;
      name = moves_constructed_name g.S.Source.stream c.loop.cons c.step.new.cons c.step.ensures.moves ∙ c.loop.invariant.name;
    }

pub walk_over-returns-clause-ran : goal.walk_over-returns-clause-ran
unfolding of_constructed
walk_over-returns-clause-ran g t c u =
    let j = of_constructed g.S.Source.stream c.loop.cons in
    let k = of_constructed g.S.Source.stream c.step.new.cons in
    let name = moves_constructed_name g.S.Source.stream c.loop.cons c.step.new.cons c.step.ensures.moves in
    ran_values stop_cause _ k _ (moved_twice_is_moved _ j k c.loop.invariant.walks.moves c.in_ok-step.ensures.moves)
    (c.in_ok-step.ensures.passed.marked ∙ c.loop.invariant.walks.marked)
    (none_there (HasNone any j k) (PassesValue j k) _ c.if-is_some.ensures c.in_ok-step.ensures.passed.value).missing.1 tt
    (limited_stream g.S.Source.stream c.args.source.now) _ c.args.source.now.limit _ (values c.args.kind) c.args.mode u
    (ap (limited_stream g.S.Source.stream) c.over-cons.ensures.source) (ap (λ s. s.limit) c.over-cons.ensures.source) (ap values c.over-cons.ensures.kind)
    c.over-cons.ensures.state c.over-cons.ensures.mode c.over-cons.ensures.marked (search rules) (search rules)

pub walk_over-returns-clause-no_fault : goal.walk_over-returns-clause-no_fault
unfolding of_constructed
walk_over-returns-clause-no_fault g t c =
    let name = moves_constructed_name g.S.Source.stream c.loop.cons c.step.new.cons c.step.ensures.moves in
    let same : c.step.new.cons.source.now ≡ c.source-else-is_some-1.given.0 = search rules in
    ap (λ z. (limited_stream g.S.Source.stream z).faults) (sym same) ∙ c.in_ok-step.ensures.passed.no_fault ∙ c.loop.invariant.no_fault
    ∙ ap (λ z. (limited_stream g.S.Source.stream z).faults) c.over-cons.ensures.source
