use Rattle.std.proofs.Common.{reverse, ◌∙◌, sym, ap, refl, arith, rules, length, subst, []}
use denote.Param.Always.{mut_next}
use Rattle.bcder.specs.declared.decode.content.Kind.TheVariants.{Definite}
use Rattle.bcder.specs.steps.Peek.{header_of}
use Rattle.bcder.specs.laws.Moved.{moved_keeps_kind}
use Rattle.bcder.proofs.Entering.{kind_of}
use Rattle.bcder.specs.steps.Stacked.{TopIs, around, entries, source_of, limit_in}
use Rattle.bcder.specs.calls.Views.{of_constructed}
use Rattle.bcder.proofs.SameBorrow.{within_constructed, moves_constructed_name}
use Rattle.bcder.proofs.RunSteps.{some_entry, out_counts, met_entered, entered_fits, visited_refused, visited_gone, visited_stopped}
use Rattle.bcder.proofs.RunSteps.{first_went, first_stopped, not_begun, went_in, left_here, stayed_out, went_out, went_wrong}
use Rattle.bcder.proofs.RunSteps.{entered_shorter, left_shorter, wrong_counts, few_open, frames_count, frames_unwound}
use Rattle.bcder.proofs.decode.content.skip.skip_content.Given.{F-step}
use Rattle.bcder.proofs.decode.content.skip.skip_content.Goals as goal

pub returns-in-Err : goal.returns-in-Err
returns-in-Err g c =
    left_here _ _ _ _ _ _ _ _ (g.S.Source.stream c.args.source.now.source) _ c.args.source.now.limit _ (search rules) (search rules)
    (not_begun _ _ _ _ _ _ _ _ [] [] _ _ refl (visited_refused _ _ [] _ _ _ _ _ (rw c.is_constructed.ensures at c.in-Err.ensures)))

pub returns-in-Err-go_into : goal.returns-in-Err-go_into
returns-in-Err-go_into g c =
    left_here _ _ _ _ _ _ _ _ (source_of g.S.Source.stream c.go_into.new.cons) _ (limit_in c.go_into.new.cons) _ (search rules) (search rules)
    (first_stopped _ _ _ _ _ _ (around (reverse c.new-frames.result.items)) (entries c.go_into.new.opened) _ _ _ (ap (λ v. around (reverse v))
    c.new-frames.ensures.items) (rw c.is_constructed.ensures at c.in_default.ensures) c.in-Err-go_into.stop
    (rw c.over-cons.ensures.source at c.in-Err-go_into.ensures.gone))

pub loop-opened-init : goal.loop-opened-init
loop-opened-init g c =
    let w = first_went (F-step g) _ _ _ _ c.args.op.now (around (reverse c.new-frames.result.items)) (entries c.go_into.new.opened) c.op.new.self _ _
    (ap (λ v. around (reverse v)) c.new-frames.ensures.items)
    (rw c.is_constructed.ensures at c.in_default.ensures) _ c.requires.fits (rw c.over-cons.ensures.source at c.in_default-go_into.ensures.gone) in
    record {
      callable = mut_next _ _ _ _ _ _ c.op.ensures refl c.requires.callable;
      counted = c.go_into.ensures.counted;
      went = (w.calls, w.called, w.under);
      top = c.in_default-go_into.ensures.kind
          (subst (λ z. TopIs z c.over-cons.result.kind) (sym (ap (λ v. around (reverse v)) c.new-frames.ensures.items)) refl);
      state = c.in_default-go_into.ensures.state;
      mode = c.go_into.ensures.mode ∙ c.over-cons.ensures.mode;
      name = refl;
      no_fault = w.no_fault;
      outer = c.limit-outer.ensures;
    }

pub unwind-requires : goal.unwind-requires
unfolding of_constructed
unwind-requires g c =
    let i = c.loop-opened.invariant in
    let e = rw c.in-Ok-Some.field-0-is at c.in-Ok-Some.ensures.entered in
    let m = met_entered (source_of g.S.Source.stream c.loop-opened.cons) (source_of g.S.Source.stream c.next_header.new.self) (limit_in c.loop-opened.cons)
    (limit_in c.next_header.new.self) (of_constructed g.S.Source.stream c.loop-opened.cons) (of_constructed g.S.Source.stream c.next_header.new.self) refl
    refl refl refl c.args.mode (header_of c.args.outermost) (g.S.Source.stream c.args.source.now.source) c.args.source.now.limit i.went.0
    (entries c.loop-opened.opened) i.mode (within_constructed g.S.Source.stream g.met.S.Source.sound c.loop-opened.cons)
    (some_entry c.loop-opened.opened i.counted c.loop-opened-test.true) i.went.2 (header_of c.in-Ok-Some.header) e.1 in
    frames_count c.loop-opened.opened _ _ (out_counts _ _ _ _ _ _ _ _ _ _ _ _ m refl refl i.outer (search rules))

pub returns-in-Err-op : goal.returns-in-Err-op
unfolding of_constructed
returns-in-Err-op g c =
    let i = c.loop-opened.invariant in
    let name = moves_constructed_name g.S.Source.stream c.loop-opened.cons c.next_header.new.self c.next_header.ensures.moves in
    let e = rw c.in-Ok-Some.field-0-is at c.in-Ok-Some.ensures.entered in
    let m = met_entered (source_of g.S.Source.stream c.loop-opened.cons) (source_of g.S.Source.stream c.next_header.new.self) (limit_in c.loop-opened.cons)
    (limit_in c.next_header.new.self) (of_constructed g.S.Source.stream c.loop-opened.cons) (of_constructed g.S.Source.stream c.next_header.new.self) refl
    refl refl refl c.args.mode (header_of c.args.outermost) (g.S.Source.stream c.args.source.now.source) c.args.source.now.limit i.went.0
    (entries c.loop-opened.opened) i.mode (within_constructed g.S.Source.stream g.met.S.Source.sound c.loop-opened.cons)
    (some_entry c.loop-opened.opened i.counted c.loop-opened-test.true) i.went.2 (header_of c.in-Ok-Some.header) e.1 in
    stayed_out _ _ _ _ _ _ _ _ _ _ (record { calls = i.went.0; called = i.went.1; under = i.went.2; no_fault = i.no_fault }) _ _ _ m
    c.in-Ok-Some.ensures.no_fault (entered_fits _ _ _ _ refl e.1) _ _ (entries c.loop-opened.opened) _ _ _ _
    (visited_refused _ _ (entries c.loop-opened.opened) _ _ _ _ _ (rw (c.is_constructed-in-Ok-Some.ensures, i.counted.depth) at c.in-Err-op.ensures))
    (search rules) (frames_unwound c.loop-opened.opened _ _ (search rules))

pub go_into-requires-in-Ok-Some-clause-fits : goal.go_into-requires-in-Ok-Some-clause-fits
unfolding of_constructed
go_into-requires-in-Ok-Some-clause-fits g c =
    let e = rw c.in-Ok-Some.field-0-is at c.in-Ok-Some.ensures.entered in
    entered_fits (of_constructed g.S.Source.stream c.loop-opened.cons) (of_constructed g.S.Source.stream c.next_header.new.self)
    (header_of c.in-Ok-Some.header) _ refl e.1

pub unwind-requires-in-Err-go_into-2 : goal.unwind-requires-in-Err-go_into-2
unfolding of_constructed
unwind-requires-in-Err-go_into-2 g c =
    let i = c.loop-opened.invariant in
    let e = rw c.in-Ok-Some.field-0-is at c.in-Ok-Some.ensures.entered in
    let m = met_entered (source_of g.S.Source.stream c.loop-opened.cons) (source_of g.S.Source.stream c.next_header.new.self) (limit_in c.loop-opened.cons)
    (limit_in c.next_header.new.self) (of_constructed g.S.Source.stream c.loop-opened.cons) (of_constructed g.S.Source.stream c.next_header.new.self) refl
    refl refl refl c.args.mode (header_of c.args.outermost) (g.S.Source.stream c.args.source.now.source) c.args.source.now.limit i.went.0
    (entries c.loop-opened.opened) i.mode (within_constructed g.S.Source.stream g.met.S.Source.sound c.loop-opened.cons)
    (some_entry c.loop-opened.opened i.counted c.loop-opened-test.true) i.went.2 (header_of c.in-Ok-Some.header) e.1 in
    let z = c.in-Err-go_into-2.ensures.gone in
    frames_count c.go_into-in-Ok-Some.new.opened _ _ (out_counts _ _ _ _ _ _ _ _ _ _ _ _ m z.entries z.limit i.outer (search rules))

pub returns-in-Err-go_into-2 : goal.returns-in-Err-go_into-2
unfolding of_constructed
returns-in-Err-go_into-2 g c =
    let i = c.loop-opened.invariant in
    let name = moves_constructed_name g.S.Source.stream c.loop-opened.cons c.next_header.new.self c.next_header.ensures.moves in
    let e = rw c.in-Ok-Some.field-0-is at c.in-Ok-Some.ensures.entered in
    let m = met_entered (source_of g.S.Source.stream c.loop-opened.cons) (source_of g.S.Source.stream c.next_header.new.self) (limit_in c.loop-opened.cons)
    (limit_in c.next_header.new.self) (of_constructed g.S.Source.stream c.loop-opened.cons) (of_constructed g.S.Source.stream c.next_header.new.self) refl
    refl refl refl c.args.mode (header_of c.args.outermost) (g.S.Source.stream c.args.source.now.source) c.args.source.now.limit i.went.0
    (entries c.loop-opened.opened) i.mode (within_constructed g.S.Source.stream g.met.S.Source.sound c.loop-opened.cons)
    (some_entry c.loop-opened.opened i.counted c.loop-opened-test.true) i.went.2 (header_of c.in-Ok-Some.header) e.1 in
    stayed_out _ _ _ _ _ _ _ _ _ _ (record { calls = i.went.0; called = i.went.1; under = i.went.2; no_fault = i.no_fault }) _ _ _ m
    c.in-Ok-Some.ensures.no_fault (entered_fits _ _ _ _ refl e.1) _ _ (entries c.go_into-in-Ok-Some.new.opened) _ _ _ _
    (visited_stopped _ _ (entries c.loop-opened.opened) _ _ _ _ (entries c.go_into-in-Ok-Some.new.opened) _ _
    (rw (c.is_constructed-in-Ok-Some.ensures, i.counted.depth) at c.in_default-op.ensures) _ c.in-Err-go_into-2.ensures.gone) (search rules)
    (frames_unwound c.go_into-in-Ok-Some.new.opened _ _ (search rules))

pub loop-opened-smaller-in_default-go_into-2 : goal.loop-opened-smaller-in_default-go_into-2
unfolding of_constructed
loop-opened-smaller-in_default-go_into-2 g c =
    let e = rw c.in-Ok-Some.field-0-is at c.in-Ok-Some.ensures.entered in
    let l = entered_shorter (source_of g.S.Source.stream c.loop-opened.cons) (source_of g.S.Source.stream c.next_header.new.self) (limit_in c.loop-opened.cons)
    (limit_in c.next_header.new.self) (of_constructed g.S.Source.stream c.loop-opened.cons)
    (of_constructed g.S.Source.stream c.next_header.new.self) refl refl refl refl (header_of c.in-Ok-Some.header) (entries c.loop-opened.opened)
    (entries c.go_into-in-Ok-Some.new.opened) (source_of g.S.Source.stream c.go_into-in-Ok-Some.new.cons) _ e.1 c.in_default-go_into-2.ensures.gone.goes in
    omega (arith, l, c.loop-opened.invariant.counted.depth, c.go_into-in-Ok-Some.ensures.counted.depth)

pub loop-opened-preserved-in_default-go_into-2 : goal.loop-opened-preserved-in_default-go_into-2
unfolding of_constructed
loop-opened-preserved-in_default-go_into-2 g c =
    let i = c.loop-opened.invariant in
    let e = rw c.in-Ok-Some.field-0-is at c.in-Ok-Some.ensures.entered in
    let m = met_entered (source_of g.S.Source.stream c.loop-opened.cons) (source_of g.S.Source.stream c.next_header.new.self) (limit_in c.loop-opened.cons)
    (limit_in c.next_header.new.self) (of_constructed g.S.Source.stream c.loop-opened.cons) (of_constructed g.S.Source.stream c.next_header.new.self) refl
    refl refl refl c.args.mode (header_of c.args.outermost) (g.S.Source.stream c.args.source.now.source) c.args.source.now.limit i.went.0
    (entries c.loop-opened.opened) i.mode (within_constructed g.S.Source.stream g.met.S.Source.sound c.loop-opened.cons)
    (some_entry c.loop-opened.opened i.counted c.loop-opened-test.true) i.went.2 (header_of c.in-Ok-Some.header) e.1 in
    let w = went_in (F-step g) _ _ _ _ c.args.op.now _ c.loop-opened.op _ _
    (record { calls = i.went.0; called = i.went.1; under = i.went.2; no_fault = i.no_fault }) _ _ _ m c.in-Ok-Some.ensures.no_fault
    (entered_fits _ _ _ _ refl e.1) _ _ (entries c.go_into-in-Ok-Some.new.opened) _ _
    (visited_gone (F-step g) _ (entries c.loop-opened.opened) _ _ c.loop-opened.op c.op-in-Ok-Some.new.self (entries c.go_into-in-Ok-Some.new.opened) _ _
    (rw (c.is_constructed-in-Ok-Some.ensures, i.counted.depth) at c.in_default-op.ensures) _ _ c.in_default-go_into-2.ensures.gone) in
    record {
      callable = mut_next _ _ _ _ _ _ c.op-in-Ok-Some.ensures refl i.callable;
      counted = c.go_into-in-Ok-Some.ensures.counted;
      went = (w.calls, w.called, w.under);
      top = c.in_default-go_into-2.ensures.kind
          (subst (TopIs (entries c.loop-opened.opened)) (sym (kind_of _ _ (moved_keeps_kind _ _ c.next_header.ensures.moves))) i.top);
      state = c.in_default-go_into-2.ensures.state;
      mode = c.go_into-in-Ok-Some.ensures.mode ∙ c.next_header.ensures.mode ∙ i.mode;
      name = c.go_into-in-Ok-Some.ensures.name
          ∙ moves_constructed_name g.S.Source.stream c.loop-opened.cons c.next_header.new.self c.next_header.ensures.moves ∙ i.name;
      no_fault = w.no_fault;
      outer = i.outer;
    }

pub loop-opened-smaller : goal.loop-opened-smaller
unfolding of_constructed
loop-opened-smaller g c =
    let l = left_shorter (source_of g.S.Source.stream c.loop-opened.cons) (source_of g.S.Source.stream c.next_header.new.self) (limit_in c.loop-opened.cons)
    (limit_in c.next_header.new.self) (of_constructed g.S.Source.stream c.loop-opened.cons)
    (of_constructed g.S.Source.stream c.next_header.new.self) refl refl refl refl c.next_header.ensures.moves in
    omega (arith, l, c.leave.ensures.fewer, ap (λ z. length (g.S.Source.stream z).rest) c.leave.ensures.source)

pub loop-opened-preserved : goal.loop-opened-preserved
unfolding of_constructed
loop-opened-preserved g c =
    let i = c.loop-opened.invariant in
    let n = rw c.in-Ok-None.field-0-is at c.in-Ok-None.ensures.none in
    let u = went_out c.args.mode (header_of c.args.outermost) (g.S.Source.stream c.args.source.now.source) c.args.source.now.limit i.went.0
    (entries c.loop-opened.opened) (entries c.leave.new.opened) (source_of g.S.Source.stream c.loop-opened.cons)
    (source_of g.S.Source.stream c.next_header.new.self) (source_of g.S.Source.stream c.leave.new.cons) (limit_in c.loop-opened.cons)
    (limit_in c.next_header.new.self) (limit_in c.leave.new.cons) (of_constructed g.S.Source.stream c.loop-opened.cons)
    (of_constructed g.S.Source.stream c.next_header.new.self) c.loop-opened.cons.kind refl refl refl refl i.went.2 c.next_header.ensures.moves refl i.top
    i.state i.mode (within_constructed g.S.Source.stream g.met.S.Source.sound c.loop-opened.cons) n.missing.0 c.leave.ensures.leaves
    (ap g.S.Source.stream c.leave.ensures.source) in
    record {
      callable = i.callable;
      counted = c.leave.ensures.counted;
      went = (i.went.0, i.went.1, u);
      top = c.leave.ensures.kind;
      state = c.leave.ensures.state;
      mode = c.leave.ensures.mode ∙ c.next_header.ensures.mode ∙ i.mode;
      name = c.leave.ensures.name ∙ moves_constructed_name g.S.Source.stream c.loop-opened.cons c.next_header.new.self c.next_header.ensures.moves ∙ i.name;
      no_fault = ap (λ z. (g.S.Source.stream z).faults) c.leave.ensures.source ∙ c.in-Ok-None.ensures.no_fault ∙ i.no_fault;
      outer = i.outer;
    }

pub unwind-requires-in-Err-next_header : goal.unwind-requires-in-Err-next_header
unfolding of_constructed
unwind-requires-in-Err-next_header g c =
    let i = c.loop-opened.invariant in
    frames_count c.loop-opened.opened _ _ (wrong_counts _ _ _ _ _ _ (source_of g.S.Source.stream c.loop-opened.cons) (source_of g.S.Source.stream
    c.next_header.new.self) (limit_in c.loop-opened.cons) (limit_in c.next_header.new.self) _ (of_constructed g.S.Source.stream c.loop-opened.cons)
    (of_constructed g.S.Source.stream c.next_header.new.self) refl refl refl refl c.next_header.ensures.moves i.went.2 i.outer (search rules))

pub returns-in-Err-next_header : goal.returns-in-Err-next_header
unfolding of_constructed
returns-in-Err-next_header g c =
    let i = c.loop-opened.invariant in
    let name = moves_constructed_name g.S.Source.stream c.loop-opened.cons c.next_header.new.self c.next_header.ensures.moves in
    went_wrong _ _ _ _ _ _ _ _ _ _ (record { calls = i.went.0; called = i.went.1; under = i.went.2; no_fault = i.no_fault }) _
    (source_of g.S.Source.stream c.next_header.new.self) _ (limit_in c.next_header.new.self) _ (of_constructed g.S.Source.stream c.loop-opened.cons)
    (of_constructed g.S.Source.stream c.next_header.new.self) c.loop-opened.cons.kind refl refl refl refl c.next_header.ensures.moves
    (some_entry c.loop-opened.opened i.counted c.loop-opened-test.true) refl i.top i.state i.mode (within_constructed g.S.Source.stream g.met.S.Source.sound
    c.loop-opened.cons) c.in-Err-next_header.ensures.refused (search rules) (frames_unwound c.loop-opened.opened _ _ (search rules))

pub go_into-requires-clause-few : goal.go_into-requires-clause-few
go_into-requires-clause-few g c = omega arith

pub go_into-requires-in-Ok-Some-clause-few : goal.go_into-requires-in-Ok-Some-clause-few
go_into-requires-in-Ok-Some-clause-few g c =
    few_open c.loop-opened.opened c.loop-opened.invariant.counted _ _ _ _ _ _ _ (g.met.S.Source.sound c.args.source.now.source) c.loop-opened.invariant.went.2
