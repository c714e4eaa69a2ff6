use Rattle.std.proofs.Common.{refl, subst}
use Rattle.bcder.specs.declared.decode.content.skip.Interrupt.TheVariants as interrupt
use Rattle.bcder.specs.calls.Cause.{cause_of}
use Rattle.bcder.specs.steps.StopCause.{stop_cause}
use Rattle.bcder.specs.steps.Peek.{header_of, octets_header, len_of}
use Rattle.bcder.specs.steps.Stacked.{source_of, limit_in}
use Rattle.bcder.specs.calls.Content.{FitsOwed}
use Rattle.bcder.specs.calls.Views.{of_constructed}
use Rattle.bcder.proofs.Ahead.{primitive_entered}
use Rattle.bcder.proofs.SameBorrow.{within_constructed}
use Rattle.bcder.proofs.SkipCalls.{skipped_end, skipped_none, behind_moved, behind_passed, behind_stopped, behind_refused}
use Rattle.bcder.proofs.ContentSteps.{next_refused}
use Rattle.bcder.proofs.Stopping.{walk_stopped}
use Rattle.bcder.proofs.RunSteps.{entered_fits, octets_refused, octets_passed, octets_stopped}
use Rattle.bcder.proofs.decode.content.Constructed.skip_next.Given.{F-step}
use Rattle.bcder.proofs.decode.content.Constructed.skip_next.Goals as goal

pub skip_content_on-requires-clause-fits : goal.skip_content_on-requires-clause-fits
unfolding of_constructed
skip_content_on-requires-clause-fits g c =
    let e = rw c.in-Ok-Some.field-0-is at c.in-Ok-Some.ensures.entered in
    entered_fits (of_constructed g.S.Source.stream c.args.self.now) (of_constructed g.S.Source.stream c.next_header.new.self)
    (header_of c.in-Ok-Some.header) _ refl e.1

pub skip_owed-requires : goal.skip_owed-requires
unfolding of_constructed
skip_owed-requires g c =
    let e = rw c.in-Ok-Some.field-0-is at c.in-Ok-Some.ensures.entered in
    subst (λ z. FitsOwed (len_of z) (limit_in c.next_header.new.self)) c.in-Primitive.is (entered_fits (of_constructed g.S.Source.stream c.args.self.now)
    (of_constructed g.S.Source.stream c.next_header.new.self) (header_of c.in-Ok-Some.header) _ refl e.1)

pub returns-in-Err-op-clause-moves : goal.returns-in-Err-op-clause-moves
unfolding of_constructed
returns-in-Err-op-clause-moves g c =
    let e = rw c.in-Ok-Some.field-0-is at c.in-Ok-Some.ensures.entered in
    let w = within_constructed g.S.Source.stream g.met.S.Source.sound c.args.self.now in
    let p = primitive_entered (of_constructed g.S.Source.stream c.args.self.now)
    (of_constructed g.S.Source.stream c.next_header.new.self) _ c.in-Ok-Some.header refl e.1 c.in-Primitive.len c.in-Primitive.is in
    behind_stopped (of_constructed g.S.Source.stream c.args.self.now) (of_constructed g.S.Source.stream c.next_header.new.self) _
    (header_of (octets_header c.in-Ok-Some.header.tag c.in-Primitive.len)) c.next_header.new.self.mode (source_of g.S.Source.stream c.next_header.new.self)
    (source_of g.S.Source.stream c.next_header.new.self) (limit_in c.next_header.new.self) (limit_in c.next_header.new.self)
    (record { enters = p; octets = w.octets; fits = w.fits }) refl refl refl refl refl refl refl refl refl (F-step g) c.args.op.now c.op.new.self cause_of
    (interrupt.Closure c.in-Err-op.error) c.interrupt_error.result refl c.interrupt_error.ensures.content c.interrupt_error.ensures.source
    c.interrupt_error.ensures.memory c.interrupt_error.ensures.closure
    (octets_refused _ _ (header_of (octets_header c.in-Ok-Some.header.tag c.in-Primitive.len)) _ _ _ refl _ _ c.in-Err-op.ensures)

pub returns-in-Err-op-clause-skipped : goal.returns-in-Err-op-clause-skipped
unfolding of_constructed
returns-in-Err-op-clause-skipped g c =
    let e = rw c.in-Ok-Some.field-0-is at c.in-Ok-Some.ensures.entered in
    let w = within_constructed g.S.Source.stream g.met.S.Source.sound c.args.self.now in
    let p = primitive_entered (of_constructed g.S.Source.stream c.args.self.now)
    (of_constructed g.S.Source.stream c.next_header.new.self) _ c.in-Ok-Some.header refl e.1 c.in-Primitive.len c.in-Primitive.is in
    behind_refused (of_constructed g.S.Source.stream c.args.self.now) (of_constructed g.S.Source.stream c.next_header.new.self) _
    (header_of (octets_header c.in-Ok-Some.header.tag c.in-Primitive.len)) c.next_header.new.self.mode (source_of g.S.Source.stream c.next_header.new.self)
    (source_of g.S.Source.stream c.next_header.new.self) (limit_in c.next_header.new.self) (limit_in c.next_header.new.self)
    (record { enters = p; octets = w.octets; fits = w.fits }) refl refl refl refl refl refl refl refl refl _ c.args.op.now c.op.new.self cause_of
    (interrupt.Closure c.in-Err-op.error) c.interrupt_error.result refl c.interrupt_error.ensures.content c.interrupt_error.ensures.source
    c.interrupt_error.ensures.memory c.interrupt_error.ensures.closure
    (octets_refused _ _ (header_of (octets_header c.in-Ok-Some.header.tag c.in-Primitive.len)) _ _ _ refl _ _ c.in-Err-op.ensures)

pub returns-in-Primitive-clause-moves : goal.returns-in-Primitive-clause-moves
unfolding of_constructed
returns-in-Primitive-clause-moves g c =
    let e = rw c.in-Ok-Some.field-0-is at c.in-Ok-Some.ensures.entered in
    let w = within_constructed g.S.Source.stream g.met.S.Source.sound c.args.self.now in
    let p = primitive_entered (of_constructed g.S.Source.stream c.args.self.now)
    (of_constructed g.S.Source.stream c.next_header.new.self) _ c.in-Ok-Some.header refl e.1 c.in-Primitive.len c.in-Primitive.is in
    behind_moved (of_constructed g.S.Source.stream c.args.self.now) (of_constructed g.S.Source.stream c.next_header.new.self) _
    (header_of (octets_header c.in-Ok-Some.header.tag c.in-Primitive.len)) c.next_header.new.self.mode (source_of g.S.Source.stream c.next_header.new.self)
    (g.S.Source.stream c.skip_owed.new.self.source) (limit_in c.next_header.new.self) c.skip_owed.new.self.limit
    (record { enters = p; octets = w.octets; fits = w.fits }) refl refl refl refl refl refl refl refl refl (F-step g) c.args.op.now c.op.new.self _
    (octets_passed {X = g.row.S-Error.Denot} _ _ (header_of (octets_header c.in-Ok-Some.header.tag c.in-Primitive.len)) _ _ _ refl _ _ _ c.in-Primitive.len
    refl c.in_default-op.ensures c.skip_owed.ensures.kept c.skip_owed.ensures.no_fewer p.fits c.in_default-skip_owed.ensures.enough
    c.in_default-skip_owed.ensures.rest c.in_default-skip_owed.ensures.limit c.in_default-skip_owed.ensures.no_fault) refl

pub returns-in-Primitive-clause-skipped : goal.returns-in-Primitive-clause-skipped
unfolding of_constructed
returns-in-Primitive-clause-skipped g c =
    let e = rw c.in-Ok-Some.field-0-is at c.in-Ok-Some.ensures.entered in
    let w = within_constructed g.S.Source.stream g.met.S.Source.sound c.args.self.now in
    let p = primitive_entered (of_constructed g.S.Source.stream c.args.self.now)
    (of_constructed g.S.Source.stream c.next_header.new.self) _ c.in-Ok-Some.header refl e.1 c.in-Primitive.len c.in-Primitive.is in
    behind_passed (of_constructed g.S.Source.stream c.args.self.now) (of_constructed g.S.Source.stream c.next_header.new.self) _
    (header_of (octets_header c.in-Ok-Some.header.tag c.in-Primitive.len)) c.next_header.new.self.mode (source_of g.S.Source.stream c.next_header.new.self)
    (g.S.Source.stream c.skip_owed.new.self.source) (limit_in c.next_header.new.self) c.skip_owed.new.self.limit
    (record { enters = p; octets = w.octets; fits = w.fits }) refl refl refl refl refl refl refl refl refl _ c.args.op.now c.op.new.self cause_of _ _
    (octets_passed {X = g.row.S-Error.Denot} _ _ (header_of (octets_header c.in-Ok-Some.header.tag c.in-Primitive.len)) _ _ _ refl _ _ _ c.in-Primitive.len
    refl c.in_default-op.ensures c.skip_owed.ensures.kept c.skip_owed.ensures.no_fewer p.fits c.in_default-skip_owed.ensures.enough
    c.in_default-skip_owed.ensures.rest c.in_default-skip_owed.ensures.limit c.in_default-skip_owed.ensures.no_fault) refl

pub returns-in-Err-skip_owed-clause-moves : goal.returns-in-Err-skip_owed-clause-moves
unfolding of_constructed
returns-in-Err-skip_owed-clause-moves g c =
    let e = rw c.in-Ok-Some.field-0-is at c.in-Ok-Some.ensures.entered in
    let w = within_constructed g.S.Source.stream g.met.S.Source.sound c.args.self.now in
    let p = primitive_entered (of_constructed g.S.Source.stream c.args.self.now)
    (of_constructed g.S.Source.stream c.next_header.new.self) _ c.in-Ok-Some.header refl e.1 c.in-Primitive.len c.in-Primitive.is in
    behind_stopped (of_constructed g.S.Source.stream c.args.self.now) (of_constructed g.S.Source.stream c.next_header.new.self) _
    (header_of (octets_header c.in-Ok-Some.header.tag c.in-Primitive.len)) c.next_header.new.self.mode (source_of g.S.Source.stream c.next_header.new.self)
    (g.S.Source.stream c.skip_owed.new.self.source) (limit_in c.next_header.new.self) c.skip_owed.new.self.limit
    (record { enters = p; octets = w.octets; fits = w.fits }) refl refl refl refl refl refl refl refl refl (F-step g) c.args.op.now c.op.new.self cause_of
    (interrupt.Stopped c.in-Err-skip_owed.stop) c.interrupt_error-in-Err-skip_owed.result refl c.interrupt_error-in-Err-skip_owed.ensures.content
    c.interrupt_error-in-Err-skip_owed.ensures.source c.interrupt_error-in-Err-skip_owed.ensures.memory c.interrupt_error-in-Err-skip_owed.ensures.closure
    (octets_stopped _ _ (header_of (octets_header c.in-Ok-Some.header.tag c.in-Primitive.len)) _ _ _ refl _ _ _ c.in-Primitive.len refl
    c.in_default-op.ensures c.skip_owed.ensures.kept c.skip_owed.ensures.no_fewer _ c.in-Err-skip_owed.ensures.cause c.in-Err-skip_owed.ensures.err
    c.in-Err-skip_owed.ensures.err_limit)

pub returns-in-Err-skip_owed-clause-skipped : goal.returns-in-Err-skip_owed-clause-skipped
unfolding of_constructed
returns-in-Err-skip_owed-clause-skipped g c =
    let e = rw c.in-Ok-Some.field-0-is at c.in-Ok-Some.ensures.entered in
    let w = within_constructed g.S.Source.stream g.met.S.Source.sound c.args.self.now in
    let p = primitive_entered (of_constructed g.S.Source.stream c.args.self.now)
    (of_constructed g.S.Source.stream c.next_header.new.self) _ c.in-Ok-Some.header refl e.1 c.in-Primitive.len c.in-Primitive.is in
    behind_refused (of_constructed g.S.Source.stream c.args.self.now) (of_constructed g.S.Source.stream c.next_header.new.self) _
    (header_of (octets_header c.in-Ok-Some.header.tag c.in-Primitive.len)) c.next_header.new.self.mode (source_of g.S.Source.stream c.next_header.new.self)
    (g.S.Source.stream c.skip_owed.new.self.source) (limit_in c.next_header.new.self) c.skip_owed.new.self.limit
    (record { enters = p; octets = w.octets; fits = w.fits }) refl refl refl refl refl refl refl refl refl _ c.args.op.now c.op.new.self cause_of
    (interrupt.Stopped c.in-Err-skip_owed.stop) c.interrupt_error-in-Err-skip_owed.result refl c.interrupt_error-in-Err-skip_owed.ensures.content
    c.interrupt_error-in-Err-skip_owed.ensures.source c.interrupt_error-in-Err-skip_owed.ensures.memory c.interrupt_error-in-Err-skip_owed.ensures.closure
    (octets_stopped _ _ (header_of (octets_header c.in-Ok-Some.header.tag c.in-Primitive.len)) _ _ _ refl _ _ _ c.in-Primitive.len refl
    c.in_default-op.ensures c.skip_owed.ensures.kept c.skip_owed.ensures.no_fewer _ c.in-Err-skip_owed.ensures.cause c.in-Err-skip_owed.ensures.err
    c.in-Err-skip_owed.ensures.err_limit)

pub returns-in-Ok-clause-moves : goal.returns-in-Ok-clause-moves
unfolding of_constructed
returns-in-Ok-clause-moves g c =
    let e = rw c.in-Ok-Some.field-0-is at c.in-Ok-Some.ensures.entered in
    let w = within_constructed g.S.Source.stream g.met.S.Source.sound c.args.self.now in
    behind_moved (of_constructed g.S.Source.stream c.args.self.now) (of_constructed g.S.Source.stream c.next_header.new.self) _ (header_of c.in-Ok-Some.header)
    c.next_header.new.self.mode (source_of g.S.Source.stream c.next_header.new.self) (g.S.Source.stream c.skip_content_on.new.source.source)
    (limit_in c.next_header.new.self) c.skip_content_on.new.source.limit (record { enters = e.1; octets = w.octets; fits = w.fits }) refl refl refl refl refl
    refl refl refl refl _ c.args.op.now c.skip_content_on.new.op _ c.in-Ok.ensures refl

pub returns-in-Ok-clause-skipped : goal.returns-in-Ok-clause-skipped
unfolding of_constructed
returns-in-Ok-clause-skipped g c =
    let e = rw c.in-Ok-Some.field-0-is at c.in-Ok-Some.ensures.entered in
    let w = within_constructed g.S.Source.stream g.met.S.Source.sound c.args.self.now in
    behind_passed (of_constructed g.S.Source.stream c.args.self.now) (of_constructed g.S.Source.stream c.next_header.new.self) _ (header_of c.in-Ok-Some.header)
    c.next_header.new.self.mode (source_of g.S.Source.stream c.next_header.new.self) (g.S.Source.stream c.skip_content_on.new.source.source)
    (limit_in c.next_header.new.self) c.skip_content_on.new.source.limit (record { enters = e.1; octets = w.octets; fits = w.fits }) refl refl refl refl refl
    refl refl refl refl _ c.args.op.now c.skip_content_on.new.op cause_of _ _ c.in-Ok.ensures refl

pub returns-in-Err-skip_content_on-clause-moves : goal.returns-in-Err-skip_content_on-clause-moves
unfolding of_constructed
returns-in-Err-skip_content_on-clause-moves g c =
    let e = rw c.in-Ok-Some.field-0-is at c.in-Ok-Some.ensures.entered in
    let w = within_constructed g.S.Source.stream g.met.S.Source.sound c.args.self.now in
    behind_stopped (of_constructed g.S.Source.stream c.args.self.now) (of_constructed g.S.Source.stream c.next_header.new.self) _
    (header_of c.in-Ok-Some.header) c.next_header.new.self.mode (source_of g.S.Source.stream c.next_header.new.self)
    (g.S.Source.stream c.skip_content_on.new.source.source) (limit_in c.next_header.new.self) c.skip_content_on.new.source.limit
    (record { enters = e.1; octets = w.octets; fits = w.fits }) refl refl refl refl refl refl refl refl refl _ c.args.op.now c.skip_content_on.new.op cause_of
    c.in-Err-skip_content_on.interrupt c.interrupt_error-in-Err-skip_content_on.result refl c.interrupt_error-in-Err-skip_content_on.ensures.content
    c.interrupt_error-in-Err-skip_content_on.ensures.source c.interrupt_error-in-Err-skip_content_on.ensures.memory
    c.interrupt_error-in-Err-skip_content_on.ensures.closure c.in-Err-skip_content_on.ensures

pub returns-in-Err-skip_content_on-clause-skipped : goal.returns-in-Err-skip_content_on-clause-skipped
unfolding of_constructed
returns-in-Err-skip_content_on-clause-skipped g c =
    let e = rw c.in-Ok-Some.field-0-is at c.in-Ok-Some.ensures.entered in
    let w = within_constructed g.S.Source.stream g.met.S.Source.sound c.args.self.now in
    behind_refused (of_constructed g.S.Source.stream c.args.self.now) (of_constructed g.S.Source.stream c.next_header.new.self) _
    (header_of c.in-Ok-Some.header) c.next_header.new.self.mode (source_of g.S.Source.stream c.next_header.new.self)
    (g.S.Source.stream c.skip_content_on.new.source.source) (limit_in c.next_header.new.self) c.skip_content_on.new.source.limit
    (record { enters = e.1; octets = w.octets; fits = w.fits }) refl refl refl refl refl refl refl refl refl _ c.args.op.now c.skip_content_on.new.op cause_of
    c.in-Err-skip_content_on.interrupt c.interrupt_error-in-Err-skip_content_on.result refl c.interrupt_error-in-Err-skip_content_on.ensures.content
    c.interrupt_error-in-Err-skip_content_on.ensures.source c.interrupt_error-in-Err-skip_content_on.ensures.memory
    c.interrupt_error-in-Err-skip_content_on.ensures.closure c.in-Err-skip_content_on.ensures

pub returns-in-Ok-None-clause-moves : goal.returns-in-Ok-None-clause-moves
returns-in-Ok-None-clause-moves g c =
    c.next_header.ensures.moves

pub returns-in-Ok-None-clause-skipped : goal.returns-in-Ok-None-clause-skipped
unfolding of_constructed
returns-in-Ok-None-clause-skipped g c =
    let n = rw c.in-Ok-None.field-0-is at c.in-Ok-None.ensures.none in
    skipped_end cause_of _ (of_constructed g.S.Source.stream c.args.self.now) (of_constructed g.S.Source.stream c.next_header.new.self) c.args.op.now
    c.next_header.ensures.mode c.next_header.ensures.marked n

pub returns-in-Err-clause-moves : goal.returns-in-Err-clause-moves
returns-in-Err-clause-moves g c =
    c.next_header.ensures.moves

pub returns-in-Err-clause-skipped : goal.returns-in-Err-clause-skipped
unfolding of_constructed
returns-in-Err-clause-skipped g c =
    skipped_none cause_of _ (of_constructed g.S.Source.stream c.args.self.now) (of_constructed g.S.Source.stream c.next_header.new.self) c.args.op.now
    c.next_header.ensures.mode c.next_header.ensures.marked c.stop_error.result c.next_header.ensures.moves
    (walk_stopped stop_cause cause_of _ _ c.stop_error.ensures _ _
    (next_refused stop_cause (of_constructed g.S.Source.stream c.args.self.now) (of_constructed g.S.Source.stream c.next_header.new.self) _
    (within_constructed g.S.Source.stream g.met.S.Source.sound c.args.self.now) c.in-Err.ensures.refused)) c.in-Err.ensures.failed
