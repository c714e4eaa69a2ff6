use Rattle.std.proofs.Common.{◌≡◌, Bool, Option, true, false, ap, sym, ◌∙◌, rules}
use Rattle.std.specs.Prelude.{Some, None}
use Rattle.bcder.specs.calls.Cause.{cause_of}
use Rattle.bcder.specs.calls.Content.{tagged}
use Rattle.bcder.specs.calls.StringOctets.{whole, MeansString}
use Rattle.bcder.specs.calls.Views.{of_constructed, of_primitive}
use Rattle.bcder.specs.laws.Moved.{moved_carries}
use Rattle.bcder.specs.steps.Peek.{header_of}
use Rattle.bcder.specs.steps.StopCause.{stop_cause}
use Rattle.bcder.proofs.Entering.{header_entered}
use Rattle.bcder.proofs.SameBorrow.{within_constructed}
use Rattle.bcder.proofs.Stopping.{header_stopped}
use Rattle.bcder.proofs.Strings.{octets_in_one, piece_taken, piece_not_taken}
use Rattle.bcder.proofs.Taking.{takes_next, moves_next, of_either_form}
use Rattle.bcder.proofs.Valued.{next_tree, no_tree, stopped_tree}
use Rattle.bcder.proofs.string.octet.OctetString.take_opt_if.Goals as goal

pub take_constructed_body-requires-clause-fits : goal.take_constructed_body-requires-clause-fits
unfolding of_constructed
take_constructed_body-requires-clause-fits g c =
    let e = rw c.in-Ok-Some.field-0-is at c.in-Ok-Some.ensures.entered in
    e.1.fits

pub take_primitive_body-requires-clause-fits : goal.take_primitive_body-requires-clause-fits
unfolding of_constructed
take_primitive_body-requires-clause-fits g c =
    let e = rw c.in-Ok-Some.field-0-is at c.in-Ok-Some.ensures.entered in
    e.1.fits

pub returns-then-is_constructed-clause-moves : goal.returns-then-is_constructed-clause-moves
returns-then-is_constructed-clause-moves g c =
    let e = rw c.in-Ok-Some.field-0-is at c.in-Ok-Some.ensures.entered in
    moved_carries _ _ (moves_next (of_constructed g.S.Source.stream) _ (Some false) (tagged c.args.tag) (of_constructed g.S.Source.stream c.args.cons.now) _ _
    (header_of c.in-Ok-Some.header) e.0 e.1 _ c.take_constructed_body.ensures)

pub returns-then-is_constructed-clause-took : goal.returns-then-is_constructed-clause-took
unfolding of_constructed
returns-then-is_constructed-clause-took g c =
    let e = rw c.in-Ok-Some.field-0-is at c.in-Ok-Some.ensures.entered in
    let b = of_either_form (of_constructed g.S.Source.stream) _ (Some false) _ (header_of c.in-Ok-Some.header) _ _
    (λ f. (let x : ◌≡◌ {A = Option Bool} (Some false) (Some true) = f ∙ ap Some (sym c.is_constructed.ensures ∙ c.if-is_constructed.true) in cc))
    c.take_constructed_body.ensures in
    next_tree (of_constructed g.S.Source.stream) _ c.args.tag MeansString (λ t p r q x. search rules)
    (of_constructed g.S.Source.stream c.args.cons.now) (of_constructed g.S.Source.stream c.take_constructed_body.new.self) c.take_constructed_body.result
    (within_constructed g.S.Source.stream g.met.S.Source.sound c.args.cons.now)
    (takes_next (of_constructed g.S.Source.stream) _ None (tagged c.args.tag) (of_constructed g.S.Source.stream c.args.cons.now) _ _
    (header_of c.in-Ok-Some.header) e.0 e.1 _ b)

pub returns-in-Ok-Some-take_primitive_body-clause-moves : goal.returns-in-Ok-Some-take_primitive_body-clause-moves
returns-in-Ok-Some-take_primitive_body-clause-moves g c =
    let e = rw c.in-Ok-Some.field-0-is at c.in-Ok-Some.ensures.entered in
    moved_carries _ _ (moves_next (of_primitive g.S.Source.stream) _ (Some true) (tagged c.args.tag) (of_constructed g.S.Source.stream c.args.cons.now) _ _
    (header_of c.in-Ok-Some.header) e.0 e.1 _ c.take_primitive_body.ensures)

pub returns-in-Err-take_primitive_body-clause-moves : goal.returns-in-Err-take_primitive_body-clause-moves
returns-in-Err-take_primitive_body-clause-moves g c =
    let e = rw c.in-Ok-Some.field-0-is at c.in-Ok-Some.ensures.entered in
    moved_carries _ _ (moves_next (of_primitive g.S.Source.stream) _ (Some true) (tagged c.args.tag) (of_constructed g.S.Source.stream c.args.cons.now) _ _
    (header_of c.in-Ok-Some.header) e.0 e.1 _ c.take_primitive_body.ensures)

pub returns-in-Ok-Some-take_primitive_body-clause-took : goal.returns-in-Ok-Some-take_primitive_body-clause-took
unfolding of_constructed
returns-in-Ok-Some-take_primitive_body-clause-took g c =
    let e = rw c.in-Ok-Some.field-0-is at c.in-Ok-Some.ensures.entered in
    let i = of_constructed g.S.Source.stream c.args.cons.now in
    let j = of_constructed g.S.Source.stream c.take_primitive_body.new.self in
    let b = of_either_form (of_primitive g.S.Source.stream) _ (Some true) _ (header_of c.in-Ok-Some.header) _ _
    (λ f. (let x : ◌≡◌ {A = Option Bool} (Some true) (Some false) = f ∙ ap Some (sym c.is_constructed.ensures ∙ c.if-is_constructed.false) in cc))
    (rw c.in-Ok-Some-take_primitive_body.field-0-is at c.in-Ok-Some-take_primitive_body.ensures) in
    piece_taken MeansString octets_in_one c.args.tag i j c.in-Ok-Some-take_primitive_body.octets c.new.result c.new.ensures
    (next_tree (of_primitive g.S.Source.stream) _ c.args.tag (λ mode t w. MeansString mode t (whole w)) (λ t p r q x. search rules) i j _
    (within_constructed g.S.Source.stream g.met.S.Source.sound c.args.cons.now)
    (takes_next (of_primitive g.S.Source.stream) _ None (tagged c.args.tag) i _ j (header_of c.in-Ok-Some.header) e.0 e.1 _ b))

pub returns-in-Err-take_primitive_body-clause-took : goal.returns-in-Err-take_primitive_body-clause-took
unfolding of_constructed
returns-in-Err-take_primitive_body-clause-took g c =
    let e = rw c.in-Ok-Some.field-0-is at c.in-Ok-Some.ensures.entered in
    let i = of_constructed g.S.Source.stream c.args.cons.now in
    let j = of_constructed g.S.Source.stream c.take_primitive_body.new.self in
    let b = of_either_form (of_primitive g.S.Source.stream) _ (Some true) _ (header_of c.in-Ok-Some.header) _ _
    (λ f. (let x : ◌≡◌ {A = Option Bool} (Some true) (Some false) = f ∙ ap Some (sym c.is_constructed.ensures ∙ c.if-is_constructed.false) in cc))
    c.in-Err-take_primitive_body.ensures in
    piece_not_taken MeansString octets_in_one c.args.tag i j _
    (header_entered i (header_of c.in-Ok-Some.header) (of_constructed g.S.Source.stream c.next_header.new.self) (tagged c.args.tag) e.0 e.1)
    (sym c.is_constructed.ensures ∙ c.if-is_constructed.false) c.in-Err-take_primitive_body.error
    (next_tree (of_primitive g.S.Source.stream) _ c.args.tag (λ mode t w. MeansString mode t (whole w)) (λ t p r q x. search rules) i j _
    (within_constructed g.S.Source.stream g.met.S.Source.sound c.args.cons.now)
    (takes_next (of_primitive g.S.Source.stream) _ None (tagged c.args.tag) i _ j (header_of c.in-Ok-Some.header) e.0 e.1 _ b))

pub returns-in-Ok-None-clause-moves : goal.returns-in-Ok-None-clause-moves
returns-in-Ok-None-clause-moves g c = moved_carries _ _ c.next_header.ensures.moves

pub returns-in-Ok-None-clause-took : goal.returns-in-Ok-None-clause-took
unfolding of_constructed
returns-in-Ok-None-clause-took g c = no_tree c.args.tag _ _ _ c.next_header.ensures.mode (rw c.in-Ok-None.field-0-is at c.in-Ok-None.ensures.none)

pub returns-in-Err-clause-moves : goal.returns-in-Err-clause-moves
returns-in-Err-clause-moves g c = moved_carries _ _ c.next_header.ensures.moves

pub returns-in-Err-clause-took : goal.returns-in-Err-clause-took
unfolding of_constructed
returns-in-Err-clause-took g c =
    stopped_tree c.args.tag _ (of_constructed g.S.Source.stream c.args.cons.now) (of_constructed g.S.Source.stream c.next_header.new.self)
    (within_constructed g.S.Source.stream g.met.S.Source.sound c.args.cons.now) c.next_header.ensures.mode _
    (header_stopped stop_cause cause_of _ _ c.stop_error.ensures _ _ (tagged c.args.tag) c.in-Err.ensures.refused) c.next_header.ensures.marked
    c.in-Err.ensures.failed
