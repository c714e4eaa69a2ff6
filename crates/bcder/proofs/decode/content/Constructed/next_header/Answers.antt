use Rattle.std.proofs.Common.{◌≡◌, ◌∙◌, refl, sym, rules}
use Rattle.std.specs.Prelude.{Some}
use Rattle.bcder.specs.declared.decode.content.Kind.TheVariants as kind
use Rattle.bcder.specs.declared.decode.violation.Violation.TheVariants as violation
use Rattle.bcder.specs.calls.Content.{Resembles, in_front, truncated_contents, values}
use Rattle.bcder.specs.steps.Peek.{header_of}
use Rattle.bcder.specs.calls.Views.{of_constructed}
use Rattle.bcder.specs.laws.Moved.{moved_twice_is_moved}
use Rattle.bcder.proofs.Entering.{looked_moves, looked_failed, looked_enters, looked_front, header_nothing, other_missing}
use Rattle.bcder.proofs.Entering.{marker_missing, end_nothing, none_nothing, unread_nothing, no_fewer, grew_least, kind_of}
use Rattle.bcder.proofs.Naming.{nothing_violated, looked_alike, front_alike, named_alike}
use Rattle.bcder.proofs.SameBorrow.{within_constructed, constructed_form, with_source, resembles_with_source}
use Rattle.bcder.proofs.decode.content.Constructed.next_header.Given.{Over}
use Rattle.bcder.proofs.decode.content.Constructed.next_header.Goals as goal
use Rattle.bcder.proofs.decode.content.Constructed.next_header.Goals.{After-peek}

-- the content that was only looked at is as it was
looked : (g : Over) (c : After-peek g)
    → Resembles (of_constructed g.S.Source.stream c.args.self.now) (of_constructed g.S.Source.stream (with_source c.args.self.now c.peek.new.source))
looked g c = resembles_with_source g.S.Source.stream c.args.self.now c.peek.new.source c.peek.ensures.rest c.peek.ensures.kept

pub returns-in-Ok-clause-moves : goal.returns-in-Ok-clause-moves
unfolding of_constructed
returns-in-Ok-clause-moves g c = moved_twice_is_moved _ _ _
    (looked_moves _ _ (looked g (goal.at.returns-in-Ok-clause-moves g c).After-peek) (no_fewer _ _ c.in-Ok-Front.ensures.no_fault)) c.enter.ensures.moves

pub returns-in-Ok-clause-entered : goal.returns-in-Ok-clause-entered
unfolding of_constructed
returns-in-Ok-clause-entered g c =
    let p = rw c.in-Ok-Front.field-0-is at c.in-Ok-Front.ensures.peeked in (
      p.1,
      looked_enters _ _ (looked g (goal.at.returns-in-Ok-clause-entered g c).After-peek) (no_fewer _ _ c.in-Ok-Front.ensures.no_fault)
          c.in-Ok-Front.ensures.no_fault (header_of c.in-Ok-Front.header) (of_constructed g.S.Source.stream c.enter.new.self) c.in-Ok.ensures.entered,
    )

pub returns-in-Err-enter-clause-moves : goal.returns-in-Err-enter-clause-moves
unfolding of_constructed
returns-in-Err-enter-clause-moves g c = moved_twice_is_moved _ _ _
    (looked_moves _ _ (looked g (goal.at.returns-in-Err-enter-clause-moves g c).After-peek) (no_fewer _ _ c.in-Ok-Front.ensures.no_fault)) c.enter.ensures.moves

pub returns-in-Err-enter-clause-refused : goal.returns-in-Err-enter-clause-refused
unfolding of_constructed
returns-in-Err-enter-clause-refused g c =
    let s = looked g (goal.at.returns-in-Err-enter-clause-refused g c).After-peek in
    let p = rw c.in-Ok-Front.field-0-is at c.in-Ok-Front.ensures.peeked in
    let h = c.in-Err-enter.ensures.refused in
    nothing_violated _ _ _ _ _ (header_nothing _ _ s c.in-Open.is c.args.wanted (within_constructed g.S.Source.stream g.met.S.Source.sound c.args.self.now)
    (constructed_form g.S.Source.stream c.args.self.now) (looked_front _ _ s (no_fewer _ _ c.in-Ok-Front.ensures.no_fault) h.1)
    (header_of c.in-Ok-Front.header) _ p.0.1 p.1) (named_alike _ _ (looked_alike _ _ s) _ h.0)

pub returns-in-Tagged-clause-moves : goal.returns-in-Tagged-clause-moves
unfolding of_constructed
returns-in-Tagged-clause-moves g c =
    looked_moves _ _ (looked g (goal.at.returns-in-Tagged-clause-moves g c).After-peek) (no_fewer _ _ c.in-Ok-Nothing.ensures.no_fault)

pub returns-in-Unbounded-clause-moves : goal.returns-in-Unbounded-clause-moves
unfolding of_constructed
returns-in-Unbounded-clause-moves g c =
    looked_moves _ _ (looked g (goal.at.returns-in-Unbounded-clause-moves g c).After-peek) (no_fewer _ _ c.in-Ok-Nothing.ensures.no_fault)

pub returns-in-Ok-Other-clause-moves : goal.returns-in-Ok-Other-clause-moves
unfolding of_constructed
returns-in-Ok-Other-clause-moves g c =
    looked_moves _ _ (looked g (goal.at.returns-in-Ok-Other-clause-moves g c).After-peek) (no_fewer _ _ c.in-Ok-Other.ensures.no_fault)

pub returns-in-Ok-Other-clause-none : goal.returns-in-Ok-Other-clause-none
unfolding of_constructed
returns-in-Ok-Other-clause-none g c =
    let s = looked g (goal.at.returns-in-Ok-Other-clause-none g c).After-peek in
    let p = rw c.in-Ok-Other.field-0-is at c.in-Ok-Other.ensures.peeked in
    record {
      missing = other_missing _ _ s c.in-Open.is c.args.wanted (within_constructed g.S.Source.stream g.met.S.Source.sound c.args.self.now) p;
      marked = s.marked;
      no_fault = c.in-Ok-Other.ensures.no_fault;
    }

pub returns-in-Ok-take_end-clause-moves : goal.returns-in-Ok-take_end-clause-moves
unfolding of_constructed
returns-in-Ok-take_end-clause-moves g c = moved_twice_is_moved _ _ _ (looked_moves _ _ (looked g (goal.at.returns-in-Ok-take_end-clause-moves g c).After-peek)
    (no_fewer _ _ c.in-Ok-End.ensures.no_fault)) c.take_end.ensures.moves

pub returns-in-Ok-take_end-clause-none : goal.returns-in-Ok-take_end-clause-none
unfolding of_constructed
returns-in-Ok-take_end-clause-none g c =
    let s = looked g (goal.at.returns-in-Ok-take_end-clause-none g c).After-peek in
    let p = rw c.in-Ok-End.field-0-is at c.in-Ok-End.ensures.peeked in
    record {
      missing = marker_missing _ _ s c.in-Open.is c.args.wanted p.1 (of_constructed g.S.Source.stream c.take_end.new.self) c.in-Ok-take_end.ensures.ended;
      marked = c.take_end.ensures.marked ∙ s.marked;
      no_fault = c.in-Ok-take_end.ensures.no_fault ∙ c.in-Ok-End.ensures.no_fault;
    }

pub returns-in-Err-take_end-clause-moves : goal.returns-in-Err-take_end-clause-moves
unfolding of_constructed
returns-in-Err-take_end-clause-moves g c = moved_twice_is_moved _ _ _ (looked_moves _ _ (looked g (goal.at.returns-in-Err-take_end-clause-moves g c).After-peek)
    (no_fewer _ _ c.in-Ok-End.ensures.no_fault)) c.take_end.ensures.moves

pub returns-in-Err-take_end-clause-refused : goal.returns-in-Err-take_end-clause-refused
unfolding of_constructed
returns-in-Err-take_end-clause-refused g c =
    let s = looked g (goal.at.returns-in-Err-take_end-clause-refused g c).After-peek in
    let p = rw c.in-Ok-End.field-0-is at c.in-Ok-End.ensures.peeked in
    let h = c.in-Err-take_end.ensures.refused in
    nothing_violated _ _ _ _ _ (end_nothing _ _ s c.in-Open.is c.args.wanted (within_constructed g.S.Source.stream g.met.S.Source.sound c.args.self.now)
    (constructed_form g.S.Source.stream c.args.self.now) (looked_front _ _ s (no_fewer _ _ c.in-Ok-End.ensures.no_fault) h.1) _ p.0.1 p.1)
    (named_alike _ _ (looked_alike _ _ s) _ h.0)

pub returns-in_default-kind-clause-moves : goal.returns-in_default-kind-clause-moves
unfolding of_constructed
returns-in_default-kind-clause-moves g c = looked_failed _ _ (looked g (goal.at.returns-in_default-kind-clause-moves g c).After-peek)
    (no_fewer _ _ c.in-Ok-Nothing.ensures.no_fault) _ c.in-Open.is refl refl refl refl refl refl refl

pub returns-in_default-kind-clause-refused : goal.returns-in_default-kind-clause-refused
unfolding of_constructed
returns-in_default-kind-clause-refused g c =
    let s = looked g (goal.at.returns-in_default-kind-clause-refused g c).After-peek in
    let bounded : (of_constructed g.S.Source.stream c.args.self.now).kind ≡ values kind.Unbounded
    → ⊥ = λ k. c.in_default-kind.not-Unbounded (kind_of _ _ (s.kind ∙ k)) in
    let e = rw c.in-Ok-Nothing.field-0-is at c.in-Ok-Nothing.ensures.peeked in
    nothing_violated _ _ _ _ _ (none_nothing _ _ s c.in-Open.is c.args.wanted c.in-Any.is (constructed_form g.S.Source.stream c.args.self.now) (λ k o.
    let q : c.args.self.now.kind ≡ kind.Definite = kind_of _ _ k in let r : c.args.self.now.source.now.limit ≡ Some 0 = o in search rules) bounded e)
    (violation.TruncatedContents, truncated_contents refl (sym s.rest ∙ e) bounded, refl)

pub returns-in-Ok-Refused-clause-moves : goal.returns-in-Ok-Refused-clause-moves
unfolding of_constructed
returns-in-Ok-Refused-clause-moves g c = looked_failed _ _ (looked g (goal.at.returns-in-Ok-Refused-clause-moves g c).After-peek)
    (no_fewer _ _ c.in-Ok-Refused.ensures.no_fault) _ c.in-Open.is refl refl refl refl refl refl refl

pub returns-in-Ok-Refused-clause-refused : goal.returns-in-Ok-Refused-clause-refused
unfolding of_constructed
returns-in-Ok-Refused-clause-refused g c =
    let s = looked g (goal.at.returns-in-Ok-Refused-clause-refused g c).After-peek in
    let p = rw c.in-Ok-Refused.field-0-is at c.in-Ok-Refused.ensures.peeked in
    nothing_violated _ _ _ _ _ (unread_nothing _ _ s c.in-Open.is c.args.wanted (within_constructed g.S.Source.stream g.met.S.Source.sound c.args.self.now)
    (constructed_form g.S.Source.stream c.args.self.now) p.0 p.1)
    (c.in-Ok-Refused.violation, in_front (front_alike _ _ (looked_alike _ _ s) _ p.2), refl)

pub returns-in-Err-clause-moves : goal.returns-in-Err-clause-moves
unfolding of_constructed
returns-in-Err-clause-moves g c = looked_failed _ _ (looked g (goal.at.returns-in-Err-clause-moves g c).After-peek)
    (grew_least _ _ c.in-Err.ensures.fault) _ c.in-Open.is refl refl refl refl refl refl refl
