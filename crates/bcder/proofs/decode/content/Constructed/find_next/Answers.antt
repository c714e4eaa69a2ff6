use Rattle.std.proofs.Common.{◌≡◌, ◌∙◌, refl, sym, rules}
use Rattle.std.specs.Prelude.{Some}
use Rattle.bcder.specs.declared.decode.content.Kind.TheVariants as kind
use Rattle.bcder.specs.declared.decode.header.Wanted.TheVariants.{Any}
use Rattle.bcder.specs.declared.decode.violation.Violation.TheVariants as violation
use Rattle.bcder.specs.calls.Content.{Resembles, in_front, truncated_contents, values}
use Rattle.bcder.specs.calls.Views.{of_constructed}
use Rattle.bcder.specs.laws.Moved.{moved_twice_is_moved}
use Rattle.bcder.proofs.Entering.{looked_moves, looked_failed, looked_front, marker_missing, end_nothing}
use Rattle.bcder.proofs.Entering.{none_nothing, unread_nothing, no_fewer, grew_least, kind_of}
use Rattle.bcder.proofs.Naming.{nothing_violated, looked_alike, front_alike, named_alike}
use Rattle.bcder.proofs.Passing.{looked_goes_on}
use Rattle.bcder.proofs.SameBorrow.{within_constructed, constructed_form, with_source, resembles_with_source}
use Rattle.bcder.proofs.decode.content.Constructed.find_next.Given.{Over}
use Rattle.bcder.proofs.decode.content.Constructed.find_next.Goals as goal
use Rattle.bcder.proofs.decode.content.Constructed.find_next.Goals.{After-peek}

-- the content that was only looked at is as it was
looked : (g : Over) (c : After-peek g)
    → Resembles (of_constructed g.S.Source.stream c.args.self.now) (of_constructed g.S.Source.stream (with_source c.args.self.now c.peek.new.source))
looked g c = resembles_with_source g.S.Source.stream c.args.self.now c.peek.new.source c.peek.ensures.rest c.peek.ensures.kept

pub returns-in-Ok-Front-clause-moves : goal.returns-in-Ok-Front-clause-moves
unfolding of_constructed
returns-in-Ok-Front-clause-moves g c =
    looked_moves _ _ (looked g (goal.at.returns-in-Ok-Front-clause-moves g c).After-peek) (no_fewer _ _ c.in-Ok-Front.ensures.no_fault)

pub returns-in-Ok-Front-clause-found : goal.returns-in-Ok-Front-clause-found
unfolding of_constructed
returns-in-Ok-Front-clause-found g c =
    let i = of_constructed g.S.Source.stream c.args.self.now in
    let p = rw c.in-Ok-Front.field-0-is at c.in-Ok-Front.ensures.peeked in
    looked_goes_on i _ (looked g (goal.at.returns-in-Ok-Front-clause-found g c).After-peek) c.in-Ok-Front.ensures.position
    (within_constructed g.S.Source.stream g.met.S.Source.sound c.args.self.now) c.in-Open.is (constructed_form g.S.Source.stream c.args.self.now) _ _ p.0.1

pub returns-in-Ok-Other-clause-moves : goal.returns-in-Ok-Other-clause-moves
unfolding of_constructed
returns-in-Ok-Other-clause-moves g c =
    looked_moves _ _ (looked g (goal.at.returns-in-Ok-Other-clause-moves g c).After-peek) (no_fewer _ _ c.in-Ok-Other.ensures.no_fault)

pub returns-in-Ok-Other-clause-found : goal.returns-in-Ok-Other-clause-found
returns-in-Ok-Other-clause-found g c =
    let p = rw c.in-Ok-Other.field-0-is at c.in-Ok-Other.ensures.peeked in
    absurd (p.4 refl)

pub returns-in-Ok-clause-moves : goal.returns-in-Ok-clause-moves
unfolding of_constructed
returns-in-Ok-clause-moves g c = moved_twice_is_moved _ _ _
    (looked_moves _ _ (looked g (goal.at.returns-in-Ok-clause-moves g c).After-peek) (no_fewer _ _ c.in-Ok-End.ensures.no_fault)) c.take_end.ensures.moves

pub returns-in-Ok-clause-none : goal.returns-in-Ok-clause-none
unfolding of_constructed
returns-in-Ok-clause-none g c =
    let s = looked g (goal.at.returns-in-Ok-clause-none g c).After-peek in
    let p = rw c.in-Ok-End.field-0-is at c.in-Ok-End.ensures.peeked in
    record {
      missing = marker_missing _ _ s c.in-Open.is Any p.1 (of_constructed g.S.Source.stream c.take_end.new.self) c.in-Ok.ensures.ended;
      marked = c.take_end.ensures.marked ∙ s.marked;
      no_fault = c.in-Ok.ensures.no_fault ∙ c.in-Ok-End.ensures.no_fault;
    }

pub returns-in-Err-take_end-clause-moves : goal.returns-in-Err-take_end-clause-moves
unfolding of_constructed
returns-in-Err-take_end-clause-moves g c = moved_twice_is_moved _ _ _ (looked_moves _ _ (looked g (goal.at.returns-in-Err-take_end-clause-moves g c).After-peek)
    (no_fewer _ _ c.in-Ok-End.ensures.no_fault)) c.take_end.ensures.moves

pub returns-in-Err-take_end-clause-refused : goal.returns-in-Err-take_end-clause-refused
unfolding of_constructed
returns-in-Err-take_end-clause-refused g c =
    let s = looked g (goal.at.returns-in-Err-take_end-clause-refused g c).After-peek in
    let p = rw c.in-Ok-End.field-0-is at c.in-Ok-End.ensures.peeked in
    let h = c.in-Err-take_end.ensures.refused in
    nothing_violated _ _ _ _ _
    (end_nothing _ _ s c.in-Open.is Any (within_constructed g.S.Source.stream g.met.S.Source.sound c.args.self.now) (constructed_form g.S.Source.stream
    c.args.self.now) (looked_front _ _ s (no_fewer _ _ c.in-Ok-End.ensures.no_fault) h.1) _ p.0.1 p.1) (named_alike _ _ (looked_alike _ _ s) _ h.0)

pub returns-in-Unbounded-clause-moves : goal.returns-in-Unbounded-clause-moves
unfolding of_constructed
returns-in-Unbounded-clause-moves g c =
    looked_moves _ _ (looked g (goal.at.returns-in-Unbounded-clause-moves g c).After-peek) (no_fewer _ _ c.in-Ok-Nothing.ensures.no_fault)

pub returns-in_default-kind-clause-moves : goal.returns-in_default-kind-clause-moves
unfolding of_constructed
returns-in_default-kind-clause-moves g c = looked_failed _ _ (looked g (goal.at.returns-in_default-kind-clause-moves g c).After-peek)
    (no_fewer _ _ c.in-Ok-Nothing.ensures.no_fault) _ c.in-Open.is refl refl refl refl refl refl refl

pub returns-in_default-kind-clause-refused : goal.returns-in_default-kind-clause-refused
unfolding of_constructed
returns-in_default-kind-clause-refused g c =
    let s = looked g (goal.at.returns-in_default-kind-clause-refused g c).After-peek in
    let bounded : (of_constructed g.S.Source.stream c.args.self.now).kind ≡ values kind.Unbounded
    → ⊥ = λ k. c.in_default-kind.not-Unbounded (kind_of _ _ (s.kind ∙ k)) in
    let e = rw c.in-Ok-Nothing.field-0-is at c.in-Ok-Nothing.ensures.peeked in
    nothing_violated _ _ _ _ _ (none_nothing _ _ s c.in-Open.is Any refl (constructed_form g.S.Source.stream c.args.self.now) (λ k o.
    let q : c.args.self.now.kind ≡ kind.Definite = kind_of _ _ k in let r : c.args.self.now.source.now.limit ≡ Some 0 = o in search rules) bounded e)
    (violation.TruncatedContents, truncated_contents refl (sym s.rest ∙ e) bounded, refl)

pub returns-in-Ok-Refused-clause-moves : goal.returns-in-Ok-Refused-clause-moves
unfolding of_constructed
returns-in-Ok-Refused-clause-moves g c = looked_failed _ _ (looked g (goal.at.returns-in-Ok-Refused-clause-moves g c).After-peek)
    (no_fewer _ _ c.in-Ok-Refused.ensures.no_fault) _ c.in-Open.is refl refl refl refl refl refl refl

pub returns-in-Ok-Refused-clause-refused : goal.returns-in-Ok-Refused-clause-refused
unfolding of_constructed
returns-in-Ok-Refused-clause-refused g c =
    let s = looked g (goal.at.returns-in-Ok-Refused-clause-refused g c).After-peek in
    let p = rw c.in-Ok-Refused.field-0-is at c.in-Ok-Refused.ensures.peeked in
    nothing_violated _ _ _ _ _ (unread_nothing _ _ s c.in-Open.is Any (within_constructed g.S.Source.stream g.met.S.Source.sound c.args.self.now)
    (constructed_form g.S.Source.stream c.args.self.now) p.0 p.1)
    (c.in-Ok-Refused.violation, in_front (front_alike _ _ (looked_alike _ _ s) _ p.2), refl)

pub returns-in-Err-clause-moves : goal.returns-in-Err-clause-moves
unfolding of_constructed
returns-in-Err-clause-moves g c = looked_failed _ _ (looked g (goal.at.returns-in-Err-clause-moves g c).After-peek)
    (grew_least _ _ c.in-Err.ensures.fault) _ c.in-Open.is refl refl refl refl refl refl refl
