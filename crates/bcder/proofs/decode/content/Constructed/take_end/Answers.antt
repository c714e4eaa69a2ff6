use Rattle.std.proofs.Common.{◌≡◌, refl, ap}
use Rattle.bcder.specs.declared.decode.violation.Violation.TheVariants as violation
use Rattle.bcder.specs.declared.decode.content.Kind.TheVariants as kind
use Rattle.bcder.specs.calls.Content.{values, stray_end}
use Rattle.bcder.specs.calls.Views.{of_constructed}
use Rattle.bcder.proofs.Moving.{moves_failed, open_not_ended}
use Rattle.bcder.proofs.Entering.{takes_marker, marker_moves, marker_here, no_end_here, advances_to, kind_of}
use Rattle.bcder.proofs.SameBorrow.{advances_behind, octets_behind}
use Rattle.bcder.proofs.decode.content.Constructed.take_end.Goals as goal

pub returns-clause-moves : goal.returns-clause-moves
unfolding of_constructed
returns-clause-moves g c =
    let i = of_constructed g.S.Source.stream c.args.self.now in
    let o = octets_behind g.S.Source.stream g.met.S.Source.sound c.args.self.now c.advance.new.self c.args.size c.requires.read.0 in
    let a = advances_behind g.S.Source.stream g.met.S.Source.sound c.args.self.now c.advance.new.self c.args.size c.requires.read.0 c.advance.ensures.rest
    c.advance.ensures.faults c.advance.ensures.kept in
    marker_moves i _ c.args.size (advances_to i _ _ _ a refl refl refl refl refl) o.0 o.1 c.requires.usable c.requires.read.1
    (ap values c.in-Indefinite.is) refl refl

pub returns-clause-ended : goal.returns-clause-ended
unfolding of_constructed
returns-clause-ended g c =
    let i = of_constructed g.S.Source.stream c.args.self.now in
    let o = octets_behind g.S.Source.stream g.met.S.Source.sound c.args.self.now c.advance.new.self c.args.size c.requires.read.0 in
    let a = advances_behind g.S.Source.stream g.met.S.Source.sound c.args.self.now c.advance.new.self c.args.size c.requires.read.0 c.advance.ensures.rest
    c.advance.ensures.faults c.advance.ensures.kept in
    takes_marker i _ c.args.size (advances_to i _ _ _ a refl refl refl refl refl) o.0 o.1 c.requires.usable c.requires.read.1
    (ap values c.in-Indefinite.is) refl

pub returns-in_default-clause-moves : goal.returns-in_default-clause-moves
unfolding of_constructed
returns-in_default-clause-moves g c =
    let a = advances_behind g.S.Source.stream g.met.S.Source.sound c.args.self.now c.advance.new.self c.args.size c.requires.read.0 c.advance.ensures.rest
    c.advance.ensures.faults c.advance.ensures.kept in
    moves_failed _ _ _ a (λ x. x) (open_not_ended _ c.requires.usable) refl

pub returns-in_default-clause-refused : goal.returns-in_default-clause-refused
unfolding of_constructed
returns-in_default-clause-refused g c =
    let i = of_constructed g.S.Source.stream c.args.self.now in
    let o = octets_behind g.S.Source.stream g.met.S.Source.sound c.args.self.now c.advance.new.self c.args.size c.requires.read.0 in
    let a = advances_behind g.S.Source.stream g.met.S.Source.sound c.args.self.now c.advance.new.self c.args.size c.requires.read.0 c.advance.ensures.rest
    c.advance.ensures.faults c.advance.ensures.kept in
    let n : i.kind ≡ values kind.Indefinite → ⊥ = λ k. c.in_default.not-Indefinite (kind_of _ _ k) in (
      (violation.StrayEnd, stray_end refl n _ (marker_here i _ c.args.size a o.0 o.1 c.requires.usable c.requires.read.1), refl),
      no_end_here i _ c.args.size a o.0 o.1 c.requires.usable c.requires.read.1 n,
    )
