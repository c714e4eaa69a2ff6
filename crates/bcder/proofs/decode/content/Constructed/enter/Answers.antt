use Rattle.std.proofs.Common.{◌≡◌, ◌∙◌, refl, ap, arith, rules, sym, subst, take}
use Rattle.bcder.specs.declared.length.Length.TheVariants.{Definite}
use Rattle.bcder.specs.declared.decode.violation.Violation.TheVariants as violation
use Rattle.bcder.specs.calls.Content.{FitsOwed, Moves}
use Rattle.bcder.specs.steps.Entering.{Advances, Enters}
use Rattle.bcder.specs.steps.Peek.{header_of, len_of}
use Rattle.bcder.specs.calls.Views.{of_constructed}
use Rattle.bcder.proofs.Moving.{moves_failed, open_not_ended}
use Rattle.bcder.proofs.Entering.{enters, no_front, too_long, fits_owed}
use Rattle.bcder.proofs.SameBorrow.{failed_behind, advances_behind, octets_behind}
use Rattle.bcder.proofs.decode.content.Constructed.enter.Given.{Over}
use Rattle.bcder.proofs.decode.content.Constructed.enter.Goals as goal
use Rattle.bcder.proofs.decode.content.Constructed.enter.Goals.{After-advance, in-Primitive, in-Constructed-Definite, in-Constructed-Indefinite}

-- the octets of the header were passed over
passed : (g : Over) (c : After-advance g)
    → Advances (of_constructed g.S.Source.stream c.args.self.now) (of_constructed g.S.Source.stream (failed_behind c.args.self.now c.advance.new.self))
    (take c.args.size (of_constructed g.S.Source.stream c.args.self.now).stream.rest)
passed g c = advances_behind g.S.Source.stream g.met.S.Source.sound c.args.self.now c.advance.new.self c.args.size c.requires.read.0 c.advance.ensures.rest
    c.advance.ensures.faults c.advance.ensures.kept

moved : (g : Over) (c : After-advance g)
    → Moves (of_constructed g.S.Source.stream c.args.self.now) (of_constructed g.S.Source.stream (failed_behind c.args.self.now c.advance.new.self))
unfolding of_constructed
moved g c = moves_failed _ _ _ (passed g c) (λ x. x) (open_not_ended _ c.requires.usable) refl

entered : (g : Over) (c : After-advance g) → FitsOwed (len_of c.args.header.now.form) c.advance.new.self.limit
    → Enters (of_constructed g.S.Source.stream c.args.self.now) (header_of c.args.header.now)
    (of_constructed g.S.Source.stream (failed_behind c.args.self.now c.advance.new.self))
unfolding of_constructed
entered g c fits =
    let o = octets_behind g.S.Source.stream g.met.S.Source.sound c.args.self.now c.advance.new.self c.args.size c.requires.read.0 in
    enters (of_constructed g.S.Source.stream c.args.self.now) _ c.args.size (passed g c) o.0 o.1 c.requires.usable
    (header_of c.args.header.now) c.requires.read.1 fits c.advance.ensures.faults refl refl

pub returns-in_default-clause-moves : goal.returns-in_default-clause-moves
unfolding of_constructed
returns-in_default-clause-moves g c = moved g (goal.at.returns-in_default-clause-moves g c).After-advance

pub returns-then-fits-clause-moves : goal.returns-then-fits-clause-moves
unfolding of_constructed
returns-then-fits-clause-moves g c = moved g (goal.at.returns-then-fits-clause-moves g c).After-advance

pub returns-clause-moves : goal.returns-clause-moves
unfolding of_constructed
returns-clause-moves g c = moved g (goal.at.returns-clause-moves g c).After-advance

pub returns-in_default-clause-entered : goal.returns-in_default-clause-entered
unfolding of_constructed
returns-in_default-clause-entered g c =
    let fits : FitsOwed (len_of c.args.header.now.form) c.limit.result = (fits_owed _ _).1 (λ n m is owed. grind (arith, owed, c.in_default.is)) in
    entered g (goal.at.returns-in_default-clause-entered g c).After-advance (subst (FitsOwed (len_of c.args.header.now.form)) c.limit.ensures fits)

pub returns-then-fits-clause-entered : goal.returns-then-fits-clause-entered
unfolding of_constructed
returns-then-fits-clause-entered g c =
    let fits : FitsOwed (len_of c.args.header.now.form) c.limit.result = (fits_owed _ _).1 (λ n m is owed. elim c.match-header.branch [
      | in-Primitive w ↦ grind (arith, is, owed, ap len_of w.in-Primitive.is, c.in-Some.is, w.fits-is, c.if-fits.true)
      | in-Constructed-Definite w ↦ let len : len_of c.args.header.now.form ≡ Definite w.in-Constructed-Definite.len = search rules in
          grind (arith, is, owed, len, c.in-Some.is, w.fits-is, c.if-fits.true)
      | in-Constructed-Indefinite w ↦ grind (arith, is, owed, ap len_of w.in-Constructed-Indefinite.is, w.in-Constructed-Indefinite.field-0-is)
    ]) in
    entered g (goal.at.returns-then-fits-clause-entered g c).After-advance (subst (FitsOwed (len_of c.args.header.now.form)) c.limit.ensures fits)

pub returns-clause-refused : goal.returns-clause-refused
unfolding of_constructed
returns-clause-refused g c =
    let i = of_constructed g.S.Source.stream c.args.self.now in
    let p = (goal.at.returns-clause-refused g c).After-advance in
    let o = octets_behind g.S.Source.stream g.met.S.Source.sound c.args.self.now c.advance.new.self c.args.size c.requires.read.0 in
    let more : FitsOwed (len_of c.args.header.now.form) c.advance.new.self.limit → ⊥ =
    (λ fits. elim c.match-header.branch [
      | in-Primitive w ↦ let within = (fits_owed _ _).0 fits _ _ (ap len_of w.in-Primitive.is) (sym c.limit.ensures ∙ c.in-Some.is) in
          grind (arith, within, w.fits-is, c.if-fits.false)
      | in-Constructed-Definite w ↦ let len : len_of c.args.header.now.form ≡ Definite w.in-Constructed-Definite.len = search rules in
          let within = (fits_owed _ _).0 fits _ _ len (sym c.limit.ensures ∙ c.in-Some.is) in
          grind (arith, within, w.fits-is, c.if-fits.false)
      | in-Constructed-Indefinite w ↦ absurd (let z = sym w.fits-is ∙ c.if-fits.false in cc)
    ]) in (
      (
        violation.ValueTooLong,
        too_long i _ c.args.size (passed g p) o.0 o.1 c.requires.usable (header_of c.args.header.now) c.requires.read.1 more,
        refl,
      ),
      no_front i _ c.args.size (passed g p) o.0 o.1 c.requires.usable (header_of c.args.header.now) c.requires.read.1 more,
    )
