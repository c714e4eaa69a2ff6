use Rattle.std.proofs.Common.{rules, ◌∙◌, arith, sym, ap}
use Rattle.std.specs.Int.{complement_if}
use Rattle.bcder.specs.x690.Identifier.{AreOctets}
use Rattle.bcder.specs.x690.Number.{magnitude}
use Rattle.bcder.proofs.Numbers.{told_parts, dropped_parts, too_large}
use Rattle.bcder.proofs.int.number.parts_of.Goals as goal
use Rattle.bcder.proofs.int.number.parts_of.Goals.{else-octets-eq17-via-then-octets-eq17+else-invert_if-eq0, else-octets-eq17-via-else-octets-eq17}

pub returns-then-octets-le16-clause-some : goal.returns-then-octets-le16-clause-some
returns-then-octets-le16-clause-some c =
    let o : AreOctets c.args.octets.now = λ i. omega (arith, c.type_inv.octets i) in
    record {
      smallest = search rules;
      is = told_parts c.is_negative-negative.result c.args.octets.now o c.is_negative-negative.ensures
          ∙ ap (complement_if c.is_negative-negative.result) (sym c.magnitude_of.ensures);
    }

pub returns-then-invert_if-eq0-clause-some : goal.returns-then-invert_if-eq0-clause-some
returns-then-invert_if-eq0-clause-some c =
    let o : AreOctets c.args.octets.now = λ i. omega (arith, c.type_inv.octets i) in
    record {
      smallest = search rules;
      is = told_parts c.is_negative-negative.result c.args.octets.now o c.is_negative-negative.ensures ∙ ap (complement_if c.is_negative-negative.result)
          (sym (c.magnitude_of-then-invert_if-eq0.ensures ∙ ap (magnitude c.is_negative-negative.result) c.split_at.ensures.back
          ∙ dropped_parts c.is_negative-negative.result c.args.octets.now (sym c.invert_if.ensures ∙ c.if-invert_if-eq0.true)));
    }

pub returns-clause-none : goal.returns-clause-none
returns-clause-none c =
    let o : AreOctets c.args.octets.now = λ i. omega (arith, c.type_inv.octets i) in
    elim c.else-octets-eq17.branch [
      | else-octets-eq17-via-then-octets-eq17+else-invert_if-eq0 w ↦ too_large c.is_negative-negative.result c.args.octets.now o c.is_negative-negative.ensures
          (omega arith) (λ _ e. w.if-invert_if-eq0.false (w.invert_if.ensures ∙ e))
      | else-octets-eq17-via-else-octets-eq17 w ↦
          too_large c.is_negative-negative.result c.args.octets.now o c.is_negative-negative.ensures (omega arith) (λ e _. w.if-octets-eq17.false e)
    ]
