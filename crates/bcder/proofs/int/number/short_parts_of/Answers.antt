use Rattle.std.proofs.Common.{rules, ◌∙◌, true, false, arith, sym, ap}
use Rattle.std.specs.Int.{complement_if}
use Rattle.bcder.specs.x690.Identifier.{AreOctets}
use Rattle.bcder.proofs.Numbers.{told_parts}
use Rattle.bcder.proofs.int.number.short_parts_of.Goals as goal

pub returns-then-is_negative-clause-some : goal.returns-then-is_negative-clause-some
returns-then-is_negative-clause-some c =
    let o : AreOctets c.args.octets.now = λ i. omega (arith, c.type_inv.octets i) in
    record {
      smallest = search rules;
      is = told_parts true c.args.octets.now o (search rules) ∙ ap (complement_if true) (sym c.short_magnitude_of.ensures);
    }

pub returns-else-is_negative-clause-some : goal.returns-else-is_negative-clause-some
returns-else-is_negative-clause-some c =
    let o : AreOctets c.args.octets.now = λ i. omega (arith, c.type_inv.octets i) in
    record {
      smallest = search rules;
      is = told_parts false c.args.octets.now o (search rules) ∙ ap (complement_if false) (sym c.short_magnitude_of-else-is_negative.ensures);
    }
