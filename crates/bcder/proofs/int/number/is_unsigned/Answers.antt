use Rattle.std.proofs.Common.{◌≡◌, Bool, true, false, not, arith, subst, refl}
use Rattle.bcder.specs.x690.Identifier.{AreOctets}
use Rattle.bcder.specs.x690.Integer.{Leads}
use Rattle.bcder.proofs.IntegerOctets.{unsigned_leads, leads_both}
use Rattle.bcder.proofs.int.number.is_unsigned.Goals as goal

turned : (b : Bool) → not b ≡ false → b ≡ true
turned true e = refl
turned false e = cc

pub returns-then-is_smallest-clause-no : goal.returns-then-is_smallest-clause-no
returns-then-is_smallest-clause-no c = λ e n a.
    let o : AreOctets c.args.octets.now = λ i. omega (arith, c.type_inv.octets i) in
    leads_both c.args.octets.now (subst (λ b. Leads b c.args.octets.now) (turned c.is_negative.result e) c.is_negative.ensures)
    (unsigned_leads n c.args.octets.now o a)
