use Rattle.std.proofs.Common.{rules, refl, arith, ◌∙◌, w32, SFits}
use Rattle.std.proofs.lemmas.Grind.{common_steps}
use Rattle.std.proofs.lemmas.Int.{to_z-of_z}
use Rattle.real.proofs.Numbers.{put_in_order}
use Rattle.real.proofs.writing.put_binary.Goals as goal
use Rattle.real.proofs.writing.put_binary.Goals.{then-is_negative, else-is_negative, then-count-eq4, else-count-eq4}

pub returns : goal.returns
returns c =
    let f : SFits w32 c.exponent.result = search rules in
    put_in_order c.args.number.now c.magnitude-negative.result.0 c.magnitude-negative.result.1 c.exponent_len-count.result c.if-is_negative.sign
    c.push.new.self c.if-count-eq4.octets c.put_complement.new.octets c.put_big_endian.new.octets
    (c.magnitude-negative.ensures.same ∙ to_z-of_z w32 c.exponent.result f ∙ c.exponent.ensures.0)
    c.exponent_len-count.ensures.same
    (elim c.if-is_negative.branch [ then-is_negative w ↦ grind (arith, common_steps) | else-is_negative w ↦ grind (arith, common_steps) ])
    (c.push.ensures ∙ rw c.new-octets.ensures refl)
    (elim c.if-count-eq4.branch [ then-count-eq4 w ↦ grind (arith, common_steps) | else-count-eq4 w ↦ grind (arith, common_steps) ])
    c.put_complement.ensures.appended
    (c.put_big_endian.ensures.appended ∙ rw c.mantissa.ensures.0 refl)
