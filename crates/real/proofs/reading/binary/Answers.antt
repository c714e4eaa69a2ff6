use Rattle.std.proofs.Common.{rules, arith, ◌∙◌, ◌≡◌, ap, subst, pos, ◌*ℤ◌, w32, w64, SFits, FitsSigned}
use Rattle.std.proofs.lemmas.Grind.{common_steps}
use Rattle.std.proofs.lemmas.Int.{to_z-of_z}
use Rattle.real.specs.Octets.{signed}
use Rattle.real.proofs.Ones.{AreParts, same_exponent}
use Rattle.real.proofs.reading.binary.Goals as goal

pub returns-in_default : goal.returns-in_default
returns-in_default c = λ x h. c.in_default.ensures.same h.base h.is_base

pub returns-in_default-shifted : goal.returns-in_default-shifted
returns-in_default-shifted c = λ x h.
    let s = c.in-Some.ensures.same in
    let f : SFits w64 c.signed.result = search rules in
    let g : SFits w64 c.in-Some.exponent = search rules in
    let power = c.odd_part-odd.result.1 in
    let scaled : c.in-Some.exponent ≡ signed c.in_ok-exponent.exponent.now *ℤ pos s.0 =
    s.2 ∙ ap (λ z. z *ℤ pos s.0) (to_z-of_z w64 c.signed.result f ∙ c.signed.ensures.same) in
    let p : AreParts c.args.first c.args.rest.now c.in_ok-exponent.exponent.now c.in_ok-exponent.mantissa.now c.odd_part-odd.result.0 power s.0 =
    record {
      parts = search rules;
      is_odd = c.odd_part-odd.ensures.odd;
      mantissa = grind (arith, common_steps);
      base = s.1;
    } in
    let e = same_exponent c.args.first c.args.rest.now _ _ _ _ s.0 x p h in
    let one = rw (to_z-of_z w64 c.in-Some.exponent g, scaled) at c.in_default-shifted.ensures in
    one (subst (FitsSigned w32) e h.held.exponent)

pub returns : goal.returns
returns c =
    let s = c.in-Some.ensures.same in
    let f : SFits w64 c.signed.result = search rules in
    let g : SFits w64 c.in-Some.exponent = search rules in
    let k : SFits w32 c.in-Some-shifted.exponent = search rules in
    let scaled : c.in-Some.exponent ≡ signed c.in_ok-exponent.exponent.now *ℤ pos s.0 =
    s.2 ∙ ap (λ z. z *ℤ pos s.0) (to_z-of_z w64 c.signed.result f ∙ c.signed.ensures.same) in
    let shift = rw (to_z-of_z w64 c.in-Some.exponent g, scaled) at c.in-Some-shifted.ensures in
    record {
      binary = c.requires;
      sign = ap (λ r. r.negative) c.odd.ensures.same;
      base = s.0;
      is_base = s.1;
      exponent = c.in_ok-exponent.exponent.now;
      mantissa = c.in_ok-exponent.mantissa.now;
      parts = search rules;
      few = search rules;
      below = grind (arith, common_steps);
      power = c.odd_part-odd.result.1;
      mantissa_is = grind (arith, common_steps);
      exponent_is = ap (λ r. r.exponent) c.odd.ensures.same ∙ to_z-of_z w32 c.in-Some-shifted.exponent k ∙ shift;
      held = c.odd.ensures.held;
    }
