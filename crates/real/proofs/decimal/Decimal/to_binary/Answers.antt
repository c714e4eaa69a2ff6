use Rattle.std.proofs.Common.{rules, arith, ◌≡◌, ◌+ℤ◌, pos, ap, sym, ◌∙◌, subst, w32, SFits}
use Rattle.std.proofs.lemmas.Int.{ints, to_z-of_z}
use Rattle.real.specs.Number.{IsFives}
use Rattle.real.proofs.Fives.{fives_of, same_made}
use Rattle.real.proofs.decimal.Decimal.to_binary.Goals as goal

pub returns-in_default : goal.returns-in_default
returns-in_default c = λ y h.
    let x = c.args.self.now in
    let s : SFits w32 c.exponent.result = search rules in
    let m = c.odd_part-odd.result in
    let p = fives_of x y m.0 m.1 (sym c.mantissa.ensures.0 ∙ c.odd_part-odd.ensures.same) c.odd_part-odd.ensures.odd h in
    let e = to_z-of_z w32 c.exponent.result s ∙ c.exponent.ensures.0 in
    c.in_default.ensures y.mantissa h.held.mantissa (subst (λ e. IsFives m.0 e y.mantissa) (sym e) p.0)

pub returns-in_default-shifted : goal.returns-in_default-shifted
returns-in_default-shifted c = λ y h.
    let x = c.args.self.now in
    let s : SFits w32 c.exponent-2.result = search rules in
    let m = c.odd_part-odd.result in
    let p = fives_of x y m.0 m.1 (sym c.mantissa.ensures.0 ∙ c.odd_part-odd.ensures.same) c.odd_part-odd.ensures.odd h in
    let j = p.1 in
    let e = c.exponent-2.ensures.0 in
    let f = c.from.ensures in
    let g = c.from-2.ensures in
    let k = h.exponent in
    c.in_default-shifted.ensures y.exponent h.held.exponent (omega (arith, ints))

pub returns : goal.returns
returns c =
    let x = c.args.self.now in
    let s : SFits w32 c.exponent.result = search rules in
    let t : SFits w32 c.exponent-2.result = search rules in
    let i : SFits w32 c.in-Some-shifted.exponent = search rules in
    let m = c.odd_part-odd.result in
    let e = to_z-of_z w32 c.exponent.result s ∙ c.exponent.ensures.0 in
    let f = subst (λ e. IsFives m.0 e c.in-Some.mantissa) e c.in-Some.ensures.0 in
    let y = c.odd.result in
    let z : y.exponent ≡ x.exponent +ℤ pos m.1 =
    (let a = ap (λ r. r.exponent) c.odd.ensures.same in
    let b = c.exponent-2.ensures.0 in
    let d = c.from.ensures in
    let g = c.from-2.ensures in
    let k = c.in-Some-shifted.ensures in omega (arith, ints)) in
    same_made x y m.0 c.in-Some.mantissa m.1 (sym c.mantissa.ensures.0 ∙ c.odd_part-odd.ensures.same) f (ap (λ r. r.mantissa) c.odd.ensures.same)
    (ap (λ r. r.negative) c.odd.ensures.same ∙ c.is_negative.ensures.0) z c.odd.ensures.held
