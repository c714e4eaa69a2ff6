use Rattle.std.proofs.Common.{rules, ◌≡◌, ◌++◌, ◌*◌, ◌^◌, length, ◌∙◌, subst, sym, ap, pos, ◌+ℤ◌, w32, w64, SFits}
use Rattle.std.proofs.lemmas.Int.{to_z-of_z}
use Rattle.real.specs.Decimal.{AreDigits, IsTail}
use Rattle.real.specs.Scan.{body, whole_of, IsMantissa}
use Rattle.real.proofs.Texts.{leading, decimal_made, same_power}
use Rattle.real.proofs.Decimals.{tail_found, parts_found}
use Rattle.real.proofs.text.decimal.Goals as goal

pub returns-in_default : goal.returns-in_default
returns-in_default c = λ x h.
    let t = tail_found c.args.form c.args.octets.now x h in
    c.in_default.ensures.same h.fraction h.scale (subst (λ w. IsTail c.args.form w h.fraction h.scale) (sym c.front-negative.ensures.tail) t)

pub mantissa-requires-clause-whole : goal.mantissa-requires-clause-whole
mantissa-requires-clause-whole c = subst AreDigits (sym c.front-negative.ensures.whole) (leading (body c.args.octets.now))

pub returns-in_default-mantissa : goal.returns-in_default-mantissa
returns-in_default-mantissa c = λ x h.
    let f = c.in-Some.fraction.now in
    let z = c.in-Some.scale in
    let t = subst (λ w. IsTail c.args.form w f z) c.front-negative.ensures.tail c.in-Some.ensures.same in
    let p = parts_found c.args.form c.args.octets.now f z x t h in
    c.in_default-mantissa.ensures x.mantissa p.power
    (subst (λ a. IsMantissa (a ++ f) x.mantissa p.power) (sym c.front-negative.ensures.whole) p.mantissa)

pub returns-in_default-shifted : goal.returns-in_default-shifted
returns-in_default-shifted c = λ x h.
    let s : SFits w64 c.in-Some.scale = search rules in
    let f = c.in-Some.fraction.now in
    let z = c.in-Some.scale in
    let t = subst (λ w. IsTail c.args.form w f z) c.front-negative.ensures.tail c.in-Some.ensures.same in
    let p = parts_found c.args.form c.args.octets.now f z x t h in
    let k = c.in-Some-mantissa.power in
    let m = subst (λ a. IsMantissa (a ++ f) c.in-Some-mantissa.mantissa k) c.front-negative.ensures.whole c.in-Some-mantissa.ensures in
    let o = same_power (whole_of c.args.octets.now ++ f) x.mantissa p.power c.in-Some-mantissa.mantissa k p.mantissa m in
    let e : x.exponent +ℤ pos (length f) ≡ z +ℤ pos k = p.exponent ∙ ap (λ n. z +ℤ pos n) o in
    c.in_default-shifted.ensures x.exponent p.held.exponent (rw (to_z-of_z w64 z s) e)

pub returns : goal.returns
returns c =
    let s : SFits w64 c.in-Some.scale = search rules in
    let i : SFits w32 c.in-Some-shifted.exponent = search rules in
    let f = c.in-Some.fraction.now in
    let z = c.in-Some.scale in
    let w = c.args.octets.now in
    let k = c.in-Some-mantissa.power in
    let t = subst (λ w. IsTail c.args.form w f z) c.front-negative.ensures.tail c.in-Some.ensures.same in
    let m = subst (λ a. IsMantissa (a ++ f) c.in-Some-mantissa.mantissa k) c.front-negative.ensures.whole c.in-Some-mantissa.ensures in
    let e = rw (to_z-of_z w64 z s) at c.in-Some-shifted.ensures in
    decimal_made c.args.form w f z k c.of_parts.result (ap (λ r. r.negative) c.of_parts.ensures.same ∙ c.front-negative.ensures.negative) t
    (m.value ∙ ap (λ r. r.mantissa * 10 ^ k) (sym c.of_parts.ensures.same))
    (ap (λ r. r.exponent +ℤ pos (length f)) c.of_parts.ensures.same ∙ rw (to_z-of_z w32 c.in-Some-shifted.exponent i) e)
    c.of_parts.ensures.held
