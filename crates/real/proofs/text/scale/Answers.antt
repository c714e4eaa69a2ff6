use Rattle.std.proofs.Common.{rules, length, take, drop, get_or, ◌-◌, ◌∙◌, subst, ap, w64, SFits}
use Rattle.std.proofs.lemmas.Int.{to_z-of_z}
use Rattle.real.specs.Decimal.{IsExponent, with_sign}
use Rattle.real.proofs.Texts.{headed, scale_made}
use Rattle.real.proofs.text.scale.Goals as goal

pub returns-clause-same : goal.returns-clause-same
returns-clause-same c =
    let f : SFits w64 c.with_sign.result = search rules in
    let w = c.args.octets.now in
    let v = take (length w - 1) (drop 1 w) in
    rw (to_z-of_z w64 c.with_sign.result f)
    (scale_made w v (get_or w 0 0) c.in-Some.number c.with_sign.result (headed w c.in-len1-up.len_at_least) (c.is_letter.ensures.0 c.if-not-is_letter.false)
    (subst (λ d. IsExponent d c.in-Some.number) c.sign-negative.ensures.rest c.in-Some.ensures)
    (c.with_sign.ensures.same ∙ ap (λ s. with_sign s c.in-Some.number) c.sign-negative.ensures.sign))
