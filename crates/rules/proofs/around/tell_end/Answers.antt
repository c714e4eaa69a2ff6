use Rattle.std.proofs.Common.{◌≡◌, ◌++◌, ◌∷◌, ◌-◌, [], true, length, ap, arith, rules}
use Rattle.rules.specs.Around.{in_vain}
use Rattle.rules.specs.declared.rule.Rule.TheVariants as r
use Rattle.rules.proofs.Cases.{not_both}
use Rattle.rules.proofs.around.tell_end.Goals as goal

pub returns : goal.returns
returns c =
    let n : c.push.new.self.items ≡ c.args.found.now.items ++ record { at = c.saturating_sub-at.result; rule = r.SegmentSize } ∷ [] = search rules in
    let t : c.args.contents ≡ true = search rules in
    let s : c.saturating_sub-at.result ≡ c.args.at - length c.until.result.now = search rules in
    in_vain c.saturating_sub-at.result n t (λ h. not_both c.may_end.result (c.may_end.ensures.1 h) c.if-may_end.false)
    (λ v e. omega (arith, s, ap length (c.until.ensures v e)))
