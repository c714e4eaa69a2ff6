use Rattle.std.proofs.Common.{◌≡◌, ◌++◌, ◌∷◌, ◌-◌, [], true, length, ap, subst, arith, rules}
use Rattle.rules.specs.Around.{misspells}
use Rattle.rules.specs.Broken.{BreaksCharacters}
use Rattle.rules.proofs.around.tell_text.Goals as goal

pub returns : goal.returns
returns c =
    let rule = c.characters_rule-rule.result in
    let n : c.push.new.self.items ≡ c.args.found.now.items ++ record { at = c.saturating_sub-at.result; rule = rule } ∷ [] = search rules in
    let t : c.args.contents ≡ true = search rules in
    let s : c.saturating_sub-at.result ≡ c.args.at - length c.until.result.now = search rules in
    misspells rule c.saturating_sub-at.result n t
    (subst (λ z. BreaksCharacters c.args.mode c.args.value.now.kind z rule) c.behind-spelled.ensures c.characters_rule-rule.ensures.characters)
    (λ v e. omega (arith, s, ap length (c.until.ensures v e)))
