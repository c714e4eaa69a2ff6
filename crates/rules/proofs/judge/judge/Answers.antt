use Rattle.std.proofs.Common.{subst, refl, rules}
use Rattle.rules.specs.Broken.{BreaksContents, in_contents}
use Rattle.rules.proofs.judge.judge.Goals as goal

pub returns-in-Some-clause-broken : goal.returns-in-Some-clause-broken
returns-in-Some-clause-broken c =
    in_contents c.in-Some.place (search rules)
    (subst (λ kind. BreaksContents c.args.mode kind c.args.contents.now c.in-Some.rule c.in-Some.place) c.kind_of-kind.ensures c.in-Some.ensures.broken)
    refl
