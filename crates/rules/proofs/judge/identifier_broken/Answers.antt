use Rattle.std.proofs.Common.{rules}
use Rattle.rules.proofs.Identifiers.{one_padded, none_padded}
use Rattle.rules.proofs.judge.identifier_broken.Goals as goal

pub returns-in-Some-clause-unmeant : goal.returns-in-Some-clause-unmeant
returns-in-Some-clause-unmeant c = λ m. one_padded _ _ c.in-Some.ensures.some m.0 m.1

pub returns-in-None-clause-meant : goal.returns-in-None-clause-meant
returns-in-None-clause-meant c = (search rules, none_padded _ c.in-None.ensures.none)
