use Rattle.real.proofs.Ones.{real_one, real_once}
use Rattle.real.proofs.Back.{real_back}
use Rattle.real.proofs.laws.contents_are_one.Goals as goal

pub returns-clause-one : goal.returns-clause-one
returns-clause-one c = real_one

pub returns-clause-once : goal.returns-clause-once
returns-clause-once c = real_once

pub returns-clause-back : goal.returns-clause-back
returns-clause-back c = real_back
