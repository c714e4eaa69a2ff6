use Rattle.std.proofs.Common.{refl}
use Rattle.berlist.proofs.Gathering.{when_none}
use Rattle.berlist.proofs.run.Goals as goal

pub returns-in-Ok-None-clause-asked : goal.returns-in-Ok-None-clause-asked
returns-in-Ok-None-clause-asked g c mode octets a = absurd (when_none _ _ _ c.in-Ok-None.field-0-is c.in-Ok-None.ensures.asked mode octets a)

pub returns-in-Err-clause-usage : goal.returns-in-Err-clause-usage
returns-in-Err-clause-usage g c none = let q = c.in-Err.ensures.no_memory refl in absurd (none q.0 q.1 q.2)
