-- A limit over a capturing source over a limit.
use Rattle.bcder.specs.laws.Limits.{cut_through, capped_through}

-- what is cut, and what is available, through both
pub ruleset limits_through = (cut_through, capped_through)
