use Rattle.std.proofs.Common.{rules}
use Rattle.rules.proofs.time.is_time_with_difference.Goals as goal

pub returns-then-is_local_time : goal.returns-then-is_local_time
returns-then-is_local_time c =
    (λ e. record { local = c.is_local_time.ensures.0 (search rules); end = c.has_difference.ensures.0 e }, λ h. c.has_difference.ensures.1 h.end)
