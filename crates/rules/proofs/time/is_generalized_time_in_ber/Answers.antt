use Rattle.std.proofs.Common.{inl, inr, refl, rules}
use Rattle.rules.proofs.Cases.{last_of_four}
use Rattle.rules.proofs.time.is_generalized_time_in_ber.Goals as goal

pub returns-then-is_local_time : goal.returns-then-is_local_time
returns-then-is_local_time c = (λ _. inl (c.is_local_time.ensures.0 (search rules)), λ _. refl)

pub returns-then-is_time_with_z : goal.returns-then-is_time_with_z
returns-then-is_time_with_z c = (λ _. inr (inl (c.is_time_with_z.ensures.0 (search rules))), λ _. refl)

pub returns-then-is_time_with_difference : goal.returns-then-is_time_with_difference
returns-then-is_time_with_difference c = (λ _. inr (inr (inl (c.is_time_with_difference.ensures.0 (search rules)))), λ _. refl)

pub returns : goal.returns
returns c =
    last_of_four _ _ _ _ c.is_local_time.ensures c.if-is_local_time.false c.is_time_with_z.ensures c.if-is_time_with_z.false
    c.is_time_with_difference.ensures c.if-is_time_with_difference.false c.is_time_with_difference-2.ensures
