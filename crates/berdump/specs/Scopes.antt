-- Which values have a line.
use Rattle.std.specs.Prelude.{ℕ, Bool, true, Option, Some, None, nat_le}
use Rattle.berdump.specs.declared.scope.Scope.{Scope}

abbrev within : Option ℕ → ℕ → Bool
within (Some most) depth = nat_le depth most
within None depth = true

-- whether values at the depth have a line
abbrev pub is_shown : Scope → ℕ → Bool
is_shown scope depth = within scope.levels depth
