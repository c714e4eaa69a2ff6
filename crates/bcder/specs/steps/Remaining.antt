-- The octets that are owed of contents octets.
use Rattle.std.specs.Prelude.{◌≡◌, ℕ, length, Some}
use Rattle.bcder.specs.calls.Content.{Reading}

-- all octets that are owed come, and there are n
pub record HasAll (n : ℕ) (c : Reading) : Type 0 where
  pub owed : c.owed ≡ Some n
  pub count : length c.stream.rest ≡ n
