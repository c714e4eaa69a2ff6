-- What is written on both streams.
use Rattle.std.specs.Prelude.{◌≡◌, ◌≢◌, ◌⊎◌, ℕ, List, ◌++◌, Option}
use Rattle.std.specs.Io.KnownBytes.{Appends, Keeps}
use Rattle.cli.specs.Shown.{IsLine}
use Rattle.cli.specs.declared.status.Status.{Status}
use Rattle.cli.specs.declared.status.Status.TheVariants.{Done}

-- known octets grew
abbrev pub Grows : Option (List ℕ) → Option (List ℕ) → Type 0
Grows old new = (w : List ℕ) × Appends old new w

-- a line without control characters was written, or a prefix of it, among others
pub record HasLine (old new : Option (List ℕ)) : Type 0 where
  pub before : List ℕ
  pub front : List ℕ
  pub rest : List ℕ
  pub behind : List ℕ
  pub line : IsLine (front ++ rest)
  pub appends : Appends old new (before ++ (front ++ behind))

-- nothing was written if all is right, and else a line on one of both streams
pub record Goes (out_old out_new err_old err_new : Option (List ℕ)) (s : Status) : Type 0 where
  pub silent : s ≡ Done → Keeps out_old out_new × Keeps err_old err_new
  pub told : s ≢ Done → HasLine out_old out_new ⊎ HasLine err_old err_new
  pub out_grows : Grows out_old out_new
  pub err_grows : Grows err_old err_new
