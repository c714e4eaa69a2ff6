-- Which contents octets mean which time (X.680, 46, 47; X.690, 11.7, 11.8).
use Rattle.std.specs.Prelude.{◌≡◌, ℕ, List}
use Rattle.std.proofs.Common.{arith, lit<, ap}
use Rattle.bcder.specs.declared.mode.Mode.{Mode}
use Rattle.bcder.specs.x690.Identifier.{Tag, IsValueTag, universal}
use Rattle.civil.specs.Time.{Time, IsTime, IsUtcTime}
use Rattle.civil.specs.Octets.{utc_octets, generalized_octets}

abbrev pub utc_time_tag : Tag
utc_time_tag = record { class = universal; number = 23 }

abbrev pub generalized_time_tag : Tag
generalized_time_tag = record { class = universal; number = 24 }

pub utc_time_tagged : IsValueTag utc_time_tag
utc_time_tagged = record { fits = lit< tt; no_end = λ e. (let n = ap (λ (t : Tag). t.number) e in omega arith) }

pub generalized_time_tagged : IsValueTag generalized_time_tag
generalized_time_tagged = record { fits = lit< tt; no_end = λ e. (let n = ap (λ (t : Tag). t.number) e in omega arith) }

-- X.690, 11.8
abbrev pub IsUtcContents : Mode → List ℕ → Time → Type 0
IsUtcContents mode w x = IsUtcTime x × (w ≡ utc_octets x)

-- X.690, 11.7
abbrev pub IsGeneralizedContents : Mode → List ℕ → Time → Type 0
IsGeneralizedContents mode w x = IsTime x × (w ≡ generalized_octets x)
