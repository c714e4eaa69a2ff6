-- RELATIVE-OID (ITU-T X.680, 33; X.690, 8.20).
use Rattle.std.proofs.Common.{ap, arith, lit<}
use Rattle.std.specs.Prelude.{◌≡◌, ℕ, List}
use Rattle.bcder.specs.x690.Identifier.{Tag, IsValueTag, universal}
use Rattle.bcder.specs.x690.ObjectIdentifier.{IsComplete, IsMinimal}

-- the tag of RELATIVE-OID (X.680, 8.4)
abbrev pub relative_tag : Tag
relative_tag = record { class = universal; number = 13 }

pub relative_tagged : IsValueTag relative_tag
relative_tagged = record { fits = lit< tt; no_end = λ e. (let n = ap (λ (t : Tag). t.number) e in omega arith) }

-- 8.20.2: subidentifiers, each in the fewest octets
pub record IsRelative (w : List ℕ) : Type 0 where
  pub complete : IsComplete w
  pub minimal : IsMinimal w

-- contents octets are those of this identifier
abbrev pub AreRelative : List ℕ → List ℕ → Type 0
AreRelative w x = (x ≡ w) × IsRelative w
