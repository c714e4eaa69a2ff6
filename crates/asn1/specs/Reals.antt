-- Which contents octets mean which REAL (X.680, 21; X.690, 8.5, 11.3).
use Rattle.std.specs.Prelude.{ℕ, Bool, true, false, List}
use Rattle.std.proofs.Common.{arith, lit<, ap}
use Rattle.bcder.specs.declared.mode.Mode.{Mode}
use Rattle.bcder.specs.declared.mode.Mode.TheVariants.{Ber, Cer, Der}
use Rattle.bcder.specs.x690.Identifier.{Tag, IsValueTag, universal}
use Rattle.real.specs.Contents.{IsReal}
use Rattle.real.specs.declared.value.Real.{Real}

abbrev pub real_tag : Tag
real_tag = record { class = universal; number = 9 }

pub real_tagged : IsValueTag real_tag
real_tagged = record { fits = lit< tt; no_end = λ e. (let n = ap (λ (t : Tag). t.number) e in omega arith) }

-- 11: CER and DER restrict the encoding of a value
abbrev pub is_canonical : Mode → Bool
is_canonical Ber = false
is_canonical Cer = true
is_canonical Der = true

-- X.690, 8.5; in CER and DER each value has one form (11.3)
abbrev pub IsRealContents : Mode → List ℕ → Real → Type 0
IsRealContents mode w x = IsReal (is_canonical mode) w x
