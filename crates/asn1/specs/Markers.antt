-- Tags by their number, as of `[0]`, `[APPLICATION 0]` and `[PRIVATE 0]` (X.680, 31.2).
use Rattle.std.proofs.Common.{ap, arith}
use Rattle.std.specs.Prelude.{◌≡◌, ℕ, ◌<◌}
use Rattle.bcder.specs.x690.Identifier.{Tag, IsValueTag, application, context_specific, private, universal}
use Rattle.asn1.specs.Types.{Only}

pub context_tagged : {n : ℕ} → n < 65536 → IsValueTag (record { class = context_specific; number = n })
context_tagged h = record { fits = omega (arith, h); no_end = λ e. (let k = ap (λ (t : Tag). t.class) e in cc) }

pub application_tagged : {n : ℕ} → n < 65536 → IsValueTag (record { class = application; number = n })
application_tagged h = record { fits = omega (arith, h); no_end = λ e. (let k = ap (λ (t : Tag). t.class) e in cc) }

pub private_tagged : {n : ℕ} → n < 65536 → IsValueTag (record { class = private; number = n })
private_tagged h = record { fits = omega (arith, h); no_end = λ e. (let k = ap (λ (t : Tag). t.class) e in cc) }

-- the values of a type have one tag: the one that is asked for
abbrev pub IsFixed : (Tag → Tag → Type 0) → Type 0
IsFixed Tags = (asked t : Tag) → (Tags asked t → t ≡ asked) × (t ≡ asked → Tags asked t)

pub only_fixed : IsFixed Only
only_fixed asked t = (λ h. h, λ h. h)

pub universal_tagged : {n : ℕ} → 0 < n → n < 65536 → IsValueTag (record { class = universal; number = n })
universal_tagged p h = record { fits = omega (arith, h); no_end = λ e. (let k = ap (λ (t : Tag). t.number) e in omega (arith, p, k)) }
