-- ENUMERATED (ITU-T X.680, 20; X.690, 8.4).
use Rattle.std.proofs.Common.{ap, arith, lit<}
use Rattle.bcder.specs.x690.Identifier.{Tag, IsValueTag, universal}

-- the tag of ENUMERATED (X.680, 8.4)
abbrev pub enumerated_tag : Tag
enumerated_tag = record { class = universal; number = 10 }

pub enumerated_tagged : IsValueTag enumerated_tag
enumerated_tagged = record { fits = lit< tt; no_end = λ e. (let n = ap (λ (t : Tag). t.number) e in omega arith) }
