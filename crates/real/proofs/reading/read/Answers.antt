use Rattle.std.proofs.Common.{rules, ◌∙◌, ◌≡◌, ap}
use Rattle.real.specs.Contents.{Means, real_octets}
use Rattle.real.proofs.Ones.{means_one, canonical_parts}
use Rattle.real.proofs.reading.read.Goals as goal

pub returns-then-not-is_written : goal.returns-then-not-is_written
returns-then-not-is_written c = λ x h.
    let k = canonical_parts c.args.canonical c.args.octets.now x c.if-canonical.true h in
    let m : Means c.args.octets.now c.in_ok-value.value = search rules in
    let e = means_one c.args.octets.now x c.in_ok-value.value k.0 m in
    let w : c.args.octets.now ≡ real_octets c.in_ok-value.value = k.1 ∙ ap real_octets e in
    c.is_written.ensures.no (search rules) w
