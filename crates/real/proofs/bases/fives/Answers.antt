use Rattle.std.proofs.Common.{arith, ◌≡◌, ◌<ℤ◌, ◌≤ℤ◌, pos, ap, ◌∙◌, w32}
use Rattle.std.proofs.lemmas.Int.{ints, to_z-of_z}
use Rattle.std.specs.Prelude.{nat_abs}
use Rattle.real.proofs.Fives.{times_is, over_odd}
use Rattle.real.proofs.bases.fives.Goals as goal

pub returns-then-exponent-lt0 : goal.returns-then-exponent-lt0
returns-then-exponent-lt0 c =
    let z = to_z-of_z w32 c.args.exponent c.ranges.exponent in
    let a : c.unsigned_abs.result ≡ nat_abs c.args.exponent = c.unsigned_abs.ensures.value ∙ ap nat_abs z in
    let l : c.args.exponent <ℤ pos 0 = grind (arith, ints) in
    over_odd c.over_fives.result c.args.odd c.args.exponent l c.requires (rw a at c.over_fives.ensures)

pub returns-else-exponent-lt0 : goal.returns-else-exponent-lt0
returns-else-exponent-lt0 c =
    let z = to_z-of_z w32 c.args.exponent c.ranges.exponent in
    let l : pos 0 ≤ℤ c.args.exponent = grind (arith, ints) in
    times_is c.times_fives.result c.args.odd c.args.exponent l c.requires (rw z at c.times_fives.ensures)
