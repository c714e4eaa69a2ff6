use Rattle.std.proofs.Common.{arith}
use Rattle.bcder.proofs.TakenBack.{skipped_taken}
use Rattle.bcder.proofs.laws.taken_back.a_small_integer_is_skipped.Goals as goal

pub returns : goal.returns
returns g c = skipped_taken c.args.x c.args.mode (omega (arith, c.ranges.x.fits))
