use Rattle.std.proofs.Common.{refl, inl}
use Rattle.bcder.proofs.Lemmas.{wrote_what_is_passed_on}
use Rattle.support.specs.Counted.{zeros}
use Rattle.support.proofs.Counting.{zero_failed}
use Rattle.support.proofs.encoders.ZerosPrimitiveContent.write_encoded.Goals as goal

pub returns-in_err-write_encoded : goal.returns-in_err-write_encoded
returns-in_err-write_encoded g c =
    let n = c.args.self.now.0 in
    let failed = zero_failed n c.loop.counter c.loop-test.true c.loop.invariant c.write_encoded.ensures c.in_err-write_encoded.was in
    record { went = inl (zeros n, refl, wrote_what_is_passed_on _ c.from_residual.ensures failed) }
