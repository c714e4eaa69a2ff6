use Rattle.std.proofs.Common.{subst, ap, ◌-◌, ◌+◌}
use Rattle.bcder.proofs.Lemmas.{wrote_what_is_passed_on, WrittenSoFar, written_none, written_one_more, written_not_one_more, written_all}
use Rattle.support.specs.Counted.{NullMeans, NullsMean}
use Rattle.support.proofs.Counting.{nulls_all, nulls_next, nulls_end, null_written}
use Rattle.support.proofs.encoders.write_nulls.Goals as goal

pub loop-init : goal.loop-init
loop-init g c = subst (λ P. WrittenSoFar (NullsMean c.args.count) P (g.W.Write.contents c.args.target.now) (g.W.Write.contents c.args.target.now))
    (nulls_all c.args.count) written_none

pub returns-in_err-write_encoded : goal.returns-in_err-write_encoded
returns-in_err-write_encoded g c = λ e meant.
    let n = c.args.count in
    let i = c.loop.counter in
    let so_far = subst (λ P. WrittenSoFar (NullsMean n) P (g.W.Write.contents c.args.target.now) (g.W.Write.contents c.loop.target))
    (nulls_next n i c.loop-test.true) c.loop.invariant in
    wrote_what_is_passed_on _ c.from_residual.ensures (written_not_one_more NullMeans (NullsMean (n - (i + 1))) ⊥ so_far
    (null_written c.encode.result.tag (ap (λ p. p.tag) c.encode.ensures) c.write_encoded.ensures) c.in_err-write_encoded.was e meant)

pub loop-preserved : goal.loop-preserved
loop-preserved g c =
    let n = c.args.count in
    let i = c.loop.counter in
    let so_far = subst (λ P. WrittenSoFar (NullsMean n) P (g.W.Write.contents c.args.target.now) (g.W.Write.contents c.loop.target))
    (nulls_next n i c.loop-test.true) c.loop.invariant in
    written_one_more NullMeans (NullsMean (n - (i + 1))) ⊥ so_far
    (null_written c.encode.result.tag (ap (λ p. p.tag) c.encode.ensures) c.write_encoded.ensures) c.in_ok-write_encoded.was

pub returns : goal.returns
returns g c = λ e meant.
    let n = c.args.count in
    let so_far = subst (λ P. WrittenSoFar (NullsMean n) P (g.W.Write.contents c.args.target.now) (g.W.Write.contents c.loop.target))
    (nulls_end n c.loop.counter c.loop-test.false) c.loop.invariant in
    written_all so_far ⊥ e meant
