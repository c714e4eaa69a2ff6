use Rattle.cli.proofs.Parts.{further, differ}
use Rattle.cli.proofs.pem.split_around.Goals as goal

pub loop-at-preserved : goal.loop-at-preserved
loop-at-preserved c = λ x y e. further c.args.octets.now c.args.mark.now x y c.loop-at.at e (c.loop-at.invariant x y e)
    (differ c.split_at-in-loop-at.result.0.now c.args.mark.now c.split_at.result.1.now c.args.octets.now c.loop-at.at c.eq.result c.eq.ensures c.if-eq.false
    c.split_at-in-loop-at.ensures.front c.split_at.ensures.back)
