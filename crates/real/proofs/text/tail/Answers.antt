use Rattle.real.proofs.Texts.{tail_is_marked}
use Rattle.real.proofs.text.tail.Goals as goal

pub returns-then-form-ne1-clause-same : goal.returns-then-form-ne1-clause-same
returns-then-form-ne1-clause-same c =
    tail_is_marked (λ r. r.0.now) (λ r. r.1) c.args.form c.args.octets.now c.marked.result c.if-form-ne1.true c.marked.ensures.same
