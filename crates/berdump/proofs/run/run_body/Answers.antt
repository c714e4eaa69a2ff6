use Rattle.std.proofs.Common.{subst}
use Rattle.berdump.specs.Runs.{IsWhole}
use Rattle.berdump.proofs.Running.{whole_ends, bound_ends}
use Rattle.berdump.proofs.run.run_body.Goals as goal

pub returns-in-Ok-clause-listed : goal.returns-in-Ok-clause-listed
returns-in-Ok-clause-listed g c = λ z. (
  c.in-Ok.octets.items,
  c.in-Ok.ensures.octets,
  subst (λ w. IsWhole c.args.request.scope c.args.request.mode w (g.W.Write.contents c.args.out.now) (g.W.Write.contents c.run_octets.new.out))
      c.deref.ensures.value (whole_ends c.args.request.scope c.args.request.mode c.deref.result.now (g.W.Write.contents c.args.out.now)
      (g.W.Write.contents c.run_octets.new.out) c.run_octets.result z c.run_octets.ensures.ends),
)

pub returns-in-Ok-clause-bound : goal.returns-in-Ok-clause-bound
returns-in-Ok-clause-bound g c = bound_ends c.args.request.scope c.args.request.mode c.deref.result.now (g.W.Write.contents c.args.out.now)
    (g.W.Write.contents c.run_octets.new.out) c.run_octets.result c.run_octets.ensures.ends
