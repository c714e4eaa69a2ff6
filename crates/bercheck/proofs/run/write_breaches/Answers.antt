use Rattle.std.proofs.Common.{◌≡◌, rules, arith}
use Rattle.std.proofs.lemmas.Grind.{common_steps}
use Rattle.cli.specs.declared.status.Status.TheVariants.{Failed}
use Rattle.bercheck.proofs.Going.{goes_fails, goes_then}
use Rattle.bercheck.proofs.Files.{not_empty}
use Rattle.bercheck.proofs.run.write_breaches.Goals as goal

pub returns-then-eq-clause-goes : goal.returns-then-eq-clause-goes
returns-then-eq-clause-goes g c =
    let e : c.write_breach-status.result ≡ Failed = first_of (search rules, grind (arith, common_steps, c.eq.ensures, c.if-eq.true)) in
    goes_fails (g.W.Write.contents c.args.out.now) (g.W.Write.contents c.loop-rest.out) (g.W.Write.contents c.write_breach-status.new.out)
    (g.E.Write.contents c.args.err.now)
    (g.E.Write.contents c.loop-rest.err) (g.E.Write.contents c.write_breach-status.new.err) c.loop-rest.status c.write_breach-status.result
    c.loop-rest.invariant.0 c.write_breach-status.ensures.goes e

pub loop-rest-preserved : goal.loop-rest-preserved
loop-rest-preserved g c = (
  goes_then (g.W.Write.contents c.args.out.now) (g.W.Write.contents c.loop-rest.out) (g.W.Write.contents c.write_breach-status.new.out)
      (g.E.Write.contents c.args.err.now)
      (g.E.Write.contents c.loop-rest.err) (g.E.Write.contents c.write_breach-status.new.err) c.loop-rest.status c.write_breach-status.result
      c.loop-rest.invariant.0 c.write_breach-status.ensures.goes c.write_breach-status.ensures.told,
  search rules,
  λ z. absurd (c.write_breach-status.ensures.told z),
  λ _. not_empty c.loop-rest.rest.now c.args.found.now c.in-len1-up.len_at_least c.loop-rest.invariant.1,
)
