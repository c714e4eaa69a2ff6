use Rattle.std.proofs.Common.{subst}
use Rattle.berdump.specs.Runs.{IsInput}
use Rattle.std.proofs.KnownBytes.{Keeps-refl}
use Rattle.berdump.proofs.Running.{all_titled, bound_join, bound_untitled}
use Rattle.berdump.proofs.run.run_input.Goals as goal

pub returns-then-is_only-clause-file : goal.returns-then-is_only-clause-file
returns-then-is_only-clause-file g c = λ z. rw (c.in-Ok.is, c.if-is_only.true) (
  g.W.Write.contents c.args.out.now,
  Keeps-refl (g.W.Write.contents c.args.out.now),
  subst (λ w. IsInput c.args.request w (g.W.Write.contents c.args.out.now) (g.W.Write.contents c.run_read.new.out)) c.deref.ensures.value
      (c.run_read.ensures.input z),
)

pub returns-in-Ok-write_title-clause-file : goal.returns-in-Ok-write_title-clause-file
returns-in-Ok-write_title-clause-file g c = λ z. rw (c.in-Ok.is, c.if-is_only.false) (
  g.W.Write.contents c.write_title.new.out,
  c.in-Ok-write_title.ensures.titled,
  subst (λ w. IsInput c.args.request w (g.W.Write.contents c.write_title.new.out)
      (g.W.Write.contents c.run_read-in-Ok-write_title.new.out)) c.deref-in-Ok-write_title.ensures.value (c.run_read-in-Ok-write_title.ensures.input z),
)

pub returns-in-Ok-write_title-clause-bound : goal.returns-in-Ok-write_title-clause-bound
returns-in-Ok-write_title-clause-bound g c = bound_join c.args.request.scope c.args.request.mode (g.W.Write.contents c.args.out.now)
    (g.W.Write.contents c.write_title.new.out) (g.W.Write.contents c.run_read-in-Ok-write_title.new.out) c.run_read-in-Ok-write_title.result
    (all_titled c.args.request.scope c.args.request.mode c.args.is_first (g.W.Write.contents c.args.out.now)
    (g.W.Write.contents c.write_title.new.out) c.in-Ok-write_title.ensures.titled) c.run_read-in-Ok-write_title.ensures.bound

pub returns-in-Err-write_title-clause-bound : goal.returns-in-Err-write_title-clause-bound
returns-in-Err-write_title-clause-bound g c = bound_untitled c.args.request.scope c.args.request.mode c.args.is_first (g.W.Write.contents c.args.out.now)
    (g.W.Write.contents c.write_title.new.out) (g.W.Write.contents c.write_title.new.out) c.in-Err-write_title.error
    c.tell_error.result c.tell_error.ensures.status
    c.in-Err-write_title.ensures.untitled (Keeps-refl (g.W.Write.contents c.write_title.new.out))
