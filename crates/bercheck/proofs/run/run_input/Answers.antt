use Rattle.std.proofs.Common.{refl}
use Rattle.cli.specs.declared.status.Status.TheVariants.{Unread}
use Rattle.bercheck.specs.Runs.{IsInputBroken, IsInputRight}
use Rattle.bercheck.proofs.Files.{read_as}
use Rattle.bercheck.proofs.Going.{goes_alone, unread_told}
use Rattle.bercheck.proofs.run.run_input.Goals as goal

pub returns-in-Ok-clause-right : goal.returns-in-Ok-clause-right
returns-in-Ok-clause-right g c =
    λ e. read_as (IsInputRight c.args.request) (λ v. v.items) _ _ _ c.in-Ok.is c.deref.ensures.value (c.run_read.ensures.right e)

pub returns-in-Ok-clause-broken : goal.returns-in-Ok-clause-broken
returns-in-Ok-clause-broken g c =
    λ e. read_as (IsInputBroken c.args.request) (λ v. v.items) _ _ _ c.in-Ok.is c.deref.ensures.value (c.run_read.ensures.broken e)

pub returns-in-Err-clause-goes : goal.returns-in-Err-clause-goes
returns-in-Err-clause-goes g c = goes_alone (g.W.Write.contents c.args.out.now) (g.E.Write.contents c.args.err.now) (g.E.Write.contents c.tell.new.err) Unread
    (unread_told Unread refl) c.tell.ensures
