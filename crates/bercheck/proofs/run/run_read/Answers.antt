use Rattle.std.proofs.Common.{inl, inr, refl, subst}
use Rattle.rules.specs.Means.{AreRight}
use Rattle.bercheck.specs.Runs.{AreBroken, IsInputBroken, IsInputRight}
use Rattle.bercheck.proofs.Going.{failed_told, goes_alone, refused_told}
use Rattle.bercheck.proofs.run.run_read.Goals as goal

pub returns-in-Ok-Some-clause-right : goal.returns-in-Ok-Some-clause-right
returns-in-Ok-Some-clause-right g c = λ z. IsInputRight.one (c.has_blocks.ensures.no c.if-has_blocks.false) c.in-Ok-Some.spelled.items
    (inl (rw c.in-Ok-Some.field-0-is at c.in-Ok-Some.ensures.spells))
    (subst (λ v. AreRight c.args.request.mode c.args.request.contents v) c.deref.ensures.value (c.run_octets.ensures.right z))

pub returns-in-Ok-Some-clause-broken : goal.returns-in-Ok-Some-clause-broken
returns-in-Ok-Some-clause-broken g c = λ z. IsInputBroken.one (c.has_blocks.ensures.no c.if-has_blocks.false) c.in-Ok-Some.spelled.items
    (inl (rw c.in-Ok-Some.field-0-is at c.in-Ok-Some.ensures.spells))
    (subst (λ v. AreBroken c.args.request v) c.deref.ensures.value (c.run_octets.ensures.broken z))

pub returns-in-Ok-None-clause-right : goal.returns-in-Ok-None-clause-right
returns-in-Ok-None-clause-right g c = λ z. IsInputRight.one (c.has_blocks.ensures.no c.if-has_blocks.false) c.args.octets.now
    (inr (rw c.in-Ok-None.field-0-is at c.in-Ok-None.ensures.itself, refl)) (c.run_octets-in-Ok-None.ensures.right z)

pub returns-in-Ok-None-clause-broken : goal.returns-in-Ok-None-clause-broken
returns-in-Ok-None-clause-broken g c = λ z. IsInputBroken.one (c.has_blocks.ensures.no c.if-has_blocks.false) c.args.octets.now
    (inr (rw c.in-Ok-None.field-0-is at c.in-Ok-None.ensures.itself, refl)) (c.run_octets-in-Ok-None.ensures.broken z)

pub returns-in-Err-NoMemory-clause-goes : goal.returns-in-Err-NoMemory-clause-goes
returns-in-Err-NoMemory-clause-goes g c = goes_alone (g.W.Write.contents c.args.out.now) (g.E.Write.contents c.args.err.now)
    (g.E.Write.contents c.tell_no_memory.new.err) c.tell_no_memory.result
    (failed_told c.tell_no_memory.result c.tell_no_memory.ensures.failed) c.tell_no_memory.ensures.told

pub returns-in-Err-Form-clause-goes : goal.returns-in-Err-Form-clause-goes
returns-in-Err-Form-clause-goes g c = goes_alone (g.W.Write.contents c.args.out.now) (g.E.Write.contents c.args.err.now)
    (g.E.Write.contents c.refuse.new.err) c.refuse.result
    (refused_told c.refuse.result c.refuse.ensures.refused) c.refuse.ensures.told
