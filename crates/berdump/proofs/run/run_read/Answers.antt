use Rattle.std.proofs.Common.{inl, inr, refl, subst}
use Rattle.berdump.specs.Runs.{IsInput, IsWhole}
use Rattle.berdump.proofs.Running.{whole_ends, bound_ends}
use Rattle.berdump.proofs.run.run_read.Goals as goal

pub returns-then-has_blocks-clause-input : goal.returns-then-has_blocks-clause-input
returns-then-has_blocks-clause-input g c = λ z. let (block, first) = c.run_blocks.ensures.some z in
    IsInput.blocks (c.has_blocks.ensures.yes c.if-has_blocks.true) block first (c.run_blocks.ensures.listed z)

pub returns-in-Ok-Some-clause-input : goal.returns-in-Ok-Some-clause-input
returns-in-Ok-Some-clause-input g c = λ z. IsInput.one (c.has_blocks.ensures.no c.if-has_blocks.false) c.in-Ok-Some.spelled.items
    (inl (rw c.in-Ok-Some.field-0-is at c.in-Ok-Some.ensures.spells)) (subst
    (λ w. IsWhole c.args.request.scope c.args.request.mode w (g.W.Write.contents c.args.out.now) (g.W.Write.contents c.run_octets.new.out))
    c.deref.ensures.value (whole_ends c.args.request.scope c.args.request.mode c.deref.result.now
    (g.W.Write.contents c.args.out.now) (g.W.Write.contents c.run_octets.new.out) c.run_octets.result z c.run_octets.ensures.ends))

pub returns-in-Ok-Some-clause-bound : goal.returns-in-Ok-Some-clause-bound
returns-in-Ok-Some-clause-bound g c = bound_ends c.args.request.scope c.args.request.mode c.deref.result.now (g.W.Write.contents c.args.out.now)
    (g.W.Write.contents c.run_octets.new.out) c.run_octets.result c.run_octets.ensures.ends

pub returns-in-Ok-None-clause-input : goal.returns-in-Ok-None-clause-input
returns-in-Ok-None-clause-input g c = λ z. IsInput.one (c.has_blocks.ensures.no c.if-has_blocks.false) c.args.octets.now
    (inr (rw c.in-Ok-None.field-0-is at c.in-Ok-None.ensures.nothing, refl)) (whole_ends c.args.request.scope c.args.request.mode c.args.octets.now
    (g.W.Write.contents c.args.out.now) (g.W.Write.contents c.run_octets-in-Ok-None.new.out) c.run_octets-in-Ok-None.result z
    c.run_octets-in-Ok-None.ensures.ends)

pub returns-in-Ok-None-clause-bound : goal.returns-in-Ok-None-clause-bound
returns-in-Ok-None-clause-bound g c = bound_ends c.args.request.scope c.args.request.mode c.args.octets.now (g.W.Write.contents c.args.out.now)
    (g.W.Write.contents c.run_octets-in-Ok-None.new.out) c.run_octets-in-Ok-None.result c.run_octets-in-Ok-None.ensures.ends
