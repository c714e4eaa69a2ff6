use Rattle.std.proofs.Common.{refl, subst, inl}
use Rattle.bcder.specs.steps.Entering.{Enters}
use Rattle.bcder.specs.steps.Peek.{header_of}
use Rattle.bcder.specs.calls.Views.{of_constructed}
use Rattle.bcder.proofs.Entering.{if_nothing}
use Rattle.bcder.proofs.Naming.{nothing_violated}
use Rattle.bcder.proofs.decode.content.Constructed.enter_octets.Goals as goal

pub returns-in-Ok-clause-entered : goal.returns-in-Ok-clause-entered
unfolding of_constructed
returns-in-Ok-clause-entered g c = record {
  entered = subst (λ k. Enters (of_constructed g.S.Source.stream c.args.self.now) (header_of k) (of_constructed g.S.Source.stream c.enter.new.self))
      c.octets_header.ensures c.in-Ok.ensures.entered;
  none = tt;
  refused = tt;
  failed = tt;
  mode = c.enter.ensures.mode;
  marked = c.enter.ensures.marked;
}

pub returns-in-Err-clause-entered : goal.returns-in-Err-clause-entered
unfolding of_constructed
returns-in-Err-clause-entered g c = record {
  entered = tt;
  none = tt;
  refused = inl (nothing_violated _ _ _ _ _
      (if_nothing (of_constructed g.S.Source.stream c.args.self.now) c.args.tag _ _ c.requires.usable c.in-Err.ensures.refused.1
      c.requires.read.1 refl) c.in-Err.ensures.refused.0);
  failed = c.in-Err.ensures.failed;
  mode = c.enter.ensures.mode;
  marked = c.enter.ensures.marked;
}
