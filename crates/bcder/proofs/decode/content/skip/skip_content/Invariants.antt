use Rattle.std.proofs.Common.{◌≡◌, ◌+◌, List, ◌∷◌, length}
use Rattle.bcder.specs.declared.decode.content.State.TheVariants.{Open}
use Rattle.bcder.specs.steps.Peek.{header_of}
use Rattle.bcder.specs.x690.Preorder.{Heading}
use Rattle.bcder.specs.calls.Walking.{Called}
use Rattle.bcder.specs.steps.Stacked.{IsCounted, entries, heading, source_of, limit_in, TopIs, IsUnderWay}
use Rattle.bcder.proofs.decode.content.skip.skip_content.Given as goal

abbrev pub invariant-loop-opened : goal.invariant-loop-opened
invariant-loop-opened g l = record {
  callable : goal.F-IsAlwaysCallable g l.op;
  counted : IsCounted l.opened;
  went : (calls : List Heading) × Called (goal.F-step g) l.fn.op (heading (header_of l.fn.outermost) 0 ∷ calls) l.op
      × IsUnderWay l.fn.mode (header_of l.fn.outermost) (g.S.Source.stream l.fn.source.source) l.fn.source.limit calls (entries l.opened)
      (source_of g.S.Source.stream l.cons) (limit_in l.cons);
  top : TopIs (entries l.opened) l.cons.kind;
  state : l.cons.state ≡ Open;
  mode : l.cons.mode ≡ l.fn.mode;
  name : l.cons.source.ghost_name ≡ l.initial.cons.source.ghost_name;
  no_fault : (source_of g.S.Source.stream l.cons).faults ≡ (g.S.Source.stream l.fn.source.source).faults;
  outer : l.outer ≡ l.fn.source.limit;
}

abbrev pub decreases-loop-opened : goal.decreases-loop-opened
decreases-loop-opened g l = length (source_of g.S.Source.stream l.cons).rest + l.opened.depth
