use Rattle.std.proofs.Common.{ap, rules}
use Rattle.bcder.specs.calls.Content.{values}
use Rattle.bcder.specs.calls.Views.{of_constructed, limited_stream}
use Rattle.bcder.proofs.decode.content.decode.run_over.Goals as goal

pub returns : goal.returns
unfolding of_constructed
returns g c = record {
  handed = _;
  left = of_constructed g.S.Source.stream c.run.new.cons;
  runs = record {
    stream = ap (limited_stream g.S.Source.stream) c.over-cons.ensures.source;
    owed = ap (λ s. s.limit) c.over-cons.ensures.source;
    kind = ap values c.over-cons.ensures.kind;
    state = c.over-cons.ensures.state;
    mode = c.over-cons.ensures.mode;
    marked = c.over-cons.ensures.marked;
    left_stream = search rules;
    left_owed = search rules;
    moves = c.run.ensures.moves;
  };
  usable = c.run.ensures.usable;
  answers = c.run.ensures.ok;
  refuses = c.run.ensures.refused;
}
