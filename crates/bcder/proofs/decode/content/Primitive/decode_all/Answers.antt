use Rattle.std.proofs.Common.{refl, ap, rules}
use Rattle.bcder.specs.calls.Content.{values}
use Rattle.bcder.specs.calls.Decoding.{IsWithin}
use Rattle.bcder.specs.calls.Views.{of_constructed, of_primitive, limited_stream}
use Rattle.bcder.specs.laws.Moved.{moved_carries}
use Rattle.bcder.proofs.Decoding.{moves_within, values_within, decoded_within, refused_within}
use Rattle.bcder.proofs.decode.content.Primitive.decode_all.Given.{Over}
use Rattle.bcder.proofs.decode.content.Primitive.decode_all.Goals as goal
use Rattle.bcder.proofs.decode.content.Primitive.decode_all.Goals.{After-over-cons}

-- the closure gets content over the octets
handed : (g : Over) (c : After-over-cons g)
    → IsWithin (of_primitive g.S.Source.stream c.args.self.now) c.args.mode (of_constructed g.S.Source.stream c.over-cons.result)
unfolding of_constructed of_primitive
handed g c = record {
  stream = ap (limited_stream g.S.Source.stream) c.over-cons.ensures.source;
  owed = ap (λ s. s.limit) c.over-cons.ensures.source;
  kind = ap values c.over-cons.ensures.kind;
  state = c.over-cons.ensures.state;
  mode = c.over-cons.ensures.mode;
  marked = c.over-cons.ensures.marked;
}

pub run_to_end-requires-clause-callable : goal.run_to_end-requires-clause-callable
unfolding of_constructed of_primitive
run_to_end-requires-clause-callable g c = λ p is.
    c.requires.callable p (values_within (of_primitive g.S.Source.stream c.args.self.now) _ _ c.args.mode is
    (handed g (goal.at.run_to_end-requires-clause-callable g c).After-over-cons))

pub run_to_end-requires-clause-lawful : goal.run_to_end-requires-clause-lawful
unfolding of_constructed of_primitive
run_to_end-requires-clause-lawful g c = λ p r q is.
    c.requires.lawful p r q (values_within (of_primitive g.S.Source.stream c.args.self.now) _ _ c.args.mode is
    (handed g (goal.at.run_to_end-requires-clause-lawful g c).After-over-cons))

pub returns-clause-moves : goal.returns-clause-moves
unfolding of_constructed of_primitive
returns-clause-moves g c =
    let k = of_constructed g.S.Source.stream c.run_to_end.new.cons in
    moved_carries _ _ (moves_within _ _ _ k c.args.mode (record {
      over = handed g (goal.at.returns-clause-moves g c).After-over-cons;
      moves = c.run_to_end.ensures.moves;
      stream = search rules;
      owed = search rules;
    }) refl refl refl refl refl refl refl)

pub returns-clause-ok : goal.returns-clause-ok
unfolding of_constructed of_primitive
returns-clause-ok g c =
    let k = of_constructed g.S.Source.stream c.run_to_end.new.cons in
    decoded_within (of_constructed g.S.Source.stream) _ _ _ _ k c.args.mode (record {
      over = handed g (goal.at.returns-clause-ok g c).After-over-cons;
      moves = c.run_to_end.ensures.moves;
      stream = search rules;
      owed = search rules;
    }) _ c.run_to_end.ensures.ok

pub returns-clause-refused : goal.returns-clause-refused
unfolding of_constructed of_primitive
returns-clause-refused g c =
    let k = of_constructed g.S.Source.stream c.run_to_end.new.cons in
    refused_within (of_constructed g.S.Source.stream) _ _ _ _ k c.args.mode (record {
      over = handed g (goal.at.returns-clause-refused g c).After-over-cons;
      moves = c.run_to_end.ensures.moves;
      stream = search rules;
      owed = search rules;
    }) _ c.run_to_end.ensures.refused

pub returns-clause-mode : goal.returns-clause-mode
unfolding of_primitive
returns-clause-mode g c = refl

pub returns-clause-marked : goal.returns-clause-marked
unfolding of_primitive
returns-clause-marked g c = refl
