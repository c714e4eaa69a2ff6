use Rattle.std.proofs.Common.{◌∙◌, refl, ap, subst, rules}
use Rattle.std.specs.Prelude.{Some}
use Rattle.bcder.specs.declared.decode.content.State.TheVariants.{Open}
use Rattle.bcder.specs.calls.Decoding.{by_closure, left_octets}
use Rattle.bcder.specs.calls.Calls.{IsOver}
use Rattle.bcder.specs.calls.Content.{Octets}
use Rattle.bcder.specs.calls.Stream.{limited}
use Rattle.bcder.specs.calls.Views.{of_primitive, limited_stream}
use Rattle.bcder.proofs.decode.content.alone.run_over.Given.{Over}
use Rattle.bcder.proofs.decode.content.alone.run_over.Goals as goal
use Rattle.bcder.proofs.decode.content.alone.run_over.Goals.{After-over-octets}

-- the closure gets content over the source
handed : (g : Over) (c : After-over-octets g)
    → IsOver (limited_stream g.S.Source.stream c.args.source.now) (Some c.args.len) Octets Open c.args.mode
    (of_primitive g.S.Source.stream c.over-octets.result)
unfolding of_primitive
handed g c = record {
  stream = ap (limited_stream g.S.Source.stream) c.over-octets.ensures.source;
  owed = ap (λ s. s.limit) c.over-octets.ensures.source ∙ c.requires.limit;
  kind = refl;
  state = refl;
  mode = c.over-octets.ensures.mode;
  marked = c.over-octets.ensures.marked;
}

-- which is all octets within the limit
all_of : (g : Over) (c : After-over-octets g)
    → IsOver (limited (Some c.args.len) (g.S.Source.stream c.args.source.now.source)) (Some c.args.len) Octets Open c.args.mode
    (of_primitive g.S.Source.stream c.over-octets.result)
all_of g c = subst (λ l. IsOver (limited l (g.S.Source.stream c.args.source.now.source)) (Some c.args.len) Octets Open c.args.mode
    (of_primitive g.S.Source.stream c.over-octets.result)) c.requires.limit (handed g c)

pub returns-in-Err : goal.returns-in-Err
unfolding of_primitive
returns-in-Err g c = record {
  handed = _;
  left = of_primitive g.S.Source.stream c.op.new.arg2;
  over = all_of g (goal.at.returns-in-Err g c).After-over-octets;
  moves = c.requires.lawful _ _ _ (handed g (goal.at.returns-in-Err g c).After-over-octets) c.in-Err.ensures;
  answers = tt;
  refuses = by_closure (record { handed = _; left = _; handed_is = refl; left_is = refl; called = c.in-Err.ensures });
}

pub returns-then-is_used_up : goal.returns-then-is_used_up
unfolding of_primitive
returns-then-is_used_up g c = record {
  handed = _;
  left = of_primitive g.S.Source.stream c.op.new.arg2;
  over = all_of g (goal.at.returns-then-is_used_up g c).After-over-octets;
  moves = c.requires.lawful _ _ _ (handed g (goal.at.returns-then-is_used_up g c).After-over-octets) c.in-Ok.ensures;
  answers = record { answered = record { handed = _; left = _; handed_is = refl; left_is = refl; called = c.in-Ok.ensures }; done = search rules };
  refuses = tt;
}

pub returns : goal.returns
unfolding of_primitive
returns g c = record {
  handed = _;
  left = of_primitive g.S.Source.stream c.op.new.arg2;
  over = all_of g (goal.at.returns g c).After-over-octets;
  moves = c.requires.lawful _ _ _ (handed g (goal.at.returns g c).After-over-octets) c.in-Ok.ensures;
  answers = tt;
  refuses = left_octets c.in-Ok.value (record { handed = _; left = _; handed_is = refl; left_is = refl; called = c.in-Ok.ensures })
      (c.is_used_up.ensures.no c.if-is_used_up.false) c.refusal.ensures;
}
