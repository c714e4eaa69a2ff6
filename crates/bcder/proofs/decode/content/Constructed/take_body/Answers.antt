use Rattle.std.proofs.Common.{◌≡◌, refl, ap, rules, ◌||◌}
use Rattle.bcder.specs.steps.Inside.{popped}
use Rattle.bcder.specs.calls.Cause.{cause_of}
use Rattle.bcder.specs.calls.Content.{Reading, values}
use Rattle.bcder.specs.steps.Inside.{limit_outside, refused, taken}
use Rattle.bcder.specs.steps.Peek.{is_constructed, len_of, header_of}
use Rattle.bcder.specs.calls.Views.{of_constructed, of_primitive, of_content, limited_stream}
use Rattle.bcder.proofs.Inner.{takes_octets, values_taken}
use Rattle.bcder.proofs.decode.content.Constructed.take_body.Goals as goal

pub returns-in-Err : goal.returns-in-Err
unfolding of_constructed of_primitive
returns-in-Err g c =
    let back = c.run_over-result.result.2.now in
    let limit : c.pop.new.source.limit ≡ popped c.limit-outer.result c.in-Primitive.len back.limit = search rules in
    let source : c.pop.new.source.source ≡ back.source = search rules in
    refused _ refl (takes_octets cause_of (of_content g.S.Source.stream) _ (of_constructed g.S.Source.stream c.args.self.now) _
    (header_of c.args.header) _ refl refl refl refl _ refl
    g.S.Source.stream c.in-Primitive.len c.args.self.now.source.now c.set_limit.new.self back c.pop.new.source c.limit-outer.result
    (ap len_of c.in-Primitive.is) refl refl c.limit-outer.ensures c.set_limit.ensures.limit c.set_limit.ensures.source limit source refl refl c.requires.fits
    (ap is_constructed c.in-Primitive.is) (g.met.S.Source.sound c.args.self.now.source.now.source)
    (rw (c.over-octets.ensures.source, c.over-octets.ensures.mode, c.in-Err.is) at c.run_over-result.ensures.ran _))

pub returns-in-Ok : goal.returns-in-Ok
unfolding of_constructed of_primitive
returns-in-Ok g c =
    let back = c.run_over-result.result.2.now in
    let limit : c.pop.new.source.limit ≡ popped c.limit-outer.result c.in-Primitive.len back.limit = search rules in
    let source : c.pop.new.source.source ≡ back.source = search rules in
    let old = c.args.self.now in let new = c.pop.new.source in
    let m : Reading = record {
      stream = limited_stream g.S.Source.stream new;
      owed = new.limit;
      kind = values old.kind;
      state = old.state;
      mode = old.mode;
      marked = (old.marked || c.run_over-result.result.1);
      name = old.source.ghost_name;
    } in
    taken _ m refl (takes_octets cause_of (of_content g.S.Source.stream) _ (of_constructed g.S.Source.stream c.args.self.now) m
    (header_of c.args.header) _ refl refl refl refl _ refl
    g.S.Source.stream c.in-Primitive.len c.args.self.now.source.now c.set_limit.new.self back c.pop.new.source c.limit-outer.result
    (ap len_of c.in-Primitive.is) refl refl c.limit-outer.ensures c.set_limit.ensures.limit c.set_limit.ensures.source limit source refl refl c.requires.fits
    (ap is_constructed c.in-Primitive.is) (g.met.S.Source.sound c.args.self.now.source.now.source)
    (rw (c.over-octets.ensures.source, c.over-octets.ensures.mode, c.in-Ok.is) at c.run_over-result.ensures.ran _)) refl

pub returns-in-Err-result : goal.returns-in-Err-result
unfolding of_constructed of_primitive
returns-in-Err-result g c =
    let back = c.run_over-result-in-Constructed.result.2.now in
    let limit : c.go_outside.new.source.limit ≡ limit_outside c.in-Constructed.len c.limit-outer-in-Constructed.result back.limit = search rules in
    let source : c.go_outside.new.source.source ≡ back.source = search rules in
    refused _ refl (values_taken cause_of (of_content g.S.Source.stream) _ (of_constructed g.S.Source.stream c.args.self.now) _
    (header_of c.args.header) _ refl refl refl refl _ refl
    g.S.Source.stream c.in-Constructed.len c.args.self.now.source.now c.go_inside-kind.new.source back c.go_outside.new.source
    c.limit-outer-in-Constructed.result
    (ap len_of c.in-Constructed.is) refl refl c.limit-outer-in-Constructed.ensures c.go_inside-kind.ensures.limit c.go_inside-kind.ensures.source limit source
    refl refl c.requires.fits (ap is_constructed c.in-Constructed.is)
    (rw (c.over-values.ensures.source, c.over-values.ensures.kind, c.over-values.ensures.mode, c.go_inside-kind.ensures.kind, c.in-Err-result.is) at
    c.run_over-result-in-Constructed.ensures.ran _))

pub returns-in-Ok-result : goal.returns-in-Ok-result
unfolding of_constructed of_primitive
returns-in-Ok-result g c =
    let back = c.run_over-result-in-Constructed.result.2.now in
    let limit : c.go_outside.new.source.limit ≡ limit_outside c.in-Constructed.len c.limit-outer-in-Constructed.result back.limit = search rules in
    let source : c.go_outside.new.source.source ≡ back.source = search rules in
    let old = c.args.self.now in let new = c.go_outside.new.source in
    let m : Reading = record {
      stream = limited_stream g.S.Source.stream new;
      owed = new.limit;
      kind = values old.kind;
      state = old.state;
      mode = old.mode;
      marked = (old.marked || c.run_over-result-in-Constructed.result.1);
      name = old.source.ghost_name;
    } in
    taken _ m refl (values_taken cause_of (of_content g.S.Source.stream) _ (of_constructed g.S.Source.stream c.args.self.now) m
    (header_of c.args.header) _ refl refl refl refl _ refl
    g.S.Source.stream c.in-Constructed.len c.args.self.now.source.now c.go_inside-kind.new.source back c.go_outside.new.source
    c.limit-outer-in-Constructed.result
    (ap len_of c.in-Constructed.is) refl refl c.limit-outer-in-Constructed.ensures c.go_inside-kind.ensures.limit c.go_inside-kind.ensures.source limit source
    refl refl c.requires.fits (ap is_constructed c.in-Constructed.is)
    (rw (c.over-values.ensures.source, c.over-values.ensures.kind, c.over-values.ensures.mode, c.go_inside-kind.ensures.kind, c.in-Ok-result.is) at
    c.run_over-result-in-Constructed.ensures.ran _)) refl
