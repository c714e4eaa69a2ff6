use Rattle.std.proofs.Common.{◌≡◌, ◌∙◌, false, refl, ap, sym, subst, rules, ◌||◌}
use Rattle.std.specs.Prelude.{Some}
use Rattle.bcder.specs.calls.Cause.{cause_of}
use Rattle.bcder.specs.calls.Content.{Reading, values, FitsOwed}
use Rattle.bcder.specs.steps.Inside.{limit_outside, IsTaken, refused, taken}
use Rattle.bcder.specs.steps.Peek.{is_constructed, len_of, header_of}
use Rattle.bcder.specs.calls.Views.{of_constructed, limited_stream}
use Rattle.bcder.proofs.Inner.{values_taken, all_taken}
use Rattle.bcder.proofs.Taking.{form_answered}
use Rattle.bcder.proofs.decode.content.Constructed.take_constructed_body.Goals as goal

pub returns-in_default : goal.returns-in_default
returns-in_default g c =
    form_answered (of_constructed g.S.Source.stream) _ (Some false) _ (header_of c.args.header) _ _ c.refuse.ensures (ap Some (sym (search rules))) refl

pub returns-in-Err : goal.returns-in-Err
unfolding of_constructed
returns-in-Err g c =
    let limit : c.go_outside.new.source.limit ≡ limit_outside c.in-Constructed.len c.limit-outer.result c.run.new.inside.source.now.limit = search rules in
    let source : c.go_outside.new.source.source ≡ c.run.new.inside.source.now.source = search rules in
    refused _ refl (values_taken cause_of (of_constructed g.S.Source.stream) _ (of_constructed g.S.Source.stream c.args.self.now) _
    (header_of c.args.header) _ refl refl refl refl _ refl
    g.S.Source.stream c.in-Constructed.len c.args.self.now.source.now c.go_inside-kind.new.source c.run.new.inside.source.now
    c.go_outside.new.source c.limit-outer.result
    (ap len_of c.in-Constructed.is) refl refl c.limit-outer.ensures c.go_inside-kind.ensures.limit c.go_inside-kind.ensures.source limit source refl refl
    c.requires.fits (ap is_constructed c.in-Constructed.is) (record {
      handed = _;
      left = of_constructed g.S.Source.stream c.run.new.inside;
      runs = record {
        stream = ap (limited_stream g.S.Source.stream) c.over-values.ensures.source;
        owed = ap (λ s. s.limit) c.over-values.ensures.source;
        kind = ap values (c.over-values.ensures.kind ∙ c.go_inside-kind.ensures.kind);
        state = c.over-values.ensures.state;
        mode = c.over-values.ensures.mode;
        marked = c.over-values.ensures.marked;
        left_stream = refl;
        left_owed = refl;
        moves = c.run.ensures.moves;
      };
      marks = refl;
      answers = tt;
      refuses = c.in-Err.ensures.refused _;
    }))

pub close-requires-clause-taken : goal.close-requires-clause-taken
unfolding of_constructed
close-requires-clause-taken g c = (let h : IsTaken c.in-Constructed.len c.run.new.inside.source.now.limit = all_taken c.in-Constructed.len _ _
    c.run.ensures.moves c.over-values.ensures.state
    (ap values (c.over-values.ensures.kind ∙ c.go_inside-kind.ensures.kind)) (c.in-Ok.ensures.ok c.args.header.tag).done in search rules)

pub close-requires-clause-fits : goal.close-requires-clause-fits
close-requires-clause-fits g c = subst (λ z. FitsOwed z c.limit-outer.result) (ap len_of c.in-Constructed.is)
    (subst (FitsOwed (len_of c.args.header.form)) (sym c.limit-outer.ensures) c.requires.fits)

pub returns : goal.returns
unfolding of_constructed
returns g c =
    let limit : c.close.new.source.limit ≡ limit_outside c.in-Constructed.len c.limit-outer.result c.run.new.inside.source.now.limit = search rules in
    let source : c.close.new.source.source ≡ c.run.new.inside.source.now.source = search rules in
    let old = c.args.self.now in let new = c.close.new.source in
    let m : Reading = record {
      stream = limited_stream g.S.Source.stream new;
      owed = new.limit;
      kind = values old.kind;
      state = old.state;
      mode = old.mode;
      marked = (old.marked || c.run.new.inside.marked);
      name = old.source.ghost_name;
    } in
    taken _ m refl (values_taken cause_of (of_constructed g.S.Source.stream) _ (of_constructed g.S.Source.stream c.args.self.now) m
    (header_of c.args.header) _ refl refl refl refl _ refl
    g.S.Source.stream c.in-Constructed.len c.args.self.now.source.now c.go_inside-kind.new.source c.run.new.inside.source.now
    c.close.new.source c.limit-outer.result
    (ap len_of c.in-Constructed.is) refl refl c.limit-outer.ensures c.go_inside-kind.ensures.limit c.go_inside-kind.ensures.source limit source refl refl
    c.requires.fits (ap is_constructed c.in-Constructed.is) (record {
      handed = _;
      left = of_constructed g.S.Source.stream c.run.new.inside;
      runs = record {
        stream = ap (limited_stream g.S.Source.stream) c.over-values.ensures.source;
        owed = ap (λ s. s.limit) c.over-values.ensures.source;
        kind = ap values (c.over-values.ensures.kind ∙ c.go_inside-kind.ensures.kind);
        state = c.over-values.ensures.state;
        mode = c.over-values.ensures.mode;
        marked = c.over-values.ensures.marked;
        left_stream = refl;
        left_owed = refl;
        moves = c.run.ensures.moves;
      };
      marks = refl;
      answers = c.in-Ok.ensures.ok _;
      refuses = tt;
    })) refl
