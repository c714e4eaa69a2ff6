use Rattle.std.proofs.Common.{refl, ap, sym, ◌∙◌}
use Rattle.bcder.specs.calls.Views.{of_constructed, of_primitive, of_content, content_name}
use Rattle.bcder.proofs.Inner.{ok_at, err_at}
use Rattle.bcder.proofs.SameBorrow.{name_of_content}
use Rattle.bcder.proofs.decode.content.inside.run_over.Goals as goal

pub returns-in-Primitive-clause-name : goal.returns-in-Primitive-clause-name
returns-in-Primitive-clause-name g c = sym (ap content_name c.in-Primitive.is) ∙ sym (name_of_content g.S.Source.stream c.run-result.new.inside)
    ∙ c.run-result.ensures.name ∙ name_of_content g.S.Source.stream c.args.content

pub returns-in-Constructed-clause-name : goal.returns-in-Constructed-clause-name
returns-in-Constructed-clause-name g c = sym (ap content_name c.in-Constructed.is) ∙ sym (name_of_content g.S.Source.stream c.run-result.new.inside)
    ∙ c.run-result.ensures.name ∙ name_of_content g.S.Source.stream c.args.content

pub returns-in-Primitive-clause-ran : goal.returns-in-Primitive-clause-ran
unfolding of_primitive
returns-in-Primitive-clause-ran g c = λ t.
    let left = c.run-result.new.inside in
    record {
      handed = of_content g.S.Source.stream c.args.content;
      left = of_content g.S.Source.stream left;
      runs = record {
        stream = refl;
        owed = refl;
        kind = refl;
        state = c.requires.usable;
        mode = refl;
        marked = c.requires.unmarked;
        left_stream = ap (λ z. (of_content g.S.Source.stream z).stream) c.in-Primitive.is;
        left_owed = ap (λ z. (of_content g.S.Source.stream z).owed) c.in-Primitive.is;
        moves = c.run-result.ensures.moves;
      };
      marks = ap (λ z. (of_content g.S.Source.stream z).marked) c.in-Primitive.is;
      answers = ok_at _ t _ c.run-result.ensures.ok;
      refuses = err_at _ t _ c.run-result.ensures.refused;
    }

pub returns-in-Constructed-clause-ran : goal.returns-in-Constructed-clause-ran
unfolding of_constructed
returns-in-Constructed-clause-ran g c = λ t.
    let left = c.run-result.new.inside in
    record {
      handed = of_content g.S.Source.stream c.args.content;
      left = of_content g.S.Source.stream left;
      runs = record {
        stream = refl;
        owed = refl;
        kind = refl;
        state = c.requires.usable;
        mode = refl;
        marked = c.requires.unmarked;
        left_stream = ap (λ z. (of_content g.S.Source.stream z).stream) c.in-Constructed.is;
        left_owed = ap (λ z. (of_content g.S.Source.stream z).owed) c.in-Constructed.is;
        moves = c.run-result.ensures.moves;
      };
      marks = ap (λ z. (of_content g.S.Source.stream z).marked) c.in-Constructed.is;
      answers = ok_at _ t _ c.run-result.ensures.ok;
      refuses = err_at _ t _ c.run-result.ensures.refused;
    }
