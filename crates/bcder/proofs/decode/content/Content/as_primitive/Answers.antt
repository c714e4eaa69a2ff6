use Rattle.std.proofs.Common.{◌≡◌, ◌≢◌, refl, sym, ap, inl}
use Rattle.bcder.specs.calls.Cause.{IsRefusal}
use Rattle.bcder.specs.calls.Content.{Octets}
use Rattle.bcder.specs.calls.Views.{of_primitive, of_content}
use Rattle.bcder.proofs.Forwarding.{on_ok_on, on_err_on, constructed_content}
use Rattle.bcder.proofs.decode.content.Content.as_primitive.Goals as goal

pub returns-in-Primitive-clause-ok : goal.returns-in-Primitive-clause-ok
returns-in-Primitive-clause-ok g c =
    let i = of_content g.S.Source.stream c.args.self.now in
    let j = of_primitive g.S.Source.stream c.op.new.arg2 in
    on_ok_on (of_primitive g.S.Source.stream) _ i j c.op.result
    (record { handed = _; left = _; handed_is = sym (ap (of_content g.S.Source.stream) c.in-Primitive.is); left_is = refl; called = c.op.ensures })

pub returns-in-Primitive-clause-refused : goal.returns-in-Primitive-clause-refused
returns-in-Primitive-clause-refused g c =
    let i = of_content g.S.Source.stream c.args.self.now in
    let j = of_primitive g.S.Source.stream c.op.new.arg2 in
    on_err_on (of_primitive g.S.Source.stream) _ i j (λ e. (i.kind ≢ Octets) × (j ≡ i) × IsRefusal e) c.op.result
    (record { handed = _; left = _; handed_is = sym (ap (of_content g.S.Source.stream) c.in-Primitive.is); left_is = refl; called = c.op.ensures })

pub returns-in-Constructed-clause-refused : goal.returns-in-Constructed-clause-refused
returns-in-Constructed-clause-refused g c = inl (
  constructed_content g.S.Source.stream c.args.self.now _ c.in-Constructed.is,
  sym (ap (of_content g.S.Source.stream) c.in-Constructed.is),
  c.refusal.ensures,
)
