use Rattle.std.proofs.Common.{rules, refl, sym, ◌≡◌, ◌∙◌, inl, inr}
use Rattle.bcder.specs.declared.decode.content.State.TheVariants.{Open, Ended, Failed}
use Rattle.bcder.specs.calls.Decoding.{by_closure, left_failed}
use Rattle.bcder.specs.calls.Views.{of_constructed}
use Rattle.bcder.proofs.SameBorrow.{moves_constructed_name}
use Rattle.bcder.proofs.decode.content.decode.run.Goals as goal

pub returns-in-Err-clause-refused : goal.returns-in-Err-clause-refused
returns-in-Err-clause-refused g c = by_closure (record { handed = _; left = _; handed_is = refl; left_is = refl; called = c.in-Err.ensures })

pub returns-in-Failed-clause-refused : goal.returns-in-Failed-clause-refused
unfolding of_constructed
returns-in-Failed-clause-refused g c =
    left_failed c.in-Ok.value (record { handed = _; left = _; handed_is = refl; left_is = refl; called = c.in-Ok.ensures })
    (let h : c.op.new.arg2.state ≡ Failed = search rules in h) (search rules)

pub returns-in-Open : goal.returns-in-Open
returns-in-Open g c =
    let m = c.requires.lawful _ _ _ refl c.in-Ok.ensures in
    record {
      moves = m;
      name = moves_constructed_name g.S.Source.stream c.args.cons.now c.op.new.arg2 m;
      usable = λ f. elim c.in-Open.is [ inl x ↦ (let y : Open ≡ Failed = sym x ∙ f in cc) | inr x ↦ (let y : Ended ≡ Failed = sym x ∙ f in cc) ];
      ok = record { handed = _; left = _; handed_is = refl; left_is = refl; called = c.in-Ok.ensures };
      refused = tt;
    }
