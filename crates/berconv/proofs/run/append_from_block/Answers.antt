use Rattle.std.proofs.Common.{inr, subst}
use Rattle.std.proofs.lemmas.Result.{on_ok_weaker, MatchResult-weaker}
use Rattle.berconv.specs.Ends.{AppendsConversion, IsRefused}
use Rattle.berconv.proofs.run.append_from_block.Goals as goal

pub returns-in-Ok-clause-appended : goal.returns-in-Ok-clause-appended
returns-in-Ok-clause-appended c =
    on_ok_weaker c.append_converted.result (λ a. (
      c.in-Ok.octets.items,
      c.in-Ok.ensures.octets,
      subst (λ v. AppendsConversion c.args.request v c.args.text.now.items c.append_converted.new.text.items) c.deref.ensures.value a,
    )) c.append_converted.ensures.appended

pub returns-in-Ok-clause-refused : goal.returns-in-Ok-clause-refused
returns-in-Ok-clause-refused c =
    MatchResult-weaker c.append_converted.result c.append_converted.ensures.refused (λ x h. h) (λ e h. inr (
      c.in-Ok.octets.items,
      c.in-Ok.ensures.octets,
      subst (λ v. IsRefused c.args.request.from c.args.request.to v e) c.deref.ensures.value h,
    ))
