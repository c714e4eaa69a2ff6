use Rattle.std.proofs.Common.{rules, subst, refl, string_bytes}
use Rattle.bcder.specs.calls.Views.{of_constructed}
use Rattle.bcder.specs.contracts.decode.source.slice.SliceSourceSource.TheImpl.{ghosts}
use Rattle.bcder.specs.laws.Moved.{untouched_is_moved}
use Rattle.berlist.specs.Answers.{IsNoList}
use Rattle.berlist.proofs.Gathering.{refuses_all, slices_faultless}
use Rattle.berlist.proofs.gather.lines.Goals as goal

pub returns-in_ok-into_content-in-Err : goal.returns-in_ok-into_content-in-Err
returns-in_ok-into_content-in-Err c =
    let o = c.in_ok-into_content-in-Err.ensures.ok in
    subst (IsNoList c.args.mode) c.new.ensures.octets (refuses_all (of_constructed ghosts.stream) _ string_bytes (slices_faultless _ (λ x. refl))
    (λ p r q x. search (rules, untouched_is_moved)) _ c.args.mode c.in-Err.error _ (λ h. cc) c.in-Err.ensures.refused.1)
