use Rattle.std.proofs.Common.{rules, subst, refl}
use Rattle.berdump.specs.Listing.{IsList, IsNoList}
use Rattle.berdump.proofs.Holding.{skipped_list, refused_list, slices_faultless}
use Rattle.berdump.proofs.held.is_list.Goals as goal

pub returns-in-Ok-clause-yes : goal.returns-in-Ok-clause-yes
returns-in-Ok-clause-yes c = λ e. subst (IsList c.args.mode) c.new.ensures.octets
    (skipped_list _ _ (slices_faultless _ (λ x. refl)) (λ p r q x. search rules) _ c.args.mode _ _ c.in-Ok.ensures.ok.1)

pub returns-in_ok-into_content-in-Err-clause-no : goal.returns-in_ok-into_content-in-Err-clause-no
returns-in_ok-into_content-in-Err-clause-no c = λ e.
    let o = c.in_ok-into_content-in-Err.ensures.ok in
    subst (IsNoList c.args.mode) c.new.ensures.octets
    (refused_list _ _ (slices_faultless _ (λ x. refl)) (λ p r q x. search rules) _ c.args.mode c.in-Err.error _ (λ h. cc) c.in-Err.ensures.refused.1)
