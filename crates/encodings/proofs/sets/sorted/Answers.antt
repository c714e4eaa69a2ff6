use Rattle.std.proofs.Common.{◌≡◌, [], length, reverse, sym, subst, rules}
use Rattle.encodings.specs.Sorting.{State}
use Rattle.encodings.proofs.Copying.{none_passed, finished}
use Rattle.encodings.proofs.sets.sorted.Goals as goal

pub loop-rest-init : goal.loop-rest-init
loop-rest-init c =
    let w = c.args.octets.now in
    subst (λ os. State c.args.mode w (reverse os) c.new-copied.result.items c.new-out.result.items w) (sym c.new-opened.ensures.items)
    (subst (λ cs. State c.args.mode w [] cs c.new-out.result.items w) (sym c.new-copied.ensures.items)
    (subst (λ v. State c.args.mode w [] [] v w) (sym c.new-out.ensures.items) (none_passed c.args.mode w)))

pub step-requires : goal.step-requires
step-requires c = record { canonical = c.requires; stands = record { whole = c.args.octets.now; state = c.loop-rest.invariant } }

pub loop-rest-preserved : goal.loop-rest-preserved
loop-rest-preserved c = c.in_ok-rest.ensures.state c.args.octets.now c.loop-rest.invariant

pub loop-rest-smaller : goal.loop-rest-smaller
loop-rest-smaller c = c.in_ok-rest.ensures.smaller

pub returns : goal.returns
returns c =
    let l : length c.loop-rest.opened.items ≡ 0 = search rules in
    let n : length c.loop-rest.rest.now ≡ 0 = search rules in
    finished c.args.mode c.args.octets.now _ _ _ _ c.loop-rest.invariant l n
