use Rattle.std.proofs.Common.{◌≡◌, ◌⊎◌, true, false, rules}
use Rattle.encodings.specs.Status.{done, no_order}
use Rattle.berconv.proofs.Sorted.{not_wanted, was_sorted}
use Rattle.berconv.proofs.run.sort.Goals as goal

pub returns-then-not-sorts : goal.returns-then-not-sorts
returns-then-not-sorts c =
    let s : c.args.sorts ≡ false = search rules in
    not_wanted c.args.sorts c.args.to c.args.values.now s

pub returns-in-0 : goal.returns-in-0
returns-in-0 c =
    let s : c.args.sorts ≡ true = search rules in
    let k : (c.sort_sets.result ≡ done) ⊎ (c.sort_sets.result ≡ no_order) = search rules in
    was_sorted c.args.sorts c.args.to c.args.values.now c.sort_sets.new.octets _ s k c.sort_sets.ensures
