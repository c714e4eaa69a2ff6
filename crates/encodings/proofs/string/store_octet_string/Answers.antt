use Rattle.std.proofs.Common.{◌≡◌, true, rules}
use Rattle.encodings.proofs.string.store_octet_string.Goals as goal

pub returns-in-0-clause-stores : goal.returns-in-0-clause-stores
returns-in-0-clause-stores c =
    let cut : c.args.constructed ≡ true = search rules in
    λ _. rw cut c.store_joined.ensures
