use Rattle.std.proofs.Common.{true, rules}
use Rattle.encodings.specs.Contents.{HoldsString}
use Rattle.encodings.proofs.Storing.{stored_twice}
use Rattle.encodings.proofs.Strings.{one_string}
use Rattle.encodings.proofs.string.store_joined.Goals as goal

pub returns-in-Some-join : goal.returns-in-Some-join
returns-in-Some-join c =
    stored_twice (HoldsString c.args.mode true c.args.octets.now) (one_string _ _) _ _ _ _ _ _ _ c.in-Some.ensures c.in-Some-join.ensures
    (search rules)
