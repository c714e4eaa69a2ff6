use Rattle.std.proofs.Common.{◌≤◌, ◌^◌, arith}
use Rattle.bcder.specs.x690.ObjectIdentifier.{subidentifier_number}
use Rattle.bcder.proofs.Subidentifiers.{number_reaches}
use Rattle.bcder.proofs.oid.components.number_to_large.Goals as goal

pub returns-then-high-ge-LARGE : goal.returns-then-high-ge-LARGE
returns-then-high-ge-LARGE c =
    let h : 2 ^ 33 ≤ subidentifier_number c.args.octets.now =
    number_reaches _ _ c.loop-octet.octet-index _ _ (omega arith) c.loop-octet.invariant.1 (omega arith) in
    omega arith
