use Rattle.std.proofs.Common.{◌≤◌, length}
use Rattle.encodings.proofs.Listing.{InList}
use Rattle.encodings.proofs.values.pass_all.Given as goal

abbrev pub invariant-loop-rest : goal.invariant-loop-rest
invariant-loop-rest l = record {
  list : InList l.fn.mode l.fn.octets l.checked l.rest;
  shallow : l.checked.depth ≤ l.fn.levels;
}

abbrev pub decreases-loop-rest : goal.decreases-loop-rest
decreases-loop-rest l = length l.rest
