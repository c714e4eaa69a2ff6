use Rattle.std.proofs.Common.{◌+◌, ◌*◌, ◌≤◌, max, length}
use Rattle.encodings.specs.Open.{open_values, to_come}
use Rattle.encodings.proofs.WholeWalk.{InWalk}
use Rattle.encodings.proofs.walk.pass_value.Given as goal

abbrev pub invariant-loop-innermost : goal.invariant-loop-innermost
invariant-loop-innermost l = record {
  walk : InWalk l.fn.mode l.fn.octets l.fn.checked l.checked (open_values l.opened.items) l.rest;
  few : l.opened.len ≤ l.fn.levels;
  shallow : l.checked.depth ≤ max l.fn.checked.depth l.fn.levels;
}

abbrev pub decreases-loop-innermost : goal.decreases-loop-innermost
decreases-loop-innermost l = length (to_come (open_values l.opened.items) l.rest) * 2 + length (open_values l.opened.items)
