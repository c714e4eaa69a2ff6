-- The octets of the parts so far stand in the block, behind those that were there.
use Rattle.std.proofs.Common.{◌≡◌, ◌≤◌, ◌+◌, ◌++◌, length, drop}
use Rattle.std.specs.List.{concat}
use Rattle.bcder.proofs.string.octet.source.Behind.join.Given as goal

abbrev pub invariant-loop-part : goal.invariant-loop-part
invariant-loop-part l = record {
  same : l.block.items ++ concat l.part-iterator ≡ l.initial.block.items ++ concat l.initial.part-iterator;
  left : l.part-iterator ≡ drop l.count l.initial.part-iterator;
  within : l.count + length l.part-iterator ≡ length l.initial.part-iterator;
  no_fewer : length l.initial.block.items ≤ length l.block.items;
}
