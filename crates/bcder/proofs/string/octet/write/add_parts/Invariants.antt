-- The octets of the parts so far were added, and there is room for the others.
use Rattle.std.proofs.Common.{◌≡◌, ◌≤◌, ◌+◌, ◌++◌, length}
use Rattle.std.specs.List.{concat}
use Rattle.bcder.specs.steps.Buffer.{buffered}
use Rattle.bcder.proofs.string.octet.write.add_parts.Given as goal

abbrev pub invariant-loop-part : goal.invariant-loop-part
invariant-loop-part l =
    (buffered l.initial.buffer ++ concat l.initial.part-iterator ≡ buffered l.buffer ++ concat l.part-iterator)
    × (l.buffer.len + length (concat l.part-iterator) ≤ 73)
