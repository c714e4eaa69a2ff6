-- The octets of the parts so far were written.
use Rattle.std.proofs.Common.{◌≡◌, ℕ, List, ◌++◌}
use Rattle.std.specs.List.{concat}
use Rattle.std.specs.Io.KnownBytes.{Appends}
use Rattle.bcder.proofs.string.octet.write.put_parts.Given as goal

abbrev pub invariant-loop-part : goal.invariant-loop-part
invariant-loop-part g l = (done : List ℕ) × (concat l.initial.part-iterator ≡ done ++ concat l.part-iterator)
    × Appends (g.W.Write.contents l.initial.target) (g.W.Write.contents l.target) done
