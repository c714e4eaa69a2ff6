-- The lines of the arguments so far were written.
use Rattle.std.proofs.Common.{List, ℕ, take, map, string_bytes}
use Rattle.std.specs.Io.KnownBytes.{Appends}
use Rattle.mkoid.specs.Lines.{AreLines}
use Rattle.mkoid.proofs.lines.Given as goal

abbrev pub invariant-loop-arg : goal.invariant-loop-arg
invariant-loop-arg g l = (text : List ℕ) × AreLines (map string_bytes (take l.arg-index l.args)) text
    × Appends (g.W.Write.contents l.initial.target) (g.W.Write.contents l.target) text
