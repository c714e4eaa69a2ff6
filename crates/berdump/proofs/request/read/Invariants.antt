-- What was read of the words that were passed.
use Rattle.std.specs.Prelude.{length, map, string_bytes, false}
use Rattle.cli.specs.Arguments.{Reads}
use Rattle.berdump.specs.Asked.{Does, Read, nothing, read_of}
use Rattle.berdump.proofs.request.read.Given as goal

abbrev pub invariant-loop-argument : goal.invariant-loop-argument
invariant-loop-argument l = (s : Read) → Reads Does l.args.only_files (map string_bytes l.args.words.now) (read_of l.request l.files.items) s
    → Reads Does false (map string_bytes l.words) nothing s

abbrev pub decreases-loop-argument : goal.decreases-loop-argument
decreases-loop-argument l = length l.args.words.now
