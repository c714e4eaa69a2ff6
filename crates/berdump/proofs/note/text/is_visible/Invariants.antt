use Rattle.std.proofs.Common.{length, ◌↔◌}
use Rattle.berdump.specs.Texts.{AreVisible}
use Rattle.berdump.proofs.note.text.is_visible.Given as goal

abbrev pub invariant-loop-rest : goal.invariant-loop-rest
invariant-loop-rest l = AreVisible l.octets ↔ AreVisible l.rest

abbrev pub decreases-loop-rest : goal.decreases-loop-rest
decreases-loop-rest l = length l.rest
