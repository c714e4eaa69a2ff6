-- The octets of the parts so far were written, in segments.
use Rattle.std.specs.List.{concat}
use Rattle.bcder.specs.steps.Segmenting.{Advanced}
use Rattle.bcder.proofs.string.octet.write.put_segments.Given as goal

abbrev pub invariant-loop-part : goal.invariant-loop-part
invariant-loop-part g l = Advanced l.initial.progress (concat l.initial.part-iterator) l.progress (concat l.part-iterator) (g.W.Write.contents l.initial.target)
    (g.W.Write.contents l.target)
