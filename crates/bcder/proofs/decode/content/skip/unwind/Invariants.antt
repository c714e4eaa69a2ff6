use Rattle.std.proofs.Common.{◌≡◌}
use Rattle.smallvec.specs.SmallVec.{small_vec_len}
use Rattle.bcder.specs.steps.Stacked.{framed, unwound}
use Rattle.bcder.proofs.decode.content.skip.unwind.Given as goal

abbrev pub invariant-loop-frame : goal.invariant-loop-frame
invariant-loop-frame g l = record {
  limit : unwound (framed l.frames) l.source.limit ≡ unwound (framed l.fn.frames) l.fn.source.limit;
  source : l.source.source ≡ l.fn.source.source;
}

abbrev pub decreases-loop-frame : goal.decreases-loop-frame
decreases-loop-frame g l = small_vec_len l.frames
