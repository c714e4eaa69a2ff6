use Rattle.std.proofs.Common.{◌∙◌, ap}
use Rattle.bcder.specs.steps.Stacked.{framed, unwound}
use Rattle.bcder.proofs.Unwinding.{popped_last, unwound_frame, counted}
use Rattle.bcder.proofs.decode.content.skip.unwind.Goals as goal

pub limit_around-requires : goal.limit_around-requires
limit_around-requires g c = counted (framed c.pop.new.self) _ c.args.outer _ c.requires c.if-is_none.ensures (unwound_frame _ _ c.in-Some.frame c.limit.result _
    (popped_last _ _ _ c.in-Some.ensures.items) (ap (unwound (framed c.loop-frame.frames)) c.limit.ensures ∙ c.loop-frame.invariant.limit))

pub loop-frame-preserved : goal.loop-frame-preserved
loop-frame-preserved g c = record {
  limit = ap (unwound (framed c.pop.new.self)) (c.set_limit-in-Some.ensures.limit ∙ c.limit_around.ensures) ∙ unwound_frame _ _ c.in-Some.frame c.limit.result _
      (popped_last _ _ _ c.in-Some.ensures.items) (ap (unwound (framed c.loop-frame.frames)) c.limit.ensures ∙ c.loop-frame.invariant.limit);
  source = c.set_limit-in-Some.ensures.source ∙ c.loop-frame.invariant.source;
}
