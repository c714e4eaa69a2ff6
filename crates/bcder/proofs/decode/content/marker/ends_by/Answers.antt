use Rattle.std.proofs.Common.{[], sym, ◌∙◌, append-nil}
use Rattle.bcder.proofs.Markers.{behind_front}
use Rattle.bcder.proofs.decode.content.marker.ends_by.Goals as goal

pub returns-in-None : goal.returns-in-None
returns-in-None c = (
  λ e. cc,
  λ b. absurd
      (c.in-None.ensures.none b.ends.close [] b.ends.is_marker (c.split_at.ensures.back ∙ behind_front _ _ _ b.ends.split ∙ sym (append-nil b.ends.close))),
)
