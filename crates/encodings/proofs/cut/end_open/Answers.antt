use Rattle.encodings.proofs.Cutting.{ends_open}
use Rattle.encodings.proofs.cut.end_open.Goals as goal

pub returns-in-Ok-push : goal.returns-in-Ok-push
returns-in-Ok-push c = λ k l f. ends_open k _ _ _ l c.in-Ok.ensures c.in-Ok-push.ensures f
