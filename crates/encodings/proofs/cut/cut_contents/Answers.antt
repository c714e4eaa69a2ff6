use Rattle.encodings.proofs.Cutting.{contents_cut}
use Rattle.encodings.proofs.cut.cut_contents.Goals as goal

pub returns-in-Ok-end_string : goal.returns-in-Ok-end_string
returns-in-Ok-end_string c = contents_cut _ _ _ _ _ _ _ c.in-Ok.ensures c.in-Ok-feed.ensures c.in-Ok-end_string.ensures
