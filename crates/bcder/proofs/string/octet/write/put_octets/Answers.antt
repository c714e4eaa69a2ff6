use Rattle.std.proofs.Common.{ap, ◌∙◌}
use Rattle.std.specs.List.{concat}
use Rattle.bcder.proofs.Comparing.{piece_joined}
use Rattle.bcder.proofs.Segmenting.{same_string}
use Rattle.bcder.proofs.string.octet.write.put_octets.Goals as goal

pub returns : goal.returns
returns g c = same_string c.args.tag c.args.mode (ap concat c.of_piece.ensures ∙ piece_joined c.args.octets.now) c.put_string.ensures
