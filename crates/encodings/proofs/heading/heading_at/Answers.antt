use Rattle.encodings.proofs.Headings.{no_heading}
use Rattle.encodings.proofs.heading.heading_at.Goals as goal

pub returns-in_default : goal.returns-in_default
returns-in_default c = no_heading _ c.args.octets.now c.in_default.ensures.none
