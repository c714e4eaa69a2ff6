-- What front_at says of octets that begin with no header.
use Rattle.std.proofs.Common.{ℕ, List}
use Rattle.bcder.specs.declared.mode.Mode.{Mode}
use Rattle.encodings.specs.declared.heading.Heading.{Heading}
use Rattle.encodings.specs.Headings.{BeginsWith}
use Rattle.encodings.specs.Open.{HasNoHeader}

pub no_heading : (mode : Mode) (w : List ℕ) → HasNoHeader mode w → (h : Heading) → BeginsWith mode w h → ⊥
no_heading mode w none h b = none b.tag h.constructed b.len b.header b.behind b.is_header b.is
