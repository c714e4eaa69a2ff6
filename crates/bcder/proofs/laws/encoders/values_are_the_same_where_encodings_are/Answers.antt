use Rattle.std.proofs.Common.{subst}
use Rattle.bcder.specs.x690.Encoding.{AreEncodings}
use Rattle.bcder.specs.laws.Canonical.{one_spelling_each}
use Rattle.bcder.specs.laws.Complete.{one_list}
use Rattle.bcder.proofs.laws.encoders.values_are_the_same_where_encodings_are.Goals as goal

pub returns : goal.returns
returns c = λ mode h ts us v w d e. (
  λ same. one_spelling_each mode h us v w (subst (λ ts. AreEncodings mode ts v) same d) e,
  λ same. one_list mode ts us w (subst (AreEncodings mode ts) same d) e,
)
