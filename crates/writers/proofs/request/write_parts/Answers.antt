use Rattle.std.proofs.Common.{ap}
use Rattle.bcder.proofs.Lemmas.{wrote_constructed}
use Rattle.writers.proofs.request.write_parts.Goals as goal

pub returns : goal.returns
returns g c = wrote_constructed _ _ _ (ap (λ z. z.tag) c.sequence-values.ensures) c.what_is_written_is_an_encoding.ensures.encoding c.write_encoded.ensures
