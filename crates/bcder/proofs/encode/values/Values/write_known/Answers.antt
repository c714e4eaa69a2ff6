use Rattle.bcder.specs.calls.Meaning.{Encoded}
use Rattle.bcder.proofs.Writing.{wrote_what, same_answer}
use Rattle.bcder.proofs.encode.values.Values.write_known.Goals as goal

pub returns-clause-written : goal.returns-clause-written
returns-clause-written g c = λ one e meant. same_answer c.store.ensures (wrote_what _ one.same (λ (e : Encoded). e.octets) _ e _ _ _ meant c.write_encoded.ensures)
