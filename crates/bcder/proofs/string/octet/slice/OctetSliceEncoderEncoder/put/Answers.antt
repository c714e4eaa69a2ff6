use Rattle.bcder.proofs.Writing.{lacks_more}
use Rattle.bcder.proofs.Segmenting.{same_string}
use Rattle.bcder.proofs.string.octet.slice.OctetSliceEncoderEncoder.put.Goals as goal

pub returns-clause-written : goal.returns-clause-written
returns-clause-written g c =
    λ one e meant. lacks_more _ (λ h. absurd h) (same_string c.args.self.now.tag c.args.mode c.as_slice.ensures c.put_octets.ensures e meant)
