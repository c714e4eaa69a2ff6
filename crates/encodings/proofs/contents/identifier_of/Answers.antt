use Rattle.std.proofs.Common.{rules}
use Rattle.bcder.specs.calls.Readers.{HoldIdentifier}
use Rattle.encodings.proofs.Alone.{read_alone, refused_alone}
use Rattle.encodings.proofs.contents.identifier_of.Goals.{in-Ok, in-Err}
use Rattle.encodings.proofs.contents.identifier_of.Goals as goal

pub returns : goal.returns
returns c =
    elim c.match-decode_slice.branch [
      | in-Ok w ↦
          rw w.result-is (rw w.in-Ok.is at (read_alone _ _ (λ m. HoldIdentifier) (λ p r q y. search rules) _ c.args.octets.now
          c.decode_slice.result c.decode_slice.ensures))
      | in-Err w ↦
          rw w.result-is (λ is. rw w.in-Err.is at (refused_alone _ _ (λ m. HoldIdentifier) (λ p r q y. search rules) _ c.args.octets.now
          c.decode_slice.result c.decode_slice.ensures) (search rules) tt is)
    ]
