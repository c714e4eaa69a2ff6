use Rattle.std.proofs.Common.{rules, ◌≡◌, List, ℕ}
use Rattle.bcder.specs.calls.Readers.{AreNot}
use Rattle.bcder.specs.x690.ObjectIdentifier.{IsComplete}
use Rattle.bcder.specs.declared.oid.Oid.{Oid}
use Rattle.asn1.proofs.LeafReaders.{takes_leaf, or_shapeless}
use Rattle.asn1.proofs.leaves.identifiers.OidBytesDecode.trace_opt_if.Goals as goal

pub returns-clause-took : goal.returns-clause-took
returns-clause-took g c =
    takes_leaf g.S.Source.stream g.met.S.Source.sound _ c.args.tag (λ _ w (x : Oid (List ℕ)). (x.0 ≡ w) × IsComplete w) (λ _. AreNot IsComplete)
    (λ _. or_shapeless (λ w (x : Oid (List ℕ)). (x.0 ≡ w) × IsComplete w) IsComplete (λ v x h. h.1))
    (λ t p r q x. search rules) c.args.cons.now c.take_opt_primitive_if.new.self c.take_opt_primitive_if.result c.take_opt_primitive_if.ensures.took
