use Rattle.std.proofs.Common.{sym, subst, append_assoc}
use Rattle.bcder.specs.x690.Identifier.{identifier}
use Rattle.bcder.specs.x690.Octets.{definite_length}
use Rattle.encodings.specs.Pieces.{IsAtBack}
use Rattle.encodings.proofs.backwards.put_header.Goals as goal

pub returns-clause-stored : goal.returns-clause-stored
returns-clause-stored c =
    λ first w b. subst (λ v. IsAtBack v first c.put_identifier.new.buffer c.put_identifier.new.at)
    (sym (append_assoc (identifier c.args.tag c.args.constructed) (definite_length c.args.len) w))
    (c.put_identifier.ensures.stored first _ (c.put_length.ensures.stored first w b))
