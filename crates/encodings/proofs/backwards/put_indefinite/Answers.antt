use Rattle.std.proofs.Common.{true, ◌∷◌, [], sym, subst, append_assoc}
use Rattle.bcder.specs.x690.Identifier.{identifier}
use Rattle.encodings.specs.Pieces.{IsAtBack}
use Rattle.encodings.proofs.backwards.put_indefinite.Goals as goal

pub returns : goal.returns
returns c = record {
  stored = λ first w b. subst (λ v. IsAtBack v first c.put_identifier.new.buffer c.put_identifier.new.at)
      (sym (append_assoc (identifier c.args.tag true) (0x80 ∷ []) w))
      (c.put_identifier.ensures.stored first _ (c.prepend.ensures.stored first w b));
}
