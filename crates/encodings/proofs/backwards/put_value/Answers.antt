use Rattle.std.proofs.Common.{false, Some, length, sym, subst, append_assoc}
use Rattle.bcder.specs.calls.Content.{length_of}
use Rattle.bcder.specs.x690.Octets.{header}
use Rattle.encodings.specs.Pieces.{IsAtBack}
use Rattle.encodings.proofs.backwards.put_value.Goals as goal

pub returns : goal.returns
returns c = record {
  stored = λ first w b. subst (λ v. IsAtBack v first c.put_header.new.buffer c.put_header.new.at)
      (sym (append_assoc (header c.args.tag false (length_of (Some (length c.args.contents.now)))) c.args.contents.now w))
      (c.put_header.ensures.stored first _ (c.prepend.ensures.stored first w b));
}
