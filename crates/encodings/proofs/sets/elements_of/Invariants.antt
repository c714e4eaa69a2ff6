use Rattle.std.proofs.Common.{◌≡◌, length, drop}
use Rattle.std.specs.Prelude.{sum_by}
use Rattle.encodings.specs.declared.sets.Copied.{Copied}
use Rattle.encodings.proofs.Keying.{Splits}
use Rattle.encodings.proofs.sets.elements_of.Given as goal

abbrev pub invariant-loop-first : goal.invariant-loop-first
invariant-loop-first l = record {
  sizes : sum_by (λ (c : Copied). c.size) (drop l.first-index l.copied) ≡ length l.rest;
  split : Splits l.copied l.octets l.elements.items (drop l.first-index l.copied) l.rest;
}
