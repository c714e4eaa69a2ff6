use Rattle.std.proofs.Common.{List, ℕ, ◌++◌, ◌<◌, ◌^◌, length, sym, ap, subst, arith}
use Rattle.std.proofs.lemmas.List.{length-drop}
use Rattle.bcder.specs.x690.Identifier.{AreOctets}
use Rattle.bcder.specs.calls.StringSource.{InBlock, SharesBlock, all_behind}
use Rattle.bcder.proofs.StringSources.{passed_octets, passed_fit}
use Rattle.bcder.proofs.string.octet.source.OctetStringSourceSource.advance.Goals as goal

pub invariant_of-self : goal.invariant_of-self
invariant_of-self c =
    let s = c.args.self.now in
    let len = c.args.len in
    let rest = all_behind s.behind in
    let is = ap (λ (f : InBlock). f.octets) c.advance.ensures in
    record {
      stands = subst (λ f. SharesBlock f s.behind) (sym c.advance.ensures) s.stands;
      are_octets = subst (λ (w : List ℕ). AreOctets (w ++ rest)) (sym is) (passed_octets len s.front.octets rest (omega arith) s.are_octets);
      fit = subst (λ (w : List ℕ). length (w ++ rest) < 2 ^ 64) (sym is) (passed_fit len s.front.octets rest s.fit);
      counted = omega (arith, ap length is, length-drop len s.front.octets, s.counted);
      bounded = s.bounded;
    }
