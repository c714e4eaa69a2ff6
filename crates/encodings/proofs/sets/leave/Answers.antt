use Rattle.std.proofs.Common.{◌≡◌, ◌++◌, ◌∷◌, [], ◌-◌, length, take, drop, refl, sym, subst, rules}
use Rattle.encodings.specs.declared.sets.Copied.{Copied}
use Rattle.encodings.specs.Sorting.{AreMarks}
use Rattle.encodings.proofs.sets.leave.Goals as goal

pub returns : goal.returns
returns c =
    let w = c.extend_from_slice.new.self.items in
    let n : c.saturating_sub.result ≡ length w - c.args.value.start = search rules in
    let d : Copied = record { place = c.args.value.place; size = c.saturating_sub.result } in
    let e : w ≡ c.arrange.new.out.items ++ c.args.end.now = search rules in
    let k : c.push.new.self.items ≡ take c.args.value.first c.args.copied.now.items ++ d ∷ [] = search rules in
    record {
      inside = λ ps m q. (
        c.arrange.new.out.items,
        c.in_ok-arrange.ensures ps (subst (λ z. AreMarks (drop c.args.value.first z) ps) (sym c.deref.ensures.value) m) q,
        e,
      );
      copied = d;
      place_is = refl;
      size = n;
      is = k;
    }
