use Rattle.std.proofs.Common.{◌≡◌, ◌++◌, ◌∷◌, [], length, sym, subst, arith, rules}
use Rattle.bcder.specs.x690.Identifier.{AreOctets}
use Rattle.encodings.specs.Open.{open_values}
use Rattle.encodings.proofs.Converting.{InRead, read_on, read_ends, read_stops, made_pushed, nothing_left_of}
use Rattle.encodings.proofs.WholeWalk.{none_open}
use Rattle.encodings.proofs.convert.read.Goals as goal

pub loop-rest-preserved : goal.loop-rest-preserved
loop-rest-preserved c =
    let e : c.push.new.self.items ≡ c.loop-rest.items.items ++ c.in-Ok.item ∷ [] = search rules in
    subst (InRead c.args.from c.args.to c.args.octets.now c.in-Ok.level (open_values c.next.new.opened.items) c.in-Ok.after.now) (sym (made_pushed _ _ _ e))
    (read_on _ _ _ _ _ _ _ c.loop-rest.invariant _ _ _ _ c.in-Ok.ensures.passed)

pub returns-in-Err-clause-none : goal.returns-in-Err-clause-none
returns-in-Err-clause-none c = λ k. read_stops _ _ _ _ _ _ _ c.loop-rest.invariant (c.in-Err.ensures.none k)

pub returns-clause-read : goal.returns-clause-read
returns-clause-read c =
    let o : AreOctets c.args.octets.now = λ i. omega (arith, c.type_inv.octets i) in
    let l : length c.loop-rest.opened.items ≡ 0 = search rules in
    let n : length c.loop-rest.rest.now ≡ 0 = search rules in
    read_ends _ _ _ _ _ _ _ c.loop-rest.invariant o (none_open _ l) (nothing_left_of _ n)
