use Rattle.std.proofs.Common.{◌≡◌, ◌++◌, ◌∷◌, [], get_or, sym, subst, refl, rules}
use Rattle.encodings.specs.declared.sets.Copied.{Copied}
use Rattle.encodings.specs.declared.sets.Element.{Element}
use Rattle.encodings.proofs.Keying.{Splits, none_split, sizes_at, split_on, splits_all}
use Rattle.encodings.proofs.sets.elements_of.Goals as goal

pub loop-first-init : goal.loop-first-init
loop-first-init c =
    let cs = c.args.copied.now in
    let w = c.args.octets.now in
    record { sizes = c.requires; split = subst (λ z. Splits cs w z cs w) (sym c.new-elements.ensures.items) (none_split cs w) }

pub split_at-requires : goal.split_at-requires
split_at-requires c = sizes_at c.args.copied.now c.loop-first.first-index _ c.loop-first.rest.now c.loop-first-test.true c.loop-first.invariant.sizes

pub loop-first-preserved : goal.loop-first-preserved
loop-first-preserved c =
    let d : Copied = record { place = 0; size = 0 } in
    let x = get_or c.args.copied.now c.loop-first.first-index d in
    let e : Element = record { place = x.place; octets = c.split_at.result.0 } in
    let k : c.push.new.self.items ≡ c.loop-first.elements.items ++ e ∷ [] = search rules in
    let p = split_on c.args.copied.now c.args.octets.now c.loop-first.elements.items c.push.new.self.items c.loop-first.first-index d
    c.loop-first.rest.now c.split_at.result.1.now e c.loop-first-test.true c.loop-first.invariant.sizes c.loop-first.invariant.split refl
    c.split_at.ensures.front k c.split_at.ensures.back in
    record { sizes = p.0; split = p.1 }

pub returns : goal.returns
returns c = splits_all c.args.copied.now c.args.octets.now c.loop-first.elements.items c.loop-first.first-index c.loop-first.rest.now
    c.loop-first.invariant.split c.loop-first-test.false
