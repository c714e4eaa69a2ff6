use Rattle.std.proofs.Common.{◌≡◌, ◌-◌, length, take, slice_get, option_map, Some, ◌∷◌, [], ap, refl, sym, ◌∙◌, arith, rules}
use Rattle.bcder.specs.x690.Identifier.{AreOctets}
use Rattle.encodings.specs.Open.{open_values}
use Rattle.encodings.proofs.WholeWalk.{walk_starts, walk_closes, walk_goes_on, walk_refused_first, walk_refused, walk_ends, innermost_first, walk_at}
use Rattle.encodings.proofs.WholeWalk.{closes_smaller, none_open, walk_deeper_first, walk_deeper}
use Rattle.encodings.proofs.Walking.{length_open}
use Rattle.encodings.proofs.walk.pass_value.Goals as goal

pub returns-in-Err-clause-refused : goal.returns-in-Err-clause-refused
returns-in-Err-clause-refused c =
    λ k n. walk_refused_first _ _ _ _ _ (c.in-Err.ensures.none k n []) (c.in-Err.ensures.why k n) (search rules)

pub loop-innermost-init : goal.loop-innermost-init
loop-innermost-init c =
    let e : open_values c.new-opened.result.items ≡ [] = ap open_values c.new-opened.ensures.items in
    record { walk = walk_starts _ _ _ _ _ _ _ e c.requires.values c.in-Ok.ensures.begins; few = c.in-Ok.ensures.few; shallow = c.in-Ok.ensures.shallow }

pub loop-innermost-smaller-in-Some-close : goal.loop-innermost-smaller-in-Some-close
loop-innermost-smaller-in-Some-close c =
    let g : slice_get c.loop-innermost.opened.items (length c.loop-innermost.opened.items - 1) ≡ Some c.in-Some.field-0.now = search rules in
    let p : c.pop-ended.new.self.items ≡ take (length c.loop-innermost.opened.items - 1) c.loop-innermost.opened.items = search rules in
    let q : open_values c.loop-innermost.opened.items ≡ option_map (λ s. s.now) c.in-Some.field-0.now ∷ open_values c.pop-ended.new.self.items =
    innermost_first c.loop-innermost.opened.items _ _ refl g ∙ ap (λ k. option_map (λ s. s.now) c.in-Some.field-0.now ∷ open_values k) (sym p) in
    closes_smaller _ _ _ _ _ _ _ q c.in-Some-close.ensures.1

pub loop-innermost-preserved-in-Some-close : goal.loop-innermost-preserved-in-Some-close
loop-innermost-preserved-in-Some-close c =
    let g : slice_get c.loop-innermost.opened.items (length c.loop-innermost.opened.items - 1) ≡ Some c.in-Some.field-0.now = search rules in
    let p : c.pop-ended.new.self.items ≡ take (length c.loop-innermost.opened.items - 1) c.loop-innermost.opened.items = search rules in
    let q : open_values c.loop-innermost.opened.items ≡ option_map (λ s. s.now) c.in-Some.field-0.now ∷ open_values c.pop-ended.new.self.items =
    innermost_first c.loop-innermost.opened.items _ _ refl g ∙ ap (λ k. option_map (λ s. s.now) c.in-Some.field-0.now ∷ open_values k) (sym p) in
    record {
      walk = walk_closes _ _ _ _ _ _ _ (walk_at _ _ _ _ _ _ _ _ q c.loop-innermost.invariant.walk) _ _ _ c.in-Some-close.ensures.1
          c.in-Some-close.ensures.2 refl refl;
      few = search rules;
      shallow = c.loop-innermost.invariant.shallow;
    }

pub loop-innermost-preserved : goal.loop-innermost-preserved
loop-innermost-preserved c =
    let g : slice_get c.loop-innermost.opened.items (length c.loop-innermost.opened.items - 1) ≡ Some c.in-Some.field-0.now = search rules in
    let q = innermost_first c.loop-innermost.opened.items _ _ refl g in
    record {
      walk = walk_goes_on _ _ _ _ _ _ _ (walk_at _ _ _ _ _ _ _ _ q c.loop-innermost.invariant.walk) _ _ _ _ _ c.in-None.ensures.0
          c.in-None.ensures.1 refl refl q c.in-Ok-begin.ensures.begins;
      few = c.in-Ok-begin.ensures.few;
      shallow = omega (arith, c.in-Ok-begin.ensures.shallow, c.loop-innermost.invariant.shallow);
    }

pub returns-in-Err-begin-clause-refused : goal.returns-in-Err-begin-clause-refused
returns-in-Err-begin-clause-refused c =
    let g : slice_get c.loop-innermost.opened.items (length c.loop-innermost.opened.items - 1) ≡ Some c.in-Some.field-0.now = search rules in
    let q = innermost_first c.loop-innermost.opened.items _ _ refl g in
    λ k n. walk_refused _ _ _ _ _ _ _ _ _ (walk_at _ _ _ _ _ _ _ _ q c.loop-innermost.invariant.walk) c.in-None.ensures.0
    (c.in-Err-begin.ensures.none k n _) (c.in-Err-begin.ensures.why k n) (search rules) (search rules) (search rules)

pub returns-clause-passed : goal.returns-clause-passed
returns-clause-passed c =
    let o : AreOctets c.args.octets.now = λ i. omega (arith, c.type_inv.octets i) in
    let l : length c.loop-innermost.opened.items ≡ 0 = search rules in
    walk_ends _ _ _ _ _ _ o (none_open c.loop-innermost.opened.items l) c.loop-innermost.invariant.walk

pub returns-in-Err-clause-deep : goal.returns-in-Err-clause-deep
returns-in-Err-clause-deep c =
    λ k. (let d = c.in-Err.ensures.deep k in
    let l : 0 ≡ c.args.levels = search rules in
    walk_deeper_first _ _ _ _ _ l d.2 d.0 (search rules))

pub returns-in-Err-begin-clause-deep : goal.returns-in-Err-begin-clause-deep
returns-in-Err-begin-clause-deep c =
    λ k. (let d = c.in-Err-begin.ensures.deep k in
    let n : length c.loop-innermost.opened.items ≡ c.args.levels = search rules in
    walk_deeper _ _ _ _ _ _ _ _ c.loop-innermost.invariant.walk (length_open c.loop-innermost.opened.items ∙ n) d.2 d.0 (search rules)
    (search rules) (search rules))
