use Rattle.std.proofs.Common.{◌≡◌, ◌++◌, ◌∷◌, [], ◌+◌, ◌-◌, length, option_map, refl, ap, ◌∙◌, arith, rules}
use Rattle.bcder.specs.x690.Identifier.{AreOctets}
use Rattle.encodings.specs.declared.sets.Copied.{Copied}
use Rattle.encodings.specs.declared.sets.Enclosing.{Enclosing}
use Rattle.encodings.specs.Sorting.{passes, opens, behind_of}
use Rattle.encodings.proofs.CopySteps.{begins_opening, begins_passing, front_taken, header_taken, octets_inside}
use Rattle.encodings.proofs.sets.enter.Goals as goal

pub returns-then-begun : goal.returns-then-begun
returns-then-begun c =
    let o = option_map (λ s. s.now) c.in-Some.begun.behind in
    let y = c.in-Some.begun.contents.now in
    let b = begins_opening c.args.mode c.args.rest.now c.in-Some.begun.tag c.in-Some.begun.constructed y o c.in-Some.ensures.some c.if-begun.true in
    let f : Enclosing = record {
      place = c.place_of.result;
      sorts = c.is_set.result;
      behind = c.in-Some.begun.behind;
      start = c.len-start.result;
      inner = c.len.result;
      first = c.len-then-begun.result;
    } in
    let same : c.push.new.self.items ≡ c.args.opened.now.items ++ f ∷ [] = search rules in
    let w : c.extend_from_slice.new.self.items ≡ c.args.out.now.items ++ c.split_at.result.0.now = search rules in
    let h : c.split_at.result.0.now ≡ b.0 =
    c.split_at.ensures.front
    ∙ header_taken c.args.rest.now b.0 y (behind_of o) _ b.2 (ap (λ k. length c.args.rest.now - (length y + k)) c.behind_len.ensures) in
    let s : c.len-start.result ≡ length c.args.out.now.items = search rules in
    let i : c.len.result ≡ length c.extend_from_slice.new.self.items = search rules in
    let n : c.len-then-begun.result ≡ length c.args.copied.now.items = search rules in
    opens f c.in-Some.begun.tag b.0 c.place_of.ensures c.is_set.ensures b.1 b.2 same refl (w ∙ ap (λ z. c.args.out.now.items ++ z) h) s i n

pub returns : goal.returns
returns c =
    let o = option_map (λ s. s.now) c.in-Some.begun.behind in
    let y = c.in-Some-behind.behind.now in
    let x = c.args.rest.now in
    let b = begins_passing c.args.mode x c.in-Some.begun.tag c.in-Some.begun.constructed c.in-Some.begun.contents.now o y c.in-Some.ensures.some
    c.if-begun.false (ap (option_map (λ s. s.now)) c.in-Some-behind.is) in
    let a : AreOctets x = λ i. omega (arith, c.type_inv.rest i) in
    let d : Copied = record { place = c.place_of-2.result; size = length c.split_at-2.result.0.now } in
    let m : c.push-2.new.self.items ≡ c.args.copied.now.items ++ d ∷ [] = search rules in
    let w : c.extend_from_slice-2.new.self.items ≡ c.args.out.now.items ++ c.split_at-2.result.0.now = search rules in
    let h : c.split_at-2.result.0.now ≡ b.0 ++ c.in-Some.begun.contents.now =
    c.split_at-2.ensures.front ∙ front_taken x (b.0 ++ c.in-Some.begun.contents.now) y _ b.2 refl in
    passes c.in-Some.begun.tag b.0 c.in-Some.begun.contents.now b.1 (octets_inside x b.0 c.in-Some.begun.contents.now y b.2 a) b.2 refl
    (w ∙ ap (λ z. c.args.out.now.items ++ z) h) d c.place_of-2.ensures (ap length h) m
