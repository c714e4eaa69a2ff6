use Rattle.std.proofs.Common.{◌≡◌, ◌-◌, ◌++◌, ◌∷◌, [], true, false, Some, refl, sym, subst, rules}
use Rattle.bcder.specs.calls.Content.{length_of}
use Rattle.bcder.specs.x690.Octets.{header, constructed_length}
use Rattle.encodings.specs.Pieces.{HoldsFrames, IsAtBack, all_octets, with_made}
use Rattle.encodings.proofs.Converting.{beginning_held, string_held, value_held, made_begun, made_begun_string, made_part_of}
use Rattle.encodings.proofs.backwards.put.Goals as goal

pub returns-in-Some-put_beginning-clause-put : goal.returns-in-Some-put_beginning-clause-put
returns-in-Some-put_beginning-clause-put c =
    let e : c.args.marks.now.items ≡ c.pop.new.self.items ++ c.in-Some.mark ∷ [] = search rules in
    let n : c.saturating_sub-len.result ≡ c.args.at.now - c.in-Some.mark = search rules in
    λ f first h. subst (λ p. HoldsFrames (with_made c.args.mode p f) first c.put_beginning.new.buffer c.put_beginning.new.at c.pop.new.self.items)
    (sym (made_begun c.args.item.now c.in-Begin.is))
    (beginning_held f first _ _ _ h _ _ e c.args.mode c.args.item.now.tag _ _
    (subst (λ k. IsAtBack (all_octets f) first c.args.buffer.now c.args.at.now
    → IsAtBack (header c.args.item.now.tag true (constructed_length c.args.mode k) ++ all_octets f) first c.put_beginning.new.buffer c.put_beginning.new.at)
    n (c.in-Some-put_beginning.ensures.some refl first (all_octets f))))

pub returns-else-len-gt-MOST-clause-put : goal.returns-else-len-gt-MOST-clause-put
returns-else-len-gt-MOST-clause-put c =
    let e : c.args.marks.now.items ≡ c.pop-in-Whole.new.self.items ++ c.in-Some-pop.mark ∷ [] = search rules in
    let n : c.saturating_sub-len-in-Whole.result ≡ c.args.at.now - c.in-Some-pop.mark = search rules in
    λ f first h. subst (λ p. HoldsFrames (with_made c.args.mode p f) first c.put_header.new.buffer c.put_header.new.at c.pop-in-Whole.new.self.items)
    (sym (made_begun_string c.args.item.now c.in-Whole.is))
    (string_held f first _ _ _ h _ _ e c.args.item.now.tag _ _
    (subst (λ k. IsAtBack (all_octets f) first c.args.buffer.now c.args.at.now
    → IsAtBack (header c.args.item.now.tag false (length_of (Some k)) ++ all_octets f) first c.put_header.new.buffer c.put_header.new.at)
    n (c.put_header.ensures.stored first (all_octets f))))

pub returns-else-item-gt-TOO_MANY-clause-put : goal.returns-else-item-gt-TOO_MANY-clause-put
returns-else-item-gt-TOO_MANY-clause-put c =
    λ f first h. subst (λ p. HoldsFrames (with_made c.args.mode p f) first c.prepend.new.buffer c.prepend.new.at c.args.marks.now.items)
    (sym (made_part_of c.args.item.now c.in-Part.is))
    (value_held f first _ _ _ h c.args.item.now.contents.now _ _ (c.prepend.ensures.stored first (all_octets f)))
