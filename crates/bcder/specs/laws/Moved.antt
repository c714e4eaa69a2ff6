-- What moved content is: laws of `Moves`, by which `Moved` of a parameter is stated. Crates that use this one cite them in `using(..)`.
use Rattle.std.proofs.Common.{◌≡◌, ◌≢◌, ℕ, ◌+◌, ◌≤◌, Bool, true, false, List, [], ◌++◌, length, refl, ap, sym, ◌∙◌}
use Rattle.std.proofs.Common.{arith, length-append, append_assoc, append-nil, subst, inl, inr}
use Rattle.std.specs.Prelude.{Option, Some, None, ◌⊎◌}
use Rattle.std.proofs.lemmas.Grind.{common_steps}
use Rattle.bcder.specs.declared.mode.Mode.{Mode}
use Rattle.bcder.specs.declared.mode.Mode.TheVariants.{Ber}
use Rattle.bcder.specs.declared.decode.content.State.TheVariants.{Ended, Failed}
use Rattle.bcder.specs.x690.Length.{IsEndOfContents}
use Rattle.bcder.specs.x690.Tree.{no_trees, ◌+++◌}
use Rattle.bcder.specs.declared.decode.content.Kind.TheVariants as kind
use Rattle.bcder.specs.calls.Content.{Reading, label, Moves, Whole, Falls, Closes, values}
use Rattle.bcder.specs.laws.Lists.{AreEncodings-join}
use Rattle.bcder.specs.laws.Canonical.{AreEncodings-in_ber}
use Rattle.bcder.specs.laws.Lengths.{IsLengthForm-from_length}

-- ---- what is owed

pub Falls-refl : (o : Option ℕ) → Falls o 0 o
Falls-refl None = refl
Falls-refl (Some n) = omega arith

pub Falls-trans : (o p q : Option ℕ) (j k : ℕ) → Falls o j p → Falls p k q → Falls o (j + k) q
Falls-trans None None None j k a b = refl
Falls-trans None None (Some z) j k a b = absurd (b refl)
Falls-trans None (Some y) q j k a b = absurd (a refl)
Falls-trans (Some x) None q j k a b = absurd (a refl)
Falls-trans (Some x) (Some y) None j k a b = absurd (b refl)
Falls-trans (Some x) (Some y) (Some z) j k a b = omega arith

-- ---- states and marks

not_failed : (c d : Reading) → (c.state ≡ Failed → d.state ≡ Failed) → d.state ≢ Failed → c.state ≢ Failed
not_failed c d f n s = n (f s)

unmarked : (a b : Bool) → (a ≡ true → b ≡ true) → b ≡ false → a ≡ false
unmarked false b f e = refl
unmarked true b f e = absurd (let x : true ≡ false = sym (f refl) ∙ e in cc)

end_in_ber : (m : Mode) (w : List ℕ) → IsEndOfContents m w → IsEndOfContents Ber w
end_in_ber m w e = record { zero_length = e.zero_length; is = e.is; is_length = IsLengthForm-from_length m 0 e.zero_length e.is_length }

-- ---- the octets passed

-- the octets passed are whole values under a later mark too, which makes them BER
pub whole_marked : (m : Mode) (c d : Reading) (p : List ℕ) (a b : Bool) → (a ≡ true → b ≡ true) → Whole (label m a) c p d
    → Whole (label m b) c p d
whole_marked m c d p true true f w = w
whole_marked m c d p true false f w = absurd (let x : false ≡ true = f refl in cc)
whole_marked m c d p false false f w = w
whole_marked m c d p false true f w = record {
  trees = w.trees;
  values = w.values;
  close = w.close;
  split = w.split;
  encodes = AreEncodings-in_ber m w.trees w.values w.encodes;
  closes = elim w.closes [ inl x ↦ inl x | inr x ↦ inr (end_in_ber m w.close x.0, x.1, x.2, x.3) ];
}

-- if nothing is marked yet, the mode is the same
label_of : (m n : Mode) (a b : Bool) → (a ≡ true → b ≡ true) → (a ≡ false → n ≡ m) → label n b ≡ label m b
label_of m n a true f g = refl
label_of m n a false f g = g (unmarked a false f refl)

split_first : (p q v w x y : List ℕ) → p ≡ v ++ w → w ≡ [] → q ≡ x ++ y → p ++ q ≡ (v ++ x) ++ y
split_first p q v w x y a e b = grind (arith, common_steps, append_assoc {A = ℕ})

closes_first : (m : Mode) (c d e : Reading) (x : List ℕ) → d.kind ≡ c.kind → d.state ≡ c.state → Closes m d x e → Closes m c x e
closes_first m c d e x k s (inl h) = inl (h.0, h.1 ∙ s)
closes_first m c d e x k s (inr h) = inr (h.0, sym k ∙ h.1, sym s ∙ h.2, h.3)

closes_last : (m : Mode) (d e : Reading) (x : List ℕ) → d.state ≡ Ended → Closes m d x e → e.state ≡ Ended
closes_last m d e x s (inl h) = h.1 ∙ s
closes_last m d e x s (inr h) = h.3

-- after the end marker no octets are passed
whole_trans : (m : Mode) (c d e : Reading) (p q : List ℕ) (a : Whole m c p d) → d.kind ≡ c.kind → (d.state ≡ Ended → q ≡ [])
    → Closes m c a.close d → Whole m d q e → Whole m c (p ++ q) e
whole_trans m c d e p q a k done (inl s) b = record {
  trees = a.trees +++ b.trees;
  values = a.values ++ b.values;
  close = b.close;
  split = split_first p q a.values a.close b.values b.close a.split s.0 b.split;
  encodes = AreEncodings-join m a.trees b.trees a.values b.values a.encodes b.encodes;
  closes = closes_first m c d e b.close k s.1 b.closes;
}
whole_trans m c d e p q a k done (inr s) b = record {
  trees = a.trees;
  values = a.values;
  close = a.close;
  split = (let z : q ≡ [] = done s.3 in rw (z, append-nil p) a.split);
  encodes = a.encodes;
  closes = inr (s.0, s.1, s.2, closes_last m d e b.close s.3 b.closes);
}

whole_both : (c d e : Reading) (p q : List ℕ) → d.kind ≡ c.kind → (d.marked ≡ false → d.mode ≡ c.mode) → (d.marked ≡ true → e.marked ≡ true)
    → (d.state ≡ Ended → q ≡ []) → Whole (label c.mode d.marked) c p d → Whole (label d.mode e.marked) d q e
    → Whole (label c.mode e.marked) c (p ++ q) e
whole_both c d e p q k g f done a b =
    let a' : Whole (label c.mode e.marked) c p d = whole_marked c.mode c d p d.marked e.marked f a in
    whole_trans (label c.mode e.marked) c d e p q a' k done a'.closes
    (subst (λ x. Whole x d q e) (label_of c.mode d.mode d.marked e.marked f g) b)

ends_trans : (c d e : Reading) → d.kind ≡ c.kind → (d.state ≡ Ended → (c.state ≡ Ended) ⊎ (c.kind ≡ values kind.Indefinite))
    → (d.state ≡ Ended) ⊎ (d.kind ≡ values kind.Indefinite) → (c.state ≡ Ended) ⊎ (c.kind ≡ values kind.Indefinite)
ends_trans c d e k f (inl s) = f s
ends_trans c d e k f (inr s) = inr (sym k ∙ s)

pub whole_none : (m : Mode) (c d : Reading) → d.state ≡ c.state → Whole m c [] d
whole_none m c d e = record { trees = no_trees; values = []; close = []; split = refl; encodes = refl; closes = inl (refl, e) }

-- ---- what a crate that uses this one cites

-- content that nothing was done to is moved
pub untouched_is_moved : (c : Reading) → Moves c c
unfolding Moves
untouched_is_moved c = record {
  passed = [];
  rest = refl;
  owed = Falls-refl c.owed;
  kept = refl;
  kind = refl;
  mode = λ _. refl;
  name = refl;
  faults = omega arith;
  ended = λ e. (e, refl);
  failed = λ f. f;
  marked = λ f. f;
  ends = λ x. inl x;
  whole = λ _ _. whole_none _ c c refl;
}

-- two moves in a row are a move
pub moved_twice_is_moved : (c d e : Reading) → Moves c d → Moves d e → Moves c e
unfolding Moves
moved_twice_is_moved c d e a b = record {
  passed = a.passed ++ b.passed;
  rest = a.rest ∙ ap (λ x. a.passed ++ x) b.rest ∙ sym (append_assoc a.passed b.passed e.stream.rest);
  owed = rw length-append (Falls-trans c.owed d.owed e.owed _ _ a.owed b.owed);
  kept = b.kept ∙ a.kept;
  kind = b.kind ∙ a.kind;
  mode = λ n. b.mode n ∙ a.mode (unmarked d.marked e.marked b.marked n);
  name = b.name ∙ a.name;
  faults = omega arith;
  ended = λ s. ((b.ended (a.ended s).0).0, rw ((a.ended s).1) ((b.ended (a.ended s).0).1));
  failed = λ f. b.failed (a.failed f);
  marked = λ f. b.marked (a.marked f);
  ends = λ x. ends_trans c d e a.kind a.ends (b.ends x);
  whole = λ n o. whole_both c d e a.passed b.passed a.kind a.mode b.marked (λ t. (b.ended t).1) (a.whole (not_failed d e b.failed n) o)
      (b.whole n (λ k. o (sym a.kind ∙ k)));
}

-- whatever moved to c moves to d
abbrev pub Carries : Reading → Reading → Type 0
Carries c d = (b : Reading) → Moves b c → Moves b d

-- whatever moved to content moves on with it
pub moved_carries : (c d : Reading) → Moves c d → Carries c d
moved_carries c d m b h = moved_twice_is_moved b c d h m

-- what is left is no longer than what was there
pub moved_is_no_longer : (c d : Reading) → Moves c d → length d.stream.rest ≤ length c.stream.rest
unfolding Moves
moved_is_no_longer c d m = omega (arith, ap length m.rest, length-append m.passed d.stream.rest)

pub moved_keeps_kind : (c d : Reading) → Moves c d → d.kind ≡ c.kind
unfolding Moves
moved_keeps_kind c d m = m.kind

-- ---- what `using(..)` names if one law isn't enough

-- for a closure of several steps, passed to a call that requires that it moves the content
pub ruleset steps = (untouched_is_moved, moved_carries)

-- for a recursion whose measure is what is left
pub ruleset measures = (untouched_is_moved, moved_is_no_longer)
