-- All steps of a walk: where it ends at the end of the octets, they are values, and where it stops, they aren't.
use Rattle.std.proofs.Common.{◌≡◌, ℕ, suc, ◌+◌, ◌-◌, true, List, [], ◌∷◌, ◌++◌, length, take, Some, None, refl, sym, ap, subst, ◌∙◌, append_assoc}
use Rattle.std.proofs.Common.{append-nil, inl, inr, add-one, arith}
use Rattle.std.proofs.lemmas.List.{length-append, take_at, take_all}
use Rattle.bcder.specs.declared.mode.Mode.{Mode}
use Rattle.bcder.specs.x690.Identifier.{AreOctets}
use Rattle.bcder.specs.x690.Length.{IsEndOfContents}
use Rattle.bcder.specs.x690.Tree.{Tree, primitive, constructed, Trees, no_trees, ◌∷ₜ◌}
use Rattle.bcder.specs.x690.Preorder.{Heading, preorder, preorders}
use Rattle.bcder.specs.x690.Encoding.{IsEncoding, AreEncodings}
use Rattle.bcder.specs.laws.Sound.{AreOctets-take}
use Rattle.bcder.specs.laws.Stands.{AreOctets-after}
use Rattle.encodings.specs.declared.next.Event.{Event}
use Rattle.encodings.specs.declared.next.Walk.{Walk}
use Rattle.encodings.specs.Open.{Open, after, to_come, Step, of_primitive, into_definite, into_indefinite, out_of_definite, out_of_indefinite, Reaches}
use Rattle.encodings.specs.Open.{at_first, one_on}
use Rattle.encodings.specs.Next.{Advanced, Walked, AreValues}
use Rattle.encodings.proofs.Reading.{after_front}
use Rattle.encodings.proofs.WholeWalk.{come_first}

-- ---- calls one after the other

pub starts : (mode : Mode) (octets stack : List ℕ) (walk : Walk) → walk ≡ record { at = 0; end = length octets; depth = 0 }
    → Walked mode octets stack walk [] []
starts mode octets stack walk e =
    rw e (record {
      opened = [];
      rest = octets;
      stands = record { room = omega arith; numbers = refl; order = omega arith; rest = sym (take_all (length octets - 0) octets (omega arith)) };
      reaches = at_first;
      at = refl;
    })

pub goes_on_from : (mode : Mode) (octets before after : List ℕ) (old new : Walk) (e : Event) (p : List ℕ) (hs : List Heading)
    (w : Walked mode octets before old p hs) (a : Advanced mode octets w.opened w.rest before after old new e)
    → Walked mode octets after new (p ++ a.passed) (hs ++ a.met)
goes_on_from mode octets before after old new e p hs w a = record {
  opened = a.opened;
  rest = a.rest;
  stands = a.stands;
  reaches = one_on w.opened a.opened w.rest a.rest p a.passed hs a.met w.reaches a.step;
  at = omega (arith, a.at, w.at, length-append p a.passed);
}

-- ---- the octets of a walk

step_comes : (mode : Mode) (os : List Open) (x : List ℕ) (ps : List Open) (y q : List ℕ) (ks : List Heading) → Step mode os x ps y q ks
    → to_come os x ≡ q ++ to_come ps y
step_comes mode os x ps y q ks (of_primitive t h c d is same passed met) =
    rw (same, passed) (after_front os (h ++ c) y x (is ∙ sym (append_assoc h c y)))
step_comes mode os x ps y q ks (into_definite t h b d is same passed met) =
    rw (same, passed) (after_front os h (y ++ b) x is ∙ ap (λ z. h ++ z) (after_front os y b (y ++ b) refl))
step_comes mode os x ps y q ks (into_indefinite t h d is same passed met) = rw (same, passed) (after_front os h y x is)
step_comes mode os x ps y q ks (out_of_definite same none passed met) = rw (same, none, passed) refl
step_comes mode os x ps y q ks (out_of_indefinite same end is met) = rw same (after_front ps q y x is)

pub comes : (mode : Mode) (w : List ℕ) (os : List Open) (x p : List ℕ) (hs : List Heading) → Reaches mode w os x p hs → w ≡ p ++ to_come os x
comes mode w _ _ _ _ at_first = refl
comes mode w _ _ _ _ (one_on ns os v x p q hs ks r s) =
    comes mode w ns v p hs r ∙ ap (λ z. p ++ z) (step_comes mode ns v os x q ks s) ∙ sym (append_assoc p q (to_come os x))

front_octets : (u v w : List ℕ) → w ≡ u ++ v → AreOctets w → AreOctets u
front_octets u v w is o = subst AreOctets (ap (take (length u)) is ∙ take_at u v (length u) refl) (AreOctets-take (length u) w o)

pub rest_octets : (mode : Mode) (w : List ℕ) (os : List Open) (x p : List ℕ) (hs : List Heading) → AreOctets w → Reaches mode w os x p hs → AreOctets x
rest_octets mode w os x p hs o r =
    let b = come_first os x in
    front_octets x b.0 (to_come os x) b.1 (AreOctets-after p w (to_come os x) (comes mode w os x p hs r) o)

-- ---- at the end: the octets to come are the rest of values

-- the octets x are values, with these headings, that end the open values one after the other
abbrev Remains : Mode → List Open → List ℕ → List Heading → Type 0
Remains mode [] x hs = (ts : Trees) × AreEncodings mode ts x × (hs ≡ preorders ts 0)
Remains mode (Some behind ∷ os) x hs =
    (ts : Trees) × (ks : List Heading) × AreEncodings mode ts x × Remains mode os behind ks × (hs ≡ preorders ts (suc (length os)) ++ ks)
Remains mode (None ∷ os) x hs =
    (ts : Trees) × (ks : List Heading) × (v e y : List ℕ) × AreEncodings mode ts v × IsEndOfContents mode e × (x ≡ v ++ (e ++ y))
    × Remains mode os y ks × (hs ≡ preorders ts (suc (length os)) ++ ks)

one_before : (mode : Mode) (t : Tree) (v : List ℕ) → IsEncoding mode t v → (os : List Open) (y : List ℕ) (hs : List Heading) → Remains mode os y hs
    → Remains mode os (v ++ y) (preorder t (length os) ++ hs)
one_before mode t v h [] y hs r = (t ∷ₜ r.0, (v, y, h, r.1, refl), ap (λ l. preorder t 0 ++ l) r.2)
one_before mode t v h (Some b ∷ os) y hs r = (
  t ∷ₜ r.0,
  r.1,
  (v, y, h, r.2, refl),
  r.3,
  ap (λ l. preorder t (suc (length os)) ++ l) r.4
      ∙ sym (append_assoc (preorder t (suc (length os))) (preorders r.0 (suc (length os))) r.1),
)
one_before mode t v h (None ∷ os) y hs r = (
  t ∷ₜ r.0,
  r.1,
  v ++ r.2,
  r.3,
  r.4,
  (v, r.2, h, r.5, refl),
  r.6,
  ap (λ l. v ++ l) r.7 ∙ sym (append_assoc v r.2 (r.3 ++ r.4)),
  r.8,
  ap (λ l. preorder t (suc (length os)) ++ l) r.9 ∙ sym (append_assoc (preorder t (suc (length os))) (preorders r.0 (suc (length os))) r.1),
)

step_before : (mode : Mode) (os : List Open) (x : List ℕ) (ps : List Open) (y q : List ℕ) (ks hs : List Heading) → AreOctets x
    → Step mode os x ps y q ks → Remains mode ps y hs → Remains mode os x (ks ++ hs)
step_before mode os x ps y q ks hs o (of_primitive t h c d is same passed met) r =
    let octets : AreOctets c = front_octets c y (c ++ y) refl (AreOctets-after h x (c ++ y) is o) in
    let m = one_before mode (primitive t c) (h ++ c) (octets, record { header = h; is_header = d; is = refl }) os y hs
    (subst (λ k. Remains mode k y hs) same r) in
    rw (is, met) (subst (λ z. Remains mode os z (preorder (primitive t c) (length os) ++ hs)) (append_assoc h c y) m)
step_before mode os x ps y q ks hs o (into_definite t h b d is same passed met) r =
    let i = subst (λ k. Remains mode k y hs) same r in
    let m = one_before mode (constructed t i.0) (h ++ y) (y, i.2, inl (record { header = h; is_header = d; is = refl })) os b i.1 i.3 in
    let n : preorders i.0 (length os + 1) ++ i.1 ≡ hs = ap (λ k. preorders i.0 k ++ i.1) (add-one (length os)) ∙ sym i.4 in
    rw (is, met) (subst (λ l. Remains mode os (h ++ (y ++ b)) (record { tag = t; constructed = true; depth = length os } ∷ l)) n
    (subst (λ z. Remains mode os z (preorder (constructed t i.0) (length os) ++ i.1)) (append_assoc h y b) m))
step_before mode os x ps y q ks hs o (into_indefinite t h d is same passed met) r =
    let i = subst (λ k. Remains mode k y hs) same r in
    let m = one_before mode (constructed t i.0) (h ++ (i.2 ++ i.3))
    (i.2, i.5, inr (record { header = h; is_header = d; end = i.3; is_end = i.6; is = refl })) os i.4 i.1 i.8 in
    let n : preorders i.0 (length os + 1) ++ i.1 ≡ hs = ap (λ k. preorders i.0 k ++ i.1) (add-one (length os)) ∙ sym i.9 in
    let w : (h ++ (i.2 ++ i.3)) ++ i.4 ≡ x = append_assoc h (i.2 ++ i.3) i.4 ∙ ap (λ l. h ++ l) (append_assoc i.2 i.3 i.4 ∙ sym i.7) ∙ sym is in
    rw met (subst (λ l. Remains mode os x (record { tag = t; constructed = true; depth = length os } ∷ l)) n
    (subst (λ z. Remains mode os z (preorder (constructed t i.0) (length os) ++ i.1)) w m))
step_before mode os x ps y q ks hs o (out_of_definite same none passed met) r =
    rw (same, none, met) (no_trees, hs, refl, r, refl)
step_before mode os x ps y q ks hs o (out_of_indefinite same end is met) r =
    rw (same, met) (no_trees, hs, [], q, y, refl, end, is, r, refl)

all_before : (mode : Mode) (w : List ℕ) (os : List Open) (x p : List ℕ) (hs js : List Heading) → AreOctets w → Reaches mode w os x p hs
    → Remains mode os x js → Remains mode [] w (hs ++ js)
all_before mode w _ _ _ _ js o at_first r = r
all_before mode w _ _ _ _ js o (one_on ns os v x p q hs ks before s) r =
    rw (append_assoc hs ks js) (all_before mode w ns v p hs (ks ++ js) o before
    (step_before mode ns v os x q ks js (rest_octets mode w ns v p hs o before) s r))

-- a walk that passed all octets met the values that they are, each before those inside it
pub ends_at_values : (mode : Mode) (w p : List ℕ) (hs : List Heading) → AreOctets w → Reaches mode w [] [] p hs → AreValues mode w hs
ends_at_values mode w p hs o r =
    let m = all_before mode w [] [] p hs [] o r (no_trees, refl, refl) in
    record { trees = m.0; encode = m.1; headings = sym (append-nil hs) ∙ m.2 }
