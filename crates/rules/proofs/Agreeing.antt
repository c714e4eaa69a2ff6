-- What may come where, by definitions of the crates below.
use Rattle.std.proofs.Common.{◌≡◌, ◌≢◌, ℕ, ◌+◌, ◌*◌, ◌<◌, ◌≤◌, Bool, true, false, length, Option, Some, None, refl, sym, ap, subst, ◌∙◌, arith, rules}
use Rattle.std.specs.Prelude.{◌↔◌, option_map, if◌then◌else◌}
use Rattle.bcder.specs.declared.mode.Mode.{Mode}
use Rattle.bcder.specs.declared.mode.Mode.TheVariants.{Ber, Cer, Der}
use Rattle.bcder.specs.x690.Identifier.{Class, universal, application, context_specific, private, Tag}
use Rattle.bcder.specs.x690.OctetString.{octet_string_tag, AreSegments, AreSegmentsIn, FollowFull, IsFull, IsLast, IsPiece, IsSegment}
use Rattle.bcder.specs.x690.Tree.{Tree, primitive, constructed, Trees, no_trees, ◌∷ₜ◌}
use Rattle.bcder.specs.calls.Valued.{tag_of}
use Rattle.bcder.specs.laws.Sound.{none_is, some_inj}
use Rattle.encodings.specs.Headings.{class_number}
use Rattle.encodings.specs.Sets.{is_set, place, each, AreInOrder, MayPrecedeFirst}
use Rattle.rules.specs.Kinds.{is_bits, kind_of, IsString}
use Rattle.rules.specs.Laws.{SetsAreInOrder, StringsAreSegmented}
use Rattle.rules.specs.Means.{AreMeant, IsMeant}
use Rattle.rules.specs.Placed.{are_several, outline, segment_place, size_of, AreInPlace, InOrder, IsBehindWhole, IsCut, IsInPlace, MayCome}
use Rattle.rules.specs.Placed.{IsBehindFull, MayComeEach, MayEnd}
use Rattle.rules.specs.declared.kind.Kind.{Kind}
use Rattle.rules.specs.declared.kind.Kind.TheVariants as k

-- ---- SET

structure_at : (c : Class) (n : ℕ) → is_set (record { class = c; number = n }) ≡ true → kind_of (record { class = c; number = n }) ≡ k.Structure
structure_at universal n e = let q : n ≡ 17 = search rules in rw q refl
structure_at application n e = absurd cc
structure_at context_specific n e = absurd cc
structure_at private n e = absurd cc

set_is_structure : (t : Tag) → is_set t ≡ true → kind_of t ≡ k.Structure
set_is_structure t e = structure_at t.class t.number e

module _ (mode : Mode) (n : mode ≢ Ber) (t : Tag) (s : is_set t ≡ true) where
  no_string : IsString (kind_of t) → ⊥
  no_string h = subst IsString (set_is_structure t s) h

  no_bits : is_bits (kind_of t) ≡ true → ⊥
  no_bits h = let z : ◌≡◌ {A = Bool} false true = sym (ap is_bits (set_is_structure t s)) ∙ h in absurd cc

  behind : (last : Option Tree) → IsBehindWhole (kind_of t) (option_map outline last)
  behind None = tt
  behind (Some u) = λ h. absurd (no_bits h)

  come : (last : Option Tree) (v : Tree) → InOrder mode t last v → MayCome mode t last v
  come last v o = record { order = o; tag = λ h. absurd (no_string h); unused = behind last; cut = λ e h. absurd (no_string h) }

  to_order : (ts : Trees) (u : Tree) → MayComeEach mode t (Some u) ts → MayPrecedeFirst mode u (each ts) × AreInOrder mode (each ts)
  to_order no_trees u h = (tt, tt)
  to_order (v ∷ₜ vs) u h = (h.0.order n s, to_order vs v h.1)

  from_order : (ts : Trees) (u : Tree) → MayPrecedeFirst mode u (each ts) → AreInOrder mode (each ts) → MayComeEach mode t (Some u) ts
  from_order no_trees u p h = tt
  from_order (v ∷ₜ vs) u p h = (come (Some u) v (λ _ _. p), from_order vs v h.0 h.1)

  set_order : (ts : Trees) → MayComeEach mode t None ts ↔ AreInOrder mode (each ts)
  set_order no_trees = (λ h. tt, λ h. tt)
  set_order (v ∷ₜ vs) = (λ h. to_order vs v h.1, λ h. (come None v tt, from_order vs v h.0 h.1))

pub sets_in_order : SetsAreInOrder
sets_in_order mode t ts n s = set_order mode n t s ts

-- ---- strings

at_4 : (c : Class) (n : ℕ) → class_number c * 2097152 + n ≡ 4 → ◌≡◌ {A = Tag} (record { class = c; number = n }) octet_string_tag
at_4 universal n e = let q : n ≡ 4 = omega (arith, e) in rw q refl
at_4 application n e = absurd (omega (arith, e))
at_4 context_specific n e = absurd (omega (arith, e))
at_4 private n e = absurd (omega (arith, e))

tag_at_4 : (t : Tag) → place t ≡ 4 → t ≡ octet_string_tag
tag_at_4 t e = at_4 t.class t.number e

four : (kind : Kind) → is_bits kind ≡ false → segment_place kind ≡ 4
four kind b = rw b refl

not_bits : (kind : Kind) → is_bits kind ≡ false → is_bits kind ≡ true → ⊥
not_bits kind b h = let z : ◌≡◌ {A = Bool} false true = sym b ∙ h in absurd cc

whole_before : (kind : Kind) → is_bits kind ≡ false → (last : Option Tree) → IsBehindWhole kind (option_map outline last)
whole_before kind b None = tt
whole_before kind b (Some u) = λ h. absurd (not_bits kind b h)

octets_string : (t : Tag) → t ≡ octet_string_tag → IsString (kind_of t)
octets_string t e = subst (λ z. IsString (kind_of z)) (sym e) tt

octets_no_bits : (t : Tag) → t ≡ octet_string_tag → is_bits (kind_of t) ≡ false
octets_no_bits t e = subst (λ z. is_bits (kind_of z) ≡ false) (sym e) refl

-- in BER
mutual
  segment : (u : Tree) → place (tag_of u) ≡ 4 → IsInPlace Ber u → IsSegment u
  segment (primitive t c) p i = tag_at_4 t p
  segment (constructed t us) p i =
      let e = tag_at_4 t p in (e, segments us t None (octets_string t e) (octets_no_bits t e) i.1 i.0)

  segments : (us : Trees) (t : Tag) (last : Option Tree) → IsString (kind_of t) → is_bits (kind_of t) ≡ false → MayComeEach Ber t last us
      → AreInPlace Ber us → AreSegments us
  segments no_trees t last s b m i = tt
  segments (u ∷ₜ us) t last s b m i = (segment u (m.0.tag s ∙ four (kind_of t) b) i.0, segments us t (Some u) s b m.1 i.1)

tag_of_segment : (u : Tree) → IsSegment u → place (tag_of u) ≡ 4
tag_of_segment (primitive t c) h = rw h refl
tag_of_segment (constructed t ts) h = rw h.0 refl

any_order : (t : Tag) (last : Option Tree) (v : Tree) → InOrder Ber t last v
any_order t None v = tt
any_order t (Some u) v = λ n. absurd (n refl)

from_segments : (us : Trees) (t : Tag) (last : Option Tree) → is_bits (kind_of t) ≡ false → AreSegments us → MayComeEach Ber t last us
from_segments no_trees t last b h = tt
from_segments (u ∷ₜ us) t last b h = (
  record {
    order = any_order t last u;
    tag = λ s. tag_of_segment u h.0 ∙ sym (four (kind_of t) b);
    unused = whole_before (kind_of t) b last;
    cut = λ e. absurd cc;
  },
  from_segments us t (Some u) b h.1,
)

-- in CER
module _ (t : Tag) (s : IsString (kind_of t)) (b : is_bits (kind_of t) ≡ false) where
  no_set : is_set t ≡ true → ⊥
  no_set e = subst IsString (set_is_structure t e) s

  some_order : (last : Option Tree) (v : Tree) → InOrder Cer t last v
  some_order None v = tt
  some_order (Some u) v = λ n e. absurd (no_set e)

  full : (u : Tree) → place (tag_of u) ≡ 4 → size_of u ≡ Some 1000 → IsPiece IsFull u
  full (primitive t c) p e = (tag_at_4 t p, some_inj _ _ e)
  full (constructed t ts) p e = absurd (none_is _ e)

  last_piece : (u : Tree) (last : Option Tree) → MayCome Cer t last u → IsMeant Cer u → IsPiece IsLast u
  last_piece (primitive v c) last m w =
      let e = tag_at_4 v (m.tag s ∙ four (kind_of t) b) in
      let some : 0 < length c = subst (λ (r : Bool). (if r then 1 else 0) < length c) b (m.cut refl s).0 in
      let most : length c ≤ 1000 = rw e at w in
      (e, (some, most))
  last_piece (constructed v ts) last m w = absurd (m.cut refl s).0

  follow : (w : Tree) (ws : Trees) (u : Tree) → MayComeEach Cer t (Some u) (w ∷ₜ ws) → AreMeant Cer (w ∷ₜ ws) → FollowFull (w ∷ₜ ws)
  follow w no_trees u m a = last_piece w (Some u) m.0 a.0
  follow w (x ∷ₜ xs) u m a = (full w (m.0.tag s ∙ four (kind_of t) b) (m.1.0.cut refl s).1, follow x xs w m.1 a.1)

  to_cut : (ts : Trees) → MayComeEach Cer t None ts → MayEnd Cer (kind_of t) (are_several ts) → AreMeant Cer ts → AreSegmentsIn Cer ts
  to_cut no_trees m e a = let z : ◌≡◌ {A = Bool} false true = e refl s in absurd cc
  to_cut (u ∷ₜ no_trees) m e a = let z : ◌≡◌ {A = Bool} false true = e refl s in absurd cc
  to_cut (u ∷ₜ (w ∷ₜ ws)) m e a = (full u (m.0.tag s ∙ four (kind_of t) b) (m.1.0.cut refl s).1, follow w ws u m.1 a.1)

  comes : (u : Tree) (last : Option Tree) → place (tag_of u) ≡ 4 → IsCut Cer (kind_of t) (option_map outline last) (outline u) → MayCome Cer t last u
  comes u last p c = record {
    order = some_order last u;
    tag = λ _. p ∙ sym (four (kind_of t) b);
    unused = whole_before (kind_of t) b last;
    cut = c;
  }

  tag_of_piece : (P : ℕ → Type 0) (u : Tree) → IsPiece P u → place (tag_of u) ≡ 4
  tag_of_piece P (primitive v c) h = rw h.0 refl
  tag_of_piece P (constructed v ts) h = absurd h

  some_octets : (n : ℕ) → 0 < n → (if is_bits (kind_of t) then 1 else 0) < n
  some_octets n l = subst (λ (r : Bool). (if r then 1 else 0) < n) (sym b) l

  size_full : (u : Tree) → IsPiece IsFull u → size_of u ≡ Some 1000
  size_full (primitive v c) h = ap (λ (n : ℕ). Some n) h.1
  size_full (constructed v ts) h = absurd h

  from_full : (u : Tree) (last : Option Tree) → IsPiece IsFull u → IsBehindFull (option_map outline last) → MayCome Cer t last u
  from_full (primitive v c) last h f =
      comes (primitive v c) last (tag_of_piece IsFull (primitive v c) h) (λ _ _. (some_octets (length c) (omega (arith, h.1)), f))
  from_full (constructed v ts) last h f = absurd h

  from_last : (u : Tree) (last : Option Tree) → IsPiece IsLast u → IsBehindFull (option_map outline last) → MayCome Cer t last u
  from_last (primitive v c) last h f =
      comes (primitive v c) last (tag_of_piece IsLast (primitive v c) h) (λ _ _. (some_octets (length c) (omega (arith, h.1.0)), f))
  from_last (constructed v ts) last h f = absurd h

  from_follow : (w : Tree) (ws : Trees) (u : Tree) → size_of u ≡ Some 1000 → FollowFull (w ∷ₜ ws) → MayComeEach Cer t (Some u) (w ∷ₜ ws)
  from_follow w no_trees u e h = (from_last w (Some u) h e, tt)
  from_follow w (x ∷ₜ xs) u e h = (from_full w (Some u) h.0 e, from_follow x xs w (size_full w h.0) h.1)

  from_cut : (ts : Trees) → AreSegmentsIn Cer ts → MayComeEach Cer t None ts × MayEnd Cer (kind_of t) (are_several ts)
  from_cut no_trees h = absurd h
  from_cut (u ∷ₜ no_trees) h = absurd h.1
  from_cut (u ∷ₜ (w ∷ₜ ws)) h = ((from_full u None h.0 tt, from_follow w ws u (size_full u h.0) h.1), λ _ _. refl)

pub strings_segmented : StringsAreSegmented
strings_segmented Ber t ts n s b m i = (
  λ h. segments ts t None s b h.0 i,
  λ h. (from_segments ts t None b h, λ e. absurd cc),
)
strings_segmented Cer t ts n s b m i = (λ h. to_cut t s b ts h.0 h.1 m, λ h. from_cut t s b ts h)
strings_segmented Der t ts n s b m i = absurd (n refl)
