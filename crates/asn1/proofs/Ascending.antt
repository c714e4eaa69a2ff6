-- Values whose tags are in a set, and ascend.
use Rattle.std.proofs.Common.{◌≡◌, ℕ, ◌<◌, Bool, true, List, [], ◌∷◌, refl, Option, Some, None, sym, ◌∙◌, ap, subst, inl, inr, ltb-true}
use Rattle.std.specs.Prelude.{Ok, Decides, MatchOption}
use Rattle.std.proofs.lemmas.List.Sorted.{IsPermutation-refl}
use Rattle.bcder.specs.declared.mode.Mode.{Mode}
use Rattle.bcder.specs.x690.Identifier.{Tag}
use Rattle.bcder.specs.x690.Tree.{Tree, Trees, no_trees, ◌∷ₜ◌, ◌+++◌}
use Rattle.bcder.specs.calls.Meaning.{Then, NoValues, Joined, nothing}
use Rattle.bcder.specs.calls.Meaning.{Encoded, Meaning}
use Rattle.bcder.specs.calls.Valued.{tag_of}
use Rattle.asn1.specs.Sets.{Rise, each, place, place_in, AreOrdered}
use Rattle.asn1.specs.Writing.{IsWritten, WritesOptional}
use Rattle.asn1.specs.DefaultsWritten.{WritesUnless}
use Rattle.asn1.specs.TagSets.{TagSet, every_tag, these_tags, IsAmong, IsIn, AreIn, both_sets, is_before_each, are_before_each, are_before, in_first, in_second}
use Rattle.asn1.proofs.ReadingBack.{and_none}
use Rattle.asn1.proofs.ToldApart.{both_true, among_none}

-- ---- sets of which one comes before the other

module _ (Place : ℕ → ℕ) where
  before_each : (t u : Tag) (us : List Tag) → is_before_each Place t us ≡ true → IsAmong u us → Place (place t) < Place (place u)
  before_each t u [] e k = absurd k
  before_each t u (v ∷ us) e (inl p) = subst (λ z. Place (place t) < Place (place z)) (sym p) (ltb-true _ _ (both_true _ _ e).0)
  before_each t u (v ∷ us) e (inr k) = before_each t u us (both_true _ _ e).1 k

  each_before : (t u : Tag) (ts us : List Tag) → are_before_each Place ts us ≡ true → IsAmong t ts → IsAmong u us → Place (place t) < Place (place u)
  each_before t u [] us e h k = absurd h
  each_before t u (v ∷ ts) us e (inl p) k = subst (λ z. Place (place z) < Place (place u)) (sym p) (before_each v u us (both_true _ _ e).0 k)
  each_before t u (v ∷ ts) us e (inr h) k = each_before t u ts us (both_true _ _ e).1 h k

  before_sets : (s r : TagSet) → are_before Place s r ≡ true → (t u : Tag) → IsIn s t → IsIn r u → Place (place t) < Place (place u)
  before_sets every_tag every_tag e t u h k = cc
  before_sets every_tag (these_tags us) e t u h k = absurd (among_none u us e k)
  before_sets (these_tags ts) every_tag e t u h k = absurd (among_none t ts e h)
  before_sets (these_tags ts) (these_tags us) e t u h k = each_before t u ts us e h k

-- ---- values with tags of a set

-- they ascend, too, in each order
pub record AreInOrder (s : TagSet) (ts : Trees) : Type 0 where
  pub within : AreIn s ts
  pub rise : (Place : ℕ → ℕ) → Rise (place_in Place) (each ts)

pub any_in : (ts : Trees) → AreIn every_tag ts
any_in no_trees = tt
any_in (t ∷ₜ ts) = (tt, any_in ts)

none_in_order : (s : TagSet) → AreInOrder s no_trees
none_in_order s = record { within = tt; rise = λ Place. tt }

wider : (s r : TagSet) → ((t : Tag) → IsIn s t → IsIn r t) → (ts : Trees) → AreIn s ts → AreIn r ts
wider s r to no_trees h = tt
wider s r to (t ∷ₜ ts) h = (to (tag_of t) h.0, wider s r to ts h.1)

in_both : (s r : TagSet) (ts us : Trees) → AreIn s ts → AreIn r us → AreIn (both_sets s r) (ts +++ us)
in_both s r no_trees us h k = wider r (both_sets s r) (in_second s r) us k
in_both s r (t ∷ₜ ts) us h k = (in_first s r (tag_of t) h.0, in_both s r ts us h.1 k)

rise_both : (Place : ℕ → ℕ) (s r : TagSet) → are_before Place s r ≡ true → (ts us : Trees) → AreIn s ts → AreIn r us
    → Rise (place_in Place) (each ts) → Rise (place_in Place) (each us) → Rise (place_in Place) (each (ts +++ us))
rise_both Place s r e no_trees us h k a b = b
rise_both Place s r e (t ∷ₜ no_trees) no_trees h k a b = a
rise_both Place s r e (t ∷ₜ no_trees) (u ∷ₜ us) h k a b = (before_sets Place s r e (tag_of t) (tag_of u) h.0 k.0, b)
rise_both Place s r e (t ∷ₜ (v ∷ₜ ts)) us h k a b = (a.0, rise_both Place s r e (v ∷ₜ ts) us h.1 k a.1 b)

-- ---- what is written

pub nothing_in_order : (s : TagSet) (e : Encoded) → ◌≡◌ {A = Meaning} (Ok e) (Ok nothing) → AreInOrder s e.values
nothing_in_order s e m =
    let same : e ≡ nothing = cc in
    subst (λ (z : Encoded). AreInOrder s z.values) (sym same) (none_in_order s)

module _ {T K : Type 0} (Tags : Tag → Type 0) (Means : Tree → T → Type 0) (s : TagSet) (to : (t : Tag) → Tags t → IsIn s t) (key : T → K) where
  pub written_in_order : (k : K) (e : Encoded) → IsWritten Tags Means key k e → AreInOrder s e.values
  written_in_order k e w =
      let one : AreInOrder s (w.tree ∷ₜ no_trees) = record { within = (to (tag_of w.tree) w.tagged, tt); rise = λ Place. (tt, tt) } in
      subst (AreInOrder s) (sym w.is) one

  pub optional_in_order : (Clear : T → Type 0) (M : T → Meaning → Type 0)
      → ((v : T) → Clear v → (e : Encoded) → M v (Ok e) → IsWritten Tags Means key (key v) e) → (x : Option T) → MatchOption x (Unit {0}) Clear
      → (e : Encoded) → WritesOptional M x (Ok e) → AreInOrder s e.values
  optional_in_order Clear M w (Some x) k e m = written_in_order (key x) e (w x k e m)
  optional_in_order Clear M w None k e m = nothing_in_order s e m

  pub default_in_order : (k : K) (P : Type 0) (M : Meaning → Type 0) → ((e : Encoded) → M (Ok e) → IsWritten Tags Means key k e)
      → (e : Encoded) → WritesUnless P M (Ok e) → AreInOrder s e.values
  default_in_order k P M w e (inl p) = nothing_in_order s e p.1
  default_in_order k P M w e (inr p) = written_in_order k e (w e p.1)

-- one behind the other
module _ (M N : Meaning → Type 0) (s r : TagSet) where
  behind : (e : Encoded) → Joined (Then M (Then N NoValues)) (Ok e)
      → (y : Encoded) × (x : Encoded) × M (Ok y) × N (Ok x) × (e.values ≡ (y.values +++ x.values))
  behind e ((y, z, m, (x, n, k, i, j), h), f) =
      let same : n ≡ nothing = cc in
      let last : z.values ≡ x.values = ap (λ (w : Encoded). w.values) j ∙ ap (λ (w : Encoded). x.values +++ w.values) same ∙ and_none x.values in
      (y, x, m, k, ap (λ (w : Encoded). w.values) h ∙ ap (λ w. y.values +++ w) last)

  pub both_within : ((e : Encoded) → M (Ok e) → AreIn s e.values) → ((e : Encoded) → N (Ok e) → AreIn r e.values)
      → (e : Encoded) → Joined (Then M (Then N NoValues)) (Ok e) → AreIn (both_sets s r) e.values
  both_within p q e j =
      let (y, x, m, n, is) = behind e j in
      subst (AreIn (both_sets s r)) (sym is) (in_both s r y.values x.values (p y m) (q x n))

  pub both_rise : (Place : ℕ → ℕ) → are_before Place s r ≡ true → ((e : Encoded) → M (Ok e) → AreIn s e.values)
      → ((e : Encoded) → N (Ok e) → AreIn r e.values) → ((e : Encoded) → M (Ok e) → Rise (place_in Place) (each e.values))
      → ((e : Encoded) → N (Ok e) → Rise (place_in Place) (each e.values)) → (e : Encoded) → Joined (Then M (Then N NoValues)) (Ok e)
      → Rise (place_in Place) (each e.values)
  both_rise Place b p q f g e j =
      let (y, x, m, n, is) = behind e j in
      subst (λ ts. Rise (place_in Place) (each ts)) (sym is) (rise_both Place s r b y.values x.values (p y m) (q x n) (f y m) (g x n))

-- ---- a set

-- values that ascend in the order of the fields, and in that of their tags, are in the order of a set
pub in_order : (mode : Mode) (Place : ℕ → ℕ) (ts : Trees) → Rise (place_in Place) (each ts) → Rise (place_in (λ n. n)) (each ts)
    → AreOrdered mode Place ts ts
in_order mode Place ts r s = record { rearranged = IsPermutation-refl (each ts); rise = r; in_place = λ e. refl; by_tag = λ e. s }

-- what is clear is followed by nothing, and is in order
pub set_decided : {P Q R : Type 0} (r : Bool) → Decides r P → (P → Q) → (P → R) → Decides r (P × Q × R)
set_decided r d q s = (λ e. (let p = d.0 e in (p, q p, s p)), λ h. d.1 h.0)
