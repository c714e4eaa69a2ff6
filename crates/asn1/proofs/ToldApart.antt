-- Values are told apart by sets of tags.
use Rattle.std.proofs.Common.{◌≡◌, ℕ, Bool, true, false, not, ◌&&◌, List, [], ◌∷◌, Option, Some, None, refl, sym, ◌∙◌}
use Rattle.std.proofs.Common.{ap, subst, inl, inr, nat_eq, arith, ◌<◌, ◌≤◌, ◌+◌, ◌⊎◌, length}
use Rattle.std.specs.Prelude.{Ok, Decides, MatchOption, All, slice_index_or}
use Rattle.std.proofs.Math.Nat.{eq-or-lt_of_le}
use Rattle.std.proofs.lemmas.List.{get_or_default}
use Rattle.bcder.specs.x690.Identifier.{Tag, Class, universal, application, context_specific, private}
use Rattle.bcder.specs.x690.Tree.{Tree, Trees, no_trees, ◌∷ₜ◌, ◌+++◌}
use Rattle.bcder.specs.calls.Meaning.{Then, NoValues, Joined, nothing}
use Rattle.bcder.specs.calls.Meaning.{Encoded, Meaning}
use Rattle.bcder.specs.calls.Valued.{tag_of}
use Rattle.asn1.specs.Types.{BeginWithout, AreList}
use Rattle.asn1.specs.Writing.{IsWritten, AreTaken, WritesOptional}
use Rattle.asn1.specs.DefaultsWritten.{WritesUnless}
use Rattle.asn1.specs.TagSets.{TagSet, every_tag, these_tags, IsAmong, IsIn, both_sets, set_if, is_same_class, is_same_tag, is_not_among, are_not_among}
use Rattle.asn1.specs.TagSets.{is_none, are_distinct, BeginIn, in_first, in_second}
use Rattle.asn1.proofs.ReadingBack.{and_none}

-- ---- decisions

pub decides_both : {P Q : Type 0} (r s : Bool) → Decides r P → Decides s Q → Decides (r && s) (P × Q)
decides_both true s p q = (λ e. (p.0 refl, q.0 e), λ h. q.1 h.1)
decides_both false s p q = (λ e. absurd (false_true e), λ h. p.1 h.0)
  where
    false_true : ◌≡◌ {A = Bool} false true → ⊥
    false_true e = cc

-- ---- sets without a tag in common

pub both_true : (a b : Bool) → (a && b) ≡ true → (a ≡ true) × (b ≡ true)
both_true true b e = (refl, e)
both_true false b e = cc

same_number : (n : ℕ) → nat_eq n n ≡ true
same_number n = grind arith

same_class : (c : Class) → is_same_class c c ≡ true
same_class universal = refl
same_class application = refl
same_class context_specific = refl
same_class private = refl

same_tag : (t : Tag) → is_same_tag t t ≡ true
same_tag t = rw (same_class t.class, same_number t.number) refl

not_true : (b : Bool) → b ≡ true → not b ≡ true → ⊥
not_true true p q = cc
not_true false p q = cc

not_among : (t : Tag) (us : List Tag) → is_not_among t us ≡ true → IsAmong t us → ⊥
not_among t [] e k = absurd k
not_among t (u ∷ us) e (inl p) =
    not_true (is_same_tag t u) (subst (λ z. is_same_tag t z ≡ true) p (same_tag t)) (both_true (not (is_same_tag t u)) (is_not_among t us) e).0
not_among t (u ∷ us) e (inr k) = not_among t us (both_true (not (is_same_tag t u)) (is_not_among t us) e).1 k

none_among : (t : Tag) (ts us : List Tag) → are_not_among ts us ≡ true → IsAmong t ts → IsAmong t us → ⊥
none_among t [] us e h k = absurd h
none_among t (v ∷ ts) us e (inl p) k =
    not_among v us (both_true (is_not_among v us) (are_not_among ts us) e).0 (subst (λ z. IsAmong z us) p k)
none_among t (v ∷ ts) us e (inr h) k = none_among t ts us (both_true (is_not_among v us) (are_not_among ts us) e).1 h k

pub among_none : (t : Tag) (ts : List Tag) → is_none ts ≡ true → IsAmong t ts → ⊥
among_none t [] e k = absurd k
among_none t (u ∷ ts) e k = cc

pub distinct_sets : (s r : TagSet) → are_distinct s r ≡ true → (t : Tag) → IsIn s t → IsIn r t → ⊥
distinct_sets every_tag every_tag e t h k = cc
distinct_sets every_tag (these_tags us) e t h k = among_none t us e k
distinct_sets (these_tags ts) every_tag e t h k = among_none t ts e h
distinct_sets (these_tags ts) (these_tags us) e t h k = none_among t ts us e h k

-- ---- values that begin with none of a set

pub without : (P Q : Tag → Type 0) → ((t : Tag) → Q t → P t) → (us : Trees) → BeginWithout P us → BeginWithout Q us
without P Q to no_trees b = tt
without P Q to (t ∷ₜ us) b = λ q. b (to (tag_of t) q)

pub optional_follow : {T : Type 0} (P : Trees → Type 0) (us : Trees) → P us → (x : Option T) → MatchOption x (P us) (λ _. Unit {0})
optional_follow P us p (Some x) = tt
optional_follow P us p None = p

pub none_with_every : (us : Trees) → BeginWithout (IsIn every_tag) us → us ≡ no_trees
none_with_every no_trees b = refl
none_with_every (t ∷ₜ us) b = absurd (b tt)

-- ---- what is written begins with a tag of a set

pub nothing_begin : (s : TagSet) (e : Encoded) → ◌≡◌ {A = Meaning} (Ok e) (Ok nothing) → BeginIn s true e.values
nothing_begin s e m =
    let same : e ≡ nothing = cc in
    subst (λ (z : Encoded). BeginIn s true z.values) (sym same) refl

module _ {T : Type 0} (Tags : Tag → Type 0) (Means : Tree → T → Type 0) (s : TagSet) (to : (t : Tag) → Tags t → IsIn s t) where
  pub written_begin : {K : Type 0} (key : T → K) (k : K) (b : Bool) (e : Encoded) → IsWritten Tags Means key k e → BeginIn s b e.values
  written_begin key k b e w = subst (BeginIn s b) (sym w.is) (to (tag_of w.tree) w.tagged)

  pub optional_begin : {K : Type 0} (key : T → K) (Clear : T → Type 0) (M : T → Meaning → Type 0)
      → ((v : T) → Clear v → (e : Encoded) → M v (Ok e) → IsWritten Tags Means key (key v) e) → (x : Option T) → MatchOption x (Unit {0}) Clear
      → (e : Encoded) → WritesOptional M x (Ok e) → BeginIn s true e.values
  optional_begin key Clear M w (Some x) k e m = written_begin key (key x) true e (w x k e m)
  optional_begin key Clear M w None k e m = nothing_begin s e m

  pub default_begin : {K : Type 0} (key : T → K) (k : K) (P : Type 0) (M : Meaning → Type 0) → ((e : Encoded) → M (Ok e) → IsWritten Tags Means key k e)
      → (e : Encoded) → WritesUnless P M (Ok e) → BeginIn s true e.values
  default_begin key k P M w e (inl p) = nothing_begin s e p.1
  default_begin key k P M w e (inr p) = written_begin key k true e (w e p.1)

  list_begin_at : (ts us : Trees) (xs : List T) → us ≡ no_trees → AreList Tags Means ts xs us → BeginIn s true ts
  list_begin_at ts us [] e l = subst (BeginIn s true) (sym e ∙ l.1) refl
  list_begin_at ts us (x ∷ xs) e l = subst (BeginIn s true) (sym l.1.are) (to (tag_of l.1.tree) l.1.tagged)

  -- a list that is taken with nothing behind it
  pub list_begin : {V L : Type 0} (items : V → List T) (keys : V → L) (l : L) (ts : Trees)
      → AreTaken (λ (ts : Trees) (y : V) (us : Trees). AreList Tags Means ts (items y) us) keys l (ts +++ no_trees) no_trees → BeginIn s true ts
  list_begin items keys l ts a = subst (BeginIn s true) (and_none ts) (list_begin_at (ts +++ no_trees) no_trees (items a.some) refl a.taken)

-- ---- one behind the other

first_begin : (s r : TagSet) (a b : Bool) (ts us : Trees) → BeginIn s a ts → BeginIn r b us → BeginIn (both_sets s (set_if a r)) (a && b) (ts +++ us)
first_begin s r a b (t ∷ₜ ts) us p q = in_first s (set_if a r) (tag_of t) p
first_begin s r true b no_trees no_trees p q = q
first_begin s r true b no_trees (u ∷ₜ us) p q = in_second s r (tag_of u) q
first_begin s r false b no_trees us p q = cc

second_begin : (s r : TagSet) (b : Bool) (ts us : Trees) → are_distinct s r ≡ true → BeginIn r b ts → BeginWithout (IsIn (set_if b s)) us
    → BeginWithout (IsIn s) (ts +++ us)
second_begin s r b (t ∷ₜ ts) us d p q = λ h. distinct_sets s r d (tag_of t) h p
second_begin s r true no_trees us d p q = q
second_begin s r false no_trees us d p q = cc

module _ (M N : Meaning → Type 0) (s r : TagSet) (a b : Bool) where
  pub both_begin : ((e : Encoded) → M (Ok e) → BeginIn s a e.values) → ((e : Encoded) → N (Ok e) → BeginIn r b e.values)
      → (e : Encoded) → Joined (Then M (Then N NoValues)) (Ok e) → BeginIn (both_sets s (set_if a r)) (a && b) e.values
  both_begin p q e ((y, z, m, (x, n, k, i, j), h), f) =
      let same : n ≡ nothing = cc in
      let last : z.values ≡ x.values = ap (λ (w : Encoded). w.values) j ∙ ap (λ (w : Encoded). x.values +++ w.values) same ∙ and_none x.values in
      let is : e.values ≡ (y.values +++ x.values) = ap (λ (w : Encoded). w.values) h ∙ ap (λ w. y.values +++ w) last in
      subst (BeginIn (both_sets s (set_if a r)) (a && b)) (sym is) (first_begin s r a b y.values x.values (p y m) (q x k))

-- what bars tags behind both: the second fields', and the first's if the second may be nothing
pub both_follow : (A B : Trees → Type 0) (N : Meaning → Type 0) (s r f : TagSet) (b : Bool) → are_distinct s f ≡ true
    → ((us : Trees) → BeginWithout (IsIn s) us → A us) → ((us : Trees) → BeginWithout (IsIn r) us → B us)
    → ((e : Encoded) → N (Ok e) → BeginIn f b e.values) → (us : Trees) → BeginWithout (IsIn (both_sets r (set_if b s))) us
    → B us × ((e : Encoded) → N (Ok e) → A (e.values +++ us))
both_follow A B N s r f b d p q n us w = (
  q us (without (IsIn (both_sets r (set_if b s))) (IsIn r) (in_first r (set_if b s)) us w),
  λ e m. p (e.values +++ us)
      (second_begin s f b e.values us d (n e m) (without (IsIn (both_sets r (set_if b s))) (IsIn (set_if b s)) (in_second r (set_if b s)) us w)),
)

-- ---- each of a list

-- P holds of the first n
pub AreFirst : {X : Type 0} → (X → Type 0) → List X → ℕ → Type 0
AreFirst {X} P xs n = (k : ℕ) (d : X) → k < n → P (slice_index_or xs k d)

pub none_first : {X : Type 0} (P : X → Type 0) (xs : List X) → AreFirst P xs 0
unfolding AreFirst
none_first P xs = λ k d h. absurd (not_below_zero k h)
  where
    not_below_zero : (k : ℕ) → k < 0 → ⊥
    not_below_zero k h = omega (arith, h)

pub one_more_first : {X : Type 0} (P : X → Type 0) (xs : List X) (n : ℕ) (x : X) → n < length xs → x ≡ slice_index_or xs n x → AreFirst P xs n → P x
    → AreFirst P xs (n + 1)
unfolding AreFirst
one_more_first {X} P xs n x h is f p = λ k d b. at k d (eq-or-lt_of_le (below k b))
  where
    below : (k : ℕ) → k < n + 1 → k ≤ n
    below k b = omega (arith, b)

    at : (k : ℕ) (d : X) → (k ≡ n) ⊎ (k < n) → P (slice_index_or xs k d)
    at k d (inl e) = subst (λ j. P (slice_index_or xs j d)) (sym e) (subst P (is ∙ get_or_default xs n x d h) p)
    at k d (inr b) = f k d b

pub all_first : {X : Type 0} (P : X → Type 0) (xs : List X) (n : ℕ) → length xs ≤ n → AreFirst P xs n → All P xs
unfolding AreFirst
all_first P xs n h f = λ k d b. f k d (omega (arith, h, b))

pub not_all : {X : Type 0} (P : X → Type 0) (xs : List X) (n : ℕ) (x : X) → n < length xs → x ≡ slice_index_or xs n x → (P x → ⊥) → All P xs → ⊥
not_all P xs n x h is fails f = fails (subst P (sym is) (f n x h))

pub decides_false : {P : Type 0} (r : Bool) → r ≡ false → (P → ⊥) → Decides r P
decides_false true e n = cc
decides_false false e n = (λ t. cc, λ p. absurd (n p))

pub refuted : {P : Type 0} (r : Bool) → r ≡ false → Decides r P → P → ⊥
refuted true e d p = cc
refuted false e d p = let t = d.1 p in cc

-- ---- the second of two alternatives

pub decides_second : {P : Type 0} {Others Tags : Tag → Type 0} (a b : Bool) (s r : TagSet) (v : Bool) → (a && (b && are_distinct s r)) ≡ true
    → ((t : Tag) → Tags t → IsIn s t) → ((t : Tag) → Others t → IsIn r t) → (b ≡ true → Decides v P)
    → Decides v (P × ((t : Tag) → Others t → Tags t → ⊥))
decides_second a b s r v d f g p =
    let q = both_true b (are_distinct s r) (both_true a (b && are_distinct s r) d).1 in
    (λ e. ((p q.0).0 e, λ t o h. distinct_sets s r q.1 t (f t h) (g t o)), λ h. (p q.0).1 h.0)
