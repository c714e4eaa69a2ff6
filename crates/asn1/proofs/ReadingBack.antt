-- What is written is read back.
use Rattle.std.proofs.Common.{◌≡◌, ℕ, ◌^◌, Bool, true, false, List, [], Option, Some, None, length, append-nil, refl, ap, sym, ◌∙◌, subst, inl, inr}
use Rattle.std.specs.Prelude.{Ok, Err, nat_lt, if◌then◌else◌, MatchOption}
use Rattle.std.specs.Io.KnownBytes.{Appends}
use Rattle.bcder.specs.declared.mode.Mode.{Mode}
use Rattle.bcder.specs.declared.encode.error.EncodeError.TheVariants.{LengthTooLarge}
use Rattle.bcder.specs.x690.Identifier.{Tag}
use Rattle.bcder.specs.x690.Tree.{Tree, primitive, constructed, Trees, no_trees, ◌∷ₜ◌, ◌+++◌}
use Rattle.bcder.specs.calls.Meaning.{Then, NoValues, Joined, join, nothing}
use Rattle.bcder.specs.calls.Valued.{tag_of}
use Rattle.bcder.specs.calls.Meaning.{Encoded, Meaning, ContentsMeaning, ValueMeans, primitive_encoded, primitive_meaning, constructed_encoded}
use Rattle.bcder.specs.calls.Meaning.{constructed_meaning, fits_enclosed, enclosed_refusal}
use Rattle.bcder.specs.calls.Written.{IsReadBack}
use Rattle.asn1.specs.Types.{AreAll, Only, IsLeaf, AreInside, IsMember, BeginWithout, IsOptional, Pair}
use Rattle.asn1.specs.Writing.{IsWritten, IsReadAs, AreTaken, AreReadAs, WritesOptional}
use Rattle.asn1.specs.Keys.{option_key}
use Rattle.asn1.proofs.Members.{cons_first, cons_rest, begins}

-- ---- one value

pub joined : (ts us vs : Trees) → ((ts +++ us) +++ vs) ≡ (ts +++ (us +++ vs))
joined no_trees us vs = refl
joined (t ∷ₜ ts) us vs = ap (λ z. t ∷ₜ z) (joined ts us vs)

pub and_none : (ts : Trees) → (ts +++ no_trees) ≡ ts
and_none no_trees = refl
and_none (t ∷ₜ ts) = ap (λ z. t ∷ₜ z) (and_none ts)

module _ {T K : Type 0} (tag : Tag) (key : T → K) (x : T) where
  leaf_at : (Reads : List ℕ → T → Type 0) (w : List ℕ) (e : Encoded) (b : Bool) → Ok e ≡ (if b then Ok (primitive_encoded tag w) else Err LengthTooLarge)
      → Reads w x → ((y : T) → Reads w y → key y ≡ key x) → IsWritten (Only tag) (IsLeaf Reads) key (key x) e
  leaf_at Reads w e false q r o = cc
  leaf_at Reads w e true q r o =
      let same : e ≡ primitive_encoded tag w = cc in
      record { tree = primitive tag w; is = ap (λ (z : Encoded). z.values) same; tagged = refl; some = x; means = r; only = o }

  -- contents octets are written that are read as x, and only as what is told apart by the same
  pub leaf_back : (M : ContentsMeaning → Type 0) (Reads : List ℕ → T → Type 0)
      → ((w : List ℕ) → M (Ok w) → Reads w x × ((y : T) → Reads w y → key y ≡ key x))
      → IsReadAs (Only tag) (IsLeaf Reads) key x (ValueMeans tag (primitive_meaning tag) M)
  leaf_back M Reads k e (inl p) = cc
  leaf_back M Reads k e (inr (v, (Err d, m, q))) = cc
  leaf_back M Reads k e (inr (v, (Ok w, m, q))) = leaf_at Reads w e (nat_lt (length w) (2 ^ 32)) q (k w m).0 (k w m).1

  pub leaf_read_back : (M : ContentsMeaning → Type 0) (Reads : List ℕ → T → Type 0) → IsReadBack M Reads x
      → IsReadAs (Only tag) (IsLeaf Reads) key x (ValueMeans tag (primitive_meaning tag) M)
  leaf_read_back M Reads k = leaf_back M Reads (λ w m. (
    subst (λ z. Reads z x) (sym (k.only w m)) k.read,
    λ y r. ap key (k.no_other y (subst (λ z. Reads z y) (k.only w m) r)),
  ))

  inside_at : (Takes : Trees → T → Trees → Type 0) (mode : Mode) (y e : Encoded) (b : Bool)
      → Ok e ≡ (if b then Ok (constructed_encoded mode tag y) else Err (enclosed_refusal mode)) → AreTaken Takes key (key x) y.values no_trees
      → IsWritten (Only tag) (AreInside Takes) key (key x) e
  inside_at Takes mode y e false q r = cc
  inside_at Takes mode y e true q r =
      let same : e ≡ constructed_encoded mode tag y = cc in
      record {
        tree = constructed tag y.values;
        is = ap (λ (z : Encoded). z.values) same;
        tagged = refl;
        some = r.some;
        means = r.taken;
        only = λ z h. (r.only z no_trees h).0;
      }

  pub inside_read_back : (Takes : Trees → T → Trees → Type 0) (MayFollow : Trees → Type 0) (mode : Mode) (M : Meaning → Type 0) → MayFollow no_trees
      → AreReadAs Takes key MayFollow x M → IsReadAs (Only tag) (AreInside Takes) key x (ValueMeans tag (constructed_meaning tag mode) M)
  inside_read_back Takes F mode M f k e (inl p) = cc
  inside_read_back Takes F mode M f k e (inr (v, (Err d, m, q))) = cc
  inside_read_back Takes F mode M f k e (inr (v, (Ok y, m, q))) =
      inside_at Takes mode y e (fits_enclosed mode tag (length y.octets)) q
      (subst (λ z. AreTaken Takes key (key x) z no_trees) (and_none y.values) (k y m no_trees f))

-- what is read back with tags is read back with others that they are
pub retagged_back : {T K : Type 0} (Tags Others : Tag → Type 0) → ((t : Tag) → Tags t → Others t) → (Means : Tree → T → Type 0) (key : T → K) (x : T)
    (W : Meaning → Type 0) → IsReadAs Tags Means key x W → IsReadAs Others Means key x W
retagged_back Tags Others to Means key x W k e m =
    let w = k e m in
    record { tree = w.tree; is = w.is; tagged = to (tag_of w.tree) w.tagged; some = w.some; means = w.means; only = w.only }

-- what it is seen as is read back, and everything is seen
module _ {T V K : Type 0} (view : V → T) (made : (s : T) → (x : V) × (view x ≡ s)) (key : T → K) (x : V) where
  pub read_back_seen : (Tags : Tag → Type 0) (Means : Tree → T → Type 0) (W : Meaning → Type 0) → IsReadAs Tags Means key (view x) W
      → IsReadAs Tags (λ (t : Tree) (y : V). Means t (view y)) (λ y. key (view y)) x W
  read_back_seen Tags Means W k e m =
      let w = k e m in
      let s = made w.some in
      record { tree = w.tree; is = w.is; tagged = w.tagged; some = s.0; means = subst (Means w.tree) (sym s.1) w.means; only = λ y h. w.only (view y) h }

  pub fields_back_seen : (Takes : Trees → T → Trees → Type 0) (F : Trees → Type 0) (W : Encoded → Type 0)
      → ((e : Encoded) → W e → (us : Trees) → F us → AreTaken Takes key (key (view x)) (e.values +++ us) us) → (e : Encoded) → W e → (us : Trees) → F us
      → AreTaken (λ (ts : Trees) (y : V) (us : Trees). Takes ts (view y) us) (λ y. key (view y)) (key (view x)) (e.values +++ us) us
  fields_back_seen Takes F W k e m us f =
      let w = k e m us f in
      let s = made w.some in
      record { some = s.0; taken = subst (λ z. Takes (e.values +++ us) z us) (sym s.1) w.taken; only = λ y vs h. w.only (view y) vs h }

-- ---- fields

module _ {T K : Type 0} (Tags : Tag → Type 0) (Means : Tree → T → Type 0) (key : T → K) where
  pub member_taken : (k : K) (e : Encoded) (us : Trees) → IsWritten Tags Means key k e → AreTaken (IsMember Tags Means) key k (e.values +++ us) us
  member_taken k e us w =
      let is : (e.values +++ us) ≡ w.tree ∷ₜ us = ap (λ z. z +++ us) w.is in
      record {
        some = w.some;
        taken = record { tree = w.tree; are = is; tagged = w.tagged; means = w.means };
        only = λ y vs g.
            let q = sym is ∙ g.are in
            (w.only y (subst (λ t. Means t y) (sym (cons_first w.tree g.tree us vs q)) g.means), sym (cons_rest w.tree g.tree us vs q));
      }

  pub member_read_back : (x : T) (MayFollow : Trees → Type 0) (M : Meaning → Type 0) → IsReadAs Tags Means key x M
      → AreReadAs (IsMember Tags Means) key MayFollow x M
  member_read_back x F M k e m us f = member_taken (key x) e us (k e m)

  -- ---- a value that may be left out

  absent_only : (us vs : Trees) (y : Option T) → BeginWithout Tags us → IsOptional Tags Means us y vs → (option_key key y ≡ None) × (vs ≡ us)
  absent_only us vs None b g = (refl, g.1)
  absent_only us vs (Some y) b g = absurd (begins Tags Means us vs y g b)

  present_only : (x : T) (e : Encoded) (us vs : Trees) (y : Option T) → (a : AreTaken (IsMember Tags Means) key (key x) (e.values +++ us) us)
      → IsOptional Tags Means (e.values +++ us) y vs → (option_key key y ≡ Some (key x)) × (vs ≡ us)
  present_only x e us vs (Some y) a g = (let o = a.only y vs g in (ap Some o.0, o.1))
  present_only x e us vs None a g = absurd (begins Tags Means (e.values +++ us) us a.some a.taken g.0)

  pub optional_read_back : (Clear : T → Type 0) (M : T → Meaning → Type 0) → ((x : T) → Clear x → IsReadAs Tags Means key x (M x)) → (x : Option T)
      → MatchOption x (Unit {0}) Clear
      → AreReadAs (IsOptional Tags Means) (option_key key) (λ us. MatchOption x (BeginWithout Tags us) (λ _. Unit {0})) x (WritesOptional M x)
  optional_read_back Clear M read (Some x) k e m us f =
      let a = member_taken (key x) e us (read x k e m) in
      record { some = Some a.some; taken = a.taken; only = λ y vs g. present_only x e us vs y a g }
  optional_read_back Clear M read None k e m us f =
      let same : e ≡ nothing = cc in
      let is : (e.values +++ us) ≡ us = ap (λ (z : Encoded). z.values +++ us) same in
      record {
        some = None;
        taken = (subst (BeginWithout Tags) (sym is) f, sym is);
        only = λ y vs g. absent_only us vs y f (subst (λ z. IsOptional Tags Means z y vs) is g);
      }

-- ---- one behind the other

module _ {A B K L : Type 0} (P : Trees → A → Trees → Type 0) (Q : Trees → B → Trees → Type 0) (f : A → K) (g : B → L) (F : Trees → Type 0) (G : Trees → Type 0)
    (a : A) (b : B) (M N : Meaning → Type 0) where
  values_of : (y z n : Encoded) (e : Encoded) (us : Trees) → ◌≡◌ {A = Meaning} (Ok n) (Ok nothing) → z ≡ join y n → (z.values +++ us) ≡ (y.values +++ us)
  values_of y z n e us i j = rw (j, ap (λ (k : Encoded). k.values) (same i), and_none y.values) refl
    where
      same : ◌≡◌ {A = Meaning} (Ok n) (Ok nothing) → n ≡ nothing
      same i = cc

  both_only : (ts ms us vs : Trees) (y : A × B) → (p : AreTaken P f (f a) ts ms) (q : AreTaken Q g (g b) ms us) → Pair P Q ts y vs
      → ◌≡◌ {A = K × L} (f y.0, g y.1) (f a, g b) × (vs ≡ us)
  both_only ts ms us vs y p q h =
      let o = p.only y.0 h.between h.first in
      let r = q.only y.1 vs (subst (λ z. Q z y.1 vs) o.1 h.second) in
      (ap (λ z. (z, g y.1)) o.0 ∙ ap (λ z. (f a, z)) r.0, r.1)

  pub both_read_back : AreReadAs P f F a M → AreReadAs Q g G b N
      → AreReadAs {K = K × L} (Pair P Q) (λ x. (f x.0, g x.1)) (λ us. G us × ((e : Encoded) → N (Ok e) → F (e.values +++ us))) (a, b)
      (Joined (Then M (Then N NoValues)))
  both_read_back p q e ((y, z, m, (y', n, k, i, j), h), s) us c =
      let v : (z.values +++ us) ≡ (y'.values +++ us) = values_of y' z n e us i j in
      let is : (e.values +++ us) ≡ (y.values +++ (y'.values +++ us)) =
      ap (λ (w : Encoded). w.values +++ us) h ∙ joined y.values z.values us ∙ ap (λ w. y.values +++ w) v in
      let first = subst (λ w. AreTaken P f (f a) w (y'.values +++ us)) (sym is) (p y m (y'.values +++ us) (c.1 y' k)) in
      let second = q y' k us c.0 in
      record {
        some = (first.some, second.some);
        taken = record { between = y'.values +++ us; first = first.taken; second = second.taken };
        only = λ x vs t. both_only (e.values +++ us) (y'.values +++ us) us vs x first second t;
      }

-- nothing is read back as all values, where none follow
pub nothing_read_back : {T : Type 0} (x : T) → AreReadAs {K = Unit {0}} AreAll (λ y. tt) (λ us. us ≡ no_trees) x NoValues
nothing_read_back x e m us f = record { some = x; taken = f; only = λ y vs h. (refl, h ∙ sym f) }

-- nothing is written
pub appends_none : (old : Option (List ℕ)) → Appends old old []
appends_none None = tt
appends_none (Some w) = sym (append-nil w)
