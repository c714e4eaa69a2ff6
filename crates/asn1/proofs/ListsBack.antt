-- What is written of a list is read back.
use Rattle.std.proofs.Common.{◌≡◌, List, [], ◌∷◌, suc, arith, length, refl, ap, sym, ◌∙◌, subst}
use Rattle.std.specs.Prelude.{Ok, All}
use Rattle.bcder.specs.x690.Identifier.{Tag}
use Rattle.bcder.specs.x690.Tree.{Tree, Trees, ◌+++◌}
use Rattle.bcder.specs.calls.Meaning.{EachOf, Joined, nothing}
use Rattle.bcder.specs.calls.Meaning.{Encoded, Meaning}
use Rattle.asn1.specs.Types.{IsMember, BeginWithout, AreList}
use Rattle.asn1.specs.Writing.{IsReadAs, AreTaken, AreReadAs}
use Rattle.asn1.specs.Keys.{list_key}
use Rattle.asn1.proofs.Members.{begins}
use Rattle.asn1.proofs.ReadingBack.{joined, member_taken}

module _ {T K : Type 0} (Tags : Tag → Type 0) (Means : Tree → T → Type 0) (key : T → K) where
  none_only : (us vs : Trees) (ys : List T) → BeginWithout Tags us → AreList Tags Means us ys vs → (list_key key ys ≡ []) × (vs ≡ us)
  none_only us vs [] b g = (refl, g.1)
  none_only us vs (y ∷ ys) b g = absurd (begins Tags Means us g.0 y g.1 b)

  record ListTaken (xs : List T) (ts us : Trees) : Type 0 where
    some : List T
    taken : AreList Tags Means ts some us
    count : length some ≡ length xs
    only : (ys : List T) (vs : Trees) → AreList Tags Means ts ys vs → (list_key key ys ≡ list_key key xs) × (vs ≡ us)

  more_only : (x : T) (xs : List T) (ts ms us vs : Trees) (ys : List T) → (a : AreTaken (IsMember Tags Means) key (key x) ts ms) → ListTaken xs ms us
      → AreList Tags Means ts ys vs → (list_key key ys ≡ key x ∷ list_key key xs) × (vs ≡ us)
  more_only x xs ts ms us vs [] a r g = absurd (begins Tags Means ts ms a.some a.taken g.0)
  more_only x xs ts ms us vs (y ∷ ys) a r g =
      let o = a.only y g.0 g.1 in
      let p = r.only ys vs (subst (λ z. AreList Tags Means z ys vs) o.1 g.2) in
      (ap (λ z. z ∷ list_key key ys) o.0 ∙ ap (λ z. key x ∷ z) p.0, p.1)

  list_taken : (M : T → Meaning → Type 0) (xs : List T) → All (λ v. IsReadAs Tags Means key v (M v)) xs → (e : Encoded) → EachOf M xs (Ok e) → (us : Trees)
      → BeginWithout Tags us → ListTaken xs (e.values +++ us) us
  list_taken M [] k e m us f =
      let same : e ≡ nothing = cc in
      let is : (e.values +++ us) ≡ us = ap (λ (z : Encoded). z.values +++ us) same in
      record {
        some = [];
        taken = (subst (BeginWithout Tags) (sym is) f, sym is);
        count = refl;
        only = λ ys vs g. none_only us vs ys f (subst (λ z. AreList Tags Means z ys vs) is g);
      }
  list_taken M (x ∷ xs) k e m us f =
      let y = m.0 in
      let z = m.1 in
      let is : (e.values +++ us) ≡ (y.values +++ (z.values +++ us)) = ap (λ (w : Encoded). w.values +++ us) m.4 ∙ joined y.values z.values us in
      let a =
      subst (λ w. AreTaken (IsMember Tags Means) key (key x) w (z.values +++ us)) (sym is)
      (member_taken Tags Means key (key x) y (z.values +++ us) (k 0 x (omega arith) y m.2)) in
      let r = list_taken M xs (λ i d below. k (suc i) d (omega (arith, below))) z m.3 us f in
      record {
        some = a.some ∷ r.some;
        taken = (z.values +++ us, a.taken, r.taken);
        count = ap suc r.count;
        only = λ ys vs g. more_only x xs (e.values +++ us) (z.values +++ us) us vs ys a r g;
      }

  pub list_read_back : {V : Type 0} (items : V → List T) (x : V) (of_items : List T → V)
      → ((xs : List T) → length xs ≡ length (items x) → items (of_items xs) ≡ xs) → (M : T → Meaning → Type 0)
      → All (λ v. IsReadAs Tags Means key v (M v)) (items x)
      → AreReadAs (λ (ts : Trees) (y : V) (us : Trees). AreList Tags Means ts (items y) us) (λ y. list_key key (items y)) (BeginWithout Tags) x
      (Joined (EachOf M (items x)))
  list_read_back items x of_items back M k e m us f =
      let r = list_taken M (items x) k e m.0 us f in
      record {
        some = of_items r.some;
        taken = subst (λ z. AreList Tags Means (e.values +++ us) z us) (sym (back r.some r.count)) r.taken;
        only = λ y vs g. r.only (items y) vs g;
      }
