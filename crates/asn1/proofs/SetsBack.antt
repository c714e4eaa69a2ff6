-- A SET OF that is written is read back, whatever its order was.
use Rattle.std.proofs.Common.{◌≡◌, ◌≢◌, ℕ, List, [], ◌∷◌, map, length, refl, ap, sym, ◌∙◌, subst, inl, inr, suc, arith}
use Rattle.std.specs.Prelude.{Ok, All, IsPermutation}
use Rattle.std.proofs.lemmas.List.Sorted.{IsPermutation-refl, IsPermutation-map, length_permutation}
use Rattle.bcder.specs.declared.mode.Mode.{Mode}
use Rattle.bcder.specs.declared.mode.Mode.TheVariants.{Ber, Cer, Der}
use Rattle.bcder.specs.x690.Identifier.{Tag}
use Rattle.bcder.specs.x690.Tree.{Tree, Trees, no_trees, ◌∷ₜ◌, ◌+++◌}
use Rattle.bcder.specs.x690.Encoding.{IsEncoding, AreEncodings}
use Rattle.bcder.specs.calls.Meaning.{Encoded, Meaning, IsLawful}
use Rattle.bcder.specs.calls.Meaning.{EachOf, Joined}
use Rattle.bcder.specs.calls.Valued.{tag_of}
use Rattle.bcder.specs.laws.Canonical.{one_spelling}
use Rattle.bcder.specs.laws.Complete.{one_list}
use Rattle.asn1.specs.Types.{AreList}
use Rattle.asn1.specs.Writing.{IsWritten, IsReadAs, AreReadAs}
use Rattle.asn1.specs.Keys.{list_key, MeansOne}
use Rattle.asn1.specs.Rearranging.{lifted}
use Rattle.asn1.specs.SetsOf.{IsNotAfter, AreAscending, AreSetOf, in_any_order}
use Rattle.asn1.specs.SetsWritten.{IsUpTo, AreInOrder, flat, AreWrittenEach, AreWrittenInOrder, WritesSetOf}
use Rattle.asn1.proofs.Ones as ones
use Rattle.asn1.proofs.ListsBack.{list_read_back}
use Rattle.asn1.proofs.ReadingBack.{and_none}
use Rattle.asn1.proofs.TakenBack.{alone}
use Rattle.asn1.proofs.SetsOnce.{in_order}

-- the order of octets is that of 11.6, where it can be told
up_to_is_not_after : (v w : List ℕ) → IsUpTo v w → IsNotAfter v w
up_to_is_not_after [] w h = tt
up_to_is_not_after (x ∷ v) [] h = absurd h
up_to_is_not_after (x ∷ v) (y ∷ w) (inl a) = inl a
up_to_is_not_after (x ∷ v) (y ∷ w) (inr b) = inr (b.0, up_to_is_not_after v w b.1)

module _ {T K : Type 0} (mode : Mode) (Tags : Tag → Type 0) (Means : Tree → T → Type 0) (key : T → K) (W : T → Meaning → Type 0)
    (l : (x : T) → IsLawful mode (W x)) where
  -- an item's value, with its octets
  record Item : Type 0 where
    octets : List ℕ
    tree : Tree
    encodes : IsEncoding mode tree octets
    tagged : Tags (tag_of tree)
    some : T
    means : Means tree some
    told : K
    only : (y : T) → Means tree y → key y ≡ told

  octets_of : Item → List ℕ
  octets_of p = p.octets

  told_of : Item → K
  told_of p = p.told

  some_of : Item → T
  some_of p = p.some

  record Items (xs : List T) (vs : List (List ℕ)) : Type 0 where
    items : List Item
    octets : map octets_of items ≡ vs
    keys : map told_of items ≡ list_key key xs

  item_of : (x : T) (e : Encoded) (v : List ℕ) → W x (Ok e) → v ≡ e.octets → IsWritten Tags Means key (key x) e → Item
  item_of x e v m q w = record {
    octets = v;
    tree = w.tree;
    encodes = subst (IsEncoding mode w.tree) (sym q) (alone Tags Means key (key x) mode e ((l x).encodes e m) w);
    tagged = w.tagged;
    some = w.some;
    means = w.means;
    told = key x;
    only = w.only;
  }

  items_of : (xs : List T) (vs : List (List ℕ)) → All (λ v. IsReadAs Tags Means key v (W v)) xs → AreWrittenEach W xs vs → Items xs vs
  unfolding octets_of told_of item_of
  items_of [] [] k h = record { items = []; octets = refl; keys = refl }
  items_of [] (v ∷ vs) k h = absurd h
  items_of (x ∷ xs) [] k h = absurd h
  items_of (x ∷ xs) (v ∷ vs) k ((e, m, q), h) =
      let r = items_of xs vs (λ i d below. k (suc i) d (omega (arith, below))) h in
      let p = item_of x e v m q (k 0 x (omega arith) e m) in
      record { items = p ∷ r.items; octets = ap (λ z. v ∷ z) r.octets; keys = ap (λ z. key x ∷ z) r.keys }

  trees_of : List Item → Trees
  trees_of [] = no_trees
  trees_of (p ∷ ps) = p.tree ∷ₜ trees_of ps

  trees_encode : (ps : List Item) → AreEncodings mode (trees_of ps) (flat (map octets_of ps))
  unfolding trees_of octets_of
  trees_encode [] = refl
  trees_encode (p ∷ ps) = (p.octets, flat (map octets_of ps), p.encodes, trees_encode ps, refl)

  are_list : (ps : List Item) → AreList Tags Means (trees_of ps) (map some_of ps) no_trees
  unfolding trees_of some_of
  are_list [] = (tt, refl)
  are_list (p ∷ ps) = (trees_of ps, record { tree = p.tree; are = refl; tagged = p.tagged; means = p.means }, are_list ps)

  -- and what they mean is told apart by the same
  same_keys : (ps : List Item) → list_key key (map some_of ps) ≡ map told_of ps
  unfolding some_of told_of
  same_keys [] = refl
  same_keys (p ∷ ps) = ap (λ z. z ∷ list_key key (map some_of ps)) (p.only p.some p.means) ∙ ap (λ z. p.told ∷ z) (same_keys ps)

  ascends : mode ≢ Ber → (ps : List Item) → AreInOrder (map octets_of ps) → AreAscending mode (trees_of ps)
  unfolding trees_of octets_of
  ascends ne [] h = tt
  ascends ne (p ∷ []) h = (tt, tt)
  ascends ne (p ∷ (q ∷ qs)) h = (
    λ v w d e. subst (λ z. IsNotAfter z w) (one_spelling mode ne p.tree p.octets v p.encodes d)
        (subst (IsNotAfter p.octets) (one_spelling mode ne q.tree q.octets w q.encodes e) (up_to_is_not_after p.octets q.octets h.0)),
    ascends ne (q ∷ qs) h.1,
  )

  -- what is written of the items is a set that is told apart by the same
  record SetBack (xs : List T) (ts : Trees) : Type 0 where
    some : List T
    set : AreSetOf mode Tags Means ts some no_trees
    keys : IsPermutation (list_key key xs) (list_key key some)

  set_back : mode ≢ Ber → (xs : List T) → All (λ v. IsReadAs Tags Means key v (W v)) xs → (z : Encoded) → AreWrittenInOrder mode W xs z → SetBack xs z.values
  set_back ne xs k z a =
      let i = items_of xs a.pieces k a.are in
      let f = lifted octets_of i.items a.ordered (subst (λ q. IsPermutation q a.ordered) (sym i.octets) a.rearranged) in
      let e = subst (λ q. AreEncodings mode (trees_of f.members) q) (ap flat f.are ∙ sym a.octets) (trees_encode f.members) in
      let t : trees_of f.members ≡ z.values = one_list mode (trees_of f.members) z.values z.octets e a.encode in
      let p = IsPermutation-map told_of i.items f.members f.rearranged in
      record {
        some = map some_of f.members;
        set = (
          subst (λ q. AreList Tags Means q (map some_of f.members) no_trees) t (are_list f.members),
          refl,
          λ n. subst (AreAscending mode) t (ascends ne f.members (subst AreInOrder (sym f.are) a.ascend)),
        );
        keys =
            subst (λ q. IsPermutation q (list_key key (map some_of f.members))) i.keys
            (subst (IsPermutation (map told_of i.items)) (sym (same_keys f.members)) p);
      }

  row_back : (mode ≡ Ber) → (xs : List T) → All (λ v. IsReadAs Tags Means key v (W v)) xs → (z : Encoded) → Joined (EachOf W xs) (Ok z) → SetBack xs z.values
  row_back q xs k z m =
      let r = list_read_back Tags Means key (λ (v : List T). v) xs (λ v. v) (λ v n. refl) W k z m no_trees tt in
      record {
        some = r.some;
        set = (subst (λ ts. AreList Tags Means ts r.some no_trees) (and_none z.values) r.taken, refl, λ ne. absurd (ne q));
        keys = subst (IsPermutation (list_key key xs)) (sym (r.only r.some no_trees r.taken).0) (IsPermutation-refl (list_key key xs));
      }

back_in_any : {T K : Type 0} (mode : Mode) (Tags : Tag → Type 0) (Means : Tree → T → Type 0) (key : T → K) (W : T → Meaning → Type 0)
    (l : (x : T) → IsLawful mode (W x)) (xs : List T) → All (λ v. IsReadAs Tags Means key v (W v)) xs → (z : Encoded) → WritesSetOf mode W xs (Ok z)
    → SetBack mode Tags Means key W l xs z.values
back_in_any Ber Tags Means key W l xs k z m = row_back Ber Tags Means key W l refl xs k z m
back_in_any Cer Tags Means key W l xs k z m = set_back Cer Tags Means key W l (λ q. cc) xs k z m
back_in_any Der Tags Means key W l xs k z m = set_back Der Tags Means key W l (λ q. cc) xs k z m

keys_long : {T K : Type 0} (key : T → K) (xs : List T) → length (list_key key xs) ≡ length xs
keys_long key [] = refl
keys_long key (x ∷ xs) = ap suc (keys_long key xs)

-- and so in a vector
pub set_read_back : {T K V : Type 0} (mode : Mode) (Tags : Tag → Type 0) (Means : Tree → T → Type 0) (key : T → K) → MeansOne Means key
    → (W : T → Meaning → Type 0) (l : (x : T) → IsLawful mode (W x)) (items : V → List T) (x : V) (of_items : List T → V)
    → ((ws : List T) → length ws ≡ length (items x) → items (of_items ws) ≡ ws) → All (λ v. IsReadAs Tags Means key v (W v)) (items x)
    → AreReadAs (λ (ts : Trees) (y : V) (us : Trees). AreSetOf mode Tags Means ts (items y) us) (λ y. in_any_order (list_key key (items y)))
    (λ us. us ≡ no_trees) x
    (WritesSetOf mode W (items x))
set_read_back {T} {K} {V} mode Tags Means key one W l items x of_items made k e m us f =
    let b = back_in_any mode Tags Means key W l (items x) k e m in
    let n : length b.some ≡ length (items x) =
    sym (keys_long key b.some) ∙ length_permutation (list_key key (items x)) (list_key key b.some) b.keys ∙ keys_long key (items x) in
    let is : e.values ≡ e.values +++ us = sym (ap (λ z. e.values +++ z) f ∙ and_none e.values) in
    let same = in_order (list_key key (items x)) (list_key key b.some) b.keys in
    let set : AreSetOf mode Tags Means (e.values +++ us) b.some us = (
      subst (λ z. AreList Tags Means (e.values +++ us) b.some z) (sym f) (subst (λ z. AreList Tags Means z b.some no_trees) is b.set.0),
      f,
      λ ne. subst (AreAscending mode) is (b.set.2 ne),
    ) in
    record {
      some = of_items b.some;
      taken = subst (λ z. AreSetOf mode Tags Means (e.values +++ us) z us) (sym (made b.some n)) set;
      only = λ y vs g.
          let p = ones.one_list Tags Means key one (e.values +++ us) vs us (items y) b.some g.0 set.0 in
          (ap in_any_order p.0 ∙ sym same, g.1 ∙ sym f);
    }
