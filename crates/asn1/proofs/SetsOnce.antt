-- Sets that are told apart by the same are one set of values, and in CER and DER one value.
use Rattle.std.proofs.Common.{◌≡◌, ◌≢◌, ℕ, List, [], ◌∷◌, ◌++◌, map, refl, ap, sym, ◌∙◌, append-nil, subst, inl, inr}
use Rattle.std.specs.Prelude.{IsPermutation}
use Rattle.std.specs.declared.vec.Vec.{Vec}
use Rattle.std.specs.declared.alloc.Global.{Global}
use Rattle.std.proofs.lemmas.List.Sorted.{IsPermutation-refl, IsPermutation-sym, IsPermutation-trans}
use Rattle.bcder.specs.declared.mode.Mode.{Mode}
use Rattle.bcder.specs.declared.mode.Mode.TheVariants.{Ber}
use Rattle.bcder.specs.x690.Identifier.{Tag}
use Rattle.bcder.specs.x690.Tree.{Tree, primitive, constructed, Trees, no_trees, ◌∷ₜ◌}
use Rattle.bcder.specs.x690.Encoding.{IsEncoding, AreEncodings}
use Rattle.bcder.specs.calls.Valued.{tag_of}
use Rattle.bcder.specs.laws.Canonical.{one_spelling}
use Rattle.bcder.specs.laws.Complete.{only_at_front, one_list}
use Rattle.asn1.specs.Types.{AreInside, Only, IsMember, AreList}
use Rattle.asn1.specs.Keys.{list_key, MeansOne}
use Rattle.asn1.specs.SetsOf.{IsNotAfter, IsNotAfterFirst, AreAscending, AreSetOf, AreRearranged, in_any_order}
use Rattle.asn1.proofs.Ones as ones
use Rattle.asn1.proofs.Ones.{Once}
use Rattle.asn1.specs.Sorting.{same_octets, decided, reflexive, transitive, OneBeginsWithTheOther, antisymmetric, AllOf, BeforeFirst, Ascend, one_ascending}
use Rattle.asn1.specs.Rearranging.{same_by}
use std.Quotient as quotient
use std.Logic.{∥∥₁_prop, ∥∥₁_elim, ∥∥₁_map}

-- ---- lists up to order

module _ {K : Type 0} where
  same_order : (ks ls : List K) → ks ≡ ls → IsPermutation ks ls
  same_order ks ls e = subst (IsPermutation ks) e (IsPermutation-refl ks)

  is_equivalence : quotient.IsEquivRel (AreRearranged {K = K})
  is_equivalence = record {
    reflexive = λ a. ∣ IsPermutation-refl a ∣₁;
    symmetric = λ a b r. ∥∥₁_map r (λ p. IsPermutation-sym a b p);
    transitive = λ a b c r s. ∥∥₁_elim r ∥∥₁_prop (λ p. ∥∥₁_map s (λ q. IsPermutation-trans a b c p q));
  }

  pub rearranged : (ks ls : List K) → in_any_order ks ≡ in_any_order ls → AreRearranged ks ls
  rearranged ks ls e = quotient.effective (λ a b. ∥∥₁_prop) is_equivalence ks ls e

  pub in_order : (ks ls : List K) → IsPermutation ks ls → in_any_order ks ≡ in_any_order ls
  in_order ks ls p = quotient.eq/ ks ls ∣ p ∣₁

-- a value has one set at most
module _ {T K : Type 0} (mode : Mode) (Tags : Tag → Type 0) (Means : Tree → T → Type 0) (key : T → K) where
  one_set_inside : MeansOne Means key → (t : Tree) (xs ys : List T) → AreInside (AreSetOf mode Tags Means) t xs → AreInside (AreSetOf mode Tags Means) t ys
      → list_key key xs ≡ list_key key ys
  one_set_inside one (primitive t w) xs ys h k = absurd h
  one_set_inside one (constructed t ts) xs ys h k = (ones.one_list Tags Means key one ts no_trees no_trees xs ys h.0 k.0).0

  pub one_set : MeansOne Means key → (t : Tree) (xs ys : List T) → AreInside (AreSetOf mode Tags Means) t xs → AreInside (AreSetOf mode Tags Means) t ys
      → in_any_order (list_key key xs) ≡ in_any_order (list_key key ys)
  one_set one t xs ys h k = ap in_any_order (one_set_inside one t xs ys h k)

-- ---- in CER and DER

module _ {T K : Type 0} (mode : Mode) (ne : mode ≢ Ber) (Tags : Tag → Type 0) (Means : Tree → T → Type 0) (key : T → K)
    (once : Once Tags Means key mode) where
  -- a value of the list, with its octets
  record Piece : Type 0 where
    tree : Tree
    octets : List ℕ
    encodes : IsEncoding mode tree octets
    tagged : Tags (tag_of tree)
    item : T
    means : Means tree item

  key_of : Piece → K
  key_of p = key p.item

  octets_of : Piece → List ℕ
  octets_of p = p.octets

  one_piece : (p q : Piece) → key_of p ≡ key_of q → octets_of p ≡ octets_of q
  unfolding key_of octets_of
  one_piece p q e =
      let t = once p.tree q.tree p.item q.item p.octets q.octets p.encodes q.encodes p.tagged q.tagged p.means q.means e in
      one_spelling mode ne q.tree p.octets q.octets (subst (λ z. IsEncoding mode z p.octets) t p.encodes) q.encodes

  -- octets of one value
  IsOne : List ℕ → Type 0
  IsOne v = (t : Tree) × IsEncoding mode t v

  -- of which none are the front of others
  one_or_other : (v w : List ℕ) → IsOne v → IsOne w → IsNotAfter v w → IsNotAfter w v → v ≡ w
  unfolding IsOne
  one_or_other v w (t, d) (u, e) h k = by_rest (antisymmetric v w h k)
    where
      by_rest : OneBeginsWithTheOther v w → v ≡ w
      by_rest (z, inl q) = (only_at_front mode u w z e t v [] d (sym q ∙ sym (append-nil v))).1
      by_rest (z, inr q) = sym (only_at_front mode t v z d u w [] e (sym q ∙ sym (append-nil w))).1

  flat : List (List ℕ) → List ℕ
  flat [] = []
  flat (v ∷ vs) = v ++ flat vs

  record Pieces (ts : Trees) (xs : List T) (v : List ℕ) : Type 0 where
    pieces : List Piece
    keys : map key_of pieces ≡ list_key key xs
    octets : flat (map octets_of pieces) ≡ v
    each : AllOf IsOne (map octets_of pieces)
    first : (t : Tree) (w : List ℕ) → IsEncoding mode t w → IsNotAfterFirst mode t ts → BeforeFirst IsNotAfter w (map octets_of pieces)
    ascend : AreAscending mode ts → Ascend IsNotAfter (map octets_of pieces)

  no_pieces : (ts : Trees) (v : List ℕ) → no_trees ≡ ts → AreEncodings mode ts v → Pieces ts [] v
  unfolding flat key_of octets_of
  no_pieces ts v q d = record {
    pieces = [];
    keys = refl;
    octets = sym (subst (λ z. AreEncodings mode z v) (sym q) d);
    each = tt;
    first = λ t w e h. tt;
    ascend = λ h. tt;
  }

  more_pieces : (ts us : Trees) (x : T) (xs : List T) (v : List ℕ) → (d : AreEncodings mode ts v) → (g : IsMember Tags Means ts x us)
      → ((w : List ℕ) → AreEncodings mode us w → Pieces us xs w) → Pieces ts (x ∷ xs) v
  unfolding flat key_of octets_of IsOne
  more_pieces ts us x xs v d g rest =
      let k : AreEncodings mode (g.tree ∷ₜ us) v = subst (λ z. AreEncodings mode z v) g.are d in
      let r = rest k.1 k.3 in
      let p : Piece = record { tree = g.tree; octets = k.0; encodes = k.2; tagged = g.tagged; item = x; means = g.means } in
      record {
        pieces = p ∷ r.pieces;
        keys = ap (λ z. key x ∷ z) r.keys;
        octets = ap (λ z. k.0 ++ z) r.octets ∙ sym k.4;
        each = ((g.tree, k.2), r.each);
        first = λ t w e h. (let z : IsNotAfterFirst mode t (g.tree ∷ₜ us) = subst (IsNotAfterFirst mode t) g.are h in z w k.0 e k.2);
        ascend = λ h. (let z : AreAscending mode (g.tree ∷ₜ us) = subst (AreAscending mode) g.are h in (r.first g.tree k.0 k.2 z.0, r.ascend z.1));
      }

  pieces_of : (ts : Trees) (xs : List T) (v : List ℕ) → AreEncodings mode ts v → AreList Tags Means ts xs no_trees → Pieces ts xs v
  pieces_of ts [] v d g = no_pieces ts v g.1 d
  pieces_of ts (x ∷ xs) v d g = more_pieces ts g.0 x xs v d g.1 (λ w e. pieces_of g.0 xs w e g.2)

  -- contents of the same values in some order, that ascend, are the same
  same_contents : (ts us : Trees) (xs ys : List T) (v w : List ℕ) → AreEncodings mode ts v → AreEncodings mode us w → AreSetOf mode Tags Means ts xs no_trees
      → AreSetOf mode Tags Means us ys no_trees → IsPermutation (list_key key xs) (list_key key ys) → v ≡ w
  same_contents ts us xs ys v w d e g h p =
      let a = pieces_of ts xs v d g.0 in
      let b = pieces_of us ys w e h.0 in
      let q : IsPermutation (map key_of a.pieces) (map key_of b.pieces) =
      subst (λ z. IsPermutation z (map key_of b.pieces)) (sym a.keys) (subst (IsPermutation (list_key key xs)) (sym b.keys) p) in
      let s = same_by key_of octets_of one_piece a.pieces b.pieces q in
      let z =
      one_ascending IsNotAfter decided reflexive transitive IsOne one_or_other (map octets_of a.pieces) (map octets_of b.pieces) a.each b.each
      (a.ascend (g.2 ne)) (b.ascend (h.2 ne)) s in
      sym a.octets ∙ ap flat z ∙ b.octets

  same_values : (ts us : Trees) (xs ys : List T) (v w : List ℕ) → AreEncodings mode ts v → AreEncodings mode us w → AreSetOf mode Tags Means ts xs no_trees
      → AreSetOf mode Tags Means us ys no_trees → AreRearranged (list_key key xs) (list_key key ys) → ts ≡ us
  same_values ts us xs ys v w d e g h p = one_list mode ts us w (subst (AreEncodings mode ts) are_one d) e
    where
      are_one : v ≡ w
      are_one = elim (same_octets v w) [
        | inl q ↦ q
        | inr n ↦ absurd (∥∥₁_elim p (λ a b. absurd a) (λ q. n (same_contents ts us xs ys v w d e g h q)))
      ]

  one_tree : (asked : Tag) (t u : Tree) (xs ys : List T) (v w : List ℕ) → IsEncoding mode t v → IsEncoding mode u w → Only asked (tag_of t)
      → Only asked (tag_of u) → AreInside (AreSetOf mode Tags Means) t xs → AreInside (AreSetOf mode Tags Means) u ys
      → AreRearranged (list_key key xs) (list_key key ys) → t ≡ u
  one_tree asked (primitive t b) u xs ys v w d e g h i k q = absurd i
  one_tree asked (constructed t ts) (primitive u b) xs ys v w d e g h i k q = absurd k
  one_tree asked (constructed t ts) (constructed u us) xs ys v w d e g h i k q =
      rw (g ∙ sym h, same_values ts us xs ys d.0 e.0 d.1 e.1 i k q) refl

  pub set_once : (asked : Tag) (t u : Tree) (xs ys : List T) (v w : List ℕ) → IsEncoding mode t v → IsEncoding mode u w → Only asked (tag_of t)
      → Only asked (tag_of u) → AreInside (AreSetOf mode Tags Means) t xs → AreInside (AreSetOf mode Tags Means) u ys
      → in_any_order (list_key key xs) ≡ in_any_order (list_key key ys) → t ≡ u
  set_once asked t u xs ys v w d e g h i k q = one_tree asked t u xs ys v w d e g h i k (rearranged (list_key key xs) (list_key key ys) q)

-- ---- of a vector

pub inside_items : {T : Type 0} (mode : Mode) (Tags : Tag → Type 0) (Means : Tree → T → Type 0) (t : Tree) (x : Vec T Global)
    → AreInside (λ (ts : Trees) (y : Vec T Global) (us : Trees). AreSetOf mode Tags Means ts y.items us) t x → AreInside (AreSetOf mode Tags Means) t x.items
inside_items mode Tags Means (primitive t w) x h = h
inside_items mode Tags Means (constructed t ts) x h = h
