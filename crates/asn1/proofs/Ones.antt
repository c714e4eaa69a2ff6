-- Fields take one thing at most, and what is told apart by the same is one list of values.
use Rattle.std.proofs.Common.{◌≡◌, ℕ, List, [], ◌∷◌, refl, ap, sym, ◌∙◌, subst}
use Rattle.std.specs.Prelude.{ℤ, pos}
use Rattle.std.specs.Int.{Width}
use Rattle.bcder.specs.declared.mode.Mode.{Mode}
use Rattle.bcder.specs.x690.Identifier.{Tag, AreOctets}
use Rattle.bcder.specs.x690.Tree.{Tree, primitive, constructed, Trees, ◌∷ₜ◌}
use Rattle.bcder.specs.x690.Encoding.{IsEncoding, AreEncodings}
use Rattle.bcder.specs.x690.Integer.{AreInteger}
use Rattle.bcder.specs.calls.Valued.{tag_of}
use Rattle.bcder.specs.calls.Readers.{IsSigned, IsUnsigned}
use Rattle.bcder.specs.laws.Integers.{one_integer}
use Rattle.asn1.specs.Types.{IsLeaf, Only, IsMember, AreList, Pair}
use Rattle.asn1.specs.Keys.{list_key, MeansOne, IsMeantOnce, TakeOne, LeaveEncodings, AreTakenOnce}
use Rattle.asn1.proofs.Members.{cons_first, cons_rest, begins}

-- ---- a leaf

pub leaf_once : {T K : Type 0} (mode : Mode) (Reads : List ℕ → T → Type 0) (key : T → K)
    → ((x y : T) (v w : List ℕ) → AreOctets v → AreOctets w → Reads v x → Reads w y → key x ≡ key y → v ≡ w) → IsMeantOnce mode Only (IsLeaf Reads) key
leaf_once mode Reads key f a (primitive t b) (primitive u c) x y v w d e g h i k q =
    rw (g ∙ sym h, f x y b c d.0 e.0 i k q) refl
leaf_once mode Reads key f a (primitive t b) (constructed u us) x y v w d e g h i k q = absurd k
leaf_once mode Reads key f a (constructed t ts) u x y v w d e g h i k q = absurd i

pub unsigned_once : (bits : ℕ) (x y : ℕ) (v w : List ℕ) → AreOctets v → AreOctets w → IsUnsigned bits v x → IsUnsigned bits w y → x ≡ y → v ≡ w
unsigned_once bits x y v w a b h k q = one_integer (pos x) v w a b h.integer (rw q k.integer)

pub signed_once : (width : Width) (x y : ℤ) (v w : List ℕ) → AreOctets v → AreOctets w → IsSigned width v x → IsSigned width w y → x ≡ y → v ≡ w
signed_once width x y v w a b h k q = one_integer x v w a b h.integer (rw q k.integer)

pub integer_once : (x y : ℤ) (v w : List ℕ) → AreOctets v → AreOctets w → AreInteger x v → AreInteger y w → x ≡ y → v ≡ w
integer_once x y v w a b h k q = one_integer x v w a b h (rw q k)

pub natural_once : (x y : ℕ) (v w : List ℕ) → AreOctets v → AreOctets w → AreInteger (pos x) v → AreInteger (pos y) w → x ≡ y → v ≡ w
natural_once x y v w a b h k q = one_integer (pos x) v w a b h (rw q k)

-- ---- a list

module _ {T K : Type 0} (Tags : Tag → Type 0) (Means : Tree → T → Type 0) (key : T → K) where
  pub one_member : MeansOne Means key → TakeOne (IsMember Tags Means) key
  one_member one ts us vs x y g h =
      let e = sym g.are ∙ h.are in
      (one g.tree x y g.means (subst (λ t. Means t y) (sym (cons_first g.tree h.tree us vs e)) h.means), cons_rest g.tree h.tree us vs e)

  pub one_list : MeansOne Means key → TakeOne (AreList Tags Means) (list_key key)
  one_list one ts us vs [] [] g h = (refl, g.1 ∙ sym h.1)
  one_list one ts us vs [] (y ∷ ys) g h = absurd (begins Tags Means ts h.0 y h.1 g.0)
  one_list one ts us vs (x ∷ xs) [] g h = absurd (begins Tags Means ts g.0 x g.1 h.0)
  one_list one ts us vs (x ∷ xs) (y ∷ ys) g h =
      let m = one_member one ts g.0 h.0 x y g.1 h.1 in
      let r = one_list one h.0 us vs xs ys (subst (λ z. AreList Tags Means z xs us) m.1 g.2) h.2 in
      (ap (λ z. z ∷ list_key key xs) m.0 ∙ ap (λ z. key y ∷ z) r.0, r.1)

  pub member_left : (mode : Mode) → LeaveEncodings mode (IsMember Tags Means)
  member_left mode ts us x v e g = (let k : AreEncodings mode (g.tree ∷ₜ us) v = subst (λ z. AreEncodings mode z v) g.are e in (k.1, k.3))

  pub list_left : (mode : Mode) → LeaveEncodings mode (AreList Tags Means)
  list_left mode ts us [] v e g = (v, subst (λ z. AreEncodings mode z v) (sym g.1) e)
  list_left mode ts us (x ∷ xs) v e g = (let l = member_left mode ts g.0 x v e g.1 in list_left mode g.0 us xs l.0 l.1 g.2)

  -- members of which one value has the tags and means the same
  abbrev pub Once : Mode → Type 0
  Once mode = (t u : Tree) (x y : T) (v w : List ℕ) → IsEncoding mode t v → IsEncoding mode u w → Tags (tag_of t) → Tags (tag_of u) → Means t x → Means u y
      → key x ≡ key y → t ≡ u

  pub member_once : (mode : Mode) → Once mode → (ts us ms ns : Trees) (x y : T) (v w : List ℕ) → AreEncodings mode ts v → AreEncodings mode us w
      → IsMember Tags Means ts x ms → IsMember Tags Means us y ns → key x ≡ key y → ms ≡ ns → ts ≡ us
  member_once mode once ts us ms ns x y v w d e g h q r =
      let k : AreEncodings mode (g.tree ∷ₜ ms) v = subst (λ z. AreEncodings mode z v) g.are d in
      let l : AreEncodings mode (h.tree ∷ₜ ns) w = subst (λ z. AreEncodings mode z w) h.are e in
      let t : g.tree ≡ h.tree = once g.tree h.tree x y k.0 l.0 k.2 l.2 g.tagged h.tagged g.means h.means q in
      g.are ∙ ap (λ z. z ∷ₜ ms) t ∙ ap (λ z. h.tree ∷ₜ z) r ∙ sym h.are

  no_key : (x : K) (xs : List K) → [] ≡ (x ∷ xs) → ⊥
  no_key x xs e = cc

  key_first : (x y : K) (xs ys : List K) → (x ∷ xs) ≡ (y ∷ ys) → x ≡ y
  key_first x y xs ys e = cc

  key_rest : (x y : K) (xs ys : List K) → (x ∷ xs) ≡ (y ∷ ys) → xs ≡ ys
  key_rest x y xs ys e = cc

  pub list_once : (mode : Mode) → Once mode → AreTakenOnce mode (AreList Tags Means) (list_key key)
  list_once mode once ts us vs [] [] v w d e g h q = sym g.1 ∙ h.1
  list_once mode once ts us vs [] (y ∷ ys) v w d e g h q = absurd (no_key (key y) (list_key key ys) q)
  list_once mode once ts us vs (x ∷ xs) [] v w d e g h q = absurd (no_key (key x) (list_key key xs) (sym q))
  list_once mode once ts us vs (x ∷ xs) (y ∷ ys) v w d e g h q =
      let a = member_left mode ts g.0 x v d g.1 in
      let b = member_left mode us h.0 y w e h.1 in
      let r = list_once mode once g.0 h.0 vs xs ys a.0 b.0 a.1 b.1 g.2 h.2 (key_rest (key x) (key y) (list_key key xs) (list_key key ys) q) in
      member_once mode once ts us g.0 h.0 x y v w d e g.1 h.1 (key_first (key x) (key y) (list_key key xs) (list_key key ys) q) r

-- ---- a pair

module _ {A B K L : Type 0} (P : Trees → A → Trees → Type 0) (Q : Trees → B → Trees → Type 0) (f : A → K) (g : B → L) where
  pub one_pair : TakeOne P f → TakeOne Q g → TakeOne {K = K × L} (Pair P Q) (λ x. (f x.0, g x.1))
  one_pair p q ts us vs x y h k =
      let a = p ts h.between k.between x.0 y.0 h.first k.first in
      let b = q k.between us vs x.1 y.1 (subst (λ z. Q z x.1 us) a.1 h.second) k.second in
      (ap (λ z. (z, g x.1)) a.0 ∙ ap (λ z. (f y.0, z)) b.0, b.1)
