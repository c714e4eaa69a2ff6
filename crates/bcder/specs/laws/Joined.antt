-- Encoders in a row have one meaning, and it is an encoding.
use Rattle.std.specs.Prelude.{All, suc, ◌≡◌, List, [], ◌∷◌, length, Ok, Err, refl}
use Rattle.std.proofs.Common.{inl, inr, sym, ap, ◌∙◌, subst, arith}
use Rattle.bcder.specs.declared.encode.error.EncodeError.{EncodeError}
use Rattle.bcder.specs.declared.mode.Mode.{Mode}
use Rattle.bcder.specs.x690.Encoding.{AreEncodings}
use Rattle.bcder.specs.calls.Meaning.{Encoded, Meaning, IsOne, IsLawful}
use Rattle.bcder.specs.calls.Meaning.{nothing, join, Then, NoValues, EachOf, Joined}
use Rattle.bcder.specs.laws.Lists.{AreEncodings-join}

NoValues_encodes : (mode : Mode) (e : Encoded) → NoValues (Ok e) → AreEncodings mode e.values e.octets
NoValues_encodes mode e p = let same : e ≡ nothing = cc in subst (λ (y : Encoded). AreEncodings mode y.values y.octets) (sym same) refl

pub NoValues_lawful : (mode : Mode) → IsLawful mode NoValues
NoValues_lawful mode = record { one = record { same = λ m n p q. p ∙ sym q }; encodes = NoValues_encodes mode }

module _ {M : Meaning → Type 0} (one : IsOne M) where
  same_ok : (x y : Encoded) → M (Ok x) → M (Ok y) → x ≡ y
  same_ok x y p q = let e = one.same (Ok x) (Ok y) p q in cc

  not_both : (x : Encoded) (d : EncodeError) → M (Ok x) → M (Err d) → ⊥
  not_both x d p q = let e = one.same (Ok x) (Err d) p q in cc

module _ {M N : Meaning → Type 0} (m_one : IsOne M) (n_one : IsOne N) where
  Then_same : (m n : Meaning) → Then M N m → Then M N n → m ≡ n
  Then_same (Err d) (Err e) (inl p) (inl q) = m_one.same (Err d) (Err e) p q
  Then_same (Err d) (Err e) (inl p) (inr (x, q, r)) = absurd (not_both m_one x d q p)
  Then_same (Err d) (Err e) (inr (x, p, r)) (inl q) = absurd (not_both m_one x e p q)
  Then_same (Err d) (Err e) (inr (x, p, r)) (inr (y, q, s)) = n_one.same (Err d) (Err e) r s
  Then_same (Err d) (Ok z) (inl p) (x, y, q, r, eq) = absurd (not_both m_one x d q p)
  Then_same (Err d) (Ok z) (inr (x, p, r)) (u, v, q, s, eq) = absurd (not_both n_one v d s r)
  Then_same (Ok z) (Err d) (x, y, q, r, eq) (inl p) = absurd (not_both m_one x d q p)
  Then_same (Ok z) (Err d) (u, v, q, s, eq) (inr (x, p, r)) = absurd (not_both n_one v d s r)
  Then_same (Ok z) (Ok w) (x, y, p, q, e) (u, v, r, s, f) =
      let xu = same_ok m_one x u p r in
      let yv = same_ok n_one y v q s in
      ap Ok (e ∙ ap (λ a. join a y) xu ∙ ap (join u) yv ∙ sym f)

pub Then_lawful : {mode : Mode} {M N : Meaning → Type 0} → IsLawful mode M → IsLawful mode N → IsLawful mode (Then M N)
Then_lawful {mode} {M} {N} m n = record {
  one = record { same = Then_same m.one n.one };
  encodes = λ z p. subst (λ (a : Encoded). AreEncodings mode a.values a.octets) (sym p.4)
      (AreEncodings-join mode _ _ _ _ (m.encodes p.0 p.2) (n.encodes p.1 p.3));
}

module _ {M : Meaning → Type 0} (one : IsOne M) where
  same_sizes : (x y : Encoded) → M (Ok x) → M (Ok y) → length x.octets ≡ length y.octets
  same_sizes x y p q = ap (λ (a : Encoded). length a.octets) (same_ok one x y p q)

  Joined_same : (m n : Meaning) → Joined M m → Joined M n → m ≡ n
  Joined_same (Ok x) (Ok y) p q = one.same (Ok x) (Ok y) p.0 q.0
  Joined_same (Ok x) (Err e) p (inl q) = one.same (Ok x) (Err e) p.0 q
  Joined_same (Ok x) (Err e) p (inr (q, (z, r, s))) = let same = same_sizes x z p.0 r in absurd (omega arith)
  Joined_same (Err e) (Ok x) (inl q) p = one.same (Err e) (Ok x) q p.0
  Joined_same (Err e) (Ok x) (inr (q, (z, r, s))) p = let same = same_sizes x z p.0 r in absurd (omega arith)
  Joined_same (Err d) (Err e) (inl p) (inl q) = one.same (Err d) (Err e) p q
  Joined_same (Err d) (Err e) (inl p) (inr (q, (z, r, s))) = absurd (not_both one z d r p)
  Joined_same (Err d) (Err e) (inr (q, (z, r, s))) (inl p) = absurd (not_both one z e r p)
  Joined_same (Err d) (Err e) (inr (p, _)) (inr (q, _)) = ap Err (p ∙ sym q)

pub Joined_lawful : {mode : Mode} {M : Meaning → Type 0} → IsLawful mode M → IsLawful mode (Joined M)
Joined_lawful m = record { one = record { same = Joined_same m.one }; encodes = λ e p. m.encodes e p.0 }

pub EachOf_lawful : {X : Type 0} {P : X → Type 0} {M : X → Meaning → Type 0} (mode : Mode) → ((x : X) → P x → IsLawful mode (M x))
    → (xs : List X) → All P xs → IsLawful mode (EachOf M xs)
EachOf_lawful mode m [] can = NoValues_lawful mode
EachOf_lawful mode m (x ∷ xs) can =
    Then_lawful (m x (can 0 x (omega arith))) (EachOf_lawful mode m xs (λ k d below. can (suc k) d (omega (arith, below))))
