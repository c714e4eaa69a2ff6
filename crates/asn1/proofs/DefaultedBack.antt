-- A value that may be the default, written and read back.
use Rattle.std.proofs.Common.{◌≡◌, ℕ, List, Option, refl, ap, sym, ◌∙◌, subst, inl, inr}
use Rattle.std.specs.Prelude.{Result, Ok, Err}
use Rattle.bcder.specs.declared.mode.Mode.{Mode}
use Rattle.bcder.specs.declared.encode.error.EncodeError.{EncodeError}
use Rattle.bcder.specs.declared.encode.error.WriteError.{WriteError}
use Rattle.bcder.specs.x690.Identifier.{Tag}
use Rattle.bcder.specs.x690.Tree.{Tree, Trees, ◌+++◌}
use Rattle.bcder.specs.calls.Meaning.{nothing}
use Rattle.bcder.specs.calls.Meaning.{Encoded, Meaning}
use Rattle.bcder.specs.calls.Encoders.{SizeOfValues, Writes}
use Rattle.asn1.specs.Types.{IsMember, BeginWithout}
use Rattle.asn1.specs.Writing.{IsReadAs, AreTaken, AreReadAs}
use Rattle.asn1.specs.Defaults.{IsDefaulted}
use Rattle.asn1.specs.DefaultsWritten.{WritesUnless}
use Rattle.asn1.proofs.Members.{begins}
use Rattle.asn1.proofs.ReadingBack.{member_taken, appends_none}

module _ (P : Type 0) (M : Meaning → Type 0) (L : Type 0) where
  pub size_none : P → SizeOfValues (WritesUnless P M) L (Ok 0)
  size_none p = (nothing, inl (p, refl), refl)

  pub size_some : (P → ⊥) → (r : Result ℕ EncodeError) → SizeOfValues M L r → SizeOfValues (WritesUnless P M) L r
  size_some n (Ok k) s = (s.0, inr (n, s.1), s.2)
  size_some n (Err e) s = record { meant = λ h. inr (n, s.meant h); lacking = s.lacking }

  pub writes_none : (old : Option (List ℕ)) → P → Writes (λ (e : Encoded). e.octets) (WritesUnless P M) L old old (Ok tt)
  writes_none old p = record { went = inl (nothing, inl (p, refl), record { done = appends_none old }) }

  pub writes_some : (old new : Option (List ℕ)) (r : Result (Unit {0}) WriteError) → (P → ⊥) → Writes (λ (e : Encoded). e.octets) M L old new r
      → Writes (λ (e : Encoded). e.octets) (WritesUnless P M) L old new r
  writes_some old new r n h = record {
    went = elim h.went [
      | inl w ↦ inl (w.0, inr (n, w.1), w.2)
      | inr w ↦
          let r = w.2 in
          inr (w.0, w.1, record { meant = λ h. inr (n, r.meant h); lacking = r.lacking }, w.3)
    ];
  }

module _ {T K : Type 0} (mode : Mode) (Tags : Tag → Type 0) (Means : Tree → T → Type 0) (key : T → K) (default : K) where
  given_only : (k : K) (ts us vs : Trees) (y : T) → (a : AreTaken (IsMember Tags Means) key k ts us)
      → IsDefaulted mode Tags Means key default ts y vs → (key y ≡ k) × (vs ≡ us)
  given_only k ts us vs y a (inl g) = a.only y vs g.0
  given_only k ts us vs y a (inr g) = absurd (begins Tags Means ts us a.some a.taken g.0)

  absent_only : (us vs : Trees) (y : T) → BeginWithout Tags us → IsDefaulted mode Tags Means key default us y vs → (key y ≡ default) × (vs ≡ us)
  absent_only us vs y b (inl g) = absurd (begins Tags Means us vs y g.0 b)
  absent_only us vs y b (inr g) = (g.1.1, g.1.0)

  pub default_back : (M : Meaning → Type 0) (x : T) → IsReadAs Tags Means key x M
      → AreReadAs (IsDefaulted mode Tags Means key default) key (λ us. key x ≡ default → BeginWithout Tags us) x (WritesUnless (key x ≡ default) M)
  default_back M x k e (inl m) us f =
      let nil = m.1 in
      let same : e ≡ nothing = cc in
      let is : (e.values +++ us) ≡ us = ap (λ (z : Encoded). z.values +++ us) same in
      record {
        some = x;
        taken = inr (subst (BeginWithout Tags) (sym is) (f m.0), (sym is, m.0));
        only = λ y vs g. let o = absent_only us vs y (f m.0) (subst (λ z. IsDefaulted mode Tags Means key default z y vs) is g) in (o.0 ∙ sym m.0, o.1);
      }
  default_back M x k e (inr m) us f =
      let a = member_taken Tags Means key (key x) e us (k e m.1) in
      record {
        some = a.some;
        taken = inl (a.taken, λ ne h. m.0 (sym (a.only a.some us a.taken).0 ∙ h));
        only = λ y vs g. given_only (key x) (e.values +++ us) us vs y a g;
      }
