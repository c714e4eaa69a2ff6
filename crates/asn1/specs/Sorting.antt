-- Octet strings in the order of X.690, 11.6, and lists that ascend in it.
use Rattle.std.proofs.Common.{◌≡◌, ℕ, ◌+◌, List, [], ◌∷◌, ◌++◌, refl, ap, sym, ◌∙◌, inl, inr, arith}
use Rattle.std.specs.Prelude.{◌⊎◌}
use Rattle.std.proofs.lemmas.Bool.{cases_lt}
use Rattle.asn1.specs.SetsOf.{IsNotAfter}

-- ---- the order

-- the one or the other
abbrev pub Decided : Type 0 → Type 0
Decided P = P ⊎ (P → ⊥)

pub decided : (v w : List ℕ) → Decided (IsNotAfter v w)
decided [] w = inl tt
decided (x ∷ v) [] = elim (cases_lt 0 x) [
  | inl h ↦ inr (λ k. let z : x ≡ 0 = k.0 in omega (arith, h, z))
  | inr h ↦ elim (decided v []) [ inl k ↦ inl (omega (arith, h), k) | inr n ↦ inr (λ k. n k.1) ]
]
decided (x ∷ v) (y ∷ w) = elim (cases_lt x y) [
  | inl h ↦ inl (inl h)
  | inr h ↦ elim (cases_lt y x) [
    | inl g ↦ inr (λ k. elim k [ inl a ↦ omega (arith, a, g) | inr b ↦ (let z : x ≡ y = b.0 in omega (arith, z, g)) ])
    | inr g ↦ elim (decided v w) [
      | inl k ↦ inl (inr (omega (arith, g, h), k))
      | inr n ↦ inr (λ k. elim k [ inl a ↦ omega (arith, a, h) | inr b ↦ n b.1 ])
    ]
  ]
]

pub reflexive : (v : List ℕ) → IsNotAfter v v
reflexive [] = tt
reflexive (x ∷ v) = inr (refl, reflexive v)

pub transitive : (u v w : List ℕ) → IsNotAfter u v → IsNotAfter v w → IsNotAfter u w
transitive [] v w h k = tt
transitive (x ∷ u) [] [] h k = h
transitive (x ∷ u) [] (z ∷ w) h k = elim (cases_lt 0 z) [
  | inl a ↦ inl (let e : x ≡ 0 = h.0 in omega (arith, e, a))
  | inr a ↦ inr (let e : x ≡ 0 = h.0 in omega (arith, e, a), transitive u [] w h.1 tt)
]
transitive (x ∷ u) (y ∷ v) [] h k = elim h [
  | inl a ↦ absurd (let e : y ≡ 0 = k.0 in omega (arith, e, a))
  | inr b ↦ (b.0 ∙ k.0, transitive u v [] b.1 k.1)
]
transitive (x ∷ u) (y ∷ v) (z ∷ w) h k = elim h [
  | inl a ↦ elim k [
    | inl b ↦ inl (omega (arith, a, b))
    | inr b ↦ inl (let e : y ≡ z = b.0 in omega (arith, a, e))
  ]
  | inr a ↦ elim k [
    | inl b ↦ inl (let e : x ≡ y = a.0 in omega (arith, e, b))
    | inr b ↦ inr (a.0 ∙ b.0, transitive u v w a.1 b.1)
  ]
]

-- the longer one begins with the other
abbrev pub OneBeginsWithTheOther : List ℕ → List ℕ → Type 0
OneBeginsWithTheOther v w = (z : List ℕ) × ((v ≡ w ++ z) ⊎ (w ≡ v ++ z))

both_begin : (x y : ℕ) (v w : List ℕ) → x ≡ y → OneBeginsWithTheOther v w → OneBeginsWithTheOther (x ∷ v) (y ∷ w)
both_begin x y v w e (z, inl h) = (z, inl (ap (λ a. a ∷ v) e ∙ ap (λ a. y ∷ a) h))
both_begin x y v w e (z, inr h) = (z, inr (ap (λ a. a ∷ w) (sym e) ∙ ap (λ a. x ∷ a) h))

pub antisymmetric : (v w : List ℕ) → IsNotAfter v w → IsNotAfter w v → OneBeginsWithTheOther v w
antisymmetric [] w h k = (w, inr refl)
antisymmetric (x ∷ v) [] h k = (x ∷ v, inl refl)
antisymmetric (x ∷ v) (y ∷ w) h k = elim h [
  | inl a ↦ absurd (elim k [ inl b ↦ omega (arith, a, b) | inr b ↦ (let e : y ≡ x = b.0 in omega (arith, a, e)) ])
  | inr a ↦ elim k [
    | inl b ↦ absurd (let e : x ≡ y = a.0 in omega (arith, b, e))
    | inr b ↦ both_begin x y v w a.0 (antisymmetric v w a.1 b.1)
  ]
]

-- ---- lists

-- octet strings are the same or not
pub same_octets : (v w : List ℕ) → Decided (v ≡ w)
same_octets [] [] = inl refl
same_octets [] (y ∷ w) = inr (λ e. cc)
same_octets (x ∷ v) [] = inr (λ e. cc)
same_octets (x ∷ v) (y ∷ w) = elim (cases_lt x y) [
  | inl h ↦ inr (λ e. (let z : x ≡ y = cc in omega (arith, z, h)))
  | inr h ↦ elim (cases_lt y x) [
    | inl g ↦ inr (λ e. (let z : x ≡ y = cc in omega (arith, z, g)))
    | inr g ↦ elim (same_octets v w) [
      | inl k ↦ inl (let z : x ≡ y = omega (arith, g, h) in ap (λ a. a ∷ v) z ∙ ap (λ a. y ∷ a) k)
      | inr n ↦ inr (λ e. n (let z : v ≡ w = cc in z))
    ]
  ]
]

module _ {P : Type 0} where
  -- 0 for what is so, otherwise 1
  zero_if : Decided P → ℕ
  zero_if (inl h) = 0
  zero_if (inr n) = 1

  where_zero : (d : Decided P) → zero_if d ≡ 0 → P
  unfolding zero_if
  where_zero (inl h) e = h
  where_zero (inr n) e = absurd (omega (arith, e))

  zero_where : (d : Decided P) → P → zero_if d ≡ 0
  unfolding zero_if
  zero_where (inl h) p = refl
  zero_where (inr n) p = absurd (n p)

module _ {E : Type 0} where
  abbrev pub total : (E → ℕ) → List E → ℕ
  total f [] = 0
  total f (e ∷ es) = f e + total f es

  -- each member of one list is one of the other, as often
  pub record Same (es fs : List E) : Type 0 where
    pub totals : (f : E → ℕ) → total f es ≡ total f fs

  abbrev pub AllOf : (E → Type 0) → List E → Type 0
  AllOf P [] = Unit {0}
  AllOf P (e ∷ es) = P e × AllOf P es

-- the first of these is as far on as v, or none is there; and so each is behind the one before
module _ {E : Type 0} (R : E → E → Type 0) where
  abbrev pub BeforeFirst : E → List E → Type 0
  BeforeFirst e [] = Unit {0}
  BeforeFirst e (f ∷ fs) = R e f

  abbrev pub Ascend : List E → Type 0
  Ascend [] = Unit {0}
  Ascend (e ∷ es) = BeforeFirst e es × Ascend es

module _ {E : Type 0} (R : E → E → Type 0) (test : (v w : E) → Decided (R v w)) (same : (v : E) → R v v)
    (over : (u v w : E) → R u v → R v w → R u w) (P : E → Type 0) (anti : (v w : E) → P v → P w → R v w → R w v → v ≡ w) where
  -- 0 for a member that does not stand before e, otherwise 1
  before : E → E → ℕ
  before e f = zero_if (test e f)

  not_before : (e f : E) → before e f ≡ 0 → R e f
  unfolding before
  not_before e f h = where_zero (test e f) h

  is_not_before : (e f : E) → R e f → before e f ≡ 0
  unfolding before
  is_not_before e f h = zero_where (test e f) h

  none_before : (a e : E) (es : List E) → R a e → Ascend R (e ∷ es) → total (before a) (e ∷ es) ≡ 0
  none_before a e [] h k = (let z = is_not_before a e h in omega (arith, z))
  none_before a e (f ∷ fs) h k =
      let z = is_not_before a e h in
      let y = none_before a f fs (over a e f h k.0) k.1 in
      omega (arith, z, y)

  first_least : (a f : E) (fs : List E) → total (before a) (f ∷ fs) ≡ 0 → R a f
  first_least a f fs h = not_before a f (omega (arith, h))

  rest_same : (e f : E) (es fs : List E) → e ≡ f → Same (e ∷ es) (f ∷ fs) → Same es fs
  rest_same e f es fs q s = record {
    totals = λ g. (let h = s.totals g in let k = ap g q in omega (arith, h, k));
  }

  -- lists that ascend and have the same members are the same
  pub one_ascending : (es fs : List E) → AllOf P es → AllOf P fs → Ascend R es → Ascend R fs → Same es fs → es ≡ fs
  one_ascending [] [] p q a b s = refl
  one_ascending [] (f ∷ fs) p q a b s = absurd (let h = s.totals (λ _. 1) in omega (arith, h))
  one_ascending (e ∷ es) [] p q a b s = absurd (let h = s.totals (λ _. 1) in omega (arith, h))
  one_ascending (e ∷ es) (f ∷ fs) p q a b s =
      let h = s.totals (before e) in
      let k = s.totals (before f) in
      let i = first_least e f fs (sym h ∙ none_before e e es (same e) a) in
      let j = first_least f e es (k ∙ none_before f f fs (same f) b) in
      let x : e ≡ f = anti e f p.0 q.0 i j in
      ap (λ z. z ∷ es) x ∙ ap (λ z. f ∷ z) (one_ascending es fs p.1 q.1 a.1 b.1 (rest_same e f es fs x s))
