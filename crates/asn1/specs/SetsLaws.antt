-- What is written of a SET OF is one thing at most, and an encoding.
use Rattle.std.specs.Prelude.{◌≡◌, ◌+◌, ℕ, List, [], ◌∷◌, ◌++◌, length, Ok, Err, refl}
use Rattle.std.proofs.Common.{inl, inr, sym, ap, ◌∙◌, subst, arith, length-append}
use Rattle.std.proofs.lemmas.Bool.{cases_lt}
use Rattle.bcder.specs.declared.encode.error.EncodeError.{EncodeError}
use Rattle.bcder.specs.declared.mode.Mode.{Mode}
use Rattle.bcder.specs.declared.mode.Mode.TheVariants.{Ber, Cer, Der}
use Rattle.bcder.specs.x690.Encoding.{AreEncodings}
use Rattle.bcder.specs.calls.Meaning.{Encoded, Meaning, IsOne, IsLawful}
use Rattle.bcder.specs.calls.Meaning.{nothing, join, EachOf, Joined}
use Rattle.bcder.specs.laws.Complete.{one_list}
use Rattle.asn1.specs.Writing.{each_lawful}
use Rattle.asn1.specs.Sorting.{Decided, Same, total, AllOf, Ascend, one_ascending}
use Rattle.asn1.specs.Rearranging.{same_members}
use Rattle.asn1.specs.SetsWritten.{IsUpTo, AreInOrder, flat, AreWrittenEach, AreWrittenInOrder, InOrder, WritesSetOf}

-- ---- the order

pub up_to_decided : (v w : List ℕ) → Decided (IsUpTo v w)
up_to_decided [] w = inl tt
up_to_decided (x ∷ v) [] = inr (λ k. k)
up_to_decided (x ∷ v) (y ∷ w) = elim (cases_lt x y) [
  | inl h ↦ inl (inl h)
  | inr h ↦ elim (cases_lt y x) [
    | inl g ↦ inr (λ k. elim k [ inl a ↦ omega (arith, a, g) | inr b ↦ (let z : x ≡ y = b.0 in omega (arith, z, g)) ])
    | inr g ↦ elim (up_to_decided v w) [
      | inl k ↦ inl (inr (omega (arith, g, h), k))
      | inr n ↦ inr (λ k. elim k [ inl a ↦ omega (arith, a, h) | inr b ↦ n b.1 ])
    ]
  ]
]

pub up_to_itself : (v : List ℕ) → IsUpTo v v
up_to_itself [] = tt
up_to_itself (x ∷ v) = inr (refl, up_to_itself v)

pub up_to_over : (u v w : List ℕ) → IsUpTo u v → IsUpTo v w → IsUpTo u w
up_to_over [] v w h k = tt
up_to_over (x ∷ u) [] w h k = absurd h
up_to_over (x ∷ u) (y ∷ v) [] h k = absurd k
up_to_over (x ∷ u) (y ∷ v) (z ∷ w) h k = elim h [
  | inl a ↦ elim k [
    | inl b ↦ inl (omega (arith, a, b))
    | inr b ↦ inl (let e : y ≡ z = b.0 in omega (arith, a, e))
  ]
  | inr a ↦ elim k [
    | inl b ↦ inl (let e : x ≡ y = a.0 in omega (arith, e, b))
    | inr b ↦ inr (a.0 ∙ b.0, up_to_over u v w a.1 b.1)
  ]
]

pub up_to_both : (v w : List ℕ) → IsUpTo v w → IsUpTo w v → v ≡ w
up_to_both [] [] h k = refl
up_to_both [] (y ∷ w) h k = absurd k
up_to_both (x ∷ v) [] h k = absurd h
up_to_both (x ∷ v) (y ∷ w) h k = elim h [
  | inl a ↦ absurd (elim k [ inl b ↦ omega (arith, a, b) | inr b ↦ (let e : y ≡ x = b.0 in omega (arith, a, e)) ])
  | inr a ↦ elim k [
    | inl b ↦ absurd (let e : x ≡ y = a.0 in omega (arith, b, e))
    | inr b ↦ ap (λ z. z ∷ v) a.0 ∙ ap (λ z. y ∷ z) (up_to_both v w a.1 b.1)
  ]
]

-- ---- lists

any_piece : (vs : List (List ℕ)) → AllOf (λ _. Unit {0}) vs
any_piece [] = tt
any_piece (v ∷ vs) = (tt, any_piece vs)

as_ascending : (vs : List (List ℕ)) → AreInOrder vs → Ascend IsUpTo vs
as_ascending [] h = tt
as_ascending (v ∷ []) h = (tt, tt)
as_ascending (v ∷ (w ∷ ws)) h = (h.0, as_ascending (w ∷ ws) h.1)

-- lists in order with the same members are the same
pub one_in_order : (vs ws : List (List ℕ)) → AreInOrder vs → AreInOrder ws → Same vs ws → vs ≡ ws
one_in_order vs ws h k s =
    one_ascending IsUpTo up_to_decided up_to_itself up_to_over (λ _. Unit {0}) (λ v w p q. up_to_both v w) vs ws (any_piece vs)
    (any_piece ws)
    (as_ascending vs h) (as_ascending ws k) s

pub flat_size : (vs : List (List ℕ)) → length (flat vs) ≡ total length vs
flat_size [] = refl
flat_size (v ∷ vs) = length-append v (flat vs) ∙ ap (λ n. length v + n) (flat_size vs)

-- of which the order doesn't change how many octets they are
pub same_size : (vs ws : List (List ℕ)) → Same vs ws → length (flat vs) ≡ length (flat ws)
same_size vs ws s = flat_size vs ∙ s.totals length ∙ sym (flat_size ws)

-- ---- what is written

module _ {T : Type 0} (W : T → Meaning → Type 0) where
  -- one after the other
  pub as_joined : (xs : List T) (vs : List (List ℕ)) → AreWrittenEach W xs vs → (y : Encoded) × EachOf W xs (Ok y) × (y.octets ≡ flat vs)
  as_joined [] [] h = (nothing, refl, refl)
  as_joined [] (v ∷ vs) h = absurd h
  as_joined (x ∷ xs) [] h = absurd h
  as_joined (x ∷ xs) (v ∷ vs) ((e, m, q), h) =
      let r = as_joined xs vs h in
      (join e r.0, (e, r.0, m, r.1, refl), ap (λ z. z ++ r.0.octets) (sym q) ∙ ap (λ z. v ++ z) r.2)

  module _ (one : (x : T) → IsOne (W x)) where
    same_octets : (x : T) (d e : Encoded) → W x (Ok d) → W x (Ok e) → d.octets ≡ e.octets
    same_octets x d e m n = (let q = (one x).same (Ok d) (Ok e) m n in let z : d ≡ e = cc in ap (λ (a : Encoded). a.octets) z)

    pub one_each : (xs : List T) (vs ws : List (List ℕ)) → AreWrittenEach W xs vs → AreWrittenEach W xs ws → vs ≡ ws
    one_each [] [] [] h k = refl
    one_each [] [] (w ∷ ws) h k = absurd k
    one_each [] (v ∷ vs) ws h k = absurd h
    one_each (x ∷ xs) [] ws h k = absurd h
    one_each (x ∷ xs) (v ∷ vs) [] h k = absurd k
    one_each (x ∷ xs) (v ∷ vs) (w ∷ ws) ((d, m, p), h) ((e, n, q), k) =
        ap (λ z. z ∷ vs) (p ∙ same_octets x d e m n ∙ sym q) ∙ ap (λ z. w ∷ z) (one_each xs vs ws h k)

  module _ {mode : Mode} (l : (x : T) → IsLawful mode (W x)) (xs : List T) where
    abbrev InRow : Meaning → Type 0
    InRow = Joined (EachOf W xs)

    one_row : IsOne InRow
    one_row = (each_lawful W l xs).one

    in_row : (z : Encoded) → AreWrittenInOrder mode W xs z → (y : Encoded) × InRow (Ok y)
    in_row z a =
        let r = as_joined xs a.pieces a.are in
        let s = same_size a.pieces a.ordered (same_members a.pieces a.ordered a.rearranged) in
        (r.0, (r.1, (let f = a.fits in omega (arith, f, ap length a.octets, s, ap length r.2))))

    not_refused : (z : Encoded) (e : EncodeError) → AreWrittenInOrder mode W xs z → InRow (Err e) → ⊥
    not_refused z e a r = (let y = in_row z a in let q = one_row.same (Ok y.0) (Err e) y.1 r in cc)

    same_written : (y z : Encoded) → AreWrittenInOrder mode W xs y → AreWrittenInOrder mode W xs z → y.octets ≡ z.octets
    same_written y z a b =
        let p : a.pieces ≡ b.pieces = one_each (λ x. (l x).one) xs a.pieces b.pieces a.are b.are in
        let s = same_members a.pieces a.ordered a.rearranged in
        let t : Same a.pieces b.ordered = subst (λ q. Same q b.ordered) (sym p) (same_members b.pieces b.ordered b.rearranged) in
        let u : Same a.ordered b.ordered = record { totals = λ f. sym (s.totals f) ∙ t.totals f } in
        a.octets ∙ ap flat (one_in_order a.ordered b.ordered a.ascend b.ascend u) ∙ sym b.octets

    same_in_order : (m n : Meaning) → InOrder mode W xs m → InOrder mode W xs n → m ≡ n
    same_in_order (Ok y) (Ok z) a b =
        let o = same_written y z a b in
        let v = one_list mode y.values z.values z.octets (subst (AreEncodings mode y.values) o a.encode) b.encode in
        ap (λ ts. let r : Encoded = record { values = ts; octets = y.octets } in Ok r) v
        ∙ ap (λ w. let r : Encoded = record { values = z.values; octets = w } in Ok r) o
    same_in_order (Ok y) (Err e) a b = absurd (not_refused y e a b)
    same_in_order (Err e) (Ok z) a b = absurd (not_refused z e b a)
    same_in_order (Err d) (Err e) a b = one_row.same (Err d) (Err e) a b

    in_order_lawful : IsLawful mode (InOrder mode W xs)
    in_order_lawful = record { one = record { same = same_in_order }; encodes = λ e a. a.encode }

lawful_in : {T : Type 0} (mode : Mode) (W : T → Meaning → Type 0) → ((x : T) → IsLawful mode (W x)) → (xs : List T)
    → IsLawful mode (WritesSetOf mode W xs)
lawful_in Ber W l xs = each_lawful W l xs
lawful_in Cer W l xs = in_order_lawful W l xs
lawful_in Der W l xs = in_order_lawful W l xs

pub set_lawful : {T : Type 0} {mode : Mode} (W : T → Meaning → Type 0) → ((x : T) → IsLawful mode (W x)) → (xs : List T)
    → IsLawful mode (WritesSetOf mode W xs)
set_lawful {T} {mode} W l xs = lawful_in mode W l xs
