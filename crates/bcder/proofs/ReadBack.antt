-- Identifiers and their text.
use Rattle.std.proofs.Common.{◌≡◌, ◌≢◌, ℕ, ◌+◌, ◌*◌, ◌<◌, List, [], ◌∷◌, ◌++◌, sym, ◌∙◌, ap, refl, arith, inl, inr}
use Rattle.bcder.specs.declared.oid.text.OidError.{OidError}
use Rattle.bcder.specs.declared.oid.text.OidError.TheVariants.{NoMemory}
use Rattle.bcder.specs.x690.ObjectIdentifier.{AreSubidentifiers, IsComplete, components}
use Rattle.bcder.specs.calls.Identifiers.{IsComponentText, AreComponentTexts, HasNoComponent, AreTextsOf, RefusesTexts, ReadsParts, RefusesParts}
use Rattle.bcder.specs.calls.Identifiers.RefusesTexts.{first_is_none, first_too_large, second_is_none, second_too_large, other_is_none, no_memory}
use Rattle.bcder.proofs.Fewest.{one_fewest}
use Rattle.bcder.proofs.SubidentifierLists.{components_held, complete_held}

-- a text is one number
one_number : (t : List ℕ) (m n : ℕ) → IsComponentText t m → IsComponentText t n → m ≡ n
one_number t m n p q = sym p.value ∙ q.value

one_numbers : (ts : List (List ℕ)) (ms ns : List ℕ) → AreComponentTexts ts ms → AreComponentTexts ts ns → ms ≡ ns
one_numbers [] [] [] p q = refl
one_numbers [] [] (n ∷ ns) p q = absurd q
one_numbers [] (m ∷ ms) ns p q = absurd p
one_numbers (t ∷ ts) [] ns p q = absurd p
one_numbers (t ∷ ts) (m ∷ ms) [] p q = absurd q
one_numbers (t ∷ ts) (m ∷ ms) (n ∷ ns) (a, p) (b, q) = ap (λ k. k ∷ ms) (one_number t m n a b) ∙ ap (λ l. n ∷ l) (one_numbers ts ms ns p q)

-- numbers have the octets of one list of subidentifiers
one_octets : (ns : List ℕ) (v w : List ℕ) → AreSubidentifiers ns v → AreSubidentifiers ns w → v ≡ w
one_octets [] v w p q = p ∙ sym q
one_octets (n ∷ ns) v w (a, x, s, p, d) (b, y, t, q, e) =
    let same : a ≡ b = one_fewest a b s.whole t.whole (s.value ∙ sym t.value) s.fewest t.fewest in
    d ∙ ap (λ l. l ++ x) same ∙ ap (λ l. b ++ l) (one_octets ns x y p q) ∙ sym e

one_of_texts : (a b : List ℕ) (ts : List (List ℕ)) (v w : List ℕ) → AreTextsOf a b ts v → AreTextsOf a b ts w → v ≡ w
one_of_texts a b ts v w p q =
    let first = one_number a _ _ p.first_text q.first_text in
    let second = one_number b _ _ p.second_text q.second_text in
    let others = one_numbers ts _ _ p.other_texts q.other_texts in
    let octets : AreSubidentifiers ((40 * q.first + q.second) ∷ q.others) v = rw (first, second, others) at p.octets in
    one_octets ((40 * q.first + q.second) ∷ q.others) v w octets q.octets

pub one_read : (parts : List (List ℕ)) (v w : List ℕ) → ReadsParts parts v → ReadsParts parts w → v ≡ w
one_read [] v w p q = absurd p
one_read (a ∷ []) v w p q = absurd p
one_read (a ∷ b ∷ ts) v w p q = one_of_texts a b ts v w p q

-- what the texts of components say is held by the octets
pub held : (parts : List (List ℕ)) (w : List ℕ) → ReadsParts parts w → IsComplete w × AreComponentTexts parts (components w)
held [] w p = absurd p
held (a ∷ []) w p = absurd p
held (a ∷ b ∷ ts) w p =
    (complete_held _ _ w p.octets, rw (components_held p.first p.second p.others w p.may_begin p.octets) (p.first_text, (p.second_text, p.other_texts)))

none_of_others : (ts : List (List ℕ)) (ns : List ℕ) → HasNoComponent ts → AreComponentTexts ts ns → ⊥
none_of_others [] ns h p = h
none_of_others (t ∷ ts) [] h p = p
none_of_others (t ∷ ts) (n ∷ ns) (inl h) (p, q) = h n p
none_of_others (t ∷ ts) (n ∷ ns) (inr h) (p, q) = none_of_others ts ns h q

refused_texts : (a b : List ℕ) (ts : List (List ℕ)) (w : List ℕ) (e : OidError) → e ≢ NoMemory → RefusesTexts a b ts e → AreTextsOf a b ts w → ⊥
refused_texts a b ts w e n (first_is_none _ h) p = h p.first p.first_text
refused_texts a b ts w e n (first_too_large m _ t l) p = let s = one_number a m p.first t p.first_text in let k = p.may_begin.first in omega arith
refused_texts a b ts w e n (second_is_none m _ t l h) p = h p.second p.second_text
refused_texts a b ts w e n (second_too_large m k _ t l u g) p =
    let s = one_number a m p.first t p.first_text in
    let r = one_number b k p.second u p.second_text in
    let q : p.second < 40 = p.may_begin.second (omega arith) in
    omega arith
refused_texts a b ts w e n (other_is_none m k _ t u l h) p = none_of_others ts p.others h p.other_texts
refused_texts a b ts w e n (no_memory m k ns want _ _ _ _) p = n want

-- a refused text has no octets
pub refused : (parts : List (List ℕ)) (w : List ℕ) (e : OidError) → e ≢ NoMemory → RefusesParts parts e → ReadsParts parts w → ⊥
refused [] w e n r p = p
refused (a ∷ []) w e n r p = p
refused (a ∷ b ∷ ts) w e n r p = refused_texts a b ts w e n r p
