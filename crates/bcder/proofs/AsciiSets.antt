-- Sets of single octets: what they accept, and that their strings are text.
use Rattle.std.proofs.Common.{◌≡◌, ◌↔◌, ℕ, suc, ◌<◌, List, [], ◌∷◌, ◌++◌, length, take, refl, sym, ap, ◌∙◌, subst, arith}
use Rattle.std.specs.Prelude.{Bool, true, false, IsTrue, MatchBool}
use Rattle.std.proofs.Math.Seq.{take-length}
use Rattle.std.proofs.lemmas.Bool.{and_parts, and_from}
use Rattle.std.proofs.lemmas.Bool.Decides.{nat_tests}
use Rattle.std.proofs.lemmas.Str.{encodes-chars, encodes-IsAscii}
use Rattle.std.specs.List.{list_all}
use Rattle.std.specs.Str.{IsUtf8, IsAscii, IsNotAscii, chars, encode_utf8_all}
use Rattle.bcder.specs.x690.CharSet.{Spells, IsOfSet, HasNo}
use Rattle.bcder.specs.x690.AsciiSets.{one_octet_step, is_ia5}
use Rattle.bcder.specs.laws.CharSets.{AllHave, self_spelled, all_ascii, spells_text, ia5_ascii}

module _ (has : ℕ → Bool) where
  -- octets of the set spell themselves
  pub spells_self : (w : List ℕ) → AllHave has w → Spells (one_octet_step has) w w
  spells_self [] h = refl
  spells_self (b ∷ w) h = (w, rw h.0, spells_self w h.1)

  pub accepts_all : (w : List ℕ) → IsOfSet (one_octet_step has) w ↔ AllHave has w
  accepts_all w = (λ a. (self_spelled has a.0 w a.1).1, λ h. (w, spells_self w h))

  all_both : (v w : List ℕ) → AllHave has v → AllHave has w → AllHave has (v ++ w)
  all_both [] w p q = q
  all_both (b ∷ v) w p q = (p.0, all_both v w p.1 q)

  all_front : (v w : List ℕ) → AllHave has (v ++ w) → AllHave has v
  all_front [] w h = tt
  all_front (b ∷ v) w h = (h.0, all_front v w h.1)

  all_behind : (v w : List ℕ) → AllHave has (v ++ w) → AllHave has w
  all_behind [] w h = h
  all_behind (b ∷ v) w h = all_behind v w h.1

  -- ---- octet by octet

  have_all : (w : List ℕ) → list_all has w ≡ true → AllHave has w
  have_all [] e = tt
  have_all (b ∷ w) e = (let p = and_parts _ _ e in (p.0, have_all w p.1))

  all_are : (w : List ℕ) → AllHave has w → list_all has w ≡ true
  all_are [] h = refl
  all_are (b ∷ w) h = and_from _ _ h.0 (all_are w h.1)

  pub all_told : (w : List ℕ) (n : ℕ) (t : Bool) → n ≡ length w → t ≡ list_all has (take n w) → IsTrue t ↔ IsOfSet (one_octet_step has) w
  all_told w n t e is =
      let all : t ≡ list_all has w = is ∙ ap (list_all has) (ap (λ i. take i w) e ∙ take-length w) in
      (λ h. (accepts_all w).1 (have_all w (sym all ∙ h)), λ a. all ∙ all_are w ((accepts_all w).0 a))

  -- ---- piece by piece

  pub piece_passed : (all w piece rest : List ℕ) → w ≡ piece ++ rest → IsOfSet (one_octet_step has) piece
      → IsOfSet (one_octet_step has) all ↔ IsOfSet (one_octet_step has) w → IsOfSet (one_octet_step has) all ↔ IsOfSet (one_octet_step has) rest
  piece_passed all w piece rest e p k = (
    λ a. (accepts_all rest).1 (all_behind piece rest (subst (AllHave has) e ((accepts_all w).0 (k.0 a)))),
    λ a. k.1 ((accepts_all w).1 (subst (AllHave has) (sym e) (all_both piece rest ((accepts_all piece).0 p) ((accepts_all rest).0 a)))),
  )

  pub piece_failed : (all w piece rest : List ℕ) (t : Bool) → w ≡ piece ++ rest → t ≡ false → IsTrue t ↔ IsOfSet (one_octet_step has) piece
      → IsOfSet (one_octet_step has) all ↔ IsOfSet (one_octet_step has) w → IsOfSet (one_octet_step has) all → ⊥
  piece_failed all w piece rest t e failed p k a =
      let passed = p.1 ((accepts_all piece).1 (all_front piece rest (subst (AllHave has) e ((accepts_all w).0 (k.0 a))))) in
      let no : true ≡ false = sym passed ∙ failed in
      absurd cc

  -- ---- text

  module _ (ascii : (b : ℕ) → has b ≡ true → b < 128) where
    pub text_spelled : (w : List ℕ) → IsOfSet (one_octet_step has) w → Spells (one_octet_step has) w (chars w)
    text_spelled w a = subst (Spells (one_octet_step has) w) (sym (spells_text has ascii a.0 w a.1).1) a.1

    -- a text that isn't of the set is spelled by no octets: they would be its own
    pub not_spelled : (text w : List ℕ) → IsUtf8 text → (IsOfSet (one_octet_step has) text → ⊥) → Spells (one_octet_step has) w (chars text) → ⊥
    not_spelled text w utf8 not h =
        let (same, all) = self_spelled has (chars text) w h in
        let own : text ≡ w = sym (encodes-chars text utf8) ∙ ap encode_utf8_all same ∙ encodes-IsAscii w (all_ascii has ascii w all) in
        not ((accepts_all text).1 (subst (AllHave has) (sym own) all))

    -- what `from_str` answers, by a test of the text's own octets
    pub lent : (text w v : List ℕ) (t : Bool) → w ≡ text → v ≡ text → t ≡ true → IsTrue t ↔ IsOfSet (one_octet_step has) w
        → Spells (one_octet_step has) v (chars text)
    lent text w v t is own passed h =
        let a : IsOfSet (one_octet_step has) text = subst (IsOfSet (one_octet_step has)) is (h.0 passed) in
        subst (λ (u : List ℕ). Spells (one_octet_step has) u (chars text)) (sym own) (text_spelled text a)

    pub refused : (text w : List ℕ) (t : Bool) → IsUtf8 text → w ≡ text → t ≡ false → IsTrue t ↔ IsOfSet (one_octet_step has) w
        → HasNo (one_octet_step has) (chars text)
    refused text w t utf8 is failed h =
        λ v spelt. not_spelled text v utf8 (λ a. let e : true ≡ false = sym (h.1 (subst (IsOfSet (one_octet_step has)) (sym is) a)) ∙ failed in absurd cc) spelt

-- ---- IA5String

ia5_at : (w : List ℕ) → IsAscii w → AllHave is_ia5 w
ia5_at [] h = tt
ia5_at (b ∷ w) h = (let low : b < 128 = h 0 in grind (arith, nat_tests), ia5_at w (λ i. h (suc i)))

pub ia5_from_ascii : (w : List ℕ) → IsAscii w → IsOfSet (one_octet_step is_ia5) w
ia5_from_ascii w h = (accepts_all is_ia5 w).1 (ia5_at w h)

pub ascii_from_ia5 : (w : List ℕ) → IsOfSet (one_octet_step is_ia5) w → IsAscii w
ascii_from_ia5 w a = all_ascii is_ia5 ia5_ascii w ((accepts_all is_ia5 w).0 a)

not_high : (w : List ℕ) → IsNotAscii w → IsAscii w → ⊥
not_high w (i, high) low = let l = low i in absurd (omega arith)

pub ascii_told : (w : List ℕ) (t : Bool) → MatchBool t (IsAscii w) (IsNotAscii w) → IsTrue t ↔ IsOfSet (one_octet_step is_ia5) w
ascii_told w true h = (λ _. ia5_from_ascii w h, λ _. refl)
ascii_told w false h = (λ e. let x : false ≡ true = e in absurd cc, λ a. absurd (not_high w h (ascii_from_ia5 w a)))
