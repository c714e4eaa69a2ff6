-- Octets of characters, one after the other.
use Rattle.std.proofs.Common.{◌≡◌, ◌↔◌, ℕ, zero, suc, ◌+◌, ◌*◌, ◌/◌, ◌%◌, ◌<◌, List, [], ◌∷◌, ◌++◌, length, get_or, Bool, true, false, refl, sym, ap, ◌∙◌}
use Rattle.std.proofs.Common.{subst, arith, Some, None, ◌≤◌, take}
use Rattle.std.proofs.Math.Seq.{take-length}
use Rattle.std.specs.List.{list_all}
use Rattle.std.specs.Prelude.{IsTrue, MatchBool}
use Rattle.std.proofs.lemmas.List.{append_assoc}
use Rattle.std.proofs.lemmas.Bool.{and_parts, and_from}
use Rattle.std.proofs.lemmas.Bool.Decides.{nat_tests}
use Rattle.std.proofs.lemmas.Str.{encodes-chars, encodes-IsAscii, scalars-chars, IsUtf8-from_ascii}
use Rattle.std.specs.Char.{IsScalar}
use Rattle.std.specs.Str.{IsUtf8, IsAscii, IsNotAscii, chars, encode_utf8_all, all_scalars}
use Rattle.bcder.specs.x690.AsciiSets.{one_octet_step}
use Rattle.bcder.specs.x690.CharSet.{Front, Step, Spells, IsOfSet, HasNo}
use Rattle.bcder.specs.laws.CharSets.{AllHave, self_spelled, spells_text, all_ascii}
use Rattle.asn1.specs.CharacterSets.{is_cell, cell_octets, cell_step, is_code_point, number_of_four, code_point_octets, code_point_step, each_octets}
use Rattle.asn1.specs.CharacterLaws.{cell_read}

-- ---- characters that have their number in a set, each as its octets

module _ (has : ℕ → Bool) where
  pub have_push : (cs : List ℕ) (c : ℕ) → AllHave has cs → has c ≡ true → AllHave has (cs ++ c ∷ [])
  have_push [] c h t = (t, tt)
  have_push (b ∷ cs) c h t = (h.0, have_push cs c h.1 t)

  pub have_at : (cs : List ℕ) (i d : ℕ) → i < length cs → AllHave has cs → has (get_or cs i d) ≡ true
  have_at [] i d l h = absurd (omega (arith, l))
  have_at (b ∷ cs) zero d l h = h.0
  have_at (b ∷ cs) (suc i) d l h = have_at cs i d (omega (arith, l)) h.1

module _ (octets : ℕ → List ℕ) where
  pub each_push : (cs : List ℕ) (c : ℕ) → each_octets octets (cs ++ c ∷ []) ≡ each_octets octets cs ++ octets c
  each_push [] c = append-nil-of (octets c)
    where
      append-nil-of : (w : List ℕ) → w ++ [] ≡ w
      append-nil-of [] = refl
      append-nil-of (b ∷ w) = ap (λ v. b ∷ v) (append-nil-of w)
  each_push (b ∷ cs) c = ap (λ w. octets b ++ w) (each_push cs c) ∙ sym (append_assoc (octets b) (each_octets octets cs) (octets c))

module _ (has : ℕ → Bool) (octets : ℕ → List ℕ) (step : Step)
    (reads : (c : ℕ) (w : List ℕ) → has c ≡ true → step (octets c ++ w) ≡ Some (record { char = c; rest = w })) where
  pub each_spelled : (cs : List ℕ) → AllHave has cs → Spells step (each_octets octets cs) cs
  each_spelled [] h = refl
  each_spelled (c ∷ cs) h = (each_octets octets cs, reads c (each_octets octets cs) h.0, each_spelled cs h.1)

module _ (has : ℕ → Bool) (step : Step) (read : (w : List ℕ) (x : Front) → step w ≡ Some x → has x.char ≡ true) where
  -- what is spelled is in the set
  pub spelled_have : (cs w : List ℕ) → Spells step w cs → AllHave has cs
  spelled_have [] w s = tt
  spelled_have (c ∷ cs) w s = (read w _ s.1, spelled_have cs s.0 s.2)

-- ---- one octet each

module _ (has : ℕ → Bool) where
  spells_self : (w : List ℕ) → AllHave has w → Spells (one_octet_step has) w w
  spells_self [] h = refl
  spells_self (b ∷ w) h = (w, rw h.0, spells_self w h.1)

  have_all : (w : List ℕ) → list_all has w ≡ true → AllHave has w
  have_all [] e = tt
  have_all (b ∷ w) e = (let p = and_parts _ _ e in (p.0, have_all w p.1))

  all_are : (w : List ℕ) → AllHave has w → list_all has w ≡ true
  all_are [] h = refl
  all_are (b ∷ w) h = and_from _ _ h.0 (all_are w h.1)

  -- octets are of the set if each passes the test
  pub all_told : (w : List ℕ) (n : ℕ) (t : Bool) → n ≡ length w → t ≡ list_all has (take n w) → IsTrue t ↔ IsOfSet (one_octet_step has) w
  all_told w n t e is =
      let all : t ≡ list_all has w = is ∙ ap (list_all has) (ap (λ i. take i w) e ∙ take-length w) in
      (λ h. (w, spells_self w (have_all w (sym all ∙ h))), λ a. all ∙ all_are w (self_spelled has a.0 w a.1).1)

  module _ (ascii : (b : ℕ) → has b ≡ true → b < 128) where
    -- a text of the set is spelled by itself
    pub text_spelled : (text v : List ℕ) → v ≡ text → IsOfSet (one_octet_step has) text → Spells (one_octet_step has) v (chars text)
    text_spelled text v e a =
        subst (λ (u : List ℕ). Spells (one_octet_step has) u (chars text)) (sym e)
        (subst (Spells (one_octet_step has) text) (sym (spells_text has ascii a.0 text a.1).1) a.1)

    -- any other is spelled by none
    pub text_not_spelled : (text : List ℕ) → IsUtf8 text → (IsOfSet (one_octet_step has) text → ⊥) → HasNo (one_octet_step has) (chars text)
    text_not_spelled text utf8 not w s =
        let t = self_spelled has (chars text) w s in
        let own : text ≡ w = sym (encodes-chars text utf8) ∙ ap encode_utf8_all t.0 ∙ encodes-IsAscii w (all_ascii has ascii w t.1) in
        not (subst (IsOfSet (one_octet_step has)) (sym own) (chars text, s))

    -- by a test of its octets
    pub text_of_set : (text w v : List ℕ) (t : Bool) → w ≡ text → v ≡ text → t ≡ true → IsTrue t ↔ IsOfSet (one_octet_step has) w
        → Spells (one_octet_step has) v (chars text)
    text_of_set text w v t e f p h = text_spelled text v f (subst (IsOfSet (one_octet_step has)) e (h.0 p))

    pub text_not_of_set : (text w : List ℕ) (t : Bool) → IsUtf8 text → w ≡ text → t ≡ false → IsTrue t ↔ IsOfSet (one_octet_step has) w
        → HasNo (one_octet_step has) (chars text)
    text_not_of_set text w t utf8 e p h =
        text_not_spelled text utf8 (λ a. let x : true ≡ false = sym (h.1 (subst (IsOfSet (one_octet_step has)) (sym e) a)) ∙ p in cc)

-- ---- two octets each

pub cell_reads : (c : ℕ) (w : List ℕ) → is_cell c ≡ true → cell_step (cell_octets c ++ w) ≡ Some (record { char = c; rest = w })
cell_reads c w h =
    let e : c / 0x100 * 0x100 + c % 0x100 ≡ c = omega arith in
    subst (λ n. cell_step (cell_octets c ++ w) ≡ Some (record { char = n; rest = w })) e
    (rw (subst (λ n. is_cell n ≡ true) (sym e) h) refl)

pub cell_has : (w : List ℕ) (x : Front) → cell_step w ≡ Some x → is_cell x.char ≡ true
cell_has [] x e = let none : None ≡ Some x = e in absurd cc
cell_has (a ∷ []) x e = let none : None ≡ Some x = e in absurd cc
cell_has (a ∷ b ∷ w) x e = (let t = cell_read a b w x e in subst (λ (y : Front). is_cell y.char ≡ true) t.1 t.0)

pub large_is_no_cell : (c : ℕ) → 0xFFFD < c → is_cell c ≡ true → ⊥
large_is_no_cell c l h = grind (arith, nat_tests)

pub small_is_cell : (c : ℕ) → c ≤ 0xFFFD → IsScalar c → is_cell c ≡ true
small_is_cell c l h = grind (arith, nat_tests)

-- ---- four octets each

pub code_point_reads : (c : ℕ) (w : List ℕ) → is_code_point c ≡ true
    → code_point_step (code_point_octets c ++ w) ≡ Some (record { char = c; rest = w })
code_point_reads c w h =
    let e : number_of_four 0 (c / 0x1_0000) (c / 0x100 % 0x100) (c % 0x100) ≡ c = omega arith in
    subst (λ n. code_point_step (code_point_octets c ++ w) ≡ Some (record { char = n; rest = w })) e
    (rw (subst (λ n. is_code_point n ≡ true) (sym e) h) refl)

pub scalar_is_code_point : (c : ℕ) → IsScalar c → is_code_point c ≡ true
scalar_is_code_point c h = grind (arith, nat_tests)

-- ---- characters of a text

scalar_at : (cs : List ℕ) (i d : ℕ) → i < length cs → all_scalars cs ≡ true → IsScalar (get_or cs i d)
scalar_at [] i d l h = absurd (omega (arith, l))
scalar_at (b ∷ cs) zero d l h = (and_parts _ (all_scalars cs) h).0
scalar_at (b ∷ cs) (suc i) d l h = scalar_at cs i d (omega (arith, l)) (and_parts _ (all_scalars cs) h).1

-- a character that a loop over a text got to is one of Unicode's
pub is_scalar_at : (text : List ℕ) (i c : ℕ) → IsUtf8 text → i < length (chars text) → c ≡ get_or (chars text) i c → IsScalar c
is_scalar_at text i c utf8 l e = subst IsScalar (sym e) (scalar_at (chars text) i c l (scalars-chars text utf8))

-- ASCII is text
pub ascii_text : (w : List ℕ) (t : Bool) → t ≡ true → MatchBool t (IsAscii w) (IsNotAscii w) → IsUtf8 w
ascii_text w true e h = IsUtf8-from_ascii w h
ascii_text w false e h = (let x : false ≡ true = e in absurd cc)
