-- What octets spell is told by the octets.
use Rattle.std.proofs.Common.{◌≡◌, ◌≤◌, ℕ, zero, suc, List, [], ◌∷◌, ◌++◌, length, ◌&&◌, true, Option, Some, None, refl, ap, sym}
use Rattle.std.proofs.Common.{◌∙◌, arith, length-append, append-nil, subst, encode_utf8, encode_utf8_all, Bor}
use Rattle.std.specs.Prelude.{Result, Ok, Err, IfSome, MatchOption}
use Rattle.std.proofs.lemmas.List.{nil_from_length}
use Rattle.std.proofs.lemmas.Str.{encodes-append, encodes-chars, chars-nil, chars-encodes, chars_past_char}
use Rattle.std.specs.Str.{IsUtf8, chars, all_scalars}
use Rattle.std.specs.Iterator.{YieldsFirst, MakesProgress, item_count}
use Rattle.bcder.specs.declared.string.restricted.char_set.CharSetError.{CharSetError}
use Rattle.bcder.specs.x690.CharSet.{Front, Step, IsStep, Spells, IsOfSet}
use Rattle.bcder.specs.calls.RestrictedString.{NextChar, characters_left}
use Rattle.bcder.specs.x690.TextSets.{AreTexts}
use Rattle.bcder.specs.x690.Characters.{and_behind, characters_within, characters}

some_front : (x y : Front) → ◌≡◌ {A = Option Front} (Some x) (Some y) → x ≡ y
some_front x y e = cc

module _ (step : Step) (lawful : IsStep step) where
  -- none stands where no octet does
  pub no_front : (x : Front) → step [] ≡ Some x → ⊥
  no_front x e = (let t = lawful.takes [] x e in omega (arith, ap length t.2, length-append (t.0 ∷ t.1) x.rest))

  pub shorter : (w : List ℕ) (x : Front) → step w ≡ Some x → suc (length x.rest) ≤ length w
  shorter w x e = (let t = lawful.takes w x e in omega (arith, ap length t.2, length-append (t.0 ∷ t.1) x.rest))

  none_within : (w : List ℕ) (x : Front) → step w ≡ Some x → length w ≤ 0 → ⊥
  none_within w x e l = omega (arith, shorter w x e, l)

  none_at_end : (behind : List ℕ → List ℕ) (o : Option Front) → step [] ≡ o → and_behind behind o ≡ []
  none_at_end behind None e = refl
  none_at_end behind (Some x) e = absurd (no_front x e)

  spelled_within : (n : ℕ) (w cs : List ℕ) → length w ≤ n → Spells step w cs → characters_within step n w ≡ cs
  spelled_within zero w [] l s = refl
  spelled_within (suc n) w [] l s = subst (λ v. characters_within step (suc n) v ≡ []) (sym s) (none_at_end (characters_within step n) (step []) refl)
  spelled_within zero w (c ∷ cs) l s = absurd (none_within w _ s.1 l)
  spelled_within (suc n) w (c ∷ cs) l s =
      let h = shorter w _ s.1 in
      ap (and_behind (characters_within step n)) s.1 ∙ ap (λ z. c ∷ z) (spelled_within n s.0 cs (omega (arith, h, l)) s.2)

  pub characters_spelled : (w cs : List ℕ) → Spells step w cs → characters step w ≡ cs
  unfolding characters
  characters_spelled w cs s = spelled_within (length w) w cs (omega arith) s

  pub spells_characters : (w : List ℕ) → IsOfSet step w → Spells step w (characters step w)
  spells_characters w a = subst (Spells step w) (sym (characters_spelled w a.0 a.1)) a.1

  -- ---- one character after the other

  one_front : (w : List ℕ) (x y : Front) → step w ≡ Some x → step w ≡ Some y → x ≡ y
  one_front w x y e f = some_front x y (sym e ∙ f)

  spelled_after : (w : List ℕ) (x : Front) (d : ℕ) (cs : List ℕ) → step w ≡ Some x → Spells step w (d ∷ cs) → (d ≡ x.char) × Spells step x.rest cs
  spelled_after w x d cs e s =
      let same = one_front w (record { char = d; rest = s.0 }) x s.1 e in
      (ap (λ z. z.char) same, subst (λ z. Spells step z.rest cs) same s.2)

  spelled_behind : (w r : List ℕ) (c : ℕ) (cs : List ℕ) → step w ≡ Some (record { char = c; rest = r }) → Spells step w cs
      → (ds : List ℕ) × (cs ≡ c ∷ ds) × Spells step r ds
  spelled_behind w r c [] e s = absurd (no_front _ (ap step (sym s) ∙ e))
  spelled_behind w r c (d ∷ cs) e s = (let h = spelled_after w _ d cs e s in (cs, ap (λ z. z ∷ cs) h.0, h.1))

  pub accepts_behind : (w r : List ℕ) (c : ℕ) → step w ≡ Some (record { char = c; rest = r }) → IsOfSet step w → IsOfSet step r
  accepts_behind w r c e a = (let h = spelled_behind w r c a.0 e a.1 in (h.0, h.2))

  -- a character in front, and those behind it
  pub characters_behind : (w r : List ℕ) (c : ℕ) → step w ≡ Some (record { char = c; rest = r }) → IsOfSet step w → characters step w ≡ c ∷ characters step r
  characters_behind w r c e a =
      let h = spelled_behind w r c a.0 e a.1 in
      characters_spelled w a.0 a.1 ∙ h.1 ∙ ap (λ z. c ∷ z) (sym (characters_spelled r h.0 h.2))

  -- where none stands in front, octets that are accepted have ended
  pub none_behind : (w : List ℕ) → step w ≡ None → IsOfSet step w → w ≡ []
  none_behind w e a = at a.0 a.1
    where
      at : (cs : List ℕ) → Spells step w cs → w ≡ []
      at [] s = s
      at (c ∷ cs) s = (let x : ◌≡◌ {A = Option Front} None (Some (record { char = c; rest = s.0 })) = sym e ∙ s.1 in cc)

  -- ---- the next one

  pub accepts_next : (w r : List ℕ) (o : Result (Option ℕ) CharSetError) → NextChar step w o r → IsOfSet step w → IsOfSet step r
  accepts_next w r (Ok None) n a = ([], n.1)
  accepts_next w r (Ok (Some c)) n a = accepts_behind w r c n a
  accepts_next w r (Err e) n a = absurd (n.0 (none_behind w n.1 a))

  pub yields_next : (w r : List ℕ) (o : Option ℕ) → NextChar step w (Ok o) r → IsOfSet step w
      → YieldsFirst (λ (cs : List ℕ). cs) (characters step w) o (characters step r)
  yields_next w r None n a = (characters_spelled w [] n.0, characters_spelled r [] n.1)
  yields_next w r (Some c) n a = characters_behind w r c n a

  pub never_refused : (w r : List ℕ) (e : CharSetError) → NextChar step w (Err e) r → IsOfSet step w → ⊥
  never_refused w r e n a = n.0 (none_behind w n.1 a)

  -- ---- of a text, or of octets

  are_scalars : (w cs : List ℕ) → Spells step w cs → all_scalars cs ≡ true
  are_scalars w [] s = refl
  are_scalars w (c ∷ cs) s =
      let scalar = lawful.scalar w _ s.1 in
      let scalars = are_scalars s.0 cs s.2 in
      λ i. scalar i && scalars i

  pub spells_left : (w : List ℕ) (text : Option (Bor (List ℕ))) → IsOfSet step w → IfSome text (λ t. t.now ≡ encode_utf8_all (characters step w))
      → Spells step w (characters_left step text w)
  spells_left w None a e = spells_characters w a
  spells_left w (Some t) a e =
      let own = ap chars e ∙ chars-encodes (characters step w) (are_scalars w (characters step w) (spells_characters w a)) in
      subst (Spells step w) (sym own) (spells_characters w a)

-- a text's next character, or its end
yields_chars : {C : Type 0} (rest : C → List ℕ) (s t : C) (o : Option ℕ) → IsUtf8 (rest s) → MatchOption o ((length (rest s) ≡ 0) × (t ≡ s))
    (λ c. rest s ≡ encode_utf8 c ++ rest t) → YieldsFirst (λ (cs : List ℕ). cs) (chars (rest s)) o (chars (rest t))
yields_chars rest s t (Some c) is e = chars_past_char (rest s) (rest t) c is e
yields_chars rest s t None is e =
    let none : chars (rest s) ≡ [] = ap chars (nil_from_length (rest s) e.0) ∙ chars-nil in
    (none, ap (λ x. chars (rest x)) e.1 ∙ none)

module _ (step : Step) where
  -- of a text that is at hand
  pub yields_text : {C : Type 0} (rest : C → List ℕ) (s t : C) (text : Option (Bor (List ℕ))) (b : Bor (List ℕ)) (v w u : List ℕ) (o : Option ℕ)
      → ◌≡◌ {A = Option (Bor (List ℕ))} text (Some b) → IfSome text (λ x. IsUtf8 x.now) → characters_left step text w ≡ v → rest s ≡ b.now → u ≡ rest t
      → MatchOption o ((length (rest s) ≡ 0) × (t ≡ s)) (λ c. rest s ≡ encode_utf8 c ++ rest t) → YieldsFirst (λ (cs : List ℕ). cs) v o (chars u)
  yields_text rest s t text b v w u o some is left begins ends e =
      let utf8 : IsUtf8 b.now = subst (λ (x : Option (Bor (List ℕ))). IfSome x (λ y. IsUtf8 y.now)) some is in
      let all : chars (rest s) ≡ v = ap chars begins ∙ ap (λ (x : Option (Bor (List ℕ))). characters_left step x w) (sym some) ∙ left in
      let y = yields_chars rest s t o (subst IsUtf8 (sym begins) utf8) e in
      subst (λ cs. YieldsFirst (λ (cs : List ℕ). cs) cs o (chars u)) all
      (subst (λ x. YieldsFirst (λ (cs : List ℕ). cs) (chars (rest s)) o (chars x)) (sym ends) y)

  -- of octets
  pub yields_octets : (text : Option (Bor (List ℕ))) (v w r : List ℕ) (o : Option ℕ) → ◌≡◌ {A = Option (Bor (List ℕ))} text None → characters_left step text w
      ≡ v → YieldsFirst (λ (cs : List ℕ). cs) (characters step w) o (characters step r) → YieldsFirst (λ (cs : List ℕ). cs) v o (characters_left step text r)
  yields_octets None v w r o none left y = subst (λ cs. YieldsFirst (λ (cs : List ℕ). cs) cs o (characters step r)) left y
  yields_octets (Some t) v w r o none left y = (let x : ◌≡◌ {A = Option (Bor (List ℕ))} (Some t) None = none in cc)

-- ---- octets that are text as they stand

module _ (step : Step) (lawful : IsStep step) (texts : AreTexts step) where
  pub text_accepted : (w : List ℕ) → IsOfSet step w → IsUtf8 w
  text_accepted w a = (texts w a.0 a.1).0

  shown_as : (w : List ℕ) → IsOfSet step w → w ≡ encode_utf8_all (characters step w)
  shown_as w a =
      let t = texts w a.0 a.1 in
      sym (encodes-chars w t.0) ∙ ap encode_utf8_all (t.1 ∙ sym (characters_spelled step lawful w a.0 a.1))

  -- lent as they are, they are their characters' text
  pub text_lent : (w : List ℕ) (o : Option (Bor (List ℕ))) → IsOfSet step w → IfSome o (λ t. t.now ≡ w)
      → IfSome o (λ t. t.now ≡ encode_utf8_all (characters step w))
  text_lent w None a e = tt
  text_lent w (Some t) a e = e ∙ shown_as w a

-- a call that gave the first of what was left
pub goes_on : {can : List ℕ → Type 0} → ((cs : List ℕ) → can cs) → (v u : List ℕ) (o : Option ℕ) → YieldsFirst (λ (cs : List ℕ). cs) v o u
    → MakesProgress can (item_count (λ cs. cs)) v o u
goes_on can v u None y = record { on = λ f. tt; keeps = tt; rests = λ f. tt }
goes_on can v u (Some c) y = (let l = ap length y in record { on = λ f. (can u, tt, omega (arith, l)); keeps = can u; rests = λ f. tt })

-- a character more, in UTF-8
pub encoded_behind : (cs : List ℕ) (c : ℕ) → encode_utf8_all (cs ++ c ∷ []) ≡ encode_utf8_all cs ++ encode_utf8 c
encoded_behind cs c = encodes-append cs (c ∷ []) ∙ ap (λ w. encode_utf8_all cs ++ w) (append-nil (encode_utf8 c))
