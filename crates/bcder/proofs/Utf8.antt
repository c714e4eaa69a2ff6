-- UTF-8: octet by octet, and a text in front of others.
use Rattle.std.proofs.Common.{◌≡◌, ◌≢◌, ◌↔◌, ℕ, zero, suc, ◌<◌, ◌≤◌, List, [], ◌∷◌, ◌++◌, length, take, drop, drop_at}
use Rattle.std.proofs.Common.{take_at, Some, None, refl, sym, ap, ◌∙◌, subst, append_assoc, arith}
use Rattle.std.specs.Prelude.{Option, Bool, true, false, if◌then◌else◌, Result, Ok, Err, IsErrAnd, MatchResult}
use Rattle.std.proofs.Math.ListN.{take-append-drop}
use Rattle.std.proofs.lemmas.Bool.{cond-true, cond-false}
use Rattle.std.proofs.lemmas.Bool.Decides.{nat_tests}
use Rattle.std.proofs.lemmas.List.{length-append}
use Rattle.std.proofs.lemmas.Str.{IsUtf8-append, IsUtf8-drop, IsUtf8-from_ascii, IsCharBoundary-from_take, scalars-chars, encodes-chars}
use Rattle.std.specs.Int.{is_in_range}
use Rattle.std.specs.Str.{IsAscii, IsUtf8, chars}
use Rattle.bcder.specs.declared.string.restricted.char_set.CharSetError.{CharSetError}
use Rattle.bcder.specs.x690.CharSet.{Front, Spells, IsOfSet}
use Rattle.bcder.specs.calls.RestrictedString.{NextChar}
use Rattle.bcder.specs.x690.Utf8.{Lead, lead, six_more, read_tails, read_behind, read_led, utf8_step}
use Rattle.bcder.specs.laws.Utf8.{utf8_accepts, encodes_utf8}

abbrev front : ℕ → List ℕ → Front
front c w = record { char = c; rest = w }

same_front : (x y : Front) → Some x ≡ Some y → x ≡ y
same_front x y e = cc

-- ---- octet by octet

-- the octets behind the first, where the second is read alone
abbrev Second : ℕ → ℕ → ℕ → List ℕ → Option Front
Second bits low high w = read_behind (record { bits = bits; low = low; high = high; tails = 0 }) w

pub behind_second : (bits low high n : ℕ) (w : List ℕ) (c : ℕ) (u : List ℕ) → Second bits low high w ≡ Some (record { char = c; rest = u })
    → read_behind (record { bits = bits; low = low; high = high; tails = n }) w ≡ read_tails n c u
behind_second bits low high n [] c u e = absurd cc
behind_second bits low high n (b ∷ w) c u e = by (is_in_range low high b) refl e
  where
    by : (t : Bool) → is_in_range low high b ≡ t → (if t then Some (front (six_more bits b) w) else None) ≡ Some (record { char = c; rest = u })
        → (if is_in_range low high b then read_tails n (six_more bits b) w else None) ≡ read_tails n c u
    by true is e = cond-true _ _ _ is ∙ ap (λ (x : Front). read_tails n x.char x.rest) (same_front _ _ e)
    by false is e = absurd cc

no_tail : (n c : ℕ) (u : List ℕ) → Second c 0x80 0xBF u ≡ None → read_tails (suc n) c u ≡ None
no_tail n c [] e = refl
no_tail n c (b ∷ u) e = by (is_in_range 0x80 0xBF b) refl e
  where
    by : (t : Bool) → is_in_range 0x80 0xBF b ≡ t → (if t then Some (front (six_more c b) u) else None) ≡ None → read_tails (suc n) c (b ∷ u) ≡ None
    by true is e = absurd cc
    by false is e = cond-false _ _ _ is

behind_none : (bits low high n : ℕ) (w : List ℕ) (c : ℕ) (u : List ℕ) → n ≢ 0 → Second bits low high w ≡ Some (record { char = c; rest = u })
    → Second c 0x80 0xBF u ≡ None
    → read_behind (record { bits = bits; low = low; high = high; tails = n }) w ≡ None
behind_none bits low high zero w c u some e none = absurd (some refl)
behind_none bits low high (suc n) w c u some e none = behind_second bits low high (suc n) w c u e ∙ no_tail n c u none

pub behind_refused : {A E : Type 0} (r : Result A E) (e : E) (P : A → Type 0) (bits low high n : ℕ) (w : List ℕ) (c : ℕ) (u : List ℕ)
    → IsErrAnd r (λ x. x ≡ e) → n ≢ 0
    → Second bits low high w ≡ Some (record { char = c; rest = u }) → Second c 0x80 0xBF u ≡ None
    → MatchResult r P (λ _. read_behind (record { bits = bits; low = low; high = high; tails = n }) w ≡ None)
behind_refused (Ok a) e P bits low high n w c u is some h none = absurd is
behind_refused (Err x) e P bits low high n w c u is some h none = behind_none bits low high n w c u some h none

-- ---- from the first octet on

pub of_one : (a : ℕ) (w rest : List ℕ) → w ≡ a ∷ rest → a < 128 → utf8_step w ≡ Some (record { char = a; rest = rest })
unfolding utf8_step
of_one a w rest e h = let t : is_in_range 0x00 0x7F a ≡ true = grind (arith, nat_tests) in ap utf8_step e ∙ cond-true _ _ _ t

of_more : (a : ℕ) (rest : List ℕ) (o : Option Lead) → 128 ≤ a → lead a ≡ o → utf8_step (a ∷ rest) ≡ read_led o rest
unfolding utf8_step
of_more a rest o h is = let t : is_in_range 0x00 0x7F a ≡ false = grind (arith, nat_tests) in cond-false _ _ _ t ∙ ap (λ l. read_led l rest) is

pub of_none : (a : ℕ) (w rest : List ℕ) → w ≡ a ∷ rest → 128 ≤ a → lead a ≡ None → (w ≢ []) × (utf8_step w ≡ None)
of_none a w rest e h is = (λ n. let x : a ∷ rest ≡ [] = sym e ∙ n in absurd cc, ap utf8_step e ∙ of_more a rest None h is)

pub of_several : (a : ℕ) (w rest u : List ℕ) (l : Lead) (c d : ℕ) → w ≡ a ∷ rest → 128 ≤ a → lead a ≡ Some l
    → read_behind l rest ≡ Some (record { char = c; rest = u }) → d ≡ c
    → utf8_step w ≡ Some (record { char = d; rest = u })
of_several a w rest u l c d e h is read same = ap utf8_step e ∙ of_more a rest (Some l) h is ∙ read ∙ (λ i. Some (record { char = sym same i; rest = u }))

pub of_refused : (r : Result (Option ℕ) CharSetError) (x : CharSetError) (a : ℕ) (w rest u : List ℕ) (l : Lead) → IsErrAnd r (λ y. y ≡ x) → w ≡ a ∷ rest
    → 128 ≤ a → lead a ≡ Some l
    → read_behind l rest ≡ None → NextChar utf8_step w r u
of_refused (Ok o) x a w rest u l err e h is none = absurd err
of_refused (Err y) x a w rest u l err e h is none =
    (λ n. let z : a ∷ rest ≡ [] = sym e ∙ n in absurd cc, ap utf8_step e ∙ of_more a rest (Some l) h is ∙ none)

-- ---- texts

pub text_spelled : (text w : List ℕ) → IsUtf8 text → w ≡ text → Spells utf8_step w (chars text)
text_spelled text w u e = encodes_utf8 (chars text) w (scalars-chars text u) (encodes-chars text u ∙ sym e)

pub not_text : (w : List ℕ) → ¬ (IsUtf8 w) → IsOfSet utf8_step w → ⊥
not_text w h a = h ((utf8_accepts w).0 a)

pub a_text : (w : List ℕ) → IsUtf8 w → IsOfSet utf8_step w
a_text w = (utf8_accepts w).1

pub ascii_text : (w : List ℕ) → IsAscii w → IsUtf8 w
ascii_text w = IsUtf8-from_ascii w

-- behind a text, the rest is one where all is
behind_text : (v w : List ℕ) → IsUtf8 v → IsUtf8 (v ++ w) → IsUtf8 w
behind_text v w u all =
    let same : drop (length v) (v ++ w) ≡ w = drop_at v w (length v) refl in
    let front : take (length v) (v ++ w) ≡ v = take_at v w (length v) refl in
    let within : length v ≤ length (v ++ w) = simp length-append (omega arith) in
    subst IsUtf8 same (IsUtf8-drop (v ++ w) (length v) all (IsCharBoundary-from_take (v ++ w) (length v) all within (subst IsUtf8 (sym front) u)))

pub text_passed : (all part more rest : List ℕ) (n : ℕ) → IsUtf8 (take n part) → rest ≡ drop n part ++ more
    → IsOfSet utf8_step all ↔ IsOfSet utf8_step (part ++ more) → IsOfSet utf8_step all ↔ IsOfSet utf8_step rest
text_passed all part more rest n u e k =
    let split : part ++ more ≡ take n part ++ rest =
    ap (λ v. v ++ more) (sym (take-append-drop n part)) ∙ append_assoc (take n part) (drop n part) more ∙ ap (λ v. take n part ++ v) (sym e) in (
      λ a. a_text rest (behind_text (take n part) rest u (subst IsUtf8 split ((utf8_accepts (part ++ more)).0 (k.0 a)))),
      λ a. k.1 (a_text (part ++ more) (subst IsUtf8 (sym split) (IsUtf8-append (take n part) rest u ((utf8_accepts rest).0 a)))),
    )
