-- Components in decimal, and identifiers that are read from them.
use Rattle.std.proofs.Common.{◌≡◌, ◌≢◌, ℕ, suc, ◌+◌, ◌-◌, ◌*◌, ◌^◌, ◌<◌, List, [], ◌∷◌, ◌++◌, get_or, map, refl, ap}
use Rattle.std.proofs.Common.{sym, ◌∙◌, arith, append_assoc, append-nil, subst, inl, inr}
use Rattle.std.specs.Prelude.{decimal, All}
use Rattle.std.proofs.lemmas.Bool.{cases_lt, lt-ltb, le-ltb}
use Rattle.std.proofs.lemmas.Fmt.{decimal_is_IsNumeral}
use Rattle.std.proofs.lemmas.Str.Parse.{digit_at, without_leading_plus_none}
use Rattle.bcder.specs.x690.Identifier.{AreOctets}
use Rattle.bcder.specs.x690.ObjectIdentifier.{subidentifier_number, cut_after, subidentifiers, IsWhole}
use Rattle.bcder.specs.x690.ObjectIdentifier.{AreSubidentifiers, IsComplete, components_of, components}
use Rattle.bcder.specs.calls.Identifiers.{shown, dotted, text_of, between_dots, IsComponentText, AreComponentTexts, MayBegin, IsTextOf, ReadsParts}
use Rattle.bcder.specs.steps.Pushed.{AreMarked}
use Rattle.bcder.proofs.Texts.{HasNoDot, split_dot, split_none}
use Rattle.bcder.proofs.Digits.{whole-push, marked-push}

-- ---- complete octets are subidentifiers, one after the other

AreCut : List (List ℕ) → List ℕ → Type 0
AreCut [] w = w ≡ []
AreCut (v ∷ vs) w = (x : List ℕ) × IsWhole v × AreCut vs x × (w ≡ v ++ x)

rest_octets : (b : ℕ) (w : List ℕ) → AreOctets (b ∷ w) → AreOctets w
rest_octets b w o i = o (suc i)

cut_complete : (front w : List ℕ) → AreMarked front → AreOctets w → IsComplete w → AreCut (cut_after front w) (front ++ w)
unfolding AreCut
cut_complete front [] m o h = absurd h
cut_complete front (b ∷ []) m o h = rw (lt-ltb b 0x80 h) ([], whole-push front b m h, refl, sym (append-nil (front ++ b ∷ [])))
cut_complete front (b ∷ c ∷ w) m o h =
    elim (cases_lt b 0x80) [
      | inl lt ↦ rw (lt-ltb b 0x80 lt)
          (c ∷ w, whole-push front b m lt, cut_complete [] (c ∷ w) tt (rest_octets b (c ∷ w) o) h, sym (append_assoc front (b ∷ []) (c ∷ w)))
      | inr le ↦ rw (le-ltb b 0x80 le) (subst (λ l. AreCut (cut_after (front ++ b ∷ []) (c ∷ w)) l) (append_assoc front (b ∷ []) (c ∷ w))
          (cut_complete (front ++ b ∷ []) (c ∷ w) (marked-push front b m le (o 0)) (rest_octets b (c ∷ w) o) h))
    ]

cut_subidentifiers : (vs : List (List ℕ)) (w : List ℕ) → AreCut vs w → All (λ v. get_or v 0 0 ≢ 0x80) vs → AreSubidentifiers (map subidentifier_number vs) w
unfolding AreCut
cut_subidentifiers [] w e f = e
cut_subidentifiers (v ∷ vs) w (x, p, h, e) f =
    (v, x, record { whole = p; value = refl; fewest = f 0 [] (omega arith) }, cut_subidentifiers vs x h (λ k d l. f (suc k) d (omega arith)), e)

-- ---- numbers in decimal

-- a number in decimal is a component, and has no dot
component_text : (n : ℕ) → n < 2 ^ 32 → IsComponentText (shown n) n × HasNoDot (shown n)
component_text n h =
    let (numeral, value) = decimal_is_IsNumeral n (omega arith) in
    let first = digit_at (decimal n) 0 numeral.1 numeral.0 in
    let same = without_leading_plus_none (decimal n) (let lo = first.0 in λ e. omega arith) in
    rw (lt-ltb n (2 ^ 32) h) (
      record { numeral = rw same numeral; value = rw same value; fits = h },
      λ i l. let d = digit_at (decimal n) i numeral.1 l in
          let lo = d.0 in λ e. omega arith,
    )

AreWithoutDot : List (List ℕ) → Type 0
AreWithoutDot [] = Unit {0}
AreWithoutDot (t ∷ ts) = HasNoDot t × AreWithoutDot ts

component_texts : (ns : List ℕ) → All (λ n. n < 2 ^ 32) ns → AreComponentTexts (map shown ns) ns × AreWithoutDot (map shown ns)
unfolding AreWithoutDot
component_texts [] f = (tt, tt)
component_texts (n ∷ ns) f =
    let h = component_text n (f 0 0 (omega arith)) in
    let r = component_texts ns (λ k d l. f (suc k) d (omega arith)) in
    ((h.0, r.0), (h.1, r.1))

-- texts that were joined are told apart again
split_dotted : (t : List ℕ) (ts : List (List ℕ)) → HasNoDot t → AreWithoutDot ts → between_dots (dotted (t ∷ ts)) ≡ t ∷ ts
unfolding AreWithoutDot
split_dotted t [] h f = ap between_dots (append-nil t) ∙ split_none [] t h
split_dotted t (u ∷ ts) h (k, f) = split_dot [] t (dotted (u ∷ ts)) h ∙ ap (λ l. t ∷ l) (split_dotted u ts k f)

-- ---- an identifier is read from its text

-- the components that the first subidentifier holds
record Begins (s : ℕ) (ss : List ℕ) : Type 0 where
  first : ℕ
  second : ℕ
  holds : components_of (s ∷ ss) ≡ first ∷ second ∷ ss
  may_begin : MayBegin first second
  again : 40 * first + second ≡ s

begins : (s : ℕ) (ss : List ℕ) → Begins s ss
begins s ss =
    elim (cases_lt s 40) [
      | inl lt ↦
          record { first = 0; second = s; holds = rw (lt-ltb s 40 lt) refl; may_begin = record { first = omega arith; second = λ h. lt }; again = omega arith }
      | inr le ↦ elim (cases_lt s 80) [
        | inl lt ↦ record {
          first = 1;
          second = s - 40;
          holds = rw (le-ltb s 40 le, lt-ltb s 80 lt) refl;
          may_begin = record { first = omega arith; second = λ h. omega arith };
          again = omega arith;
        }
        | inr more ↦ record {
          first = 2;
          second = s - 80;
          holds = rw (le-ltb s 40 le, le-ltb s 80 more) refl;
          may_begin = record { first = omega arith; second = λ h. omega arith };
          again = omega arith;
        }
      ]
    ]

read_again : (m n : ℕ) (ns w : List ℕ) → MayBegin m n → AreSubidentifiers ((40 * m + n) ∷ ns) w → All (λ k. k < 2 ^ 32) (m ∷ n ∷ ns)
    → ReadsParts (between_dots (dotted (map shown (m ∷ n ∷ ns)))) w
unfolding AreWithoutDot
read_again m n ns w b s f =
    let (texts, dots) = component_texts (m ∷ n ∷ ns) f in
    rw (split_dotted (shown m) (map shown (n ∷ ns)) dots.0 dots.1)
    (record { first = m; second = n; others = ns; first_text = texts.0; second_text = texts.1.0; other_texts = texts.1.1; may_begin = b; octets = s })

read_subidentifiers : (ss w : List ℕ) → IsComplete w → AreSubidentifiers ss w → All (λ n. n < 2 ^ 32) (components_of ss)
    → IsTextOf (dotted (map shown (components_of ss))) w
read_subidentifiers [] w c e f = absurd (rw e at c)
read_subidentifiers (s ∷ ss) w c e f =
    let b = begins s ss in
    let g : All (λ k. k < 2 ^ 32) (b.first ∷ b.second ∷ ss) = rw b.holds at f in
    rw b.holds (read_again b.first b.second ss w b.may_begin (rw b.again e) g)

pub read_back : (w : List ℕ) → AreOctets w → IsComplete w → All (λ v. get_or v 0 0 ≢ 0x80) (subidentifiers w) → All (λ n. n < 2 ^ 32) (components w)
    → IsTextOf (text_of w) w
read_back w o c f g =
    read_subidentifiers (map subidentifier_number (subidentifiers w)) w c (cut_subidentifiers (subidentifiers w) w (cut_complete [] w tt o c) f) g
