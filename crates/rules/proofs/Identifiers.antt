-- Subidentifiers in the fewest octets.
use Rattle.std.proofs.Common.{◌≡◌, ◌≢◌, ℕ, zero, suc, ◌-◌, ◌<◌, Bool, true, false, List, [], ◌∷◌, ◌++◌, ◌∙◌, ◌⊎◌}
use Rattle.std.proofs.Common.{length, get_or, refl, sym, ap, subst, inl, inr, arith}
use Rattle.std.specs.Prelude.{⊤, nat_lt}
use Rattle.std.proofs.lemmas.Bool.{cases_lt, lt-ltb, le-ltb}
use Rattle.bcder.specs.x690.ObjectIdentifier.{cut_after, AreFewest, IsComplete, IsMinimal}
use Rattle.rules.specs.Broken.{IsPadded}

-- no subidentifier begins with 80, also not at the first octet if one begins there
abbrev Fine : Bool → List ℕ → Type 0
Fine begins [] = ⊤
Fine begins (b ∷ w) = (begins ≡ true → b ≢ 0x80) × Fine (nat_lt b 0x80) w

-- ---- by the octets' places

record PaddedAt (begins : Bool) (w : List ℕ) (place : ℕ) : Type 0 where
  inside : place < length w
  padding : get_or w place 0 ≡ 0x80
  first : place ≡ 0 → begins ≡ true
  behind : 0 < place → get_or w (place - 1) 0 < 0x80

low : (b : ℕ) → b < 0x80 → nat_lt b 0x80 ≡ true
low b l = lt-ltb b 0x80 l

below : (b : ℕ) → nat_lt b 0x80 ≡ true → b < 0x80
below b e = elim (cases_lt b 0x80) [ inl l ↦ l | inr k ↦ absurd (no (le-ltb b 0x80 k)) ]
  where
    no : nat_lt b 0x80 ≡ false → ⊥
    no f = let x : ◌≡◌ {A = Bool} true false = sym e ∙ f in absurd cc

-- the octet before a place
up : (b : ℕ) (w : List ℕ) (p : ℕ) → get_or (b ∷ w) (suc (suc p) - 1) 0 ≡ get_or w (suc p - 1) 0
up b w p =
    let e : suc (suc p) - 1 ≡ suc p = omega arith in
    let f : suc p - 1 ≡ p = omega arith in
    ap (λ n. get_or (b ∷ w) n 0) e ∙ sym (ap (λ n. get_or w n 0) f)

one_more : (begins : Bool) (b : ℕ) (w : List ℕ) (p : ℕ) → PaddedAt (nat_lt b 0x80) w p → PaddedAt begins (b ∷ w) (suc p)
one_more begins b w zero h = record {
  inside = omega (arith, h.inside);
  padding = h.padding;
  first = λ e. absurd (omega (arith, e));
  behind = λ l. below b (h.first refl);
}
one_more begins b w (suc p) h = record {
  inside = omega (arith, h.inside);
  padding = h.padding;
  first = λ e. absurd (omega (arith, e));
  behind = λ l. rw (up b w p) (h.behind (omega arith));
}

one_less : (begins : Bool) (b : ℕ) (w : List ℕ) (p : ℕ) → PaddedAt begins (b ∷ w) (suc p) → PaddedAt (nat_lt b 0x80) w p
one_less begins b w zero h = record {
  inside = omega (arith, h.inside);
  padding = h.padding;
  first = λ e. low b (h.behind (omega arith));
  behind = λ l. absurd (omega (arith, l));
}
one_less begins b w (suc p) h = record {
  inside = omega (arith, h.inside);
  padding = h.padding;
  first = λ e. absurd (omega (arith, e));
  behind = λ l. rw (← up b w p) (h.behind (omega arith));
}

at_none : (begins : Bool) (w : List ℕ) → ((p : ℕ) → PaddedAt begins w p → ⊥) → Fine begins w
at_none begins [] n = tt
at_none begins (b ∷ w) n = (
  λ e is. n zero (record { inside = omega arith; padding = is; first = λ z. e; behind = λ l. absurd (omega (arith, l)) }),
  at_none (nat_lt b 0x80) w (λ p h. n (suc p) (one_more begins b w p h)),
)

at_one : (begins : Bool) (w : List ℕ) (p : ℕ) → PaddedAt begins w p → Fine begins w → ⊥
at_one begins [] p h f = omega (arith, h.inside)
at_one begins (b ∷ w) zero h f = f.0 (h.first refl) h.padding
at_one begins (b ∷ w) (suc p) h f = at_one (nat_lt b 0x80) w p (one_less begins b w p h) f.1

-- ---- by subidentifiers

-- what is cut behind an octet that ends a subidentifier, and behind another
ended : (front : List ℕ) (b : ℕ) (w : List ℕ) → nat_lt b 0x80 ≡ true → cut_after front (b ∷ w) ≡ (front ++ b ∷ []) ∷ cut_after [] w
ended front b w e = rw e refl

goes_on : (front : List ℕ) (b : ℕ) (w : List ℕ) → nat_lt b 0x80 ≡ false → cut_after front (b ∷ w) ≡ cut_after (front ++ b ∷ []) w
goes_on front b w e = rw e refl

-- whether an octet ends a subidentifier
ends_one : (b : ℕ) → (nat_lt b 0x80 ≡ true) ⊎ (nat_lt b 0x80 ≡ false)
ends_one b = go (nat_lt b 0x80)
  where
    go : (r : Bool) → (r ≡ true) ⊎ (r ≡ false)
    go true = inl refl
    go false = inr refl

mutual
  fewest : (w : List ℕ) → Fine true w → AreFewest (cut_after [] w)
  fewest [] f = tt
  fewest (b ∷ w) f =
      elim (ends_one b) [
        | inl e ↦ subst AreFewest (sym (ended [] b w e)) (f.0 refl, fewest w (subst (λ r. Fine r w) e f.1))
        | inr e ↦ subst AreFewest (sym (goes_on [] b w e)) (fewest_inside b [] w (f.0 refl) (subst (λ r. Fine r w) e f.1))
      ]

  fewest_inside : (a : ℕ) (front w : List ℕ) → a ≢ 0x80 → Fine false w → AreFewest (cut_after (a ∷ front) w)
  fewest_inside a front [] n f = tt
  fewest_inside a front (b ∷ w) n f =
      elim (ends_one b) [
        | inl e ↦ subst AreFewest (sym (ended (a ∷ front) b w e)) (n, fewest w (subst (λ r. Fine r w) e f.1))
        | inr e ↦ subst AreFewest (sym (goes_on (a ∷ front) b w e)) (fewest_inside a (front ++ b ∷ []) w n (subst (λ r. Fine r w) e f.1))
      ]

not_true : ◌≡◌ {A = Bool} false true → ⊥
not_true e = absurd cc

mutual
  fine : (w : List ℕ) → IsComplete w → AreFewest (cut_after [] w) → Fine true w
  fine [] c h = absurd c
  fine (b ∷ []) c h = (λ e is. omega (arith, c, is), tt)
  fine (b ∷ d ∷ w) c h =
      elim (ends_one b) [
        | inl e ↦ (let k = subst AreFewest (ended [] b (d ∷ w) e) h in (λ _. k.0, subst (λ r. Fine r (d ∷ w)) (sym e) (fine (d ∷ w) c k.1)))
        | inr e ↦ (let k = fine_inside b [] (d ∷ w) c (subst AreFewest (goes_on [] b (d ∷ w) e) h) in (λ _. k.0, subst (λ r. Fine r (d ∷ w)) (sym e) k.1))
      ]

  fine_inside : (a : ℕ) (front w : List ℕ) → IsComplete w → AreFewest (cut_after (a ∷ front) w) → (a ≢ 0x80) × Fine false w
  fine_inside a front [] c h = absurd c
  fine_inside a front (b ∷ []) c h =
      let k = subst AreFewest (ended (a ∷ front) b [] (low b c)) h in (k.0, (λ e. absurd (not_true e), tt))
  fine_inside a front (b ∷ d ∷ w) c h =
      elim (ends_one b) [
        | inl e ↦ (let k = subst AreFewest (ended (a ∷ front) b (d ∷ w) e) h in
            (k.0, (λ f. absurd (not_true f), subst (λ r. Fine r (d ∷ w)) (sym e) (fine (d ∷ w) c k.1))))
        | inr e ↦ (let k = fine_inside a (front ++ b ∷ []) (d ∷ w) c (subst AreFewest (goes_on (a ∷ front) b (d ∷ w) e) h) in
            (k.0, (λ f. absurd (not_true f), subst (λ r. Fine r (d ∷ w)) (sym e) k.1)))
      ]

-- ---- both

pub none_padded : (w : List ℕ) → ((p : ℕ) → IsPadded w p → ⊥) → IsMinimal w
none_padded w n = fewest w (at_none true w (λ p h. n p (record { inside = h.inside; padding = h.padding; begins = h.behind })))

pub one_padded : (w : List ℕ) (p : ℕ) → IsPadded w p → IsComplete w → IsMinimal w → ⊥
one_padded w p h c m = at_one true w p (record { inside = h.inside; padding = h.padding; first = λ e. refl; behind = h.begins }) (fine w c m)
