-- UTF-8 by the table of RFC 3629 is UTF-8 as std means it: the encodings of characters.
use Rattle.std.specs.Prelude.{◌≡◌, ◌↔◌, ℕ, suc, ◌+◌, ◌-◌, ◌/◌, ◌%◌, ◌<◌, ◌≤◌, ◌⊎◌, List, [], ◌∷◌, ◌++◌, Bool}
use Rattle.std.specs.Prelude.{true, false, ◌&&◌, if◌then◌else◌, Option, Some, None, refl}
use Rattle.std.proofs.Common.{ap, sym, subst, arith, ◌∙◌, inl, inr, ⊎_elim}
use Rattle.std.proofs.lemmas.Bool.{cond-true, cond-false}
use Rattle.std.proofs.lemmas.Bool.Decides.{nat_tests}
use Rattle.std.proofs.lemmas.Str.{encode_ascii, chars-encodes}
use Rattle.std.specs.Int.{is_in_range}
use Rattle.std.specs.Char.{IsScalar, encode_utf8}
use Rattle.std.specs.Str.{IsUtf8, chars, encode_utf8_all, all_scalars}
use Rattle.bcder.specs.x690.CharSet.{Front, IsStep, Spells, IsOfSet}
use Rattle.bcder.specs.x690.Utf8.{Lead, lead, six_more, read_tails, read_behind, read_led, utf8_step}
use Rattle.bcder.specs.laws.CharSets.{low_scalar}

in_range : (lo hi b : ℕ) → lo ≤ b → b ≤ hi → is_in_range lo hi b ≡ true
in_range lo hi b h k = grind (arith, nat_tests)

above_range : (lo hi b : ℕ) → hi < b → is_in_range lo hi b ≡ false
above_range lo hi b h = grind (arith, nat_tests)

range_is : (lo hi b : ℕ) → is_in_range lo hi b ≡ true → (lo ≤ b) × (b ≤ hi)
range_is lo hi b h = (grind (arith, nat_tests), grind (arith, nat_tests))

-- what comes out of a test has passed it
through : {A : Type 0} (t : Bool) (o : Option A) (x : A) → (if t then o else None) ≡ Some x → (t ≡ true) × (o ≡ Some x)
through true o x e = (refl, e)
through false o x e = absurd cc

high_scalar : (c : ℕ) → 0xE000 ≤ c → c < 0x11_0000 → IsScalar c
high_scalar c l h = grind (arith, nat_tests)

scalar_is : (c : ℕ) → IsScalar c → (c < 0x11_0000) × ((c < 0xD800) ⊎ (0xE000 ≤ c))
scalar_is c s = (grind (arith, nat_tests), grind (arith, nat_tests))

-- ---- characters and their octets

encode_two : (c : ℕ) → 0x80 ≤ c → c < 0x800 → encode_utf8 c ≡ (192 + c / 64) ∷ (128 + c % 64) ∷ []
unfolding encode_utf8
encode_two c low high = grind (arith, nat_tests)

encode_three : (c : ℕ) → 0x800 ≤ c → c < 0x1_0000 → encode_utf8 c ≡ (224 + c / 4096) ∷ (128 + (c / 64) % 64) ∷ (128 + c % 64) ∷ []
unfolding encode_utf8
encode_three c low high = grind (arith, nat_tests)

encode_four : (c : ℕ) → 0x1_0000 ≤ c
    → encode_utf8 c ≡ (240 + c / 262144) ∷ (128 + (c / 4096) % 64) ∷ (128 + (c / 64) % 64) ∷ (128 + c % 64) ∷ []
unfolding encode_utf8
encode_four c low = grind (arith, nat_tests)

-- c is a character, with these octets
abbrev IsOf : ℕ → List ℕ → Type 0
IsOf c w = IsScalar c × (encode_utf8 c ≡ w)

of_two : (a b : ℕ) → 194 ≤ a → a ≤ 223 → 128 ≤ b → b ≤ 191 → IsOf (six_more (a - 192) b) (a ∷ b ∷ [])
of_two a b p q h k =
    let c = six_more (a - 192) b in
    let e0 : 192 + c / 64 ≡ a = omega arith in
    let e1 : 128 + c % 64 ≡ b = omega arith in
    (low_scalar c (omega arith), encode_two c (omega arith) (omega arith) ∙ (λ i. e0 i ∷ e1 i ∷ []))

of_three : (a b d : ℕ) → 224 ≤ a → a ≤ 239 → 128 ≤ b → b ≤ 191 → 128 ≤ d → d ≤ 191 → 32 ≤ six_more (a - 224) b
    → (six_more (a - 224) b < 864) ⊎ (896 ≤ six_more (a - 224) b)
    → IsOf (six_more (six_more (a - 224) b) d) (a ∷ b ∷ d ∷ [])
of_three a b d p q h k f g least s =
    let c = six_more (six_more (a - 224) b) d in
    let e0 : 224 + c / 4096 ≡ a = omega arith in
    let e1 : 128 + (c / 64) % 64 ≡ b = omega arith in
    let e2 : 128 + c % 64 ≡ d = omega arith in (
      ⊎_elim (λ l. low_scalar c (omega arith)) (λ u. high_scalar c (omega arith) (omega arith)) s,
      encode_three c (omega arith) (omega arith) ∙ (λ i. e0 i ∷ e1 i ∷ e2 i ∷ []),
    )

of_four : (a b d x : ℕ) → 240 ≤ a → 128 ≤ b → b ≤ 191 → 128 ≤ d → d ≤ 191 → 128 ≤ x → x ≤ 191 → 16 ≤ six_more (a - 240) b
    → six_more (a - 240) b < 272
    → IsOf (six_more (six_more (six_more (a - 240) b) d) x) (a ∷ b ∷ d ∷ x ∷ [])
of_four a b d x p h k f g m n least most =
    let high = six_more (a - 240) b in
    let mid = six_more high d in
    let c = six_more mid x in
    let to_mid : c / 64 ≡ mid = omega arith in
    let to_high : c / 4096 ≡ high = omega arith in
    let e0 : 240 + c / 262144 ≡ a = omega arith in
    let e1 : 128 + (c / 4096) % 64 ≡ b = omega arith in
    let e2 : 128 + (c / 64) % 64 ≡ d = omega arith in
    let e3 : 128 + c % 64 ≡ x = omega arith in
    (high_scalar c (omega arith) (omega arith), encode_four c (omega arith) ∙ (λ i. e0 i ∷ e1 i ∷ e2 i ∷ e3 i ∷ []))

-- ---- what the table's rows have in common

abbrev LeadForm : ℕ → Lead → Type 0
LeadForm a l =
    ((194 ≤ a) × (a ≤ 223) × (l.bits ≡ a - 192) × (l.low ≡ 128) × (l.high ≡ 191) × (l.tails ≡ 0))
    ⊎ (((224 ≤ a) × (a ≤ 239) × (l.bits ≡ a - 224) × (128 ≤ l.low) × (l.high ≤ 191) × (32 ≤ six_more l.bits l.low)
    × ((six_more l.bits l.high < 864) ⊎ (896 ≤ six_more l.bits l.low)) × (l.tails ≡ 1))
    ⊎ ((240 ≤ a) × (l.bits ≡ a - 240) × (128 ≤ l.low) × (l.high ≤ 191) × (16 ≤ six_more l.bits l.low)
    × (six_more l.bits l.high < 272) × (l.tails ≡ 2)))

row : (lo hi a : ℕ) (this l : Lead) (o : Option Lead) → (if is_in_range lo hi a then Some this else o) ≡ Some l
    → ((lo ≤ a) × (a ≤ hi) × (this ≡ l)) ⊎ (o ≡ Some l)
row lo hi a this l o e = by (is_in_range lo hi a) refl e
  where
    by : (t : Bool) → is_in_range lo hi a ≡ t → (if t then Some this else o) ≡ Some l → ((lo ≤ a) × (a ≤ hi) × (this ≡ l)) ⊎ (o ≡ Some l)
    by true is e = let (p, q) = range_is lo hi a is in inl (p, q, cc)
    by false is e = inr e

pub lead_forms : (a : ℕ) (l : Lead) → lead a ≡ Some l → LeadForm a l
lead_forms a l e =
    ⊎_elim (λ h. at _ h.2 (inl (omega arith, omega arith, refl, refl, refl, refl)))
    (λ e. ⊎_elim
    (λ h. at _ h.2 (inr (inl (omega arith, omega arith, refl, omega arith, omega arith, omega arith, inl (omega arith), refl))))
    (λ e. ⊎_elim
    (λ h. at _ h.2 (inr (inl (omega arith, omega arith, refl, omega arith, omega arith, omega arith, inl (omega arith), refl))))
    (λ e. ⊎_elim
    (λ h. at _ h.2 (inr (inl (omega arith, omega arith, refl, omega arith, omega arith, omega arith, inl (omega arith), refl))))
    (λ e. ⊎_elim
    (λ h. at _ h.2 (inr (inl (omega arith, omega arith, refl, omega arith, omega arith, omega arith, inr (omega arith), refl))))
    (λ e. ⊎_elim (λ h. at _ h.2 (inr (inr (omega arith, refl, omega arith, omega arith, omega arith, omega arith, refl))))
    (λ e. ⊎_elim (λ h. at _ h.2 (inr (inr (omega arith, refl, omega arith, omega arith, omega arith, omega arith, refl))))
    (λ e. ⊎_elim (λ h. at _ h.2 (inr (inr (omega arith, refl, omega arith, omega arith, omega arith, omega arith, refl))))
    (λ none. absurd cc)
    (row 0xF4 0xF4 a _ l _ e))
    (row 0xF1 0xF3 a _ l _ e))
    (row 0xF0 0xF0 a _ l _ e))
    (row 0xEE 0xEF a _ l _ e))
    (row 0xED 0xED a _ l _ e))
    (row 0xE1 0xEC a _ l _ e))
    (row 0xE0 0xE0 a _ l _ e))
    (row 0xC2 0xDF a _ l _ e)
  where
    at : (this : Lead) → this ≡ l → LeadForm a this → LeadForm a l
    at this is f = subst (LeadForm a) is f

-- ---- a step reads the octets of a character

same_front : (x y : Front) → Some x ≡ Some y → x ≡ y
same_front x y e = cc

-- x is a character at the front of w
abbrev Stands : Front → List ℕ → Type 0
Stands x w = IsScalar x.char × (encode_utf8 x.char ++ x.rest ≡ w)

stands : (c : ℕ) (front rest w : List ℕ) (x : Front) → IsOf c front → front ++ rest ≡ w
    → Some (record { char = c; rest = rest }) ≡ Some x → Stands x w
stands c front rest w x of is e = subst (λ (y : Front). Stands y w) (same_front _ _ e) (of.0, ap (λ u. u ++ rest) of.1 ∙ is)

tail_read : (n bits : ℕ) (w : List ℕ) (x : Front) → read_tails (suc n) bits w ≡ Some x
    → (b : ℕ) × (u : List ℕ) × (w ≡ b ∷ u) × ((128 ≤ b) × (b ≤ 191)) × (read_tails n (six_more bits b) u ≡ Some x)
tail_read n bits [] x e = absurd cc
tail_read n bits (b ∷ u) x e = let (t, more) = through _ _ x e in (b, u, refl, range_is 128 191 b t, more)

stands_behind : (a : ℕ) (l : Lead) (w : List ℕ) (x : Front) → LeadForm a l → read_behind l w ≡ Some x → Stands x (a ∷ w)
stands_behind a l [] x f e = absurd cc
stands_behind a l (b ∷ w) x (inl (p, q, bits, low, high, tails)) e =
    let (t, more) = through _ _ x e in
    let (h, k) = range_is l.low l.high b t in
    let read : read_tails 0 (six_more (a - 192) b) w ≡ Some x = subst (λ (n : ℕ). read_tails n (six_more (a - 192) b) w ≡ Some x) tails
    (subst (λ (n : ℕ). read_tails l.tails (six_more n b) w ≡ Some x) bits more) in
    stands _ _ w (a ∷ b ∷ w) x (of_two a b p q (omega arith) (omega arith)) refl read
stands_behind a l (b ∷ w) x (inr (inl (p, q, bits, low, high, least, gap, tails))) e =
    let (t, more) = through _ _ x e in
    let (h, k) = range_is l.low l.high b t in
    let read : read_tails 1 (six_more (a - 224) b) w ≡ Some x = subst (λ (n : ℕ). read_tails n (six_more (a - 224) b) w ≡ Some x) tails
    (subst (λ (n : ℕ). read_tails l.tails (six_more n b) w ≡ Some x) bits more) in
    let (d, u, is, g, last) = tail_read 0 _ w x read in
    let over : 32 ≤ six_more (a - 224) b = omega arith in
    let between : (six_more (a - 224) b < 864) ⊎ (896 ≤ six_more (a - 224) b) =
    ⊎_elim (λ m. inl (omega arith)) (λ m. inr (omega arith)) gap in
    stands _ _ u (a ∷ b ∷ w) x (of_three a b d p q (omega arith) (omega arith) g.0 g.1 over between) (ap (λ v. a ∷ b ∷ v) (sym is)) last
stands_behind a l (b ∷ w) x (inr (inr (p, bits, low, high, least, most, tails))) e =
    let (t, more) = through _ _ x e in
    let (h, k) = range_is l.low l.high b t in
    let read : read_tails 2 (six_more (a - 240) b) w ≡ Some x = subst (λ (n : ℕ). read_tails n (six_more (a - 240) b) w ≡ Some x) tails
    (subst (λ (n : ℕ). read_tails l.tails (six_more n b) w ≡ Some x) bits more) in
    let (d, u, is, g, next) = tail_read 1 _ w x read in
    let (y, v, is2, m, last) = tail_read 0 _ u x next in
    let over : 16 ≤ six_more (a - 240) b = omega arith in
    let top : six_more (a - 240) b < 272 = omega arith in
    stands _ _ v (a ∷ b ∷ w) x (of_four a b d y p (omega arith) (omega arith) g.0 g.1 m.0 m.1 over top)
    (ap (λ s. a ∷ b ∷ d ∷ s) (sym is2) ∙ ap (λ s. a ∷ b ∷ s) (sym is)) last

stands_led : (a : ℕ) (o : Option Lead) (w : List ℕ) (x : Front) → lead a ≡ o → read_led o w ≡ Some x → Stands x (a ∷ w)
stands_led a None w x is e = absurd cc
stands_led a (Some l) w x is e = stands_behind a l w x (lead_forms a l is) e

pub utf8_sound : (w : List ℕ) (x : Front) → utf8_step w ≡ Some x → IsScalar x.char × (encode_utf8 x.char ++ x.rest ≡ w)
unfolding utf8_step
utf8_sound [] x e = absurd cc
utf8_sound (a ∷ w) x e = by (is_in_range 0x00 0x7F a) refl e
  where
    by : (t : Bool) → is_in_range 0x00 0x7F a ≡ t
        → (if t then Some (record { char = a; rest = w }) else read_led (lead a) w) ≡ Some x → Stands x (a ∷ w)
    by true is e =
        let (p, q) = range_is 0x00 0x7F a is in
        stands a (a ∷ []) w (a ∷ w) x (low_scalar a (omega arith), encode_ascii a (omega arith)) refl e
    by false is e = stands_led a (lead a) w x refl e

-- ---- the octets of a character are read as it

led : (a b : ℕ) (l : Lead) (w : List ℕ) → 128 ≤ a → lead a ≡ Some l → l.low ≤ b → b ≤ l.high
    → utf8_step (a ∷ b ∷ w) ≡ read_tails l.tails (six_more l.bits b) w
unfolding utf8_step
led a b l w high is h k =
    cond-false _ _ _ (above_range 0x00 0x7F a (omega arith)) ∙ ap (λ o. read_led o (b ∷ w)) is
    ∙ cond-true _ _ _ (in_range l.low l.high b h k)

tail_is : (n bits b : ℕ) (w : List ℕ) → 128 ≤ b → b ≤ 191 → read_tails (suc n) bits (b ∷ w) ≡ read_tails n (six_more bits b) w
tail_is n bits b w h k = cond-true _ _ _ (in_range 128 191 b h k)

lead_two : (a : ℕ) → 0xC2 ≤ a → a ≤ 0xDF → lead a ≡ Some (record { bits = a - 0xC0; low = 0x80; high = 0xBF; tails = 0 })
lead_two a p q = rw (in_range 0xC2 0xDF a p q)

lead_E0 : (a : ℕ) → 0xE0 ≤ a → a ≤ 0xE0 → lead a ≡ Some (record { bits = a - 0xE0; low = 0xA0; high = 0xBF; tails = 1 })
lead_E0 a p q = rw (above_range 0xC2 0xDF a (omega arith), in_range 0xE0 0xE0 a p q)

lead_E1 : (a : ℕ) → 0xE1 ≤ a → a ≤ 0xEC → lead a ≡ Some (record { bits = a - 0xE0; low = 0x80; high = 0xBF; tails = 1 })
lead_E1 a p q = rw (above_range 0xC2 0xDF a (omega arith), above_range 0xE0 0xE0 a (omega arith), in_range 0xE1 0xEC a p q)

lead_ED : (a : ℕ) → 0xED ≤ a → a ≤ 0xED → lead a ≡ Some (record { bits = a - 0xE0; low = 0x80; high = 0x9F; tails = 1 })
lead_ED a p q = rw (
  above_range 0xC2 0xDF a (omega arith),
  above_range 0xE0 0xE0 a (omega arith),
  above_range 0xE1 0xEC a (omega arith),
  in_range 0xED 0xED a p q,
)

lead_EE : (a : ℕ) → 0xEE ≤ a → a ≤ 0xEF → lead a ≡ Some (record { bits = a - 0xE0; low = 0x80; high = 0xBF; tails = 1 })
lead_EE a p q = rw (
  above_range 0xC2 0xDF a (omega arith),
  above_range 0xE0 0xE0 a (omega arith),
  above_range 0xE1 0xEC a (omega arith),
  above_range 0xED 0xED a (omega arith),
  in_range 0xEE 0xEF a p q,
)

lead_F0 : (a : ℕ) → 0xF0 ≤ a → a ≤ 0xF0 → lead a ≡ Some (record { bits = a - 0xF0; low = 0x90; high = 0xBF; tails = 2 })
lead_F0 a p q = rw (
  above_range 0xC2 0xDF a (omega arith),
  above_range 0xE0 0xE0 a (omega arith),
  above_range 0xE1 0xEC a (omega arith),
  above_range 0xED 0xED a (omega arith),
  above_range 0xEE 0xEF a (omega arith),
  in_range 0xF0 0xF0 a p q,
)

lead_F1 : (a : ℕ) → 0xF1 ≤ a → a ≤ 0xF3 → lead a ≡ Some (record { bits = a - 0xF0; low = 0x80; high = 0xBF; tails = 2 })
lead_F1 a p q =
    rw (
      above_range 0xC2 0xDF a (omega arith),
      above_range 0xE0 0xE0 a (omega arith),
      above_range 0xE1 0xEC a (omega arith),
      above_range
          0xED 0xED a (omega arith),
      above_range 0xEE 0xEF a (omega arith),
      above_range 0xF0 0xF0 a (omega arith),
      in_range 0xF1 0xF3 a p q,
    )

lead_F4 : (a : ℕ) → 0xF4 ≤ a → a ≤ 0xF4 → lead a ≡ Some (record { bits = a - 0xF0; low = 0x80; high = 0x8F; tails = 2 })
lead_F4 a p q = rw (
  above_range 0xC2 0xDF a (omega arith),
  above_range 0xE0 0xE0 a (omega arith),
  above_range 0xE1 0xEC a (omega arith),
  above_range 0xED 0xED a (omega arith),
  above_range 0xEE 0xEF a (omega arith),
  above_range 0xF0 0xF0 a (omega arith),
  above_range 0xF1 0xF3 a (omega arith),
  in_range 0xF4 0xF4 a p q,
)

order : (m n : ℕ) → (m < n) ⊎ (n ≤ m)
order m n = grind (arith, nat_tests)

-- the row of a first octet, if the second octet is in the row's range
abbrev HasRow : ℕ → ℕ → ℕ → ℕ → Type 0
HasRow a b bits tails = (l : Lead) × (lead a ≡ Some l) × ((l.low ≤ b) × (b ≤ l.high)) × ((l.bits ≡ bits) × (l.tails ≡ tails))

row_three : (a b : ℕ) → 224 ≤ a → a ≤ 239 → 128 ≤ b → b ≤ 191 → (a ≤ 224 → 160 ≤ b) → (237 ≤ a → a ≤ 237 → b ≤ 159) → HasRow a b (a - 224) 1
row_three a b p q h k over surrogate =
    ⊎_elim (λ m. (_, lead_E0 a p (omega arith), (over (omega arith), k), (refl, refl)))
    (λ m. ⊎_elim (λ n. (_, lead_E1 a m (omega arith), (h, k), (refl, refl)))
    (λ n. ⊎_elim (λ o. (_, lead_ED a n (omega arith), (h, surrogate n (omega arith)), (refl, refl)))
    (λ o. (_, lead_EE a o q, (h, k), (refl, refl)))
    (order a 0xEE)) (order a 0xED)) (order a 0xE1)

row_four : (a b : ℕ) → 240 ≤ a → a ≤ 244 → 128 ≤ b → b ≤ 191 → (a ≤ 240 → 144 ≤ b) → (244 ≤ a → b ≤ 143) → HasRow a b (a - 240) 2
row_four a b p q h k over beyond =
    ⊎_elim (λ m. (_, lead_F0 a p (omega arith), (over (omega arith), k), (refl, refl)))
    (λ m. ⊎_elim (λ n. (_, lead_F1 a m (omega arith), (h, k), (refl, refl)))
    (λ n. (_, lead_F4 a n q, (h, beyond n), (refl, refl)))
    (order a 0xF4)) (order a 0xF1)

led_by : (a b bits tails : ℕ) (w : List ℕ) → 128 ≤ a → HasRow a b bits tails → utf8_step (a ∷ b ∷ w) ≡ read_tails tails (six_more bits b) w
led_by a b bits tails w high (l, is, within, (e, f)) =
    led a b l w high is within.0 within.1 ∙ (λ i. read_tails (f i) (six_more (e i) b) w)

-- the first character is read
abbrev Reads : List ℕ → ℕ → List ℕ → Type 0
Reads w c rest = utf8_step w ≡ Some (record { char = c; rest = rest })

reads_at : (w v : List ℕ) (c d : ℕ) (rest : List ℕ) → w ≡ v → c ≡ d → utf8_step v ≡ Some (record { char = c; rest = rest }) → Reads w d rest
reads_at w v c d rest e f h = ap utf8_step e ∙ h ∙ (λ i. Some (record { char = f i; rest = rest }))

reads_one : (c : ℕ) (rest : List ℕ) → c < 128 → Reads (encode_utf8 c ++ rest) c rest
unfolding utf8_step
reads_one c rest h = ap (λ u. utf8_step (u ++ rest)) (encode_ascii c h) ∙ cond-true _ _ _ (in_range 0x00 0x7F c (omega arith) (omega arith))

reads_two : (c : ℕ) (rest : List ℕ) → 128 ≤ c → c < 0x800 → Reads (encode_utf8 c ++ rest) c rest
reads_two c rest h k =
    let a = 192 + c / 64 in
    let b = 128 + c % 64 in
    reads_at _ (a ∷ b ∷ rest) (six_more (a - 192) b) c rest (ap (λ u. u ++ rest) (encode_two c h k)) (omega arith)
    (led a b _ rest (omega arith) (lead_two a (omega arith) (omega arith)) (omega arith) (omega arith))

reads_three : (c : ℕ) (rest : List ℕ) → 0x800 ≤ c → c < 0x1_0000 → (c < 0xD800) ⊎ (0xE000 ≤ c) → Reads (encode_utf8 c ++ rest) c rest
reads_three c rest h k s =
    let a = 224 + c / 4096 in
    let b = 128 + (c / 64) % 64 in
    let d = 128 + c % 64 in
    let row = row_three a b (omega arith) (omega arith) (omega arith) (omega arith) (λ m. omega arith)
    (λ m n. ⊎_elim (λ l. omega arith) (λ l. omega arith) s) in
    reads_at _ (a ∷ b ∷ d ∷ rest) (six_more (six_more (a - 224) b) d) c rest (ap (λ u. u ++ rest) (encode_three c h k)) (omega arith)
    (led_by a b (a - 224) 1 (d ∷ rest) (omega arith) row ∙ tail_is 0 _ d rest (omega arith) (omega arith))

reads_four : (c : ℕ) (rest : List ℕ) → 0x1_0000 ≤ c → c < 0x11_0000 → Reads (encode_utf8 c ++ rest) c rest
reads_four c rest h k =
    let a = 240 + c / 262144 in
    let b = 128 + (c / 4096) % 64 in
    let d = 128 + (c / 64) % 64 in
    let x = 128 + c % 64 in
    let row = row_four a b (omega arith) (omega arith) (omega arith) (omega arith) (λ m. omega arith) (λ m. omega arith) in
    reads_at _ (a ∷ b ∷ d ∷ x ∷ rest) (six_more (six_more (six_more (a - 240) b) d) x) c rest
    (ap (λ u. u ++ rest) (encode_four c h)) (omega arith)
    (led_by a b (a - 240) 2 (d ∷ x ∷ rest) (omega arith) row ∙ tail_is 1 _ d (x ∷ rest) (omega arith) (omega arith)
    ∙ tail_is 0 _ x rest (omega arith) (omega arith))

pub utf8_reads : (c : ℕ) (rest : List ℕ) → IsScalar c → utf8_step (encode_utf8 c ++ rest) ≡ Some (record { char = c; rest = rest })
utf8_reads c rest s =
    let (top, gap) = scalar_is c s in
    ⊎_elim (λ l. reads_one c rest l)
    (λ m. ⊎_elim (λ l. reads_two c rest m l)
    (λ n. ⊎_elim (λ l. reads_three c rest n l gap)
    (λ o. reads_four c rest o top)
    (order c 0x1_0000)) (order c 0x800)) (order c 0x80)

-- ---- lists of characters

both : (x y : Bool) → (x && y) ≡ true → (x ≡ true) × (y ≡ true)
both true y e = (refl, e)
both false y e = absurd cc

utf8_nil : (x : Front) → utf8_step [] ≡ Some x → ⊥
unfolding utf8_step
utf8_nil x e = absurd cc

pub utf8_encodes : (cs w : List ℕ) → Spells utf8_step w cs → (all_scalars cs ≡ true) × (encode_utf8_all cs ≡ w)
utf8_encodes [] w e = (refl, sym e)
utf8_encodes (c ∷ cs) w (rest, e, more) =
    let (scalar, is) = utf8_sound w _ e in
    let (scalars, others) = utf8_encodes cs rest more in
    ((λ i. scalar i && scalars i), ap (λ u. encode_utf8 c ++ u) others ∙ is)

pub encodes_utf8 : (cs w : List ℕ) → all_scalars cs ≡ true → encode_utf8_all cs ≡ w → Spells utf8_step w cs
encodes_utf8 [] w s e = sym e
encodes_utf8 (c ∷ cs) w s e =
    let (scalar, scalars) = both _ _ s in
    (encode_utf8_all cs, ap utf8_step (sym e) ∙ utf8_reads c _ scalar, encodes_utf8 cs _ scalars refl)

pub utf8_text : (w cs : List ℕ) → Spells utf8_step w cs → IsUtf8 w × (chars w ≡ cs)
utf8_text w cs h =
    let (scalars, is) = utf8_encodes cs w h in
    ((cs, (scalars, is)), ap chars (sym is) ∙ chars-encodes cs scalars)

pub utf8_accepts : (w : List ℕ) → IsOfSet utf8_step w ↔ IsUtf8 w
utf8_accepts w = (λ a. (utf8_text w a.0 a.1).0, λ u. (u.0, encodes_utf8 u.0 w u.1.0 u.1.1))

some_octets : (c : ℕ) → IsScalar c → (b : ℕ) × (bs : List ℕ) × (encode_utf8 c ≡ b ∷ bs)
some_octets c s = by (encode_utf8 c) refl
  where
    by : (w : List ℕ) → encode_utf8 c ≡ w → (b : ℕ) × (bs : List ℕ) × (w ≡ b ∷ bs)
    by (b ∷ bs) e = (b, bs, refl)
    by [] e = absurd (utf8_nil _ (ap (λ u. utf8_step (u ++ [])) (sym e) ∙ utf8_reads c [] s))

pub utf8_lawful : IsStep utf8_step
utf8_lawful = record {
  takes = λ w x e.
      let (s, is) = utf8_sound w x e in
      let (b, bs, front) = some_octets x.char s in
      (b, bs, sym is ∙ ap (λ u. u ++ x.rest) front);
  scalar = λ w x e. (utf8_sound w x e).0;
}
