-- The subidentifiers of object identifiers, one by one, and their text.
use Rattle.std.proofs.Common.{◌≡◌, ℕ, zero, suc, ◌+◌, ◌-◌, ◌*◌, ◌/◌, ◌%◌, ◌^◌, ◌<◌, ◌≤◌, Bool, true, false, List, [], ◌∷◌, ◌++◌, length, get_or}
use Rattle.std.proofs.Common.{map, take, drop, set, inl, inr, refl, sym, ap, ap₂, subst, ◌∙◌, append_assoc, append-nil, arith}
use Rattle.std.specs.Prelude.{◌⊎◌, codes, decimal, nat_lt}
use Rattle.std.proofs.lemmas.Fmt.{decimal_digit, decimal_step_wide}
use Rattle.std.proofs.lemmas.Bool.{lt-ltb, le-ltb}
use Rattle.std.proofs.lemmas.Bool.Decides.{nat_tests}
use Rattle.std.proofs.lemmas.List.{length-append, length-drop, length-set, map-append, drop-set, take_all}
use Rattle.std.proofs.Math.ListN.{drop_of_length-le}
use Rattle.bcder.specs.x690.Identifier.{AreOctets}
use Rattle.bcder.specs.x690.ObjectIdentifier.{number_after, subidentifier_number, subidentifiers, IsWhole, IsComplete}
use Rattle.bcder.specs.x690.ObjectIdentifier.{components_of}
use Rattle.bcder.specs.calls.Identifiers.{dotted, dots_before}
use Rattle.bcder.specs.laws.Stands.{AreOctets-after}
use Rattle.bcder.proofs.SubidentifierLists.{cut_whole}
use Rattle.bcder.proofs.Subidentifiers.{number_grows}
use Rattle.encodings.specs.Buffers.{IsAtFront}
use Rattle.encodings.specs.Identifiers.{AreBelow, HasText, BeginsWithNumber, BeginsWithNoNumber}

-- ---- one subidentifier

-- octets of a subidentifier that goes on
abbrev AreMarked : List ℕ → Type 0
AreMarked [] = Unit {0}
AreMarked (b ∷ w) = (0x80 ≤ b) × (b < 0x100) × AreMarked w

number_both : (h : ℕ) (f u : List ℕ) → number_after h (f ++ u) ≡ number_after (number_after h f) u
number_both h [] u = refl
number_both h (b ∷ f) u = number_both (128 * h + b % 128) f u

whole_end : (f : List ℕ) (b : ℕ) → AreMarked f → b < 0x80 → IsWhole (f ++ b ∷ [])
whole_end [] b m l = l
whole_end (c ∷ []) b m l = (m.0, m.1, l)
whole_end (c ∷ d ∷ f) b m l = (m.0, m.1, whole_end (d ∷ f) b m.2 l)

marked_end : (f : List ℕ) (b : ℕ) → AreMarked f → 0x80 ≤ b → b < 0x100 → AreMarked (f ++ b ∷ [])
marked_end [] b m l k = (l, k, tt)
marked_end (c ∷ f) b m l k = (m.0, m.1, marked_end f b m.2 l k)

head_is : (a b : ℕ) (v w : List ℕ) → ◌≡◌ {A = List ℕ} (a ∷ v) (b ∷ w) → (a ≡ b) × (v ≡ w)
head_is a b v w e = (ap (λ l. get_or l 0 0) e, ap (drop 1) e)

some_octet : (v : List ℕ) → IsWhole v → 1 ≤ length v
some_octet [] h = absurd h
some_octet (b ∷ v) h = omega arith

-- a whole subidentifier ends behind what goes on
beyond : (f v r x : List ℕ) → AreMarked f → IsWhole v → f ++ r ≡ v ++ x → (u : List ℕ) × (v ≡ f ++ u) × (1 ≤ length u) × (r ≡ u ++ x)
beyond [] v r x m h e = (v, refl, some_octet v h, e)
beyond (b ∷ f) [] r x m h e = absurd h
beyond (b ∷ f) (c ∷ []) r x m h e = let same = (head_is _ _ _ _ e).0 in absurd (omega (arith, same, m.0, h))
beyond (b ∷ f) (c ∷ d ∷ v) r x m h e =
    let both = head_is _ _ _ _ e in
    let n = beyond f (d ∷ v) r x m.2 h.2 both.1 in
    (n.0, ap₂ (λ k l. k ∷ l) (sym both.0) n.1, n.2, n.3)

-- the octets of a subidentifier that were read
pub record InNumber (w rest : List ℕ) (high : ℕ) : Type 0 where
  pub front : List ℕ
  pub is : w ≡ front ++ rest
  pub marked : AreMarked front
  pub number : number_after 0 front ≡ high

pub number_starts : (w : List ℕ) → InNumber w w 0
number_starts w = record { front = []; is = refl; marked = tt; number = refl }

module _ (w rest : List ℕ) (high : ℕ) (i : InNumber w rest high) where
  pub number_ran_out : length rest ≡ 0 → BeginsWithNoNumber w
  number_ran_out e v x h is l =
      let n = beyond i.front v rest x i.marked h (sym i.is ∙ is) in
      omega (arith, n.2, e, ap length n.3, length-append n.0 x)

  pub number_fits : AreOctets w → get_or rest 0 0 < 0x100
  number_fits o = AreOctets-after i.front w rest i.is o 0

  module _ (b : ℕ) (y : List ℕ) (e : rest ≡ b ∷ y) where
    split : w ≡ (i.front ++ b ∷ []) ++ y
    split = i.is ∙ ap (λ r. i.front ++ r) e ∙ sym (append_assoc i.front (b ∷ []) y)

    more : number_after 0 (i.front ++ b ∷ []) ≡ 128 * high + b % 128
    more = number_both 0 i.front (b ∷ []) ∙ ap (λ h. 128 * h + b % 128) i.number

    pub number_ends : (n : ℕ) → n ≡ 128 * high + b % 128 → b < 0x80 → n < 2 ^ 128 → BeginsWithNumber w n y
    number_ends n m l below = record {
      octets = i.front ++ b ∷ [];
      whole = whole_end i.front b i.marked l;
      is = split;
      number = more ∙ sym m;
      below = below;
    }

    pub number_goes_on : (n : ℕ) → n ≡ 128 * high + b % 128 → 0x80 ≤ b → b < 0x100 → InNumber w y n
    number_goes_on n m l k = record { front = i.front ++ b ∷ []; is = split; marked = marked_end i.front b i.marked l k; number = more ∙ sym m }

    pub number_too_large : 2 ^ 121 ≤ high → BeginsWithNoNumber w
    number_too_large large v x h is l = by_rest n.0 n.2 (number_both 0 i.front n.0 ∙ ap (λ k. number_after k n.0) i.number) n.1
      where
        n : (u : List ℕ) × (v ≡ i.front ++ u) × (1 ≤ length u) × (rest ≡ u ++ x)
        n = beyond i.front v rest x i.marked h (sym i.is ∙ is)

        by_rest : (u : List ℕ) → 1 ≤ length u → number_after 0 (i.front ++ u) ≡ number_after high u → v ≡ i.front ++ u → ⊥
        by_rest [] s e same = omega (arith, s)
        by_rest (c ∷ u) s e same =
            omega (arith, l, ap subidentifier_number same, e, number_grows (128 * high + c % 128) u, large)

-- ---- subidentifiers with these numbers

abbrev AreNumbers : List ℕ → List ℕ → Type 0
AreNumbers [] w = w ≡ []
AreNumbers (n ∷ ns) w = (v x : List ℕ) × IsWhole v × (subidentifier_number v ≡ n) × AreNumbers ns x × (w ≡ v ++ x)

numbers_held : (ns w : List ℕ) → AreNumbers ns w → map subidentifier_number (subidentifiers w) ≡ ns
numbers_held [] w h = rw h refl
numbers_held (n ∷ ns) w h =
    ap (λ l. map subidentifier_number (subidentifiers l)) h.5
    ∙ ap (map subidentifier_number) (cut_whole [] h.0 h.1 h.2)
    ∙ ap₂ (λ k l. k ∷ l) h.3 (numbers_held ns h.1 h.4)

complete_both : (v x : List ℕ) → IsWhole v → (x ≡ []) ⊎ IsComplete x → IsComplete (v ++ x)
complete_both [] x h k = absurd h
complete_both (b ∷ []) [] h k = h
complete_both (b ∷ []) (c ∷ x) h (inl e) = absurd (let n : suc (length x) ≡ 0 = ap length e in omega (arith, n))
complete_both (b ∷ []) (c ∷ x) h (inr k) = k
complete_both (b ∷ c ∷ v) x h k = complete_both (c ∷ v) x h.2 k

complete_rest : (ns w : List ℕ) → AreNumbers ns w → (w ≡ []) ⊎ IsComplete w
complete_rest [] w h = inl h
complete_rest (n ∷ ns) w h = inr (subst IsComplete (sym h.5) (complete_both h.0 h.1 h.2 (complete_rest ns h.1 h.4)))

complete_held : (n : ℕ) (ns w : List ℕ) → AreNumbers (n ∷ ns) w → IsComplete w
complete_held n ns w h = subst IsComplete (sym h.5) (complete_both h.0 h.1 h.2 (complete_rest ns h.1 h.4))

-- an octet before others: a subidentifier of its own, or part of the next one
one_more : (b : ℕ) (w : List ℕ) → b < 0x100 → (ns : List ℕ) × AreNumbers ns w → (w ≡ [] → b < 0x80) → (ns : List ℕ) × AreNumbers ns (b ∷ w)
one_more b w fits h last = by_size (nat_lt b 0x80) refl
  where
    goes_on : (ns : List ℕ) → AreNumbers ns w → 0x80 ≤ b → (ns : List ℕ) × AreNumbers ns (b ∷ w)
    goes_on [] k l = absurd (omega (arith, last k, l))
    goes_on (n ∷ ns) k l =
        (subidentifier_number (b ∷ k.0) ∷ ns, (b ∷ k.0, k.1, longer k.0 k.2, refl, k.4, ap (λ z. b ∷ z) k.5))
      where
        longer : (v : List ℕ) → IsWhole v → IsWhole (b ∷ v)
        longer [] i = absurd i
        longer (c ∷ v) i = (l, fits, i)

    by_size : (short : Bool) → nat_lt b 0x80 ≡ short → (ns : List ℕ) × AreNumbers ns (b ∷ w)
    by_size true e =
        let l : b < 0x80 = grind (arith, nat_tests) in
        (subidentifier_number (b ∷ []) ∷ h.0, (b ∷ [], w, l, refl, h.1, refl))
    by_size false e = goes_on h.0 h.1 (grind (arith, nat_tests))

numbers_of : (w : List ℕ) → AreOctets w → IsComplete w → (ns : List ℕ) × AreNumbers ns w
numbers_of [] o c = absurd c
numbers_of (b ∷ []) o c = one_more b [] (o 0) ([], refl) (λ e. c)
numbers_of (b ∷ d ∷ w) o c =
    one_more b (d ∷ w) (o 0) (numbers_of (d ∷ w) (λ i. o (suc i)) c) (λ e. absurd (let n : suc (length w) ≡ 0 = ap length e in omega (arith, n)))

whole_is_marked : (v : List ℕ) → IsWhole v → (f : List ℕ) × (b : ℕ) × AreMarked f × (b < 0x80) × (v ≡ f ++ b ∷ [])
whole_is_marked [] h = absurd h
whole_is_marked (b ∷ []) h = ([], b, tt, h, refl)
whole_is_marked (b ∷ c ∷ v) h =
    let r = whole_is_marked (c ∷ v) h.2 in
    (b ∷ r.0, r.1, (h.0, h.1, r.2), r.3, ap (λ z. b ∷ z) r.4)

-- two subidentifiers at one place are the same
one_whole : (v u x y : List ℕ) → IsWhole v → IsWhole u → v ++ x ≡ u ++ y → (v ≡ u) × (x ≡ y)
one_whole [] u x y h k e = absurd h
one_whole (b ∷ []) [] x y h k e = absurd k
one_whole (b ∷ []) (c ∷ []) x y h k e = let r = head_is _ _ _ _ e in (ap (λ z. z ∷ []) r.0, r.1)
one_whole (b ∷ []) (c ∷ d ∷ u) x y h k e = absurd (omega (arith, (head_is _ _ _ _ e).0, h, k.0))
one_whole (b ∷ d ∷ v) [] x y h k e = absurd k
one_whole (b ∷ d ∷ v) (c ∷ []) x y h k e = absurd (omega (arith, (head_is _ _ _ _ e).0, h.0, k))
one_whole (b ∷ d ∷ v) (c ∷ f ∷ u) x y h k e =
    let r = head_is _ _ _ _ e in
    let n = one_whole (d ∷ v) (f ∷ u) x y h.2 k.2 r.1 in
    (ap₂ (λ z l. z ∷ l) r.0 n.0, n.1)

first_number_is : (n : ℕ) (ks w x : List ℕ) → BeginsWithNumber w n x → AreNumbers ks w → (ms : List ℕ) × AreNumbers ms x × (ks ≡ n ∷ ms)
first_number_is n [] w x r h =
    absurd (omega (arith, some_octet r.octets r.whole, ap length (sym r.is ∙ h), length-append r.octets x))
first_number_is n (k ∷ ks) w x r h =
    let same = one_whole h.0 r.octets h.1 x h.2 r.whole (sym h.5 ∙ r.is) in
    (ks, subst (AreNumbers ks) same.1 h.4, ap (λ m. m ∷ ks) (sym h.3 ∙ ap subidentifier_number same.0 ∙ r.number))

-- octets that begin with no number below the limit have no text
no_numbers : (ks w : List ℕ) → 1 ≤ length w → BeginsWithNoNumber w → AreNumbers ks w → AreBelow (2 ^ 128) ks → ⊥
no_numbers [] w some none h b = omega (arith, some, ap length h)
no_numbers (k ∷ ks) w some none h b = none h.0 h.1 h.2 h.5 (omega (arith, h.3, b.0))

text_numbers : (w t : List ℕ) → AreOctets w → HasText w t → (ks : List ℕ) × AreNumbers ks w × AreBelow (2 ^ 128) ks
text_numbers w t o h =
    let n = numbers_of w o h.complete in
    (n.0, n.1, subst (AreBelow (2 ^ 128)) (numbers_held n.0 w n.1) h.below)

-- ---- the text

dots_append : (l : List (List ℕ)) (t : List ℕ) → dots_before (l ++ t ∷ []) ≡ dots_before l ++ (codes "." ++ t)
dots_append [] t = ap (λ z. codes "." ++ z) (append-nil t)
dots_append (a ∷ l) t =
    ap (λ z. codes "." ++ (a ++ z)) (dots_append l t)
    ∙ ap (λ z. codes "." ++ z) (sym (append_assoc a (dots_before l) (codes "." ++ t)))

dotted_append : (a : List ℕ) (l : List (List ℕ)) (t : List ℕ) → dotted ((a ∷ l) ++ t ∷ []) ≡ (dotted (a ∷ l) ++ codes ".") ++ t
dotted_append a l t =
    ap (λ z. a ++ z) (dots_append l t) ∙ sym (append_assoc a (dots_before l) (codes "." ++ t))
    ∙ sym (append_assoc (a ++ dots_before l) (codes ".") t)

text_of_two : (a b : ℕ) → (decimal a ++ codes ".") ++ decimal b ≡ dotted (map decimal (a ∷ b ∷ []))
text_of_two a b = append_assoc (decimal a) (codes ".") (decimal b) ∙ ap (λ z. decimal a ++ (codes "." ++ z)) (sym (append-nil (decimal b)))

pub text_below_40 : (n : ℕ) → n < 40 → (decimal 0 ++ codes ".") ++ decimal n ≡ dotted (map decimal (components_of (n ∷ [])))
text_below_40 n l = text_of_two 0 n ∙ rw (lt-ltb n 40 l) refl

pub text_below_80 : (n m : ℕ) → 40 ≤ n → n < 80 → m ≡ n - 40 → (decimal 1 ++ codes ".") ++ decimal m ≡ dotted (map decimal (components_of (n ∷ [])))
text_below_80 n m k l e = text_of_two 1 m ∙ rw (e, le-ltb n 40 k, lt-ltb n 80 l) refl

pub text_from_80 : (n m : ℕ) → 80 ≤ n → m ≡ n - 80 → (decimal 2 ++ codes ".") ++ decimal m ≡ dotted (map decimal (components_of (n ∷ [])))
text_from_80 n m k e = text_of_two 2 m ∙ rw (e, le-ltb n 40 (omega arith), le-ltb n 80 k) refl

next_text : (k : ℕ) (ks : List ℕ) (n : ℕ)
    → dotted (map decimal (components_of ((k ∷ ks) ++ n ∷ []))) ≡ (dotted (map decimal (components_of (k ∷ ks))) ++ codes ".") ++ decimal n
next_text k ks n = by_first (nat_lt k 40) refl (nat_lt k 80) refl
  where
    two : (a b : ℕ) → dotted (map decimal (a ∷ b ∷ (ks ++ n ∷ []))) ≡ (dotted (map decimal (a ∷ b ∷ ks)) ++ codes ".") ++ decimal n
    two a b =
        ap (λ l. dotted (decimal a ∷ decimal b ∷ l)) (map-append decimal ks (n ∷ []))
        ∙ dotted_append (decimal a) (decimal b ∷ map decimal ks) (decimal n)

    by_first : (l : Bool) → nat_lt k 40 ≡ l → (m : Bool) → nat_lt k 80 ≡ m
        → dotted (map decimal (components_of ((k ∷ ks) ++ n ∷ []))) ≡ (dotted (map decimal (components_of (k ∷ ks))) ++ codes ".") ++ decimal n
    by_first true e m f = rw e (two 0 k)
    by_first false e true f = rw (e, f) (two 1 (k - 40))
    by_first false e false f = rw (e, f) (two 2 (k - 80))

pub front_starts : (first : List ℕ) → IsAtFront [] first first 0
front_starts first = record { count = refl; room = refl; front = λ l. refl }

-- what was read of an identifier, and the text of that
pub record InText (w rest first now : List ℕ) (at : ℕ) : Type 0 where
  pub one : ℕ
  pub others : List ℕ
  pub front : List ℕ
  pub is : w ≡ front ++ rest
  pub below : AreBelow (2 ^ 128) (one ∷ others)
  pub numbers : (ms : List ℕ) → AreNumbers ms rest → AreNumbers ((one ∷ others) ++ ms) w
  pub remain : (ks : List ℕ) → AreNumbers ks w → (ms : List ℕ) × AreNumbers ms rest × (ks ≡ (one ∷ others) ++ ms)
  pub text : IsAtFront (dotted (map decimal (components_of (one ∷ others)))) first now at
  pub size : length w < 2 ^ 58
  pub bound : at + 40 * length rest ≤ 40 * length w + 40

below_both : (ks ms : List ℕ) (m : ℕ) → AreBelow m (ks ++ ms) → AreBelow m ms
below_both [] ms m b = b
below_both (k ∷ ks) ms m b = below_both ks ms m b.1

below_append : (ks : List ℕ) (n m : ℕ) → AreBelow m ks → n < m → AreBelow m (ks ++ n ∷ [])
below_append [] n m b l = (l, tt)
below_append (k ∷ ks) n m b l = (b.0, below_append ks n m b.1 l)

pub text_starts : (w x first now : List ℕ) (n at : ℕ) → length w < 2 ^ 58 → BeginsWithNumber w n x → at ≤ 79
    → IsAtFront (dotted (map decimal (components_of (n ∷ [])))) first now at → InText w x first now at
text_starts w x first now n at size r bound text = record {
  one = n;
  others = [];
  front = r.octets;
  is = r.is;
  below = (r.below, tt);
  numbers = λ ms h. (r.octets, x, r.whole, r.number, h, r.is);
  remain = λ ks h. first_number_is n ks w x r h;
  text = text;
  size = size;
  bound = omega (arith, bound, some_octet r.octets r.whole, ap length r.is, length-append r.octets x);
}

module _ (w rest first now : List ℕ) (at : ℕ) (i : InText w rest first now at) where
  pub text_room : 1 ≤ length rest → at + 40 < 2 ^ 64
  text_room some = omega (arith, i.bound, i.size, some)

  pub text_goes_on : (x new : List ℕ) (n to : ℕ) → BeginsWithNumber rest n x
      → ((old v : List ℕ) → IsAtFront v old now at → IsAtFront ((v ++ codes ".") ++ decimal n) old new to) → to ≤ at + 40
      → InText w x first new to
  text_goes_on x new n to r appended bound = record {
    one = i.one;
    others = i.others ++ n ∷ [];
    front = i.front ++ r.octets;
    is = i.is ∙ ap (λ z. i.front ++ z) r.is ∙ sym (append_assoc i.front r.octets x);
    below = below_append (i.one ∷ i.others) n (2 ^ 128) i.below r.below;
    numbers = λ ms h.
        subst (λ l. AreNumbers l w) (sym (append_assoc (i.one ∷ i.others) (n ∷ []) ms))
        (i.numbers (n ∷ ms) (r.octets, x, r.whole, r.number, h, r.is));
    remain = λ ks h. remains ks (i.remain ks h);
    text = subst (λ t. IsAtFront t first new to) (sym (next_text i.one i.others n))
        (appended first (dotted (map decimal (components_of (i.one ∷ i.others)))) i.text);
    size = i.size;
    bound = omega (arith, i.bound, bound, some_octet r.octets r.whole, ap length r.is, length-append r.octets x);
  }
    where
      remains : (ks : List ℕ) → (ms : List ℕ) × AreNumbers ms rest × (ks ≡ (i.one ∷ i.others) ++ ms)
          → (ms : List ℕ) × AreNumbers ms x × (ks ≡ (i.one ∷ (i.others ++ n ∷ [])) ++ ms)
      remains ks m =
          let f = first_number_is n m.0 rest x r m.1 in
          (f.0, f.1, m.2 ∙ ap (λ l. (i.one ∷ i.others) ++ l) f.2 ∙ sym (append_assoc (i.one ∷ i.others) (n ∷ []) f.0))

  pub text_stops : AreOctets w → 1 ≤ length rest → BeginsWithNoNumber rest → (t : List ℕ) → HasText w t → ⊥
  text_stops o some none t h =
      let k = text_numbers w t o h in
      let m = i.remain k.0 k.1 in
      no_numbers m.0 rest some none m.1 (below_both (i.one ∷ i.others) m.0 (2 ^ 128) (subst (AreBelow (2 ^ 128)) m.2 k.2))

  pub text_ends : length rest ≡ 0 → (t : List ℕ) × HasText w t × IsAtFront t first now at
  text_ends e = (dotted (map decimal (components_of (i.one ∷ i.others))), told, i.text)
    where
      none : (l : List ℕ) → length l ≡ 0 → l ≡ []
      none [] z = refl
      none (b ∷ l) z = absurd (omega (arith, z))

      all : AreNumbers (i.one ∷ i.others) w
      all = subst (λ l. AreNumbers l w) (append-nil (i.one ∷ i.others)) (i.numbers [] (none rest e))

      held : map subidentifier_number (subidentifiers w) ≡ i.one ∷ i.others
      held = numbers_held (i.one ∷ i.others) w all

      told : HasText w (dotted (map decimal (components_of (i.one ∷ i.others))))
      told = record {
        complete = complete_held i.one i.others w all;
        size = i.size;
        below = subst (AreBelow (2 ^ 128)) (sym held) i.below;
        text = ap (λ l. dotted (map decimal (components_of l))) (sym held);
      }

pub no_text_first : (w : List ℕ) → AreOctets w → BeginsWithNoNumber w → (t : List ℕ) → HasText w t → ⊥
no_text_first w o none t h = let k = text_numbers w t o h in no_numbers k.0 w (some w h.complete) none k.1 k.2
  where
    some : (v : List ℕ) → IsComplete v → 1 ≤ length v
    some [] c = absurd c
    some (b ∷ v) c = omega arith

pub one_text : (w s t : List ℕ) → HasText w s → HasText w t → s ≡ t
one_text w s t h k = h.text ∙ sym k.text

-- ---- decimal digits

-- a digit more, from the last to the first
pub record InDigits (number rest start : ℕ) (digits : List ℕ) : Type 0 where
  pub count : length digits ≡ 39
  pub inside : start ≤ 39
  pub some : 1 ≤ start
  pub fits : rest < 10 ^ start
  pub spelled : decimal number ≡ decimal rest ++ drop start digits

pub digits_start : (number : ℕ) (digits : List ℕ) → number < 2 ^ 128 → length digits ≡ 39 → InDigits number number 39 digits
digits_start number digits l c = record {
  count = c;
  inside = omega arith;
  some = omega arith;
  fits = omega (arith, l);
  spelled = sym (append-nil (decimal number)) ∙ ap (λ z. decimal number ++ z) (sym (none_left digits c));
}
  where
    none_left : (d : List ℕ) → length d ≡ 39 → drop 39 d ≡ []
    none_left d e = let l : length d ≤ 39 = omega (arith, e) in drop_of_length-le d {i = 39} l

place_less : (s n : ℕ) → 10 ≤ n → n < 10 ^ s → (2 ≤ s) × (n / 10 < 10 ^ (s - 1))
place_less zero n l h = absurd (omega (arith, l, h))
place_less (suc zero) n l h = absurd (omega (arith, l, h))
place_less (suc (suc s)) n l h =
    let same : suc (suc s) - 1 ≡ suc s = omega arith in
    let fits : n / 10 < 10 ^ suc s = omega (arith, h) in
    (omega arith, subst (λ k. n / 10 < 10 ^ k) (sym same) fits)

module _ (number rest start : ℕ) (digits : List ℕ) (i : InDigits number rest start digits) (small : rest < 2 ^ 128) where
  step : (x : ℕ) → drop (start - 1) (set digits (start - 1) x) ≡ x ∷ drop start digits
  step x =
      let same : start - 1 + 1 ≡ start = omega (arith, i.some) in
      drop-set digits (start - 1) x (omega (arith, i.count, i.inside, i.some)) ∙ ap (λ n. x ∷ drop n digits) same

  pub digits_more : (new : List ℕ) (x m s : ℕ) → 10 ≤ rest → m ≡ start - 1 → x ≡ 48 + rest % 10 → s ≡ rest / 10 → new ≡ set digits m x → InDigits number s m new
  digits_more new x m s l e d q is =
      let p = place_less start rest l i.fits in
      rw (is, e, d, q) (record {
        count = length-set digits (start - 1) (48 + rest % 10) ∙ i.count;
        inside = omega (arith, i.inside);
        some = omega (arith, p.0);
        fits = p.1;
        spelled = i.spelled ∙ ap (λ z. z ++ drop start digits) (decimal_step_wide rest l (omega (arith, small)))
            ∙ append_assoc (decimal (rest / 10)) ((48 + rest % 10) ∷ []) (drop start digits)
            ∙ ap (λ z. decimal (rest / 10) ++ z) (sym (step (48 + rest % 10)));
      })

  pub digits_last : (new : List ℕ) (x m : ℕ) → rest < 10 → m ≡ start - 1 → x ≡ 48 + rest → new ≡ set digits m x
      → take (39 - m) (drop m new) ≡ decimal number
  digits_last new x m l e d is =
      let size : length new ≡ 39 = ap length is ∙ length-set digits m x ∙ i.count in
      let left : length (drop m new) ≤ 39 - m = omega (arith, length-drop m new, size) in
      take_all (39 - m) (drop m new) left
      ∙ rw (is, e, d) (step (48 + rest) ∙ sym (i.spelled ∙ ap (λ z. z ++ drop start digits) (decimal_digit rest l)))
