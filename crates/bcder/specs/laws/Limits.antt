-- What is cut at a limit, and what is kept of it.
use Rattle.std.specs.Prelude.{◌≡◌, ◌-◌, ◌^◌, ◌<◌, ◌≤◌, ℕ, List, [], ◌∷◌, ◌++◌, Option, Some, None, length, take, drop, min, refl}
use Rattle.std.proofs.Common.{arith, ap, sym, ◌∙◌, append_assoc, zero, suc}
use Rattle.std.proofs.lemmas.Grind.{common_steps}
use Rattle.std.proofs.lemmas.List.{length-append}
use Rattle.bcder.specs.x690.Identifier.{AreOctets}
use Rattle.bcder.specs.calls.Stream.{Layer, Stream, IsSound, cut, capped, past, limited, ahead, borrowed, smaller_limit, limit_left}
use Rattle.bcder.specs.laws.Sound.{AreOctets-take}

-- the octets of a limited source are sound if those of the wrapped source are
pub limited_sound : (limit : Option ℕ) (s : Stream) → IsSound s → IsSound (limited limit s)
limited_sound None s h = record { octets = h.octets; size = h.size; at_hand = h.at_hand }
limited_sound (Some n) s h = record {
  octets = AreOctets-take n s.rest h.octets;
  size = grind (arith, common_steps, h.size);
  at_hand = grind (arith, common_steps, h.at_hand);
}

-- the octets up to the limit, and then those past it, are all octets
pub cut_past : (limit : Option ℕ) (rest : List ℕ) → cut limit rest ++ (past limit rest).octets ≡ rest
cut_past None rest = grind (arith, common_steps)
cut_past (Some n) rest = grind (arith, common_steps)

-- the octets up to the limit and what is kept past it determine the rest of the wrapped source
pub rest_told : (l m : Option ℕ) (xs ys : List ℕ) → cut m ys ≡ cut l xs → past m ys ≡ past l xs → ys ≡ xs
rest_told l m xs ys c p =
    sym (cut_past m ys) ∙ (let e : cut m ys ++ (past m ys).octets ≡ cut l xs ++ (past l xs).octets = cc in e) ∙ cut_past l xs

-- the octets up to the limit and what is kept past it determine the limit
pub limit_told : (l m : Option ℕ) (xs ys : List ℕ) → cut m ys ≡ cut l xs → past m ys ≡ past l xs → m ≡ l
limit_told None None xs ys c p = refl
limit_told None (Some m) xs ys c p = let e = ap (λ (y : Layer). y.number) p in grind arith
limit_told (Some l) None xs ys c p = let e = ap (λ (y : Layer). y.number) p in grind arith
limit_told (Some l) (Some m) xs ys c p =
    let e = ap (λ (y : Layer). y.number) p in
    let s = ap length (rest_told (Some l) (Some m) xs ys c p) in
    let t = ap length c in
    let k : m ≡ l = grind (arith, common_steps) in ap (λ n. Some n) k

-- after an advance, the octets up to the limit and what is kept past it determine the rest of the wrapped source
pub rest_told_after : (l m : Option ℕ) (xs ys : List ℕ) (k : ℕ) → cut m ys ≡ drop k (cut l xs) → k ≤ length (cut l xs)
    → past m ys ≡ past l xs → ys ≡ drop k xs
rest_told_after l m xs ys k c h p =
    sym (cut_past m ys) ∙ (let e : cut m ys ++ (past m ys).octets ≡ drop k (cut l xs) ++ (past l xs).octets = cc in e)
    ∙ (let f : drop k (cut l xs) ++ (past l xs).octets ≡ drop k (cut l xs ++ (past l xs).octets) = grind (arith, common_steps) in f)
    ∙ ap (drop k) (cut_past l xs)

pub limit_told_after : (n : ℕ) (m : Option ℕ) (xs ys : List ℕ) (k : ℕ) → cut m ys ≡ drop k (cut (Some n) xs) → k ≤ length (cut (Some n) xs)
    → past m ys ≡ past (Some n) xs → m ≡ Some (n - k)
limit_told_after n None xs ys k c h p = let e = ap (λ (y : Layer). y.number) p in grind arith
limit_told_after n (Some m) xs ys k c h p =
    let e = ap (λ (y : Layer). y.number) p in
    let s = ap length (rest_told_after (Some n) (Some m) xs ys k c h p) in
    let t = ap length c in
    let q : m ≡ n - k = grind (arith, common_steps) in ap (λ n. Some n) q

pub at_most_itself : (n : ℕ) → n ≤ n
at_most_itself n = omega arith

-- a prefix is no longer than the whole
pub within_front : (w x : List ℕ) → length w ≤ length (w ++ x)
within_front w x = omega (arith, length-append w x)

-- octets after the first ones are octets
pub AreOctets-drop : (n : ℕ) (w : List ℕ) → AreOctets w → AreOctets (drop n w)
AreOctets-drop zero w h = h
AreOctets-drop (suc n) [] h = h
AreOctets-drop (suc n) (b ∷ w) h = AreOctets-drop n w (λ i. h (suc i))

-- what is left of a sound source after some octets is sound
pub ahead_sound : (name n : ℕ) (s : Stream) → IsSound s → IsSound (ahead name n s)
ahead_sound name n s h = record {
  octets = AreOctets-drop n s.rest h.octets;
  size = grind (arith, common_steps, h.size);
  at_hand = grind (arith, common_steps, h.at_hand);
}

-- octets that are all at hand are sound, after the first ones too
pub left_sound : (n p : ℕ) (w : List ℕ) → AreOctets w → length w < 2 ^ 64
    → IsSound (record { rest = drop n w; avail = length (drop n w); faults = 0; position = p; kept = [] })
left_sound n p w h f =
    record { octets = AreOctets-drop n w h; size = grind (arith, common_steps, f); at_hand = at_most_itself (length (drop n w)) }

-- a borrowed source is sound if the source is
pub borrowed_sound : (name : ℕ) (s : Stream) → IsSound s → IsSound (borrowed name s)
borrowed_sound name s h = record { octets = h.octets; size = h.size; at_hand = h.at_hand }

-- equal lists of layers have equal outermost layers, and equal layers below
pub first_kept : {x y : Layer} {xs ys : List Layer} → x ∷ xs ≡ y ∷ ys → x ≡ y
first_kept e = cc

pub rest_kept : {x y : Layer} {xs ys : List Layer} → x ∷ xs ≡ y ∷ ys → xs ≡ ys
rest_kept e = cc

-- octets that come before the cut rest come before the rest of the wrapped source too
pub rest_told_behind : (l m : Option ℕ) (xs ys b : List ℕ) → b ++ cut m ys ≡ cut l xs → past m ys ≡ past l xs → b ++ ys ≡ xs
rest_told_behind l m xs ys b c p =
    let e : b ++ ys ≡ b ++ (cut m ys ++ (past m ys).octets) = ap (λ z. b ++ z) (sym (cut_past m ys)) in
    e ∙ sym (append_assoc b (cut m ys) (past m ys).octets)
    ∙ (let f : (b ++ cut m ys) ++ (past m ys).octets ≡ cut l xs ++ (past l xs).octets = cc in f) ∙ cut_past l xs

drop_of_take : (n m : ℕ) (xs : List ℕ) → drop n (take m xs) ≡ take (m - n) (drop n xs)
drop_of_take zero m xs = grind (arith, common_steps)
drop_of_take (suc n) zero xs = grind (arith, common_steps)
drop_of_take (suc n) (suc m) [] = grind (arith, common_steps)
drop_of_take (suc n) (suc m) (x ∷ xs) =
    drop_of_take n m xs ∙ (let e : take (m - n) (drop n xs) ≡ take (suc m - suc n) (drop n xs) = grind (arith, common_steps) in e)

-- a limit, octets passed over and a limit again cut like one limit after these octets
pub cut_through : (l m : Option ℕ) (n : ℕ) (xs : List ℕ) → cut l (drop n (cut m xs)) ≡ cut (smaller_limit l (limit_left m n)) (drop n xs)
cut_through None None n xs = refl
cut_through (Some l) None n xs = refl
cut_through None (Some m) n xs = drop_of_take n m xs
cut_through (Some l) (Some m) n xs = ap (take l) (drop_of_take n m xs)
    ∙ (let e : take l (take (m - n) (drop n xs)) ≡ take (min l (m - n)) (drop n xs) = grind (arith, common_steps) in e)

-- a limit, octets passed over and a limit again leave as many octets at hand as one limit after these octets
pub capped_through : (l m : Option ℕ) (n a : ℕ) → capped l (capped m a - n) ≡ capped (smaller_limit l (limit_left m n)) (a - n)
capped_through None None n a = refl
capped_through (Some l) None n a = refl
capped_through None (Some m) n a = grind (arith, common_steps)
capped_through (Some l) (Some m) n a = grind (arith, common_steps)
