-- Segments that come one after the other, and octets that are joined in front of them.
use Rattle.std.proofs.Common.{◌≡◌, ℕ, zero, suc, ◌+◌, ◌-◌, ◌<◌, ◌≤◌, ◌^◌, List, [], ◌∷◌, ◌++◌, length, drop, slice_range}
use Rattle.std.proofs.Common.{refl, sym, ap, ◌∙◌, subst, append_assoc, length-take-le, arith}
use Rattle.std.specs.List.{concat}
use Rattle.std.proofs.lemmas.List.{length-append, length-drop, drop-append-le}
use Rattle.bcder.specs.declared.string.octet.Segment.{Segment}
use Rattle.bcder.specs.x690.Identifier.{AreOctets}
use Rattle.bcder.specs.steps.SegmentTable.{AreWithin, segments_at}
use Rattle.bcder.specs.laws.Limits.{AreOctets-drop}

pub AreWithin-drop : (w : List ℕ) (ss : List Segment) (n : ℕ) → AreWithin w ss → AreWithin w (drop n ss)
AreWithin-drop w ss zero h = h
AreWithin-drop w [] (suc n) h = h
AreWithin-drop w (s ∷ ss) (suc n) h = AreWithin-drop w ss n h.1

pub segments_at-drop : (w : List ℕ) (ss : List Segment) (n : ℕ) → segments_at w (drop n ss) ≡ drop n (segments_at w ss)
segments_at-drop w ss zero = refl
segments_at-drop w [] (suc n) = refl
segments_at-drop w (s ∷ ss) (suc n) = segments_at-drop w ss n

pub segments_at-length : (w : List ℕ) (ss : List Segment) → length (segments_at w ss) ≡ length ss
segments_at-length w [] = refl
segments_at-length w (s ∷ ss) = ap suc (segments_at-length w ss)

-- ---- octets that stand in a block

pub range_length : (w : List ℕ) (s e : ℕ) → s ≤ e → e ≤ length w → length (slice_range w s e) ≡ e - s
range_length w s e p q = length-take-le (e - s) (drop s w) (omega (arith, length-drop s w))

pub passed_octets : (k : ℕ) (w x : List ℕ) → k ≤ length w → AreOctets (w ++ x) → AreOctets (drop k w ++ x)
passed_octets k w x h o = subst AreOctets (drop-append-le k w x h) (AreOctets-drop k (w ++ x) o)

pub passed_fit : (k : ℕ) (w x : List ℕ) → length (w ++ x) < 2 ^ 64 → length (drop k w ++ x) < 2 ^ 64
passed_fit k w x h = omega (arith, length-append w x, length-append (drop k w) x, length-drop k w)

-- ---- parts that are joined

-- one more part
pub joined_on : (block part : List ℕ) {more all : List ℕ} {ps qs : List (List ℕ)} → more ≡ block ++ part → ps ≡ part ∷ qs → block ++ concat ps ≡ all
    → more ++ concat qs ≡ all
joined_on block part {more} {all} {ps} {qs} is next so_far =
    ap (λ w. w ++ concat qs) is ∙ append_assoc block part (concat qs) ∙ ap (λ l. block ++ concat l) (sym next) ∙ so_far

-- what is behind the next of a list
pub drop_next : (n : ℕ) (xs : List (List ℕ)) (x : List ℕ) (rest : List (List ℕ)) → drop n xs ≡ x ∷ rest → rest ≡ drop (n + 1) xs
drop_next zero xs x rest e = ap (λ l. drop 1 l) (sym e)
drop_next (suc n) [] x rest e = cc
drop_next (suc n) (y ∷ xs) x rest e = drop_next n xs x rest e ∙ ap (λ k. drop k (y ∷ xs)) (let s : suc (n + 1) ≡ suc n + 1 = omega arith in s)
