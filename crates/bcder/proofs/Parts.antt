-- The parts of octet strings, and their octets joined.
use Rattle.std.proofs.Common.{◌≡◌, ℕ, ◌+◌, ◌≤◌, List, [], ◌∷◌, ◌++◌, length, ap, inl, inr, arith}
use Rattle.std.proofs.lemmas.Grind.{common_steps}
use Rattle.std.proofs.lemmas.List.Folds.{concat-append}
use Rattle.std.specs.List.{concat}
use Rattle.bcder.specs.declared.mode.Mode.{Mode}
use Rattle.bcder.specs.x690.Tree.{Tree, primitive, constructed, Trees, no_trees, ◌∷ₜ◌}
use Rattle.bcder.specs.x690.Encoding.{IsEncoding, AreEncodings}
use Rattle.bcder.specs.x690.OctetString.{segments, segments_of, AreSegmented}

-- ---- joined, they are no longer than the encodings that they stand in

length_behind : (header contents w : List ℕ) (n : ℕ) → w ≡ header ++ contents → n ≤ length contents → n ≤ length w
length_behind header contents w n is h = let e = ap length is in grind (arith, common_steps)

length_between : (header contents end w : List ℕ) (n : ℕ) → w ≡ header ++ (contents ++ end) → n ≤ length contents → n ≤ length w
length_between header contents end w n is h = let e = ap length is in grind (arith, common_steps)

length_of_two : (xs ys : List (List ℕ)) (v u w : List ℕ) → w ≡ v ++ u → length (concat xs) ≤ length v → length (concat ys) ≤ length u
    → length (concat (xs ++ ys)) ≤ length w
length_of_two xs ys v u w is h k =
    let e = ap length is in
    let f = ap length (concat-append xs ys) in
    grind (arith, common_steps)

length_of_one : (contents : List ℕ) → length (concat (contents ∷ [])) ≤ length contents
length_of_one contents = grind (arith, common_steps)

mutual
  segments_shorter : (mode : Mode) (t : Tree) (w : List ℕ) → IsEncoding mode t w → length (concat (segments t)) ≤ length w
  segments_shorter mode (primitive t contents) w h = length_behind h.1.header contents w _ h.1.is (length_of_one contents)
  segments_shorter mode (constructed t ts) w (contents, encode, inl framed) =
      length_behind framed.header contents w _ framed.is (all_segments_shorter mode ts contents encode)
  segments_shorter mode (constructed t ts) w (contents, encode, inr framed) =
      length_between framed.header contents framed.end w _ framed.is (all_segments_shorter mode ts contents encode)

  all_segments_shorter : (mode : Mode) (ts : Trees) (w : List ℕ) → AreEncodings mode ts w → length (concat (segments_of ts)) ≤ length w
  all_segments_shorter mode no_trees w h = omega arith
  all_segments_shorter mode (t ∷ₜ ts) w (first, others, one, more, is) =
      length_of_two (segments t) (segments_of ts) first others w is (segments_shorter mode t first one) (all_segments_shorter mode ts others more)

pub parts_shorter : (mode : Mode) (w : List ℕ) (ps : List (List ℕ)) → AreSegmented mode w ps → length (concat ps) ≤ length w
parts_shorter mode w ps h =
    let k = all_segments_shorter mode h.values w h.encode in
    let e = ap (λ (x : List (List ℕ)). length (concat x)) h.hold in
    omega (arith, k, e)

-- what is counted, with the next part, is no more than all
pub counted_on : (n : ℕ) (part : List ℕ) (ps rest : List (List ℕ)) (all : ℕ) → n + length (concat ps) ≡ all → ps ≡ part ∷ rest → n + length part ≤ all
counted_on n part ps rest all h e = let f = ap (λ (x : List (List ℕ)). length (concat x)) e in grind (arith, common_steps)
