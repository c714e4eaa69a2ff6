-- What remains of octets, step by step.
use Rattle.std.proofs.Common.{◌≡◌, ℕ, zero, suc, ◌<◌, ◌≤◌, Bool, true, false, List, [], ◌∷◌, ◌++◌, length, take, drop, Option, Some, None, option_map}
use Rattle.std.proofs.Common.{option_and_then, slice_get, inl, inr, refl, sym, ap, ◌∙◌, append_assoc, arith}
use Rattle.std.proofs.lemmas.Bool.{lt-ltb, le-ltb}
use Rattle.std.proofs.Math.Numerals.{add-one}
use Rattle.bcder.specs.declared.mode.Mode.{Mode}
use Rattle.bcder.specs.x690.Identifier.{AreOctets, Tag}
use Rattle.bcder.specs.x690.Length.{IsEndOfContents}
use Rattle.bcder.specs.x690.Tree.{Tree, primitive, constructed, Trees, ◌∷ₜ◌}
use Rattle.bcder.specs.x690.Encoding.{IsHeader, IsEncoding, IsFramed}
use Rattle.bcder.specs.x690.Preorder.{Heading, preorder, preorders}
use Rattle.bcder.specs.calls.Content.{length_of}
use Rattle.bcder.specs.steps.Reading.{read_header, read_contents, read_end, at_end, read_list, read_tree}
use Rattle.bcder.specs.laws.Complete.{header_complete}
use Rattle.bcder.specs.laws.Lengths.{read_end-complete}
use Rattle.bcder.specs.laws.Sound.{some_inj, end_sound}
use Rattle.bcder.specs.laws.Stands.{tree_sound}
use Rattle.bcder.proofs.ReadingSteps.{read_list_step}
use Rattle.bcder.proofs.Ends.{from_header}
use Rattle.encodings.specs.Open.{Open, Rest, after, rest_of, value_and_rest, to_come, HasNoHeader}

pub after_none : (r : Rest) → after [] r ≡ r
after_none None = refl
after_none (Some o) = refl

pub after_both : (a b : List Heading) (r : Rest) → after a (after b r) ≡ after (a ++ b) r
after_both a b None = refl
after_both a b (Some o) = ap (λ l. Some (l, o.1)) (sym (append_assoc a b o.0))

-- ---- the innermost open value

pub definite_ends : (mode : Mode) (os : List Open) (behind : List ℕ) → rest_of mode (Some behind ∷ os) [] ≡ rest_of mode os behind
unfolding rest_of at_end
definite_ends mode os behind = rw (read_list_step mode false [] (λ i. omega arith)) (after_none _)

pub indefinite_ends : (mode : Mode) (os : List Open) (x y : List ℕ) → AreOctets x → read_end mode x ≡ Some y → rest_of mode (None ∷ os) x ≡ rest_of mode os y
unfolding rest_of at_end
indefinite_ends mode os x y o e = rw (read_list_step mode true x o, e) (after_none _)

pub indefinite_goes_on : (mode : Mode) (os : List Open) (x : List ℕ) → AreOctets x → read_end mode x ≡ None
    → rest_of mode (None ∷ os) x ≡ value_and_rest mode (None ∷ os) x
unfolding rest_of at_end
indefinite_goes_on mode os x o e = rw (read_list_step mode true x o, e) (go (read_tree mode x))
  where
    inner : (t : Tree) (r : Option (Trees × List ℕ))
        → option_and_then (λ ts. after (preorders ts.0 (suc (length os))) (rest_of mode os ts.1))
        (option_map {U = Trees × List ℕ} (λ ts. (t ∷ₜ ts.0, ts.1)) r)
        ≡ after (preorder t (suc (length os))) (option_and_then (λ ts. after (preorders ts.0 (suc (length os))) (rest_of mode os ts.1)) r)
    inner t None = refl
    inner t (Some ts) = sym (after_both (preorder t (suc (length os))) (preorders ts.0 (suc (length os))) (rest_of mode os ts.1))

    go : (r : Option (Tree × List ℕ))
        → option_and_then (λ ts. after (preorders ts.0 (suc (length os))) (rest_of mode os ts.1))
        (option_and_then {U = Trees × List ℕ} (λ t. option_map (λ ts. (t.0 ∷ₜ ts.0, ts.1)) (read_list mode true t.1)) r)
        ≡ option_and_then (λ t. after (preorder t.0 (suc (length os))) (rest_of mode (None ∷ os) t.1)) r
    go None = refl
    go (Some t) = inner t.0 (read_list mode true t.1)

pub definite_goes_on : (mode : Mode) (os : List Open) (behind : List ℕ) (x : List ℕ) → AreOctets x → 0 < length x
    → rest_of mode (Some behind ∷ os) x ≡ value_and_rest mode (Some behind ∷ os) x
unfolding rest_of at_end
definite_goes_on mode os behind [] o e = absurd (omega arith)
definite_goes_on mode os behind (b ∷ x) o e = rw (read_list_step mode false (b ∷ x) o) (go (read_tree mode (b ∷ x)))
  where
    inner : (t : Tree) (r : Option (Trees × List ℕ))
        → option_and_then (λ ts. after (preorders ts.0 (suc (length os))) (rest_of mode os behind))
        (option_map {U = Trees × List ℕ} (λ ts. (t ∷ₜ ts.0, ts.1)) r)
        ≡ after (preorder t (suc (length os))) (option_and_then (λ ts. after (preorders ts.0 (suc (length os))) (rest_of mode os behind)) r)
    inner t None = refl
    inner t (Some ts) = sym (after_both (preorder t (suc (length os))) (preorders ts.0 (suc (length os))) (rest_of mode os behind))

    go : (r : Option (Tree × List ℕ))
        → option_and_then (λ ts. after (preorders ts.0 (suc (length os))) (rest_of mode os behind))
        (option_and_then {U = Trees × List ℕ} (λ t. option_map (λ ts. (t.0 ∷ₜ ts.0, ts.1)) (read_list mode false t.1)) r)
        ≡ option_and_then (λ t. after (preorder t.0 (suc (length os))) (rest_of mode (Some behind ∷ os) t.1)) r
    go None = refl
    go (Some t) = inner t.0 (read_list mode false t.1)

-- ---- the header of the next value

-- octets that begin with no header begin with no value
pub no_encoding : (mode : Mode) (t : Tree) (w v x : List ℕ) → HasNoHeader mode w → IsEncoding mode t v → w ≡ v ++ x → ⊥
no_encoding mode (primitive t contents) w v x none h is =
    none t false (Some (length contents)) h.1.header (contents ++ x) h.1.is_header (is ∙ ap (λ y. y ++ x) h.1.is ∙ append_assoc h.1.header contents x)
no_encoding mode (constructed t ts) w v x none h is = framed h.2
  where
    framed : IsFramed mode t h.0 v → ⊥
    framed (inl d) = none t true (Some (length h.0)) d.header (h.0 ++ x) d.is_header (is ∙ ap (λ y. y ++ x) d.is ∙ append_assoc d.header h.0 x)
    framed (inr d) = none t true None d.header ((h.0 ++ d.end) ++ x) d.is_header (is ∙ ap (λ y. y ++ x) d.is ∙ append_assoc d.header (h.0 ++ d.end) x)

pub no_tree : (mode : Mode) (w : List ℕ) → AreOctets w → HasNoHeader mode w → read_tree mode w ≡ None
no_tree mode w o none = go (read_tree mode w) refl
  where
    go : (r : Option (Tree × List ℕ)) → read_tree mode w ≡ r → r ≡ None
    go None e = refl
    go (Some r) e = let s = tree_sound mode w r o e in absurd (no_encoding mode r.0 w s.front r.1 none s.is_encoding s.is)

-- behind a header
module _ (mode : Mode) (w : List ℕ) (t : Tag) (f : Bool) (n : Option ℕ) (h z : List ℕ) (o : AreOctets w)
    (d : IsHeader mode t f (length_of n) h) (is : w ≡ h ++ z) where
  pub behind : read_tree mode w ≡ read_contents (read_list mode) t f (length_of n) z
  behind = from_header mode (record { tag = t; form = f; len = length_of n }) w z o (ap (read_header mode) is ∙ header_complete mode t f (length_of n) h z d)

  pub too_short : (k : ℕ) → n ≡ Some k → length z < k → read_tree mode w ≡ None
  too_short k e l = behind ∙ short f
    where
      short : (f : Bool) → read_contents (read_list mode) t f (length_of n) z ≡ None
      short false = rw (e, lt-ltb _ _ l) refl
      short true = rw (e, lt-ltb _ _ l) refl

  pub primitive_next : (k : ℕ) (os : List Open) → n ≡ Some k → f ≡ false → k ≤ length z
      → value_and_rest mode os w ≡ after (record { tag = t; constructed = false; depth = length os } ∷ []) (rest_of mode os (drop k z))
  primitive_next k os e form l = rw (behind, e, form, le-ltb _ _ l) refl

  pub definite_next : (k : ℕ) (os : List Open) → n ≡ Some k → f ≡ true → k ≤ length z
      → value_and_rest mode os w ≡ after (record { tag = t; constructed = true; depth = length os } ∷ []) (rest_of mode (Some (drop k z) ∷ os) (take k z))
  unfolding rest_of
  definite_next k os e form l = rw (behind, e, form, le-ltb _ _ l) (go (read_list mode false (take k z)))
    where
      go : (r : Option (Trees × List ℕ))
          → option_and_then {U = List Heading × List ℕ} (λ t. after (preorder t.0 (length os)) (rest_of mode os t.1))
          (option_map {U = Tree × List ℕ} (λ ts. (constructed t ts.0, drop k z)) r)
          ≡ after (record { tag = t; constructed = true; depth = length os } ∷ [])
          (option_and_then (λ ts. after (preorders ts.0 (suc (length os))) (rest_of mode os (drop k z))) r)
      go None = refl
      go (Some ts) = rw add-one (sym (after_both (record { tag = t; constructed = true; depth = length os } ∷ [])
          (preorders ts.0 (suc (length os))) (rest_of mode os (drop k z))))

  pub indefinite_next : (os : List Open) → n ≡ None → f ≡ true
      → value_and_rest mode os w ≡ after (record { tag = t; constructed = true; depth = length os } ∷ []) (rest_of mode (None ∷ os) z)
  unfolding rest_of
  indefinite_next os e form = rw (behind, e, form) (go (read_list mode true z))
    where
      go : (r : Option (Trees × List ℕ))
          → option_and_then {U = List Heading × List ℕ} (λ t. after (preorder t.0 (length os)) (rest_of mode os t.1))
          (option_map {U = Tree × List ℕ} (λ ts. (constructed t ts.0, ts.1)) r)
          ≡ after (record { tag = t; constructed = true; depth = length os } ∷ [])
          (option_and_then (λ ts. after (preorders ts.0 (suc (length os))) (rest_of mode os ts.1)) r)
      go None = refl
      go (Some ts) = rw add-one (sym (after_both (record { tag = t; constructed = true; depth = length os } ∷ [])
          (preorders ts.0 (suc (length os))) (rest_of mode os ts.1)))

-- ---- the octets to come

pub after_front : (os : List Open) (w z x : List ℕ) → x ≡ w ++ z → to_come os x ≡ w ++ to_come os z
after_front [] w z x e = e
after_front (Some behind ∷ os) w z x e = ap (λ y. y ++ to_come os behind) e ∙ append_assoc w z (to_come os behind)
after_front (None ∷ os) w z x e = after_front os w z x e

-- ---- ends

pub end_read : (mode : Mode) (w x y : List ℕ) → IsEndOfContents mode w → x ≡ w ++ y → read_end mode x ≡ Some y
end_read mode w x y h e = ap (read_end mode) e ∙ read_end-complete mode w y h

pub no_end_read : (mode : Mode) (x : List ℕ) → AreOctets x → ((w y : List ℕ) → IsEndOfContents mode w → x ≡ w ++ y → ⊥) → read_end mode x ≡ None
no_end_read mode x o none = go (read_end mode x) refl
  where
    go : (r : Option (List ℕ)) → read_end mode x ≡ r → r ≡ None
    go None e = refl
    go (Some y) e = let s = end_sound mode x y o e in absurd (none s.marker y s.is_end s.is)

-- ---- the innermost open value, among those that are in memory

pub last_apart : {X : Type 0} (xs : List X) (x : X) (n : ℕ) → length xs ≡ suc n → slice_get xs n ≡ Some x → xs ≡ take n xs ++ x ∷ []
last_apart [] x n l e = absurd (omega arith)
last_apart (a ∷ []) x zero l e = ap (λ y. y ∷ []) (some_inj a x e)
last_apart (a ∷ []) x (suc n) l e = absurd (omega arith)
last_apart (a ∷ b ∷ ys) x zero l e = absurd (omega arith)
last_apart (a ∷ b ∷ ys) x (suc n) l e = ap (λ zs. a ∷ zs) (last_apart (b ∷ ys) x n (omega arith) e)
