-- Reading, step by step, with no number that bounds the turns.
use Rattle.std.proofs.Common.{◌≡◌, ℕ, suc, ◌+◌, ◌<◌, ◌≤◌, Bool, true, false, List, length, take, Option, Some}
use Rattle.std.proofs.Common.{None, option_map, option_and_then, refl, sym, ap, ◌∙◌, arith}
use Rattle.std.proofs.lemmas.List.{length-append, length-take}
use Rattle.bcder.specs.declared.mode.Mode.{Mode}
use Rattle.bcder.specs.declared.length.Length.{Length}
use Rattle.bcder.specs.declared.length.Length.TheVariants.{Definite, Indefinite}
use Rattle.bcder.specs.x690.Identifier.{AreOctets, Tag}
use Rattle.bcder.specs.x690.Tree.{Tree, Trees, ◌∷ₜ◌}
use Rattle.bcder.specs.x690.Encoding.{Header}
use Rattle.bcder.specs.steps.Reading.{Inside, read_header, read_contents, read_value, at_end, if_not_at_end, read_trees, read_list, read_tree}
use Rattle.bcder.specs.laws.Complete.{header_size, two_octets, trees_complete}
use Rattle.bcder.specs.laws.Sound.{AreOctets-take}
use Rattle.bcder.specs.laws.Stands.{AreOctets-after, header_sound, value_sound, trees_sound, before}

again : (n m : ℕ) (mode : Mode) (marked : Bool) (w : List ℕ) (r : Trees × List ℕ) → AreOctets w → length w < m → read_trees n mode marked w ≡ Some r
    → read_trees m mode marked w ≡ Some r
again n m mode marked w r o fuel e =
    let b = before n mode marked w r o e in
    let c = trees_complete m mode r.0 b.front b.are_encodings (omega (arith, ap length b.is, length-append b.front b.tail)) in
    ap (read_trees m mode marked) b.is ∙ c.reads marked b.tail r.1 b.is_end

-- any bound above the count of the octets gives one answer
pub enough : (n m : ℕ) (mode : Mode) (marked : Bool) (w : List ℕ) → AreOctets w → length w < n → length w < m
    → read_trees n mode marked w ≡ read_trees m mode marked w
enough n m mode marked w o p q = go (read_trees n mode marked w) (read_trees m mode marked w) refl refl
  where
    go : (r s : Option (Trees × List ℕ)) → read_trees n mode marked w ≡ r → read_trees m mode marked w ≡ s → r ≡ s
    go None None e f = refl
    go None (Some s) e f = sym e ∙ again m n mode marked w s o p f
    go (Some r) s e f = sym (again n m mode marked w r o q e) ∙ f

-- two readers of what stands inside that agree on it
same_contents : (f g : Inside) (t : Tag) (form : Bool) (len : Length) (z : List ℕ)
    → ((marked : Bool) (v : List ℕ) → AreOctets v → length v ≤ length z → f marked v ≡ g marked v) → AreOctets z
    → read_contents f t form len z ≡ read_contents g t form len z
same_contents f g t false Indefinite z h o = refl
same_contents f g t false (Definite n) z h o = refl
same_contents f g t true Indefinite z h o = rw (h true z o (omega arith)) refl
same_contents f g t true (Definite n) z h o = rw (h false (take n z) (AreOctets-take n z o) (omega (arith, length-take n z))) refl

same_value : (f g : Inside) (mode : Mode) (w : List ℕ) → ((marked : Bool) (v : List ℕ) → AreOctets v → length v < length w → f marked v ≡ g marked v)
    → AreOctets w → read_value mode f w ≡ read_value mode g w
unfolding read_value
same_value f g mode w h o = go (read_header mode w) refl
  where
    go : (r : Option (Header × List ℕ)) → read_header mode w ≡ r
        → option_and_then (λ h. read_contents f h.0.tag h.0.form h.0.len h.1) r ≡ option_and_then (λ h. read_contents g h.0.tag h.0.form h.0.len h.1) r
    go None e = refl
    go (Some r) e =
        let d = header_sound mode w r o e in
        let s = header_size mode r.0.tag r.0.form r.0.len d.octets d.is_header in
        let l : length w ≡ length d.octets + length r.1 = ap length d.is ∙ length-append d.octets r.1 in
        same_contents f g r.0.tag r.0.form r.0.len r.1 (λ marked v ov k. h marked v ov (omega arith)) (AreOctets-after d.octets w r.1 d.is o)

-- a value is a header, and what the header announces
pub read_tree_step : (mode : Mode) (w : List ℕ) → AreOctets w → read_tree mode w ≡ read_value mode (read_list mode) w
unfolding read_tree read_list
read_tree_step mode w o = same_value (read_trees (length w) mode) (λ marked v. read_trees (suc (length v)) mode marked v) mode w
    (λ marked v ov k. enough (length w) (suc (length v)) mode marked v ov k (omega arith)) o

-- a list of values is at its end, or has a value before others
pub read_list_step : (mode : Mode) (marked : Bool) (w : List ℕ) → AreOctets w → read_list mode marked w ≡ if_not_at_end (at_end mode marked w)
    (option_and_then (λ t. option_map (λ ts. (t.0 ∷ₜ ts.0, ts.1)) (read_list mode marked t.1)) (read_tree mode w))
unfolding read_tree read_list read_trees
read_list_step mode marked w o = ap (if_not_at_end (at_end mode marked w)) (go (read_value mode (read_trees (length w) mode) w) refl)
  where
    go : (r : Option (Tree × List ℕ)) → read_value mode (read_trees (length w) mode) w ≡ r
        → option_and_then {U = Trees × List ℕ} (λ t. option_map (λ ts. (t.0 ∷ₜ ts.0, ts.1)) (read_trees (length w) mode marked t.1)) r
        ≡ option_and_then (λ t. option_map (λ ts. (t.0 ∷ₜ ts.0, ts.1)) (read_trees (suc (length t.1)) mode marked t.1)) r
    go None e = refl
    go (Some r) e =
        let s = value_sound mode _ (trees_sound (length w) mode) w r o e in
        let k = two_octets mode r.0 s.front s.is_encoding in
        let l : length w ≡ length s.front + length r.1 = ap length s.is ∙ length-append s.front r.1 in
        ap (option_map (λ ts. (r.0 ∷ₜ ts.0, ts.1)))
        (enough (length w) (suc (length r.1)) mode marked r.1 (AreOctets-after s.front w r.1 s.is o) (omega arith) (omega arith))
