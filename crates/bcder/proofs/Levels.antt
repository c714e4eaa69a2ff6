-- Lists of values, and the values of indefinite length that are open inside them.
use Rattle.std.proofs.Common.{◌≡◌, ℕ, zero, suc, ◌+◌, ◌-◌, ◌<◌, ◌≤◌, Bool, true, false, List, [], ◌∷◌, length, Option}
use Rattle.std.proofs.Common.{Some, None, option_map, option_and_then, refl, sym, ap, ◌∙◌, arith}
use Rattle.std.specs.Int.{from_bool}
use Rattle.std.proofs.lemmas.List.{length-append}
use Rattle.bcder.specs.declared.mode.Mode.{Mode}
use Rattle.bcder.specs.x690.Identifier.{AreOctets}
use Rattle.bcder.specs.x690.Tree.{Tree, Trees, ◌∷ₜ◌}
use Rattle.bcder.specs.steps.Reading.{read_end, read_list, read_tree, at_end, after_tree, after_list, Leaves}
use Rattle.bcder.specs.laws.Sound.{end_sound}
use Rattle.bcder.specs.laws.Stands.{AreOctets-after, tree_sound}
use Rattle.bcder.proofs.Markers.{end_size}
use Rattle.bcder.proofs.PlainReader.{tree_read, value_shorter}
use Rattle.bcder.proofs.ReadingSteps.{read_list_step}

list_ends : (mode : Mode) (marked : Bool) (w x : List ℕ) → AreOctets w → at_end mode marked w ≡ Some x → after_list mode marked w ≡ Some x
unfolding after_list
list_ends mode marked w x o e = ap (option_map (λ ts. ts.1)) (read_list_step mode marked w o) ∙ rw e refl

list_goes_on : (mode : Mode) (marked : Bool) (w : List ℕ) → AreOctets w → at_end mode marked w ≡ None
    → after_list mode marked w ≡ option_and_then (after_list mode marked) (after_tree mode w)
unfolding after_list after_tree
list_goes_on mode marked w o e = ap (option_map (λ ts. ts.1)) (read_list_step mode marked w o) ∙ rw e (go (read_tree mode w))
  where
    inner : (t : Tree) (r : Option (Trees × List ℕ))
        → option_map (λ ts. ts.1) (option_map {U = Trees × List ℕ} (λ ts. (t ∷ₜ ts.0, ts.1)) r) ≡ option_map (λ ts. ts.1) r
    inner t None = refl
    inner t (Some ts) = refl

    go : (r : Option (Tree × List ℕ))
        → option_map (λ ts. ts.1) (option_and_then {U = Trees × List ℕ} (λ t. option_map (λ ts. (t.0 ∷ₜ ts.0, ts.1)) (read_list mode marked t.1)) r)
        ≡ option_and_then (λ y. option_map (λ ts. ts.1) (read_list mode marked y)) (option_map (λ t. t.1) r)
    go None = refl
    go (Some t) = inner t.0 (read_list mode marked t.1)

-- the octets after the ends of so many values of indefinite length, which are open before these octets
abbrev pub after_ends : Mode → ℕ → List ℕ → Option (List ℕ)
after_ends mode zero w = Some w
after_ends mode (suc n) w = option_and_then (after_ends mode n) (after_list mode true w)

chained : (f g : List ℕ → Option (List ℕ)) (r : Option (List ℕ)) → option_and_then f (option_and_then g r) ≡ option_and_then (λ y. option_and_then f (g y)) r
chained f g None = refl
chained f g (Some y) = refl

ends_go_on : (mode : Mode) (n : ℕ) (w : List ℕ) → AreOctets w → at_end mode true w ≡ None
    → after_ends mode (suc n) w ≡ option_and_then (after_ends mode (suc n)) (after_tree mode w)
ends_go_on mode n w o e =
    ap (option_and_then (after_ends mode n)) (list_goes_on mode true w o e) ∙ chained (after_ends mode n) (after_list mode true) (after_tree mode w)

-- what is read of all these octets is what f gives of those that are left, where so many values are open
pub record Reads (all : Option (List ℕ)) (size : ℕ) (f : List ℕ → Option (List ℕ)) (n : ℕ) (left : List ℕ) : Type 0 where
  pub octets : AreOctets left
  pub shorter : length left + n ≤ size
  pub same : all ≡ f left

-- behind a value
passes : (mode : Mode) (all : Option (List ℕ)) (size : ℕ) (f : List ℕ → Option (List ℕ)) (n : ℕ) (v y : List ℕ) → Reads all size f n v
    → f v ≡ option_and_then f (after_tree mode v) → after_tree mode v ≡ Some y → Reads all size f n y
passes mode all size f n v y k go e =
    let r = tree_read mode v y e in
    let s = tree_sound mode v (r.0, y) k.octets r.1 in
    record {
      octets = AreOctets-after s.front v y s.is k.octets;
      shorter = (let h = k.shorter in omega (arith, value_shorter mode v y k.octets e));
      same = k.same ∙ go ∙ rw e refl;
    }

-- ---- up to the last octet

abbrev pub InList : Mode → List ℕ → List ℕ → Type 0
InList mode w left = Reads (after_list mode false w) (length w) (after_list mode false) 0 left

not_ended : (mode : Mode) (w : List ℕ) → 0 < length w → at_end mode false w ≡ None
unfolding at_end
not_ended mode [] e = absurd (omega arith)
not_ended mode (b ∷ w) e = refl

module _ (mode : Mode) (w v : List ℕ) (k : InList mode w v) where
  pub list_passes : (y : List ℕ) → 0 < length v → after_tree mode v ≡ Some y → InList mode w y
  list_passes y s e = passes mode (after_list mode false w) (length w) (after_list mode false) 0 v y k
      (list_goes_on mode false v k.octets (not_ended mode v s)) e

  pub list_fails : 0 < length v → after_tree mode v ≡ None → after_list mode false w ≡ None
  list_fails s e = k.same ∙ list_goes_on mode false v k.octets (not_ended mode v s) ∙ rw e refl

  pub behind_shorter : (y : List ℕ) → after_tree mode v ≡ Some y → length y < length v
  behind_shorter y e = (let s = value_shorter mode v y k.octets e in omega arith)

pub list_ended : (mode : Mode) (w v : List ℕ) → InList mode w v → length v ≡ 0 → after_list mode false w ≡ Some []
unfolding at_end
list_ended mode w [] k e = k.same ∙ list_ends mode false [] [] k.octets refl
list_ended mode w (b ∷ v) k e = absurd (omega arith)

-- ---- up to the ends of open values

abbrev pub InOpen : Mode → List ℕ → ℕ → List ℕ → Type 0
InOpen mode w n left = Reads (after_tree mode w) (length w) (after_ends mode n) n left

marker_ended : (mode : Mode) (w : List ℕ) → at_end mode true w ≡ read_end mode w
unfolding at_end
marker_ended mode w = refl

end_shorter : (mode : Mode) (w x : List ℕ) → AreOctets w → read_end mode w ≡ Some x → length x + 2 ≤ length w
end_shorter mode w x o e =
    let m = end_sound mode w x o e in
    let s = end_size mode m.marker m.is_end in
    let two : 2 ≤ length m.marker = s.0 in
    omega (arith, ap length m.is, length-append m.marker x)

one_ended : (r : Option (List ℕ)) → option_and_then (λ w. Some w) r ≡ r
one_ended None = refl
one_ended (Some w) = refl

pub opened : (mode : Mode) (w x : List ℕ) (b : Bool) (n : ℕ) → AreOctets w → Leaves mode w b x → length x + 2 ≤ length w → n ≡ from_bool b → InOpen mode w n x
opened mode w x false n o l s e =
    let r = tree_read mode w x l in
    let t = tree_sound mode w (r.0, x) o r.1 in
    rw e (record { octets = AreOctets-after t.front w x t.is o; shorter = omega arith; same = l })
opened mode w x true n o l s e = rw e (record { octets = l.0; shorter = omega arith; same = l.1 ∙ sym (one_ended (after_list mode true x)) })

module _ (mode : Mode) (w v : List ℕ) where
  pub ends_one : (n : ℕ) → InOpen mode w n v → 0 < n → (x : List ℕ) → read_end mode v ≡ Some x → InOpen mode w (n - 1) x
  ends_one zero k s x e = absurd (omega arith)
  ends_one (suc n) k s x e =
      let m = end_sound mode v x k.octets e in
      let one : suc n - 1 ≡ n = omega arith in
      rw one (record {
        octets = AreOctets-after m.marker v x m.is k.octets;
        shorter = (let h = k.shorter in omega (arith, end_shorter mode v x k.octets e));
        same = k.same ∙ rw (list_ends mode true v x k.octets (marker_ended mode v ∙ e)) refl;
      })

  pub end_passes : (n : ℕ) → InOpen mode w n v → (x : List ℕ) → read_end mode v ≡ Some x → length x < length v
  end_passes n k x e = omega (arith, end_shorter mode v x k.octets e)

  go_on : (n : ℕ) → InOpen mode w (suc n) v → read_end mode v ≡ None → after_ends mode (suc n) v ≡ option_and_then (after_ends mode (suc n)) (after_tree mode v)
  go_on n k e = ends_go_on mode n v k.octets (marker_ended mode v ∙ e)

  pub open_passes : (n : ℕ) → InOpen mode w n v → 0 < n → (y : List ℕ) → read_end mode v ≡ None → after_tree mode v ≡ Some y → InOpen mode w n y
  open_passes zero k s y e t = absurd (omega arith)
  open_passes (suc n) k s y e t = passes mode (after_tree mode w) (length w) (after_ends mode (suc n)) (suc n) v y k (go_on n k e) t

  pub open_goes_on : (n : ℕ) → InOpen mode w n v → 0 < n → (y : List ℕ) (b : Bool) (m : ℕ) → read_end mode v ≡ None → Leaves mode v b y
      → length y + 2 ≤ length v → m ≡ from_bool b → InOpen mode w (n + m) y
  open_goes_on zero k s y b m e l less is = absurd (omega arith)
  open_goes_on (suc n) k s y false m e l less is =
      let none : suc n + 0 ≡ suc n = omega arith in
      rw (is, none) (open_passes (suc n) k s y e l)
  open_goes_on (suc n) k s y true m e l less is =
      let one : suc n + 1 ≡ suc (suc n) = omega arith in
      rw (is, one) (record {
        octets = l.0;
        shorter = (let h = k.shorter in omega arith);
        same = k.same ∙ go_on n k e ∙ rw (l.1) refl;
      })

  pub open_fails : (n : ℕ) → InOpen mode w n v → 0 < n → read_end mode v ≡ None → after_tree mode v ≡ None → after_tree mode w ≡ None
  open_fails zero k s e t = absurd (omega arith)
  open_fails (suc n) k s e t = k.same ∙ go_on n k e ∙ rw t refl
