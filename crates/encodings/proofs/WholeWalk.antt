-- A walk over a value, from its first octet to its last.
use Rattle.std.proofs.Common.{◌≡◌, ℕ, suc, ◌+◌, ◌-◌, ◌*◌, ◌^◌, ◌<◌, ◌≤◌, List, [], ◌∷◌, ◌++◌, length, take, Option, Some, None, option_map, slice_get}
use Rattle.std.proofs.Common.{refl, sym, ap, subst, ◌∙◌, append_assoc, append-nil, arith}
use Rattle.std.specs.Prelude.{max}
use Rattle.std.proofs.lemmas.List.{length-append, append_cancel_right}
use denote.Ref.{Bor}
use Rattle.bcder.specs.declared.mode.Mode.{Mode}
use Rattle.bcder.specs.x690.Identifier.{AreOctets}
use Rattle.bcder.specs.x690.Preorder.{Heading, preorder}
use Rattle.bcder.specs.steps.Reading.{read_tree}
use Rattle.bcder.specs.laws.Complete.{tree_complete}
use Rattle.bcder.specs.laws.Sound.{none_is, some_inj, chained}
use Rattle.bcder.specs.laws.Stands.{tree_sound}
use Rattle.encodings.specs.declared.checked.Checked.{Checked}
use Rattle.encodings.specs.Depth.{deepest}
use Rattle.encodings.specs.Open.{Open, open_values, after, rest_of, value_and_rest, to_come, Tallied, Begins, Closes, GoesOn, NoneBegins, HasHeader}
use Rattle.encodings.specs.Open.{Step, Reaches, at_first, one_on}
use Rattle.encodings.specs.Values.{PassedValue, HasNoValue, RefusedValue, DeeperValue}
use Rattle.encodings.proofs.Reading.{after_both, last_apart}
use Rattle.encodings.proofs.Walking.{open_pushed}

pub deepest-append : (a b : List Heading) → deepest (a ++ b) ≡ max (deepest a) (deepest b)
deepest-append [] b = omega arith
deepest-append (h ∷ a) b = omega (arith, deepest-append a b)

pub tallied_none : (c : Checked) → Tallied c c 0 []
tallied_none c = record { at = omega arith; values = omega arith; depth = omega arith }

pub tallied_both : (a b c : Checked) (n m : ℕ) (hs ks : List Heading) → Tallied a b n hs → Tallied b c m ks → Tallied a c (n + m) (hs ++ ks)
tallied_both a b c n m hs ks s t = record {
  at = omega (arith, s.at, t.at);
  values = omega (arith, s.values, t.values, length-append hs ks);
  depth = omega (arith, s.depth, t.depth, deepest-append hs ks);
}

-- the octets of the innermost open value come first
pub come_first : (os : List Open) (x : List ℕ) → (b : List ℕ) × (to_come os x ≡ x ++ b)
come_first [] x = ([], sym (append-nil x))
come_first (Some behind ∷ os) x = (to_come os behind, refl)
come_first (None ∷ os) x = come_first os x

pub come_within : (os : List Open) (x : List ℕ) → length x ≤ length (to_come os x)
come_within os x = let b = come_first os x in omega (arith, ap length b.1, length-append x b.0)

-- the walk from the first octet to here
pub record InWalk (mode : Mode) (octets : List ℕ) (old now : Checked) (os : List Open) (x : List ℕ) : Type 0 where
  pub met : List Heading
  pub same : value_and_rest mode [] octets ≡ after met (rest_of mode os x)
  pub passed : List ℕ
  pub is : octets ≡ passed ++ to_come os x
  pub reaches : Reaches mode octets os x passed met
  pub tallied : Tallied old now (length passed) met
  pub values : now.values ≤ now.at
  pub depth : length os ≤ now.at
  pub come : now.at + length (to_come os x) ≡ old.at + length octets
  pub within : now.at + length x ≤ old.at + length octets

pub walk_starts : (mode : Mode) (octets : List ℕ) (old now : Checked) (os ps : List Open) (y : List ℕ) → os ≡ [] → old.values ≤ old.at
    → Begins mode os octets ps y old now → InWalk mode octets old now ps y
walk_starts mode octets old now os ps y e v b =
    let is : octets ≡ b.passed ++ to_come ps y = rw e at b.is in
    let same : value_and_rest mode [] octets ≡ after (b.heading ∷ []) (rest_of mode ps y) = rw e at b.same in
    let size = ap length is ∙ length-append b.passed (to_come ps y) in
    let none : length os ≡ 0 = ap length e in
    record {
      met = b.heading ∷ [];
      same = same;
      passed = b.passed;
      is = is;
      reaches = one_on [] ps octets y [] b.passed [] (b.heading ∷ []) at_first (subst (λ k. Step mode k octets ps y b.passed (b.heading ∷ [])) e b.step);
      tallied = b.tallied;
      values = omega (arith, b.tallied.values, b.tallied.at, b.two);
      depth = omega (arith, b.opens, b.tallied.at, b.two, none);
      come = omega (arith, b.tallied.at, size);
      within = omega (arith, b.tallied.at, size, come_within ps y);
    }

module _ (mode : Mode) (octets : List ℕ) (old now : Checked) (o : Open) (os : List Open) (x : List ℕ) (w : InWalk mode octets old now (o ∷ os) x) where
  pub walk_closes : (new : Checked) (y : List ℕ) (n : ℕ) → Closes mode o x y n → new.at ≡ now.at + n → new.values ≡ now.values → new.depth ≡ now.depth
      → InWalk mode octets old new os y
  walk_closes new y n c a v d =
      let is : octets ≡ (w.passed ++ c.passed) ++ to_come os y =
      w.is ∙ ap (λ z. w.passed ++ z) (c.is os) ∙ sym (append_assoc w.passed c.passed (to_come os y)) in
      let size = ap length is ∙ length-append (w.passed ++ c.passed) (to_come os y) in
      let front = length-append w.passed c.passed in
      let at : new.at ≡ old.at + length (w.passed ++ c.passed) = omega (arith, a, w.tallied.at, front, c.size) in
      record {
        met = w.met;
        same = w.same ∙ ap (after w.met) (c.same os);
        passed = w.passed ++ c.passed;
        is = is;
        reaches = subst (λ k. Reaches mode octets os y (w.passed ++ c.passed) k) (append-nil w.met)
            (one_on (o ∷ os) os x y w.passed c.passed w.met [] w.reaches (c.step os));
        tallied = record { at = at; values = v ∙ w.tallied.values; depth = d ∙ w.tallied.depth };
        values = omega (arith, w.values, a, v);
        depth = omega (arith, w.depth, a);
        come = omega (arith, at, size);
        within = omega (arith, at, size, come_within os y);
      }

  pub walk_goes_on : (mid new : Checked) (qs ps : List Open) (y : List ℕ) → GoesOn mode o x → mid.at ≡ now.at → mid.values ≡ now.values
      → mid.depth ≡ now.depth → qs ≡ o ∷ os → Begins mode qs x ps y mid new → InWalk mode octets old new ps y
  walk_goes_on mid new qs ps y g a v d q b =
      let come : to_come (o ∷ os) x ≡ b.passed ++ to_come ps y = ap (λ k. to_come k x) (sym q) ∙ b.is in
      let same : value_and_rest mode (o ∷ os) x ≡ after (b.heading ∷ []) (rest_of mode ps y) = ap (λ k. value_and_rest mode k x) (sym q) ∙ b.same in
      let few : length ps ≤ suc (length os) + 1 = omega (arith, b.opens, ap length q) in
      let is : octets ≡ (w.passed ++ b.passed) ++ to_come ps y = w.is ∙ ap (λ z. w.passed ++ z) come ∙ sym (append_assoc w.passed b.passed (to_come ps y)) in
      let size = ap length is ∙ length-append (w.passed ++ b.passed) (to_come ps y) in
      let front = length-append w.passed b.passed in
      let t = tallied_both old mid new (length w.passed) (length b.passed) w.met (b.heading ∷ []) (record {
        at = a ∙ w.tallied.at;
        values = v ∙ w.tallied.values;
        depth = d ∙ w.tallied.depth;
      }) b.tallied in
      let at : new.at ≡ old.at + length (w.passed ++ b.passed) = t.at ∙ ap (λ k. old.at + k) (sym front) in
      record {
        met = w.met ++ b.heading ∷ [];
        same = w.same ∙ ap (after w.met) (g.same os ∙ same) ∙ after_both w.met (b.heading ∷ []) (rest_of mode ps y);
        passed = w.passed ++ b.passed;
        is = is;
        reaches = one_on (o ∷ os) ps x y w.passed b.passed w.met (b.heading ∷ []) w.reaches
            (subst (λ k. Step mode k x ps y b.passed (b.heading ∷ [])) q b.step);
        tallied = record { at = at; values = t.values; depth = t.depth };
        values = omega (arith, w.values, a, v, b.tallied.at, b.tallied.values, b.two);
        depth = omega (arith, w.depth, a, b.tallied.at, b.two, few);
        come = omega (arith, at, size);
        within = omega (arith, at, size, come_within ps y);
      }

nothing_at_front : (mode : Mode) (octets : List ℕ) → value_and_rest mode [] octets ≡ None → HasNoValue mode octets
unfolding rest_of
nothing_at_front mode octets e t v x h is =
    let r : value_and_rest mode [] octets ≡ Some (preorder t 0 ++ [], x) = ap (value_and_rest mode []) is ∙ rw (tree_complete mode t v x h) refl in
    none_is _ (sym e ∙ r)

pub walk_refused_first : (mode : Mode) (octets : List ℕ) (old new : Checked) (status : ℕ) → value_and_rest mode [] octets ≡ None
    → NoneBegins mode octets status → new ≡ old → RefusedValue mode octets old new status
walk_refused_first mode octets old new status e why a = record {
  none = nothing_at_front mode octets e;
  opened = [];
  rest = octets;
  passed = [];
  met = [];
  reaches = at_first;
  tallied = subst (λ c. Tallied old c 0 []) (sym a) (tallied_none old);
  no_end = tt;
  why = why;
}

pub walk_refused : (mode : Mode) (octets : List ℕ) (old now new : Checked) (o : Open) (os : List Open) (x : List ℕ) (status : ℕ)
    → InWalk mode octets old now (o ∷ os) x → GoesOn mode o x → value_and_rest mode (o ∷ os) x ≡ None → NoneBegins mode x status → new.at ≡ now.at
    → new.values ≡ now.values → new.depth ≡ now.depth → RefusedValue mode octets old new status
walk_refused mode octets old now new o os x status w g e why a v d = record {
  none = nothing_at_front mode octets (w.same ∙ ap (after w.met) (g.same os ∙ e));
  opened = o ∷ os;
  rest = x;
  passed = w.passed;
  met = w.met;
  reaches = w.reaches;
  tallied = record { at = a ∙ w.tallied.at; values = v ∙ w.tallied.values; depth = d ∙ w.tallied.depth };
  no_end = g.no_end;
  why = why;
}

pub walk_deeper_first : (mode : Mode) (octets : List ℕ) (old new : Checked) (levels : ℕ) → 0 ≡ levels → levels + 2 < 2 ^ 64 → HasHeader mode octets
    → new ≡ old → DeeperValue mode levels octets old new
walk_deeper_first mode octets old new levels l f h a = record {
  opened = [];
  rest = octets;
  passed = [];
  met = [];
  reaches = at_first;
  tallied = subst (λ c. Tallied old c 0 []) (sym a) (tallied_none old);
  count = l;
  few = f;
  begins = h;
}

pub walk_deeper : (mode : Mode) (octets : List ℕ) (old now new : Checked) (os : List Open) (x : List ℕ) (levels : ℕ) → InWalk mode octets old now os x
    → length os ≡ levels → levels + 2 < 2 ^ 64 → HasHeader mode x → new.at ≡ now.at → new.values ≡ now.values → new.depth ≡ now.depth
    → DeeperValue mode levels octets old new
walk_deeper mode octets old now new os x levels w l f h a v d = record {
  opened = os;
  rest = x;
  passed = w.passed;
  met = w.met;
  reaches = w.reaches;
  tallied = record { at = a ∙ w.tallied.at; values = v ∙ w.tallied.values; depth = d ∙ w.tallied.depth };
  count = l;
  few = f;
  begins = h;
}

pub walk_ends : (mode : Mode) (octets : List ℕ) (old now : Checked) (os : List Open) (x : List ℕ) → AreOctets octets → os ≡ []
    → InWalk mode octets old now os x → PassedValue mode octets x old now
unfolding rest_of
walk_ends mode octets old now os x o e w =
    let same : value_and_rest mode [] octets ≡ Some (w.met ++ [], x) = rw e at w.same in
    let is : octets ≡ w.passed ++ x = rw e at w.is in
    let c = chained (λ t. after (preorder t.0 0) (Some ([], t.1))) (read_tree mode octets) (w.met ++ [], x) same in
    let p : ◌≡◌ {A = List Heading × List ℕ} (preorder c.0.0 0 ++ [], c.0.1) (w.met ++ [], x) = some_inj _ _ c.2 in
    let met : preorder c.0.0 0 ≡ w.met = sym (append-nil (preorder c.0.0 0)) ∙ ap (λ r. r.0) p ∙ append-nil w.met in
    let rest : c.0.1 ≡ x = ap (λ r. r.1) p in
    let s = tree_sound mode octets c.0 o c.1 in
    let same_octets : octets ≡ s.front ++ x = s.is ∙ ap (λ z. s.front ++ z) rest in
    let count : length w.passed ≡ length s.front = omega (arith, ap length is, ap length same_octets, length-append w.passed x, length-append s.front x) in
    let front : w.passed ≡ s.front = append_cancel_right w.passed s.front x (sym is ∙ same_octets) in
    record {
      tree = c.0.0;
      value = s.front;
      encodes = s.is_encoding;
      is = same_octets;
      reaches = subst (λ k. Reaches mode octets k x s.front (preorder c.0.0 0)) e (rw (met, ← front) w.reaches);
      tallied = rw (met, ← count) w.tallied;
    }

-- the innermost of the open values in memory
pub innermost_first : (opened : List (Option (Bor (List ℕ)))) (o : Option (Bor (List ℕ))) (n : ℕ) → n ≡ length opened - 1
    → slice_get opened n ≡ Some o → open_values opened ≡ option_map (λ s. s.now) o ∷ open_values (take n opened)
innermost_first [] o n e g = absurd (none_is o g)
innermost_first (a ∷ opened) o n e g =
    open_pushed (take n (a ∷ opened)) (a ∷ opened) o (last_apart (a ∷ opened) o n (omega (arith, e)) g)

pub walk_at : (mode : Mode) (octets : List ℕ) (old now : Checked) (qs : List Open) (o : Open) (os : List Open) (x : List ℕ) → qs ≡ o ∷ os
    → InWalk mode octets old now qs x → InWalk mode octets old now (o ∷ os) x
walk_at mode octets old now qs o os x q w = subst (λ k. InWalk mode octets old now k x) q w

pub closes_smaller : (mode : Mode) (qs os : List Open) (o : Open) (x y : List ℕ) (n : ℕ) → qs ≡ o ∷ os → Closes mode o x y n
    → length (to_come os y) * 2 + length os < length (to_come qs x) * 2 + length qs
closes_smaller mode qs os o x y n q c =
    let is = ap length (ap (λ k. to_come k x) q ∙ c.is os) ∙ length-append c.passed (to_come os y) in
    omega (arith, is, ap length q)

pub none_open : (opened : List (Option (Bor (List ℕ)))) → length opened ≡ 0 → open_values opened ≡ []
none_open [] l = refl
none_open (o ∷ opened) l = absurd (omega arith)
