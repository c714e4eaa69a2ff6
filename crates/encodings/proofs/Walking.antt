-- The steps of the walk over values.
use Rattle.std.proofs.Common.{◌≡◌, ℕ, ◌+◌, ◌-◌, ◌^◌, ◌<◌, ◌≤◌, Bool, true, false, IsTrue, List, [], ◌∷◌, ◌++◌, length, take, drop, map, reverse}
use Rattle.std.proofs.Common.{Option, Some, None, option_map, refl, sym, ap, subst, ◌∙◌, append_assoc, arith}
use Rattle.std.proofs.Math.Nat.{max-zero}
use Rattle.std.specs.Prelude.{max}
use Rattle.std.proofs.lemmas.List.{length-append, length-reverse, length-map, reverse-append, map-append, take-append-drop, length-take-le}
use denote.Ref.{Bor}
use Rattle.bcder.specs.declared.mode.Mode.{Mode}
use Rattle.bcder.specs.x690.Identifier.{AreOctets, Tag}
use Rattle.bcder.specs.x690.Length.{IsEndOfContents}
use Rattle.bcder.specs.x690.Encoding.{IsHeader, may_have}
use Rattle.bcder.specs.x690.Preorder.{Heading}
use Rattle.bcder.specs.calls.Content.{length_of}
use Rattle.bcder.specs.steps.Reading.{read_tree}
use Rattle.bcder.specs.laws.Complete.{header_size}
use Rattle.encodings.specs.declared.checked.Checked.{Checked}
use Rattle.encodings.specs.Open.{Open, open_values, value_and_rest, Tallied, Begins, HasNoHeader, HasHeader, Closes, GoesOn, of_primitive}
use Rattle.encodings.specs.Open.{into_definite, into_indefinite, out_of_definite, out_of_indefinite}
use Rattle.encodings.proofs.Reading.{definite_ends, indefinite_ends, indefinite_goes_on, definite_goes_on, no_tree, too_short, primitive_next}
use Rattle.encodings.proofs.Reading.{definite_next, indefinite_next, after_front, end_read, no_end_read}

-- ---- the innermost open value

pub closes_definite : (mode : Mode) (o : Open) (behind x : List ℕ) → o ≡ Some behind → length x ≡ 0 → Closes mode o x behind 0
closes_definite mode o behind [] e l =
    rw e (record { same = λ os. definite_ends mode os behind; passed = []; is = λ os. refl; step = λ os. out_of_definite refl refl refl refl; size = refl })
closes_definite mode o behind (b ∷ x) e l = absurd (omega arith)

pub goes_on_definite : (mode : Mode) (o : Open) (behind x : List ℕ) → o ≡ Some behind → AreOctets x → 0 < length x → GoesOn mode o x
goes_on_definite mode o behind x e octets l = rw e (record { same = λ os. definite_goes_on mode os behind x octets l; no_end = l })

pub closes_indefinite : (mode : Mode) (o : Open) (x y w : List ℕ) (n : ℕ) → o ≡ None → AreOctets x → IsEndOfContents mode w → x ≡ w ++ y
    → n ≡ length x - length y → Closes mode o x y n
closes_indefinite mode o x y w n e octets end is size =
    rw e (record {
      same = λ os. indefinite_ends mode os x y octets (end_read mode w x y end is);
      passed = w;
      is = λ os. after_front os w y x is;
      step = λ os. out_of_indefinite refl end is refl;
      size = omega (arith, length-append w y, ap length is);
    })

pub goes_on_indefinite : (mode : Mode) (o : Open) (x : List ℕ) → o ≡ None → AreOctets x → ((w y : List ℕ) → IsEndOfContents mode w → x ≡ w ++ y → ⊥)
    → GoesOn mode o x
goes_on_indefinite mode o x e octets none =
    rw e (record { same = λ os. indefinite_goes_on mode os x octets (no_end_read mode x octets none); no_end = none })

-- ---- the next value

pub nothing_read : (mode : Mode) (x : List ℕ) → read_tree mode x ≡ None → (os : List Open) → value_and_rest mode os x ≡ None
nothing_read mode x e os = rw e refl

pub nothing_in_nothing : (mode : Mode) (x : List ℕ) → length x ≡ 0 → (os : List Open) → value_and_rest mode os x ≡ None
nothing_in_nothing mode [] l os = nothing_read mode []
    (no_tree mode [] (λ i. omega arith)
    (λ t f n v y h is. (let s = header_size mode t f (length_of n) v h in omega (arith, ap length is, length-append v y)))) os
nothing_in_nothing mode (b ∷ x) l os = absurd (omega arith)

pub nothing_without_header : (mode : Mode) (x : List ℕ) → AreOctets x → HasNoHeader mode x → (os : List Open) → value_and_rest mode os x ≡ None
nothing_without_header mode x o none = nothing_read mode x (no_tree mode x o none)

pub nothing_beyond : (mode : Mode) (x : List ℕ) (t : Tag) (f : Bool) (n : Option ℕ) (h z : List ℕ) (k : ℕ) → AreOctets x
    → IsHeader mode t f (length_of n) h → x ≡ h ++ z → n ≡ Some k → length z < k → (os : List Open) → value_and_rest mode os x ≡ None
nothing_beyond mode x t f n h z k o d is e l = nothing_read mode x (too_short mode x t f n h z o d is k e l)

pub tallied : (old new : Checked) (n d : ℕ) (h : Heading) → new.at ≡ old.at + n → new.values ≡ old.values + 1 → new.depth ≡ max old.depth d
    → d ≡ h.depth + 1 → Tallied old new n (h ∷ [])
tallied old new n d h a v e k = record { at = a; values = v; depth = e ∙ ap (λ m. max old.depth m) (k ∙ sym (max-zero (h.depth + 1))) }

pub length_open : (opened : List (Option (Bor (List ℕ)))) → length (open_values opened) ≡ length opened
length_open opened = length-reverse (map (option_map (λ s. s.now)) opened) ∙ length-map opened (option_map (λ s. s.now))

pub open_pushed : (opened more : List (Option (Bor (List ℕ)))) (o : Option (Bor (List ℕ))) → more ≡ opened ++ o ∷ []
    → open_values more ≡ option_map (λ s. s.now) o ∷ open_values opened
open_pushed opened more o e =
    ap open_values e ∙ ap reverse (map-append (option_map (λ s. s.now)) opened (o ∷ []))
    ∙ reverse-append (map (option_map (λ s. s.now)) opened) (option_map (λ s. s.now) o ∷ [])

-- only a constructed encoding has the indefinite form
pub must_be : (mode : Mode) (t : Tag) (f : Bool) (n : Option ℕ) {h : List ℕ} → n ≡ None → IsHeader mode t f (length_of n) h → f ≡ true
must_be mode t false n e d = absurd (no (rw e at d.allowed))
  where
    no : IsTrue (may_have mode false (length_of None)) → ⊥
    no i = cc
must_be mode t true n e d = refl

module _ (mode : Mode) (x : List ℕ) (t : Tag) (f : Bool) (n : Option ℕ) (h z : List ℕ) (octets : AreOctets x)
    (d : IsHeader mode t f (length_of n) h) (is : x ≡ h ++ z) where
  two : 2 ≤ length h
  two = header_size mode t f (length_of n) h d

  pub begins_primitive : (os : List Open) (y : List ℕ) (k m s : ℕ) (old new : Checked) → n ≡ Some k → f ≡ false → k ≤ length z → y ≡ drop k z
      → new.at ≡ old.at + s → s ≡ length x - length y → new.values ≡ old.values + 1 → new.depth ≡ max old.depth m → m ≡ length os + 1
      → Begins mode os x os y old new
  begins_primitive os y k m s old new e form l back a size v deep depth =
      let told : IsHeader mode t false (length_of (Some (length (take k z)))) h =
      subst (λ j. IsHeader mode t false (length_of (Some j)) h) (sym (length-take-le k z l)) (rw (e, form) at d) in
      let whole : x ≡ (h ++ take k z) ++ drop k z = is ∙ ap (λ w. h ++ w) (sym (take-append-drop k z)) ∙ sym (append_assoc h (take k z) (drop k z)) in
      let count : length (h ++ take k z) ≡ s = omega (arith, length-append (h ++ take k z) (drop k z), ap length whole, ap length back, size) in
      rw back (record {
        heading = record { tag = t; constructed = false; depth = length os };
        same = primitive_next mode x t f n h z octets d is k os e form l;
        passed = h ++ take k z;
        is = after_front os (h ++ take k z) (drop k z) x whole;
        step = of_primitive t h (take k z) told (is ∙ ap (λ w. h ++ w) (sym (take-append-drop k z))) refl refl refl;
        tallied = tallied old new (length (h ++ take k z)) m (record { tag = t; constructed = false; depth = length os })
            (a ∙ ap (λ r. old.at + r) (sym count)) v deep depth;
        two = omega (arith, two, length-append h (take k z));
        opens = omega arith;
      })

  pub begins_definite : (os ps : List Open) (y b : List ℕ) (k m s : ℕ) (old new : Checked) → n ≡ Some k → f ≡ true → k ≤ length z → y ≡ take k z
      → b ≡ drop k z → ps ≡ Some b ∷ os → new.at ≡ old.at + s → s ≡ length x - length z → new.values ≡ old.values + 1 → new.depth ≡ max old.depth m
      → m ≡ length os + 1 → Begins mode os x ps y old new
  begins_definite os ps y b k m s old new e form l front back opens a size v deep depth =
      let told : IsHeader mode t true (length_of (Some (length (take k z)))) h =
      subst (λ j. IsHeader mode t true (length_of (Some j)) h) (sym (length-take-le k z l)) (rw (e, form) at d) in
      let count : length h ≡ s = omega (arith, length-append h z, ap length is, size) in
      rw (opens, front, back) (record {
        heading = record { tag = t; constructed = true; depth = length os };
        same = definite_next mode x t f n h z octets d is k os e form l;
        passed = h;
        is = after_front os h z x is ∙ ap (λ w. h ++ w) (after_front os (take k z) (drop k z) z (sym (take-append-drop k z)));
        step = into_definite t h (drop k z) told (is ∙ ap (λ w. h ++ w) (sym (take-append-drop k z))) refl refl refl;
        tallied = tallied old new (length h) m (record { tag = t; constructed = true; depth = length os }) (a ∙ ap (λ r. old.at + r) (sym count)) v deep depth;
        two = two;
        opens = omega arith;
      })

  pub begins_indefinite : (os ps : List Open) (y : List ℕ) (m s : ℕ) (old new : Checked) → n ≡ None → f ≡ true → y ≡ z → ps ≡ None ∷ os
      → new.at ≡ old.at + s → s ≡ length x - length z → new.values ≡ old.values + 1 → new.depth ≡ max old.depth m → m ≡ length os + 1
      → Begins mode os x ps y old new
  begins_indefinite os ps y m s old new e form front opens a size v deep depth =
      let told : IsHeader mode t true (length_of None) h = rw (e, form) at d in
      let count : length h ≡ s = omega (arith, length-append h z, ap length is, size) in
      rw (opens, front) (record {
        heading = record { tag = t; constructed = true; depth = length os };
        same = indefinite_next mode x t f n h z octets d is os e form;
        passed = h;
        is = after_front os h z x is;
        step = into_indefinite t h told is refl refl refl;
        tallied = tallied old new (length h) m (record { tag = t; constructed = true; depth = length os }) (a ∙ ap (λ r. old.at + r) (sym count)) v deep depth;
        two = two;
        opens = omega arith;
      })

-- a value begins inside as many others as are allowed, each of which has two octets
pub begins_too_deep : (mode : Mode) (x : List ℕ) (t : Tag) (f : Bool) (n : Option ℕ) (h z : List ℕ) (len levels at : ℕ)
    → IsHeader mode t f (length_of n) h → x ≡ h ++ z → len ≡ levels → len ≤ at → at + length x < 2 ^ 64
    → HasHeader mode x × (len ≡ levels) × (levels + 2 < 2 ^ 64)
begins_too_deep mode x t f n h z len levels at d is e l m =
    let s = header_size mode t f (length_of n) h d in
    (record { tag = t; form = f; len = n; header = h; behind = z; is_header = d; is = is }, e, omega (arith, s, ap length is, length-append h z))
