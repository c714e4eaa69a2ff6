-- One step of a walk whose state the caller keeps.
use Rattle.std.proofs.Common.{◌≡◌, ℕ, suc, ◌+◌, ◌-◌, ◌<◌, ◌≤◌, Bool, true, false, List, [], ◌∷◌, ◌++◌, length, take, drop, reverse, get_or, set}
use Rattle.std.proofs.Common.{slice_range, slice_set, Option, Some, None, refl, sym, ap, subst, ◌∙◌, inl, inr, arith}
use Rattle.std.proofs.lemmas.List.{length-append, length-drop, length-take-le, length-set, length-reverse, take-append-drop, take_more, take_more_set}
use Rattle.std.proofs.lemmas.List.{reverse-append, drop-drop, take-take, drop_at}
use Rattle.std.proofs.lemmas.Slice.{between_is}
use Rattle.std.proofs.lemmas.Bool.Decides.{nat_tests}
use Rattle.std.specs.Prelude.{nat_eq}
use Rattle.bcder.specs.declared.mode.Mode.{Mode}
use Rattle.bcder.specs.x690.Identifier.{Tag}
use Rattle.bcder.specs.x690.Length.{IsEndOfContents}
use Rattle.bcder.specs.x690.Encoding.{IsHeader}
use Rattle.bcder.specs.calls.Content.{length_of}
use Rattle.encodings.specs.declared.heading.Heading.{Heading as HeadingTold}
use Rattle.encodings.specs.declared.next.Event.{Event}
use Rattle.encodings.specs.declared.next.Walk.{Walk}
use Rattle.encodings.specs.Headings.{Tells}
use Rattle.encodings.specs.Open.{Open, HasNoHeader, no_octets, no_header, goes_beyond, Step, of_primitive, into_definite, into_indefinite}
use Rattle.encodings.specs.Open.{out_of_definite, out_of_indefinite, heading_of}
use Rattle.encodings.specs.Next.{no_offset, kept, AreKept, StandsFor, around, EndsInside, MayStand, kind_of, an_end, end_told, TellsStep, of_value, of_end}
use Rattle.encodings.specs.Next.{Advanced, IsDue, Advances, goes_on, stops, is_full}
use Rattle.encodings.proofs.Walking.{must_be}

-- ---- parts of the octets

range_size : (w : List ℕ) (s e : ℕ) → s ≤ e → e ≤ length w → length (slice_range w s e) ≡ e - s
range_size w s e h k = length-take-le (e - s) (drop s w) (omega (arith, length-drop s w))

range_rest : (w : List ℕ) (s e a : ℕ) → s + a ≤ e → drop a (slice_range w s e) ≡ slice_range w (s + a) e
range_rest w s e a h = ap (drop a) (between_is w s e) ∙ drop-drop a s (take e w) ∙ sym (between_is w (s + a) e)

range_front : (w : List ℕ) (s e a : ℕ) → s + a ≤ e → take a (slice_range w s e) ≡ slice_range w s (s + a)
range_front w s e a h =
    let same : a ≡ s + a - s = omega arith in
    take-take a (e - s) (drop s w) (omega arith) ∙ ap (λ n. take n (drop s w)) same

-- what follows the front of a part is a part
range_behind : (w : List ℕ) (s e : ℕ) (h z : List ℕ) → s ≤ e → e ≤ length w → slice_range w s e ≡ h ++ z
    → (s + length h ≤ e) × (z ≡ slice_range w (s + length h) e)
range_behind w s e h z l k is =
    let n : s + length h ≤ e = omega (arith, range_size w s e l k, ap length is, length-append h z) in
    (n, sym (drop_at h z (length h) refl) ∙ ap (drop (length h)) (sym is) ∙ range_rest w s e (length h) n)

nothing : (w : List ℕ) → length w ≡ 0 → w ≡ []
nothing [] l = refl
nothing (b ∷ w) l = absurd (omega (arith, l))

-- ---- the numbers that are kept

pub ends_inside : (w : List ℕ) (end : ℕ) (ns : List ℕ) (os : List Open) → AreKept w end ns os → end ≤ length w
ends_inside w end [] [] k = omega (arith, k)
ends_inside w end [] (o ∷ os) k = absurd k
ends_inside w end (n ∷ ns) [] k = absurd k
ends_inside w end (n ∷ ns) (None ∷ os) k = ends_inside w end ns os k.1
ends_inside w end (n ∷ ns) (Some b ∷ os) k = let i = ends_inside w n ns os k.3 in omega (arith, k.1)

as_many : (w : List ℕ) (end : ℕ) (ns : List ℕ) (os : List Open) → AreKept w end ns os → length os ≡ length ns
as_many w end [] [] k = refl
as_many w end [] (o ∷ os) k = absurd k
as_many w end (n ∷ ns) [] k = absurd k
as_many w end (n ∷ ns) (None ∷ os) k = ap suc (as_many w end ns os k.1)
as_many w end (n ∷ ns) (Some b ∷ os) k = ap suc (as_many w n ns os k.3)

pushed : (stack : List ℕ) (d n : ℕ) → d < length stack → kept (set stack d n) (d + 1) ≡ n ∷ kept stack d
pushed stack d n l = ap reverse (take_more_set stack d n l) ∙ reverse-append (take d stack) (n ∷ [])

pub popped : (stack : List ℕ) (d : ℕ) → d < length stack → kept stack (d + 1) ≡ get_or stack d 0 ∷ kept stack d
popped stack d l = ap reverse (take_more stack d 0 l) ∙ reverse-append (take d stack) (get_or stack d 0 ∷ [])

open_indefinite : (w : List ℕ) (end n : ℕ) (ns : List ℕ) (os : List Open) → AreKept w end (n ∷ ns) os → n ≡ no_offset
    → (ps : List Open) × (os ≡ None ∷ ps) × AreKept w end ns ps
open_indefinite w end n ns [] k e = absurd k
open_indefinite w end n ns (None ∷ os) k e = (os, refl, k.1)
open_indefinite w end n ns (Some b ∷ os) k e = absurd (omega (arith, k.0, e))

open_definite : (w : List ℕ) (end n : ℕ) (ns : List ℕ) (os : List Open) → AreKept w end (n ∷ ns) os → (n ≡ no_offset → ⊥)
    → (b : List ℕ) × (ps : List Open) × (os ≡ Some b ∷ ps) × (end ≤ n) × (b ≡ slice_range w end n) × AreKept w n ns ps
open_definite w end n ns [] k e = absurd k
open_definite w end n ns (None ∷ os) k e = absurd (e k.0)
open_definite w end n ns (Some b ∷ os) k e = (b, os, refl, k.1, k.2, k.3)

none_kept : (w : List ℕ) (end : ℕ) (ns : List ℕ) (os : List Open) → AreKept w end ns os → length ns ≡ 0 → (end ≡ length w) × (os ≡ [])
none_kept w end [] [] k l = (k, refl)
none_kept w end [] (o ∷ os) k l = absurd k
none_kept w end (n ∷ ns) os k l = absurd (omega (arith, l))

unmarked : (n : ℕ) → n < no_offset → nat_eq n no_offset ≡ false
unmarked n l = grind (arith, nat_tests)

ends_in : (w : List ℕ) (end n depth : ℕ) (ns : List ℕ) (os : List Open) → AreKept w end (n ∷ ns) os → depth ≡ suc (length ns)
    → EndsInside w end depth (around end n)
ends_in w end n depth ns [] k l = absurd k
ends_in w end n depth ns (None ∷ os) k l =
    rw k.0 (record {
      order = omega arith;
      inside = ends_inside w end ns os k.1;
      outermost = λ one. (none_kept w end ns os k.1 (omega (arith, one, l))).0;
    })
ends_in w end n depth ns (Some b ∷ os) k l =
    rw (unmarked n k.0) (record {
      order = k.1;
      inside = ends_inside w n ns os k.3;
      outermost = λ one. (none_kept w n ns os k.3 (omega (arith, one, l))).0;
    })

module _ (mode : Mode) (octets stack : List ℕ) (old : Walk) (os : List Open) (x : List ℕ) (s : StandsFor octets stack old os x) where
  inside : old.end ≤ length octets
  inside = ends_inside octets old.end (kept stack old.depth) os s.numbers

  kept_count : length (kept stack old.depth) ≡ old.depth
  kept_count = length-reverse (take old.depth stack) ∙ length-take-le old.depth stack s.room

  pub count : length os ≡ old.depth
  count = as_many octets old.end (kept stack old.depth) os s.numbers ∙ kept_count

  pub outermost : old.depth ≡ 0 → (old.end ≡ length octets) × (os ≡ [])
  outermost z = none_kept octets old.end (kept stack old.depth) os s.numbers (kept_count ∙ z)

  innermost : 0 < old.depth → AreKept octets old.end (get_or stack (old.depth - 1) 0 ∷ kept stack (old.depth - 1)) os
  innermost l =
      let same : old.depth ≡ old.depth - 1 + 1 = omega arith in
      subst (λ ns. AreKept octets old.end ns os) (ap (kept stack) same ∙ popped stack (old.depth - 1) (omega (arith, s.room))) s.numbers

  outer_count : 0 < old.depth → old.depth ≡ suc (length (kept stack (old.depth - 1)))
  outer_count l =
      omega (arith, l, length-reverse (take (old.depth - 1) stack), length-take-le (old.depth - 1) stack (omega (arith, s.room)))

  pub may_stand : MayStand octets stack old
  may_stand = record {
    order = s.order;
    inside = inside;
    room = s.room;
    outermost = λ z. (outermost z).0;
    innermost = λ l.
        ends_in octets old.end (get_or stack (old.depth - 1) 0) old.depth (kept stack (old.depth - 1)) os (innermost l) (outer_count l);
  }

  pub due_outermost : old.depth ≡ 0 → old.at < old.end → IsDue mode os x
  due_outermost z l = rw ((outermost z).1) (omega (arith, ap length s.rest, range_size octets old.at old.end s.order inside, l))

  -- ---- ends

  pub leaves_indefinite : 0 < old.depth → get_or stack (old.depth - 1) 0 ≡ no_offset → (w y : List ℕ) → IsEndOfContents mode w
      → slice_range octets old.at old.end ≡ w ++ y → (size : ℕ) → size ≡ length (slice_range octets old.at old.end) - length y
      → (new : Walk) (e : Event) → new ≡ record { at = old.at + size; end = old.end; depth = old.depth - 1 }
      → e ≡ record { heading = end_told size; at = old.at; depth = old.depth - 1; kind = an_end } → Advanced mode octets os x stack stack old new e
  leaves_indefinite l k w y end is size n new e p q =
      let o = open_indefinite octets old.end (get_or stack (old.depth - 1) 0) (kept stack (old.depth - 1)) os (innermost l) k in
      let m : size ≡ length w = omega (arith, n, ap length is, length-append w y) in
      let b = range_behind octets old.at old.end w y s.order inside is in
      let deep : old.depth - 1 ≡ length o.0 = omega (arith, count, ap length o.1) in
      rw (p, q, m) (record {
        opened = o.0;
        rest = y;
        passed = w;
        met = [];
        step = out_of_indefinite o.1 end (s.rest ∙ is) refl;
        stands = record { room = omega (arith, s.room); numbers = o.2; order = b.0; rest = b.1 };
        at = refl;
        place = refl;
        tells = of_end refl refl deep refl;
        others = inl refl;
      })

  pub leaves_definite : 0 < old.depth → (get_or stack (old.depth - 1) 0 ≡ no_offset → ⊥) → length (slice_range octets old.at old.end) ≡ 0 → (kept : ℕ)
      → kept ≡ get_or stack (old.depth - 1) 0 → (new : Walk) (e : Event) → new ≡ record { at = old.at + 0; end = kept; depth = old.depth - 1 }
      → e ≡ record { heading = end_told 0; at = old.at; depth = old.depth - 1; kind = an_end } → Advanced mode octets os x stack stack old new e
  leaves_definite l k none n i new e p q =
      let o = open_definite octets old.end (get_or stack (old.depth - 1) 0) (kept stack (old.depth - 1)) os (innermost l) k in
      let here : old.end ≡ old.at + 0 = omega (arith, none, range_size octets old.at old.end s.order inside, s.order) in
      let deep : old.depth - 1 ≡ length o.1 = omega (arith, count, ap length o.2) in
      rw (p, q, i) (record {
        opened = o.1;
        rest = o.0;
        passed = [];
        met = [];
        step = out_of_definite o.2 (s.rest ∙ nothing _ none) refl refl;
        stands = record {
          room = omega (arith, s.room);
          numbers = o.5;
          order = omega (arith, o.3, here);
          rest = o.4 ∙ ap (λ a. slice_range octets a (get_or stack (old.depth - 1) 0)) here;
        };
        at = refl;
        place = refl;
        tells = of_end refl refl deep refl;
        others = inl refl;
      })

  -- ---- values

  pub stops_in_nothing : (after : List ℕ) (new : Walk) (e : Event) → IsDue mode os x → length (slice_range octets old.at old.end) ≡ 0
      → Advances mode octets os x stack after old new e 5
  stops_in_nothing after new e due none = stops due (no_octets (s.rest ∙ nothing _ none) refl)

  pub stops_without_header : (after : List ℕ) (new : Walk) (e : Event) → IsDue mode os x → HasNoHeader mode (slice_range octets old.at old.end)
      → Advances mode octets os x stack after old new e 3
  stops_without_header after new e due none = stops due (no_header (subst (HasNoHeader mode) (sym s.rest) none) refl)

  module _ (due : IsDue mode os x) (t : Tag) (f : Bool) (n : Option ℕ) (h z : List ℕ) (d : IsHeader mode t f (length_of n) h)
      (is : slice_range octets old.at old.end ≡ h ++ z) where
    whole : x ≡ h ++ z
    whole = s.rest ∙ is

    behind : (old.at + length h ≤ old.end) × (z ≡ slice_range octets (old.at + length h) old.end)
    behind = range_behind octets old.at old.end h z s.order inside is

    left : length z + (old.at + length h) ≡ old.end
    left = omega (arith, behind.0, ap length behind.1, range_size octets (old.at + length h) old.end behind.0 inside)

    told : (k : ℕ) (g : Bool) → n ≡ Some k → f ≡ g → k ≤ length z → IsHeader mode t g (length_of (Some (length (take k z)))) h
    told k g e form l = subst (λ j. IsHeader mode t g (length_of (Some j)) h) (sym (length-take-le k z l)) (rw (e, form) at d)

    split : (k : ℕ) → x ≡ h ++ (take k z ++ drop k z)
    split k = whole ∙ ap (λ w. h ++ w) (sym (take-append-drop k z))

    value_told : (g : HeadingTold) (e : Event) (ps : List Open) (passed : List ℕ) → Tells t f n (length h) g
        → e ≡ record { heading = g; at = old.at; depth = old.depth; kind = kind_of f } → TellsStep mode os x ps passed (heading_of t f os ∷ []) e
    value_told g e ps passed tells q =
        rw q (of_value (record {
          tag = t;
          len = n;
          header = h;
          behind = z;
          is_header = subst (λ c. IsHeader mode t c (length_of n) h) (sym tells.constructed) d;
          is = whole;
          size = tells.size;
          class = tells.class;
          number = tells.number;
          length = tells.length;
        })
        (ap (λ c. heading_of t c os ∷ []) (sym tells.constructed)) (sym count) (ap kind_of (sym tells.constructed)))

    pub stops_beyond : (after : List ℕ) (new : Walk) (e : Event) (k : ℕ) → n ≡ Some k → length z < k → Advances mode octets os x stack after old new e 4
    stops_beyond after new e k i l = stops due (goes_beyond (record {
      tag = t;
      form = f;
      len = k;
      header = h;
      behind = z;
      is_header = subst (λ m. IsHeader mode t f (length_of m) h) i d;
      is = whole;
      more = l;
    }) refl)

    into : (k : ℕ) → n ≡ Some k → f ≡ true → k ≤ length z → Step mode os x (Some (drop k z) ∷ os) (take k z) h (heading_of t true os ∷ [])
    into k i form l = into_definite t h (drop k z) (told k true i form l) (split k) refl refl refl

    into_marked : n ≡ None → f ≡ true → Step mode os x (None ∷ os) z h (heading_of t true os ∷ [])
    into_marked i form = into_indefinite t h (rw (i, form) at d) whole refl refl refl

    pub full_definite : (after : List ℕ) (new : Walk) (e : Event) (k : ℕ) → n ≡ Some k → f ≡ true → k ≤ length z → old.depth ≡ length stack
        → Advances mode octets os x stack after old new e 6
    full_definite after new e k i form l full = is_full refl due (record {
      opened = Some (drop k z) ∷ os;
      rest = take k z;
      passed = h;
      met = heading_of t true os ∷ [];
      step = into k i form l;
      opens = refl;
      full = count ∙ full;
    })

    pub full_indefinite : (after : List ℕ) (new : Walk) (e : Event) → n ≡ None → old.depth ≡ length stack → Advances mode octets os x stack after old new e 6
    full_indefinite after new e i full = is_full refl due (record {
      opened = None ∷ os;
      rest = z;
      passed = h;
      met = heading_of t true os ∷ [];
      step = into_marked i (must_be mode t f n i d);
      opens = refl;
      full = count ∙ full;
    })

    module _ (size : ℕ) (size_is : size ≡ length (slice_range octets old.at old.end) - length z) (g : HeadingTold)
        (tells : Tells t f n size g) (e : Event) (e_is : e ≡ record { heading = g; at = old.at; depth = old.depth; kind = kind_of f }) where
      size_of : size ≡ length h
      size_of = omega (arith, size_is, ap length is, length-append h z)

      pub enters_primitive : (after : List ℕ) (new : Walk) (k : ℕ) → n ≡ Some k → f ≡ false → k ≤ length z → after ≡ stack
          → new ≡ record { at = old.at + size + k; end = old.end; depth = old.depth } → Advances mode octets os x stack after old new e 0
      enters_primitive after new k i form l same p =
          let m : old.at + size + k ≡ old.at + length h + k = omega (arith, size_of) in
          let event : TellsStep mode os x os (h ++ take k z) (heading_of t f os ∷ []) e =
          value_told g e os (h ++ take k z) (subst (λ c. Tells t f n c g) size_of tells) e_is in
          rw (p, same, m) (goes_on refl (record {
            opened = os;
            rest = drop k z;
            passed = h ++ take k z;
            met = heading_of t f os ∷ [];
            step = of_primitive t h (take k z) (told k false i form l) (split k) refl refl (ap (λ c. heading_of t c os ∷ []) form);
            stands = record {
              room = s.room;
              numbers = s.numbers;
              order = omega (arith, left, l);
              rest = ap (drop k) behind.1 ∙ range_rest octets (old.at + length h) old.end k (omega (arith, left, l));
            };
            at = omega (arith, length-append h (take k z), length-take-le k z l);
            place = ap (λ v. v.at) e_is;
            tells = event;
            others = inl refl;
          }))

      pub enters_definite : (after : List ℕ) (new : Walk) (k : ℕ) → n ≡ Some k → f ≡ true → k ≤ length z → old.depth < length stack
          → length octets < no_offset → after ≡ slice_set stack old.depth old.end
          → new ≡ record { at = old.at + size; end = old.at + size + k; depth = old.depth + 1 } → Advances mode octets os x stack after old new e 0
      enters_definite after new k i form l room small same p =
          let event : TellsStep mode os x (Some (drop k z) ∷ os) h (heading_of t f os ∷ []) e =
          value_told g e (Some (drop k z) ∷ os) h (subst (λ c. Tells t f n c g) size_of tells) e_is in
          let back : drop k z ≡ slice_range octets (old.at + length h + k) old.end =
          ap (drop k) behind.1 ∙ range_rest octets (old.at + length h) old.end k (omega (arith, left, l)) in
          rw (p, same, size_of) (goes_on refl (record {
            opened = Some (drop k z) ∷ os;
            rest = take k z;
            passed = h;
            met = heading_of t f os ∷ [];
            step = subst (λ c. Step mode os x (Some (drop k z) ∷ os) (take k z) h (heading_of t c os ∷ [])) (sym form) (into k i form l);
            stands = record {
              room = omega (arith, room, length-set stack old.depth old.end);
              numbers = subst (λ ns. AreKept octets (old.at + length h + k) ns (Some (drop k z) ∷ os))
                  (sym (pushed stack old.depth old.end room)) (omega (arith, inside, small), omega (arith, left, l), back, s.numbers);
              order = omega arith;
              rest = ap (take k) behind.1 ∙ range_front octets (old.at + length h) old.end k (omega (arith, left, l));
            };
            at = refl;
            place = ap (λ v. v.at) e_is;
            tells = event;
            others = inr (old.end, refl);
          }))

      pub enters_indefinite : (after : List ℕ) (new : Walk) → n ≡ None → old.depth < length stack → after ≡ slice_set stack old.depth no_offset
          → new ≡ record { at = old.at + size; end = old.end; depth = old.depth + 1 } → Advances mode octets os x stack after old new e 0
      enters_indefinite after new i room same p =
          let form : f ≡ true = must_be mode t f n i d in
          let event : TellsStep mode os x (None ∷ os) h (heading_of t f os ∷ []) e =
          value_told g e (None ∷ os) h (subst (λ c. Tells t f n c g) size_of tells) e_is in
          rw (p, same, size_of) (goes_on refl (record {
            opened = None ∷ os;
            rest = z;
            passed = h;
            met = heading_of t f os ∷ [];
            step = subst (λ c. Step mode os x (None ∷ os) z h (heading_of t c os ∷ [])) (sym form) (into_marked i form);
            stands = record {
              room = omega (arith, room, length-set stack old.depth no_offset);
              numbers = subst (λ ns. AreKept octets old.end ns (None ∷ os)) (sym (pushed stack old.depth no_offset room)) (refl, s.numbers);
              order = behind.0;
              rest = behind.1;
            };
            at = refl;
            place = ap (λ v. v.at) e_is;
            tells = event;
            others = inr (no_offset, refl);
          }))

-- a step is one from the state before a call that changed nothing
pub advances_from : (mode : Mode) (octets stack after : List ℕ) (mid old new : Walk) (e : Event) (status : ℕ) → mid ≡ old
    → ((os : List Open) (x : List ℕ) → StandsFor octets stack mid os x → IsDue mode os x → Advances mode octets os x stack after mid new e status)
    → (os : List Open) (x : List ℕ) → StandsFor octets stack old os x → IsDue mode os x → Advances mode octets os x stack after old new e status
advances_from mode octets stack after mid old new e status unmoved entered os x s due =
    subst (λ w. Advances mode octets os x stack after w new e status) unmoved
    (entered os x (subst (λ w. StandsFor octets stack w os x) (sym unmoved) s) due)
