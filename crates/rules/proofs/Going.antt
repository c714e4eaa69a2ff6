-- Where the walk goes.
use Rattle.std.proofs.Common.{◌≡◌, ℕ, suc, ◌+◌, ◌-◌, ◌*◌, ◌<◌, ◌≤◌, Bool, true, false, List, [], ◌∷◌, ◌++◌, length, take, Option, Some, None}
use Rattle.std.proofs.Common.{zero, get_or, map, option_map, slice_get, refl, sym, ap, subst, ◌∙◌, append_assoc, arith}
use Rattle.std.specs.Prelude.{is_some}
use Rattle.std.proofs.lemmas.List.{length-append, reverse-append, take_more}
use denote.Ref.{Bor}
use Rattle.bcder.specs.declared.mode.Mode.{Mode}
use Rattle.bcder.specs.declared.mode.Mode.TheVariants.{Ber}
use Rattle.bcder.specs.x690.Identifier.{Tag}
use Rattle.bcder.specs.x690.Length.{IsEndOfContents}
use Rattle.bcder.specs.x690.Preorder.{Heading}
use Rattle.bcder.specs.laws.Canonical.{header_in_ber}
use Rattle.bcder.specs.laws.Complete.{header_size}
use Rattle.bcder.specs.laws.Lengths.{IsLengthForm-from_length, length_some}
use Rattle.bcder.specs.laws.Sound.{none_is, some_inj}
use Rattle.encodings.specs.Next.{IsDue}
use Rattle.encodings.specs.Open.{Open, open_values, to_come, heading_of, Closes, Step, of_primitive, into_definite, into_indefinite}
use Rattle.encodings.specs.Open as open_specs
use Rattle.encodings.proofs.Reading.{after_front}
use Rattle.encodings.proofs.Walking.{must_be, open_pushed}
use Rattle.encodings.proofs.WholeWalk.{closes_smaller, innermost_first}
use Rattle.rules.specs.Begun.{BeginsValue, of_definite, of_indefinite}
use Rattle.rules.specs.Broken.{IsInDefinite}
use Rattle.rules.specs.Comes.{Comes, by_step, past_stray_end, past_missing_end, out_of_definite, out_of_indefinite, out_of_all, HasNoEnd}
use Rattle.rules.specs.Passes.{EndsBefore, Enters, GoesTo}

-- ---- steps

end_in_ber : (m : Mode) (w : List ℕ) → IsEndOfContents m w → IsEndOfContents Ber w
end_in_ber m w e = record { zero_length = e.zero_length; is = e.is; is_length = IsLengthForm-from_length m 0 e.zero_length e.is_length }

step_in_ber : (mode : Mode) (os ps : List Open) (x y p : List ℕ) (hs : List Heading) → Step mode os x ps y p hs → Step Ber os x ps y p hs
step_in_ber mode os ps x y p hs (of_primitive t h c d is e f g) = of_primitive t h c (header_in_ber mode t false _ h d) is e f g
step_in_ber mode os ps x y p hs (into_definite t h b d is e f g) = into_definite t h b (header_in_ber mode t true _ h d) is e f g
step_in_ber mode os ps x y p hs (into_indefinite t h d is e f g) = into_indefinite t h (header_in_ber mode t true _ h d) is e f g
step_in_ber mode os ps x y p hs (open_specs.out_of_definite e f g i) = open_specs.out_of_definite e f g i
step_in_ber mode os ps x y p hs (open_specs.out_of_indefinite e d is g) = open_specs.out_of_indefinite e (end_in_ber mode p d) is g

end_size : (mode : Mode) (w : List ℕ) → IsEndOfContents mode w → 2 ≤ length w
end_size mode w e = omega (arith, ap length e.is, length_some mode 0 e.zero_length e.is_length)

-- a step of which all is known
steps : (os ps : List Open) (x y p : List ℕ) (hs : List Heading) (at then : ℕ) → Step Ber os x ps y p hs → to_come os x ≡ p ++ to_come ps y
    → then ≡ at + length p → length ps < 2 * length p + length os → GoesTo os x at ps y then
steps os ps x y p hs at then s is e few =
    let size = ap length is ∙ length-append p (to_come ps y) in
    record {
      comes = λ octets c. subst (λ n. Comes octets ps y n) (sym e) (by_step os ps x y p hs at c s);
      count = omega (arith, e, size);
      smaller = omega (arith, size, few);
    }

-- ---- values

pub value_goes : (x : List ℕ) (t : Tag) (f : Bool) (size : ℕ) (c : List ℕ) (o : Open) (os ps : List Open) (y : List ℕ) (at then : ℕ)
    → BeginsValue Ber x t f size c o → Enters f size c o at os ps y then → GoesTo os x at ps y then
value_goes x t false size c o os ps y at then (of_definite h b d e is s) i =
    let by : b ≡ y = some_inj _ _ (sym e ∙ i.1) in
    let whole : x ≡ (h ++ c) ++ y = is ∙ ap (λ w. h ++ (c ++ w)) by ∙ sym (append_assoc h c y) in
    let step : Step Ber os x os y (h ++ c) (heading_of t false os ∷ []) = of_primitive t h c d (is ∙ ap (λ w. h ++ (c ++ w)) by) refl refl refl in
    let g : GoesTo os x at os y then = steps os os x y (h ++ c) _ at then step (after_front os (h ++ c) y x whole)
    (omega (arith, i.2, s, length-append h c)) (omega (arith, length-append h c, header_size Ber t false _ h d)) in
    rw i.0 g
value_goes x t true size c o os ps y at then (of_definite h b d e is s) i =
    let step : Step Ber os x (Some b ∷ os) c h (heading_of t true os ∷ []) = into_definite t h b d is refl refl refl in
    let come : to_come os x ≡ h ++ to_come (Some b ∷ os) c =
    after_front os h (c ++ b) x is ∙ ap (λ w. h ++ w) (after_front os c b (c ++ b) refl) in
    let g : GoesTo os x at (Some b ∷ os) c then = steps os (Some b ∷ os) x c h _ at then step come (omega (arith, i.2, s))
    (omega (arith, header_size Ber t true _ h d)) in
    rw (i.0, i.1, e) g
value_goes x t false size c o os ps y at then (of_indefinite h d e is s) i = absurd (none_is _ (sym e ∙ i.1))
value_goes x t true size c o os ps y at then (of_indefinite h d e is s) i =
    let step : Step Ber os x (None ∷ os) c h (heading_of t true os ∷ []) = into_indefinite t h d is refl refl refl in
    let g : GoesTo os x at (None ∷ os) c then = steps os (None ∷ os) x c h _ at then step (after_front os h c x is) (omega (arith, i.2, s))
    (omega (arith, header_size Ber t true _ h d)) in
    rw (i.0, i.1, e) g

-- a primitive value has a definite length
pub marked_form : (x : List ℕ) (t : Tag) (f : Bool) (size : ℕ) (c : List ℕ) (o : Open) → BeginsValue Ber x t f size c o → o ≡ None → f ≡ true
marked_form x t f size c o (of_definite h b d e is s) n = absurd (none_is _ (sym n ∙ e))
marked_form x t f size c o (of_indefinite h d e is s) n = must_be Ber t f None refl d

-- the octets that are told are there
pub value_inside : (x : List ℕ) (t : Tag) (f : Bool) (size : ℕ) (c : List ℕ) (o : Open) → BeginsValue Ber x t f size c o
    → size + length c ≤ length x
value_inside x t f size c o (of_definite h b d e is s) = omega (arith, s, ap length is, length-append h (c ++ b), length-append c b)
value_inside x t f size c o (of_indefinite h d e is s) = omega (arith, s, ap length is, length-append h c)

-- ---- ends

pub closes_goes : (mode : Mode) (qs : List Open) (o : Open) (os : List Open) (x y : List ℕ) (at n : ℕ) → qs ≡ o ∷ os → Closes mode o x y n
    → GoesTo qs x at os y (at + n)
closes_goes mode qs o os x y at n q c =
    let is = ap length (c.is os) ∙ length-append c.passed (to_come os y) in
    rw q (record {
      comes = λ octets k. subst (λ n. Comes octets os y (at + n)) c.size
          (by_step (o ∷ os) os x y c.passed [] at k (step_in_ber mode (o ∷ os) os x y c.passed [] (c.step os)));
      count = omega (arith, is, c.size);
      smaller = closes_smaller mode (o ∷ os) os o x y n refl c;
    })

module _ (os : List Open) (x y : List ℕ) (at then : ℕ) (e : EndsBefore x y) (n : then ≡ at + (length x - length y)) where
  size : length x - length y ≡ length (e.0)
  size = omega (arith, ap length e.2, length-append e.0 y)

  pub end_passed : (ps : List Open) → os ≡ None ∷ ps → GoesTo os x at ps y then
  end_passed ps q =
      rw q (steps (None ∷ ps) ps x y e.0 [] at then (open_specs.out_of_indefinite refl e.1 e.2 refl) (after_front ps e.0 y x e.2)
      (omega (arith, n, size)) (omega (arith, end_size Ber e.0 e.1)))

  pub stray_passed : GoesTo os x at os y then
  stray_passed =
      let is = ap length (after_front os e.0 y x e.2) ∙ length-append e.0 (to_come os y) in
      let m : then ≡ at + length e.0 = n ∙ ap (λ k. at + k) size in
      record {
        comes = λ octets c. subst (λ k. Comes octets os y k) (sym m) (past_stray_end os x y e.0 at c e.1 e.2);
        count = omega (arith, m, is);
        smaller = omega (arith, is, end_size Ber e.0 e.1);
      }

pub missing_passed : (os ps : List Open) (x : List ℕ) (at : ℕ) → x ≡ [] → os ≡ None ∷ ps → GoesTo os x at ps x at
missing_passed os ps x at n q =
    rw (q, n) (record {
      comes = λ octets c. past_missing_end ps at c;
      count = refl;
      smaller = omega arith;
    })

-- ---- giving up

-- open values were left, up to here
pub record InGivingUp (first : List Open) (x : List ℕ) (at : ℕ) (os : List Open) : Type 0 where
  pub comes : (octets : List ℕ) → Comes octets first x at → Comes octets os x at
  pub same : length (to_come os x) ≡ length (to_come first x)
  pub few : length os ≤ length first

pub gives_up : (first : List Open) (x : List ℕ) (at : ℕ) → InGivingUp first x at first
gives_up first x at = record { comes = λ octets c. c; same = refl; few = omega arith }

module _ (first : List Open) (x : List ℕ) (at : ℕ) (no : HasNoEnd x) (os : List Open) (i : InGivingUp first x at os) where
  pub up_marked : (ps : List Open) → os ≡ None ∷ ps → InGivingUp first x at ps
  up_marked ps q =
      let j : InGivingUp first x at (None ∷ ps) = rw q at i in
      record {
        comes = λ octets c. out_of_indefinite ps x at (j.comes octets c) no;
        same = j.same;
        few = omega (arith, j.few);
      }

  pub up_definite : (ps : List Open) (b : List ℕ) → os ≡ Some b ∷ ps → 0 < length x → GoesTo first x at ps b (at + length x)
  up_definite ps b q l =
      let j : InGivingUp first x at (Some b ∷ ps) = rw q at i in
      let size = length-append x (to_come ps b) in
      record {
        comes = λ octets c. out_of_definite ps b x at (j.comes octets c) no;
        count = omega (arith, j.same, size);
        smaller = omega (arith, j.same, j.few, size);
      }

  pub up_all : os ≡ [] → (y : List ℕ) → y ≡ [] → 0 < length x → GoesTo first x at os y (at + length x)
  up_all q y n l =
      let j : InGivingUp first x at [] = rw q at i in
      rw (q, n) (record {
        comes = λ octets c. out_of_all x at (j.comes octets c) no;
        count = omega (arith, j.same);
        smaller = omega (arith, j.same, j.few);
      })

-- ---- what is in memory

-- the innermost of the open values in memory, and those around it
pub innermost : (opened less : List (Option (Bor (List ℕ)))) (o : Option (Bor (List ℕ))) → slice_get opened (length opened - 1) ≡ Some o
    → less ≡ take (length opened - 1) opened → open_values opened ≡ option_map (λ s. s.now) o ∷ open_values less
innermost opened less o g e = innermost_first opened o (length opened - 1) refl g ∙ ap (λ k. option_map (λ s. s.now) o ∷ open_values k) (sym e)

pub nothing_in : (x : List ℕ) → length x ≡ 0 → x ≡ []
nothing_in [] l = refl
nothing_in (b ∷ x) l = absurd (omega (arith, l))

-- where a value is due and nothing is left, the innermost open value has an indefinite length
pub due_in_nothing : (mode : Mode) (os : List Open) (x : List ℕ) → IsDue mode os x → length x ≡ 0 → (o : Open) (ps : List Open) → os ≡ o ∷ ps → o ≡ None
due_in_nothing mode [] x due l o ps e = absurd (omega (arith, due, l))
due_in_nothing mode (Some b ∷ os) x due l o ps e = absurd (omega (arith, due, l))
due_in_nothing mode (None ∷ os) x due l o ps e = cc

pub none_due_in_nothing : (mode : Mode) (os : List Open) (x : List ℕ) → IsDue mode os x → length x ≡ 0 → os ≡ [] → ⊥
none_due_in_nothing mode [] x due l e = omega (arith, due, l)
none_due_in_nothing mode (o ∷ os) x due l e = absurd cc

-- ---- whether a value of definite length is open

definite_before : (os ps : List Open) → IsInDefinite os → IsInDefinite (os ++ ps)
definite_before [] ps d = absurd d
definite_before (Some b ∷ os) ps d = tt
definite_before (None ∷ os) ps d = definite_before os ps d

definite_behind : (os ps : List Open) → IsInDefinite ps → IsInDefinite (os ++ ps)
definite_behind [] ps d = d
definite_behind (Some b ∷ os) ps d = tt
definite_behind (None ∷ os) ps d = definite_behind os ps d

opened_first : (o : Option (Bor (List ℕ))) (opened : List (Option (Bor (List ℕ))))
    → open_values (o ∷ opened) ≡ open_values opened ++ option_map (λ s. s.now) o ∷ []
opened_first o opened = reverse-append (option_map (λ s. s.now) o ∷ []) (map (option_map (λ s. s.now)) opened)

-- one that is in memory at a place
pub definite_at : (opened : List (Option (Bor (List ℕ)))) (n : ℕ) (d : Option (Bor (List ℕ))) → n < length opened → is_some (get_or opened n d) ≡ true
    → IsInDefinite (open_values opened)
definite_at [] n d l e = absurd (omega arith)
definite_at (Some b ∷ opened) zero d l e =
    subst IsInDefinite (sym (opened_first (Some b) opened)) (definite_behind (open_values opened) (Some b.now ∷ []) tt)
definite_at (None ∷ opened) zero d l e = absurd (not_so e)
  where
    not_so : ◌≡◌ {A = Bool} false true → ⊥
    not_so e = absurd cc
definite_at (o ∷ opened) (suc n) d l e =
    subst IsInDefinite (sym (opened_first o opened))
    (definite_before (open_values opened) (option_map (λ s. s.now) o ∷ []) (definite_at opened n d (omega arith) e))

-- one more that is none
pub none_more : (opened : List (Option (Bor (List ℕ)))) (n : ℕ) (d : Option (Bor (List ℕ))) → n < length opened → is_some (get_or opened n d) ≡ false
    → (IsInDefinite (open_values (take n opened)) → ⊥) → IsInDefinite (open_values (take (n + 1) opened)) → ⊥
none_more opened n d l e none h = go (get_or opened n d) e (subst IsInDefinite (open_pushed _ _ _ (take_more opened n d l)) h)
  where
    go : (o : Option (Bor (List ℕ))) → is_some o ≡ false → IsInDefinite (option_map (λ s. s.now) o ∷ open_values (take n opened)) → ⊥
    go (Some b) f i = absurd cc
    go None f i = none i

pub closes_within : (mode : Mode) (qs : List Open) (o : Open) (os : List Open) (x y : List ℕ) (n : ℕ) → qs ≡ o ∷ os → Closes mode o x y n
    → n ≤ length (to_come qs x)
closes_within mode qs o os x y n q c =
    omega (arith, ap length (ap (λ k. to_come k x) q ∙ c.is os), length-append c.passed (to_come os y), c.size)
