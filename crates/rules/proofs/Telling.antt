-- What is told on the way.
use Rattle.std.proofs.Common.{◌≡◌, ℕ, ◌+◌, ◌<◌, Bool, true, false, List, [], ◌∷◌, ◌++◌, length, Some, None, refl, sym, ap, subst, ◌∙◌, append_assoc}
use Rattle.std.proofs.Common.{ap₂, zero, suc, ◌⊎◌, append-nil, arith}
use Rattle.std.specs.Prelude.{All, Result, Ok, Err, IfOk}
use Rattle.std.proofs.lemmas.List.{length-append}
use Rattle.std.proofs.lemmas.List.Elements.{All-append, All-nil}
use Rattle.bcder.specs.declared.mode.Mode.{Mode}
use Rattle.bcder.specs.declared.mode.Mode.TheVariants.{Ber}
use Rattle.bcder.specs.x690.Identifier.{AreOctets, Tag}
use Rattle.bcder.specs.steps.Reading.{read_tree}
use Rattle.bcder.specs.calls.Violations.{BeginsHeader, BeginsEnd}
use Rattle.encodings.specs.Next.{IsDue}
use Rattle.bcder.specs.laws.Complete.{header_size}
use Rattle.encodings.specs.Open.{Open, Closes, GoesBeyond, HasNoHeader}
use Rattle.encodings.specs.Pieces.{value, begins, ends, pieces_left, before_all}
use Rattle.encodings.proofs.Reading.{no_tree, too_short}
use Rattle.encodings.proofs.PiecesRead.{an_end_next, none_next, value_next, beginning_next}
use Rattle.rules.specs.Begun.{BeginsValue}
use Rattle.rules.specs.Broken.{Breaks, BreaksValue, in_value, stray_end, Holds}
use Rattle.rules.specs.Means.{IsMeantAlone}
use Rattle.rules.specs.Around.{met_meant}
use Rattle.rules.specs.Passes.{Adds, Looks, nothing, told, Enters, Onward, PassesValue, PassesBroken, Passes}
use Rattle.rules.specs.Passes.{of_value, of_beginning, of_end, IsJudged, kept, broken, Judges, passes, loses}
use Rattle.rules.specs.declared.around.Met.{Met}
use Rattle.rules.specs.declared.around.Met.TheVariants.{End, Lost}
use Rattle.rules.specs.declared.rule.Breach.{Breach}
use Rattle.rules.specs.declared.rule.Rule.{Rule}
use Rattle.rules.specs.declared.rule.Rule.TheVariants as rule
use Rattle.rules.proofs.Beginning.{as_piece, octets_inside}
use Rattle.rules.proofs.Going.{closes_goes, value_goes}

All-one : {X : Type 0} (P : X → Type 0) (x : X) → P x → All P (x ∷ [])
All-one P x p zero d l = p
All-one P x p (suc k) d l = absurd (omega arith)

-- ---- what is added

pub adds_nothing : (mode : Mode) (os : List Open) (x : List ℕ) (at : ℕ) (old new : List Breach) → new ≡ old → Adds mode os x at old new
adds_nothing mode os x at old new e = record { more = []; is = e ∙ sym (append-nil old); hold = λ octets c. All-nil (Holds mode octets) }

pub adds_one : (mode : Mode) (os : List Open) (x : List ℕ) (at : ℕ) (old new : List Breach) (rule : Rule) (place here : ℕ)
    → Breaks mode os x rule place → here ≡ at + place → new ≡ old ++ record { at = here; rule = rule } ∷ [] → Adds mode os x at old new
adds_one mode os x at old new rule place here b h e = record {
  more = record { at = here; rule = rule } ∷ [];
  is = e;
  hold = λ octets c. All-one (Holds mode octets) _ (record { opened = os; rest = x; from = at; place = place; comes = c; breaks = b; at = h });
}

pub adds_both : (mode : Mode) (os : List Open) (x : List ℕ) (at : ℕ) (old mid new : List Breach) → Adds mode os x at old mid
    → Adds mode os x at mid new → Adds mode os x at old new
adds_both mode os x at old mid new a b = record {
  more = a.more ++ b.more;
  is = b.is ∙ ap (λ l. l ++ b.more) a.is ∙ append_assoc old a.more b.more;
  hold = λ octets c. All-append (Holds mode octets) a.more b.more (a.hold octets c) (b.hold octets c);
}

pub looked_at : (mode : Mode) (contents : Bool) (x : List ℕ) (t : Tag) (f : Bool) (size : ℕ) (c : List ℕ) (o : Open) (os : List Open) (at : ℕ)
    (old new : List Breach) → BeginsValue Ber x t f size c o → Looks mode contents t f size c at old new → Adds mode os x at old new
looked_at mode contents x t f size c o os at old new b (nothing e m) = adds_nothing mode os x at old new e
looked_at mode contents x t f size c o os at old new b (told rule place e k br n) =
    adds_one mode os x at old new rule place (at + place) (in_value t f size c o b br) refl e

pub longer_by_one : (old new : List Breach) (b : Breach) → new ≡ old ++ b ∷ [] → length old < length new
longer_by_one old new b e = omega (arith, ap length e, length-append old (b ∷ []))

pub longer_still : (mode : Mode) (os : List Open) (x : List ℕ) (at : ℕ) (old mid new : List Breach) → length old < length mid
    → Adds mode os x at mid new → length old < length new
longer_still mode os x at old mid new l a = omega (arith, l, ap length a.is, length-append mid a.more)

-- ---- whether it is right

module _ (mode : Mode) (contents : Bool) (t : Tag) (size : ℕ) (c : List ℕ) (at : ℕ) (old new : List Breach) where
  value_judged : Looks mode contents t false size c at old new → IsJudged mode contents (value t c) old new
  value_judged (nothing e m) = kept e m
  value_judged (told rule place e k br n) = broken (longer_by_one old new _ e) (λ m. n (m k))

  beginning_judged : Looks mode contents t true size c at old new → IsJudged mode contents (begins t) old new
  beginning_judged (nothing e m) = kept e m
  beginning_judged (told rule place e k br n) = broken (longer_by_one old new _ e) (λ m. n (m k))

value_judges : (mode : Mode) (contents : Bool) (x : List ℕ) (t : Tag) (f : Bool) (size : ℕ) (c : List ℕ) (o : Open) (os ps : List Open)
    (y : List ℕ) (at then : ℕ) (old new : List Breach) → AreOctets x → IsDue mode os x → BeginsValue mode x t f size c o
    → Enters f size c o at os ps y then → Looks mode contents t f size c at old new → Judges mode contents os x at ps y then old new (met_meant t f c) c
value_judges mode contents x t false size c o os ps y at then old new octets due b i l =
    passes (value t c) (of_value t size c refl refl (subst (BeginsValue mode x t false size c) i.1 b)
    (octets_inside mode x t false size c o octets b) refl i.0 i.2)
    (value_next mode os x t false c o y octets due (as_piece mode x t false size c o b) refl i.1
    ∙ ap (λ k. before_all (value t c ∷ []) (pieces_left mode k y)) (sym i.0)) (value_judged mode contents t size c at old new l)
value_judges mode contents x t true size c o os ps y at then old new octets due b i l =
    passes (begins t) (of_beginning t size o refl refl (subst (λ z. BeginsValue mode x t true size z o) (sym i.1) b) i.0 i.2)
    (beginning_next mode os x t true c o octets due (as_piece mode x t true size c o b) refl
    ∙ ap₂ (λ k z. before_all (begins t ∷ []) (pieces_left mode k z)) (sym i.0) (sym i.1)) (beginning_judged mode contents t size c at old new l)

-- ---- one step

pub value_passed : (mode : Mode) (contents : Bool) (x : List ℕ) (t : Tag) (f : Bool) (size : ℕ) (c : List ℕ) (o : Open) (os ps : List Open)
    (y : List ℕ) (at then : ℕ) (old new : List Breach) (met : Met) (d : List ℕ) → AreOctets x → IsDue mode os x → BeginsValue mode x t f size c o
    → met ≡ met_meant t f c → d ≡ c
    → PassesValue mode contents t f size c o os x at old ps y then new → Passes mode contents os x at old ps y then new met d
value_passed mode contents x t f size c o os ps y at then old new met d octets due b e q p = record {
  onward = p.onward;
  judges =
      subst (λ z. Judges mode contents os x at ps y then old new z d) (sym e)
      (subst (Judges mode contents os x at ps y then old new (met_meant t f c)) (sym q)
      (value_judges mode contents x t f size c o os ps y at then old new octets due b p.enters p.looks));
}

pub beyond_passed : (mode : Mode) (contents : Bool) (x : List ℕ) (os ps : List Open) (y : List ℕ) (at then : ℕ) (old new : List Breach) (d : List ℕ)
    → AreOctets x → IsDue mode os x → GoesBeyond mode x → PassesBroken mode os x at old ps y then new → Passes mode contents os x at old ps y then new Lost d
beyond_passed mode contents x os ps y at then old new d octets due g p =
    let short : read_tree mode x ≡ None =
    too_short mode x g.tag g.form (Some g.len) g.header g.behind octets g.is_header g.is g.len refl g.more in
    record { onward = p.onward; judges = loses refl p.told (none_next mode os x octets due short) }

pub broken_passed : (mode : Mode) (contents : Bool) (x : List ℕ) (os ps : List Open) (y : List ℕ) (at then : ℕ) (old new : List Breach) (d : List ℕ)
    → AreOctets x → IsDue mode os x → HasNoHeader mode x → PassesBroken mode os x at old ps y then new → Passes mode contents os x at old ps y then new Lost d
broken_passed mode contents x os ps y at then old new d octets due n p =
    record { onward = p.onward; judges = loses refl p.told (none_next mode os x octets due (no_tree mode x octets n)) }

pub end_passes : (mode : Mode) (contents : Bool) (qs : List Open) (o : Open) (os : List Open) (x y : List ℕ) (at n : ℕ) (old new : List Breach) (d : List ℕ)
    → AreOctets x → qs ≡ o ∷ os → Closes mode o x y n → new ≡ old → Passes mode contents qs x at old os y (at + n) new End d
end_passes mode contents qs o os x y at n old new d octets q c e = record {
  onward = record { goes = closes_goes mode qs o os x y at n q c; adds = adds_nothing mode qs x at old new e };
  judges = passes ends (of_end o n refl refl c q refl) (ap (λ k. pieces_left mode k x) q ∙ an_end_next mode o os x y n octets c) (kept e (λ k. tt));
}

-- ---- the rule that is told

-- no header begins here, where a value is due
pub stray_here : (mode : Mode) (x : List ℕ) (os : List Open) → HasNoHeader mode x → IsDue mode os x → BeginsHeader mode x ⊎ BeginsEnd mode x
    → Breaks mode os x rule.StrayEnd 0
stray_here mode x os none due h = stray_end refl (none, h) due refl

pub looks_told : (mode : Mode) (contents : Bool) (t : Tag) (f : Bool) (size : ℕ) (c : List ℕ) (at : ℕ) (old new : List Breach) (r : Rule) (place : ℕ)
    → contents ≡ true → BreaksValue mode t f size c r place → (IsMeantAlone mode t f c → ⊥) → new ≡ old ++ record { at = at + place; rule = r } ∷ []
    → Looks mode contents t f size c at old new
looks_told mode contents t f size c at old new r place k b n e = told r place e k b n

pub value_looked_at : {E P : Type 0} (mode : Mode) (contents : Bool) (x : List ℕ) (t : Tag) (f : Bool) (size : ℕ) (c : List ℕ) (o : Open)
    (os ps : List Open) (at : ℕ) (old new : List Breach) (rest : P → List ℕ) (then : P → ℕ) (r : Result P E) → BeginsValue Ber x t f size c o
    → Looks mode contents t f size c at old new → IfOk r (λ p. Enters f size c o at os ps (rest p) (then p))
    → IfOk r (λ p. PassesValue mode contents t f size c o os x at old ps (rest p) (then p) new)
value_looked_at mode contents x t f size c o os ps at old new rest then (Ok p) b l e = record {
  onward = record {
    goes = value_goes x t f size c o os ps (rest p) at (then p) b e;
    adds = looked_at mode contents x t f size c o os at old new b l;
  };
  enters = e;
  looks = l;
}
value_looked_at mode contents x t f size c o os ps at old new rest then (Err e) b l h = h

-- ---- what calls return

module _ {P E : Type 0} (mode : Mode) (contents : Bool) (os ps : List Open) (x : List ℕ) (at : ℕ) (old mid new : List Breach) (rest : P → List ℕ)
    (then : P → ℕ) where
  pub only_onward : (t : Tag) (f : Bool) (size : ℕ) (c : List ℕ) (o : Open) (r : Result P E)
      → IfOk r (λ p. PassesValue mode contents t f size c o os x at old ps (rest p) (then p) new)
      → IfOk r (λ p. Onward mode os x at old ps (rest p) (then p) new)
  only_onward t f size c o (Ok p) h = h.onward
  only_onward t f size c o (Err e) h = h

  pub broken_onward : (r : Result P E) → IfOk r (λ p. PassesBroken mode os x at old ps (rest p) (then p) new)
      → IfOk r (λ p. Onward mode os x at old ps (rest p) (then p) new)
  broken_onward (Ok p) h = h.onward
  broken_onward (Err e) h = h

  pub told_before : (b : Breach) (r : Result P E) → Adds mode os x at old mid → mid ≡ old ++ b ∷ []
      → IfOk r (λ p. Onward mode os x at mid ps (rest p) (then p) new) → IfOk r (λ p. PassesBroken mode os x at old ps (rest p) (then p) new)
  told_before b (Ok p) a e h = record {
    onward = record { goes = h.goes; adds = adds_both mode os x at old mid new a h.adds };
    told = longer_still mode os x at old mid new (longer_by_one old mid b e) h.adds;
  }
  told_before b (Err f) a e h = h

pub beyond_some : (x : List ℕ) → GoesBeyond Ber x → 0 < length x
beyond_some x g = omega (arith, ap length g.is, length-append g.header g.behind, header_size Ber g.tag g.form _ g.header g.is_header)
