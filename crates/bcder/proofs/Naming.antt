-- What a refusal of octets names, where they are looked at and where they are refused.
use Rattle.std.proofs.Common.{◌≡◌, ◌∙◌, ℕ, ◌+◌, ◌<◌, List, length, Option, Some, None, refl, sym, subst, arith, inl, inr}
use Rattle.std.proofs.lemmas.Bool.{cases_lt}
use Rattle.bcder.specs.declared.length.Length.{Length}
use Rattle.bcder.specs.declared.length.Length.TheVariants.{Definite, Indefinite}
use Rattle.bcder.specs.declared.decode.error.ContentError.{ContentError}
use Rattle.bcder.specs.declared.decode.violation.Violation.{Violation}
use Rattle.bcder.specs.declared.decode.violation.Violation.TheVariants as v
use Rattle.bcder.specs.x690.Encoding.{Header, IsHeader}
use Rattle.bcder.specs.calls.Cause.{Cause, IsOfContent}
use Rattle.bcder.specs.calls.Violations.{ViolatesFront}
use Rattle.bcder.specs.calls.Content.{Reading, Asked, any, HasHeader, HasMarker, IsAtEnd, of_octets, of_definite, of_indefinite}
use Rattle.bcder.specs.calls.Content.{of_unbounded, EndsBefore, NothingThere, Falls, FitsOwed, Resembles, Violates}
use Rattle.bcder.specs.calls.Content.{NamesFront, in_front, truncated_contents, value_too_long, stray_end}
use Rattle.bcder.specs.calls.Content.{Refuses}
use Rattle.bcder.specs.calls.Content as refusals
use Rattle.bcder.specs.steps.Entering.{NamesViolation}
use Rattle.bcder.specs.laws.Stands.{Headed}

pub of_violation : (c : Reading) (why : Cause ContentError) → NamesViolation why c → IsOfContent why
of_violation c why n = subst IsOfContent (sym n.2) tt

-- a header that was refused is what comes next; and if an asked one comes next, any text will do
pub names_front : (asked : Asked) (c : Reading) (why : Cause ContentError) → NamesViolation why c → NamesFront asked why c
names_front asked c why n = record { refused = of_violation c why n; named = λ _. n }

-- no asked value comes next, nor a reason to answer that there is none
pub nothing_violated : {E : Type 0} (why : E → Cause ContentError) (asked : Asked) (c d : Reading) (e : E) → NothingThere asked c → NamesViolation (why e) c
    → Refuses why asked (NothingThere asked) ⊥ c e d
nothing_violated why asked c d e n o = refusals.Refuses.nothing n (names_front asked c (why e) o)

pub behind_header : (asked : Asked) (c : Reading) (why : Cause ContentError) → IsOfContent why → (after : List ℕ) → HasHeader asked c after
    → NamesFront asked why c
behind_header asked c why o after h = record { refused = o; named = λ n. absurd (n.header after h) }

-- so it will at the end
pub names_end : (c : Reading) (why : Cause ContentError) → IsOfContent why → (after : List ℕ) → EndsBefore c after → NamesFront any why c
names_end c why o after e = record { refused = o; named = λ n. absurd (n.absent after e) }

-- content d has the same octets to come as c, the same end, state and mode
pub record Alike (c d : Reading) : Type 0 where
  pub rest : d.stream.rest ≡ c.stream.rest
  pub owed : d.owed ≡ c.owed
  pub kind : d.kind ≡ c.kind
  pub state : d.state ≡ c.state
  pub mode : d.mode ≡ c.mode

pub looked_alike : (c d : Reading) → Resembles c d → Alike c d
looked_alike c d s = record { rest = s.rest; owed = s.owed; kind = s.kind; state = s.state; mode = s.mode }

module _ (c d : Reading) (s : Alike c d) where
  pub front_alike : (r : Violation) → ViolatesFront d.mode d.stream.rest r → ViolatesFront c.mode c.stream.rest r
  front_alike r f = subst (λ m. ViolatesFront m c.stream.rest r) s.mode (subst (λ z. ViolatesFront d.mode z r) s.rest f)

  violates_alike : (r : Violation) → Violates d r → Violates c r
  violates_alike r (in_front f) = in_front (front_alike r f)
  violates_alike r (truncated_contents e n k) = truncated_contents e (sym s.rest ∙ n) (λ x. k (s.kind ∙ x))
  violates_alike r (value_too_long e t form n left h x i is owes beyond) =
      value_too_long e t form n left h x (subst (λ m. IsHeader m t form (Definite n) h) s.mode i) (sym s.rest ∙ is) (sym s.owed ∙ owes) beyond
  violates_alike r (stray_end e k a m) =
      stray_end e (λ x. k (s.kind ∙ x)) a (subst (λ m. HasMarker m c.stream.rest a) s.mode (subst (λ z. HasMarker d.mode z a) s.rest m))

  pub named_alike : (why : Cause ContentError) → NamesViolation why d → NamesViolation why c
  named_alike why n = (n.0, violates_alike n.0 n.1, n.2)

  unfoldable pub header_alike : (asked : Asked) (after : List ℕ) → HasHeader asked d after → HasHeader asked c after
  header_alike asked after x = record {
    tag = x.tag;
    form = x.form;
    len = x.len;
    octets = x.octets;
    is_header = subst (λ m. IsHeader m x.tag x.form x.len x.octets) s.mode x.is_header;
    is_asked = x.is_asked;
    rest = sym s.rest ∙ x.rest;
    owed = x.owed;
    falls = subst (λ o. Falls o (length x.octets) x.owed) s.owed x.falls;
    fits = x.fits;
  }

  marked_alike : (after : List ℕ) → HasMarker d.mode d.stream.rest after → HasMarker c.mode c.stream.rest after
  marked_alike after m = subst (λ x. HasMarker x c.stream.rest after) s.mode (subst (λ z. HasMarker d.mode z after) s.rest m)

  at_end_alike : (after : List ℕ) → IsAtEnd d after → IsAtEnd c after
  at_end_alike after (of_octets k o) = of_octets (sym s.kind ∙ k) (sym s.owed ∙ o)
  at_end_alike after (of_definite k o) = of_definite (sym s.kind ∙ k) (sym s.owed ∙ o)
  at_end_alike after (of_indefinite k m) = of_indefinite (sym s.kind ∙ k) (marked_alike after m)
  at_end_alike after (of_unbounded k e) = of_unbounded (sym s.kind ∙ k) (sym s.rest ∙ e)

  pub ends_alike : (after : List ℕ) → EndsBefore d after → EndsBefore c after
  ends_alike after (inl e) = inl (sym s.state ∙ e)
  ends_alike after (inr e) = inr (sym s.state ∙ e.0, at_end_alike after e.1)

  nothing_alike : NothingThere any c → NothingThere any d
  nothing_alike n = record {
    usable = s.state ∙ n.usable;
    header = λ after h. n.header after (header_alike any after h);
    absent = λ after e. n.absent after (ends_alike after e);
  }

  pub front_named : (why : Cause ContentError) → NamesFront any why d → NamesFront any why c
  front_named why f = record { refused = f.refused; named = λ n. named_alike why (f.named (nothing_alike n)) }

-- a length that is more than what is owed behind the header
pub long_value : (c d : Reading) (h : Header) (x : List ℕ) (p : Headed c.mode h c.stream.rest x) → Falls c.owed (length p.octets) d.owed
    → (FitsOwed h.len d.owed → ⊥) → Violates c v.ValueTooLong
long_value c d h x p f u = go h.len refl c.owed refl d.owed refl f u
  where
    go : (len : Length) → h.len ≡ len → (o : Option ℕ) → c.owed ≡ o → (q : Option ℕ) → d.owed ≡ q → Falls o (length p.octets) q
        → (FitsOwed len q → ⊥) → Violates c v.ValueTooLong
    go Indefinite e o oe q qe f u = absurd (u refl)
    go (Definite n) e None oe None qe f u = absurd (u refl)
    go (Definite n) e (Some a) oe None qe f u = absurd (f refl)
    go (Definite n) e None oe (Some b) qe f u = absurd (f refl)
    go (Definite n) e (Some a) oe (Some b) qe f u =
        let beyond : a < length p.octets + n = elim (cases_lt b n) [
          | inl lt ↦ omega (arith, f, lt)
          | inr le ↦ absurd (u le)
        ] in
        value_too_long refl h.tag h.form n a p.octets x (subst (λ z. IsHeader c.mode h.tag h.form z p.octets) e p.is_header) p.is oe beyond
