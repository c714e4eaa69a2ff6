-- Character sets: what octets spell, from one step to the next.
use Rattle.std.proofs.Common.{◌≡◌, ◌≢◌, ◌↔◌, ℕ, ◌<◌, List, [], ◌∷◌, length, Some, None, sym, ap, ◌∙◌, subst, arith}
use Rattle.std.proofs.lemmas.List.{length-append}
use Rattle.std.specs.Prelude.{Option, true, false, is_some, Result, Ok, Err, IsErrAnd}
use Rattle.bcder.specs.declared.string.restricted.char_set.CharSetError.{CharSetError}
use Rattle.bcder.specs.x690.CharSet.{Front, Step, IsStep, Spells, IsOfSet}
use Rattle.bcder.specs.calls.RestrictedString.{NextChar, Checks}

same_front : (x y : Front) → Some x ≡ Some y → x ≡ y
same_front x y e = cc

module _ (step : Step) (lawful : IsStep step) where
  -- what is behind a character is shorter
  pub rest_shorter : (w : List ℕ) (x : Front) → step w ≡ Some x → length x.rest < length w
  rest_shorter w x e =
      let (b, bs, is) = lawful.takes w x e in
      omega (arith, ap length is, length-append (b ∷ bs) x.rest)

  -- no character stands where no octet is
  pub none_at_end : (x : Front) → step [] ≡ Some x → ⊥
  none_at_end x e = let shorter = rest_shorter [] x e in absurd (omega arith)

-- octets are a string of the set where those behind their first character are
pub accepts_rest : (step : Step) (w : List ℕ) (x : Front) → step w ≡ Some x → IsOfSet step w → IsStep step → IsOfSet step x.rest
accepts_rest step w x e ([], none) lawful = absurd (none_at_end step lawful x (ap step (sym none) ∙ e))
accepts_rest step w x e (c ∷ cs, (rest, front, more)) lawful =
    let same : ◌≡◌ {A = Front} (record { char = c; rest = rest }) x = same_front _ _ (sym front ∙ e) in
    (cs, subst (λ (y : Front). Spells step y.rest cs) same more)

pub accepts_more : (step : Step) (w : List ℕ) (x : Front) → step w ≡ Some x → IsOfSet step x.rest → IsOfSet step w
accepts_more step w x e (cs, more) = (x.char ∷ cs, (x.rest, e, more))

pub accepts_step : (step : Step) (lawful : IsStep step) (w : List ℕ) (x : Front) → step w ≡ Some x → IsOfSet step w ↔ IsOfSet step x.rest
accepts_step step lawful w x e = (λ h. accepts_rest step w x e h lawful, accepts_more step w x e)

-- octets that begin with no character are none, or no string of the set
pub accepts_none : (step : Step) (w : List ℕ) → w ≢ [] → step w ≡ None → IsOfSet step w → ⊥
accepts_none step w some none ([], end) = some end
accepts_none step w some none (c ∷ cs, (rest, front, more)) =
    let e : ◌≡◌ {A = Option Front} (Some (record { char = c; rest = rest })) None = sym front ∙ none in absurd cc

pub accepts_nil : (step : Step) (w : List ℕ) → w ≡ [] → IsOfSet step w
accepts_nil step w end = ([], end)

-- ---- a check that goes from character to character

pub went_on : (step : Step) → IsStep step → (w0 w rest : List ℕ) (o : Option ℕ) → true ≡ is_some o → NextChar step w (Ok o) rest
    → IsOfSet step w0 ↔ IsOfSet step w → IsOfSet step w0 ↔ IsOfSet step rest
went_on step lawful w0 w rest (Some c) is h k =
    let next = accepts_step step lawful w _ h in
    (λ a. next.0 (k.0 a), λ a. k.1 (next.1 a))
went_on step lawful w0 w rest None is h k = let e : true ≡ false = is in absurd cc

pub stopped : {A : Type 0} (step : Step) (w0 w rest : List ℕ) (e : CharSetError) (r : Result A CharSetError) → IsErrAnd r (λ x. x ≡ e)
    → NextChar step w (Err e) rest → IsOfSet step w0 ↔ IsOfSet step w → Checks step w0 r
stopped step w0 w rest e (Ok a) is h k = absurd is
stopped step w0 w rest e (Err x) is h k = λ a. accepts_none step w h.0 h.1 (k.0 a)

pub went_shorter : (step : Step) → IsStep step → (w rest : List ℕ) (o : Option ℕ) → true ≡ is_some o → NextChar step w (Ok o) rest → length rest < length w
went_shorter step lawful w rest (Some c) is h = rest_shorter step lawful w _ h
went_shorter step lawful w rest None is h = let e : true ≡ false = is in absurd cc

pub at_end : (step : Step) (w rest : List ℕ) (o : Option ℕ) → false ≡ is_some o → NextChar step w (Ok o) rest → IsOfSet step w
at_end step w rest None is h = accepts_nil step w h.0
at_end step w rest (Some c) is h = let e : false ≡ true = is in absurd cc
