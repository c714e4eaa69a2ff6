-- Calls of a closure in a row.
use Rattle.std.proofs.Common.{◌≡◌, ℕ, ◌+◌, ◌-◌, ◌^◌, Bool, true, false, IsTrue, ◌↔◌, List, [], ◌∷◌, ◌++◌}
use Rattle.std.proofs.Common.{length, refl, ap, sym, ◌∙◌, subst, arith, length-append}
use Rattle.std.specs.Prelude.{Option, Some, None, Ok, Err}
use Rattle.std.specs.Borrow.{MutBor}
use Rattle.std.specs.List.{FoldsTo}
use Rattle.std.proofs.lemmas.Fn.{FoldsTo-push}
use Rattle.std.proofs.lemmas.List.{map-append}
use Rattle.std.specs.declared.vec.Vec.{Vec}
use Rattle.std.specs.declared.alloc.Global.{Global}
use Rattle.bcder.specs.declared.decode.error.ContentError.{ContentError}
use Rattle.bcder.specs.calls.Cause.{Cause, of_memory, IsOfContent}
use Rattle.bcder.specs.calls.Content.{Reading, Moves}
use Rattle.bcder.specs.calls.Repeating.{Answer, OwesAsBefore, TookNothing, Turn, Gift, values, AnswersTurn, GoesOn, LastAnswers, Repeats, ended}
use Rattle.bcder.specs.calls.Repeating.{refused, stalled, endless, Collects, collected, not_answered, not_advanced, not_kept}
use Rattle.bcder.specs.laws.Moved.{untouched_is_moved, moved_twice_is_moved}

-- what the test tells
pub took_nothing : (o p : Option ℕ) (d e : Reading) (b : Bool) → o ≡ d.owed → p ≡ e.owed → IsTrue b ↔ OwesAsBefore o p → b ≡ true → TookNothing d e
took_nothing o p d e b f g t h = let k : IsTrue b = h in subst (λ x. OwesAsBefore x e.owed) f (subst (λ x. OwesAsBefore o x) g (t.0 k))

pub took_some : (o p : Option ℕ) (d e : Reading) (b : Bool) → o ≡ d.owed → p ≡ e.owed → IsTrue b ↔ OwesAsBefore o p → b ≡ false → TookNothing d e → ⊥
took_some o p d e b f g t h n = let k : b ≡ true = t.1 (subst (λ x. OwesAsBefore x p) (sym f) (subst (λ x. OwesAsBefore d.owed x) (sym g) n)) in cc

module _ {F C T E : Type 0} (view : C → Reading) (step : F → MutBor C → Answer T E → MutBor C → F → Type 0) where
  -- n calls of the closure f over content c answered `Some`, and left the closure as g and the content as d
  pub record WentOn (f : F) (c : Reading) (n : ℕ) (g : F) (d : Reading) : Type 0 where
    pub moves : Moves c d
    pub gifts : List (Gift C T)
    pub count : length gifts ≡ n
    pub went_on : FoldsTo (GoesOn view step) (record { closure = f; content = c }) gifts (record { closure = g; content = d })

  -- what one call did
  abbrev Once : F → Reading → Answer T E → F → Reading → Type 0
  Once g d a h e = (t : Turn C) × AnswersTurn view step (record { closure = g; content = d }) t a (record { closure = h; content = e })

  pub once : (g : F) (p : MutBor C) (a : Answer T E) (q : MutBor C) (h : F) → step g p a q h → Once g (view p.now) a h (view q.now)
  once g p a q h s = (record { handed = p; left = q }, record { handed_is = refl; left_is = refl; called = s })

  -- by a lawful closure
  abbrev Lawful : Reading → Type 0
  Lawful c = (f : F) (p : MutBor C) (a : Answer T E) (q : MutBor C) (g : F) → Moves c (view p.now) → step f p a q g → Moves (view p.now) (view q.now)

  pub one_moves : (c : Reading) (g : F) (d : Reading) (a : Answer T E) (h : F) (e : Reading) → Lawful c → Moves c d → Once g d a h e → Moves d e
  one_moves c g d a h e l m o =
      let t = o.1 in
      let k : Moves c (view o.0.handed.now) = subst (λ x. Moves c x) (sym t.handed_is) m in
      let n : Moves (view o.0.handed.now) (view o.0.left.now) = l g o.0.handed a o.0.left h k t.called in
      subst (λ x. Moves x e) t.handed_is (subst (λ x. Moves (view o.0.handed.now) x) t.left_is n)

  pub then_moves : (c : Reading) (g : F) (d : Reading) (a : Answer T E) (h : F) (e : Reading) → Lawful c → Moves c d → Once g d a h e → Moves c e
  then_moves c g d a h e l m o = moved_twice_is_moved c d e m (one_moves c g d a h e l m o)

  pub went_none : (f : F) (c : Reading) → WentOn f c 0 f c
  went_none f c = record { moves = untouched_is_moved c; gifts = []; count = refl; went_on = refl }

  more_gifts : (xs : List (Gift C T)) (x : Gift C T) (n : ℕ) → length xs ≡ n → length (xs ++ (x ∷ [])) ≡ n + 1
  more_gifts xs x n e = simp length-append (omega arith)

  pub went_more : (f : F) (c : Reading) (n : ℕ) (g : F) (d : Reading) (x : T) (h : F) (e : Reading) → WentOn f c n g d → Once g d (Ok (Some x)) h e
      → (TookNothing d e → ⊥) → Moves d e → WentOn f c (n + 1) h e
  went_more f c n g d x h e w s t m =
      let y : Gift C T = record { turn = s.0; value = x } in
      record {
        moves = moved_twice_is_moved c d e w.moves m;
        gifts = w.gifts ++ (y ∷ []);
        count = more_gifts w.gifts y n w.count;
        went_on = FoldsTo-push (GoesOn view step) _ w.gifts _ y _ w.went_on (record { answered = s.1; took = t });
      }

  abbrev last_answers : (f : F) (c : Reading) (n : ℕ) (g : F) (d : Reading) (h : F) (e : Reading) (a : Answer T E) → WentOn f c n g d → Once g d a h e
      → LastAnswers view step f c a e
  last_answers f c n g d h e a w s = record {
    gifts = w.gifts;
    before = record { closure = g; content = d };
    went_on = w.went_on;
    turn = s.0;
    after = record { closure = h; content = e };
    answered = s.1;
    left = refl;
  }

  -- calls of the closure f over content c answered these values, and left the closure as g and the content as d
  pub record Gathered (f : F) (c : Reading) (kept : List T) (g : F) (d : Reading) : Type 0 where
    pub count : ℕ
    pub went : WentOn f c count g d
    pub holds : kept ≡ values went.gifts

  pub gathered_none : (f : F) (c : Reading) (kept : List T) → kept ≡ [] → Gathered f c kept f c
  unfolding went_none
  gathered_none f c kept k = record { count = 0; went = went_none f c; holds = k }

  pub gathered_more : (f : F) (c : Reading) (kept more : List T) (g : F) (d : Reading) (x : T) (h : F) (e : Reading) → Gathered f c kept g d
      → Once g d (Ok (Some x)) h e → (TookNothing d e → ⊥) → Moves d e → more ≡ kept ++ (x ∷ []) → Gathered f c more h e
  unfolding went_more
  gathered_more f c kept more g d x h e w s t m k =
      let y : Gift C T = record { turn = s.0; value = x } in
      record {
        count = w.count + 1;
        went = went_more f c w.count g d x h e w.went s t m;
        holds = k ∙ ap (λ z. z ++ (x ∷ [])) w.holds ∙ sym (map-append (λ z. z.value) w.went.gifts (y ∷ []));
      }

module _ {F C E : Type 0} (why : E → Cause ContentError) (view : C → Reading) (step : F → MutBor C → Answer (Unit {0}) E → MutBor C → F → Type 0) where
  pub repeats_ended : (f : F) (c : Reading) (n : ℕ) (g : F) (d : Reading) (h : F) (e : Reading) → WentOn view step f c n g d → Once view step g d (Ok None) h e
      → Repeats why view step f c (Ok tt) e
  repeats_ended f c n g d h e w s = ended refl (last_answers view step f c n g d h e (Ok None) w s)

  pub repeats_refused : (f : F) (c : Reading) (n : ℕ) (g : F) (d : Reading) (h : F) (e : Reading) (x : E) → WentOn view step f c n g d
      → Once view step g d (Err x) h e → Repeats why view step f c (Err x) e
  repeats_refused f c n g d h e x w s = refused x refl (last_answers view step f c n g d h e (Err x) w s)

  pub repeats_stalled : (f : F) (c : Reading) (n : ℕ) (g : F) (d : Reading) (h : F) (e : Reading) (x : E) → WentOn view step f c n g d
      → Once view step g d (Ok (Some tt)) h e → TookNothing d e → IsOfContent (why x) → Repeats why view step f c (Err x) e
  repeats_stalled f c n g d h e x w s t o = stalled x refl o (last_answers view step f c n g d h e (Ok (Some tt)) w s) t

  pub repeats_endless : (f : F) (c : Reading) (n : ℕ) (g : F) (d : Reading) (x : E) → n ≡ 2 ^ 64 - 1 → WentOn view step f c n g d → IsOfContent (why x)
      → Repeats why view step f c (Err x) d
  repeats_endless f c n g d x k w o = endless x refl o w.gifts (w.count ∙ k) (record { closure = g; content = d }) w.went_on refl

module _ {F C T E : Type 0} (why : E → Cause ContentError) (view : C → Reading) (step : F → MutBor C → Answer T E → MutBor C → F → Type 0) (f : F) (c : Reading)
    (kept : List T) (g : F) (d : Reading) (h : F) (e : Reading) (w : Gathered view step f c kept g d) where
  pub collects_all : (v : Vec T Global) → v.items ≡ kept → Once view step g d (Ok None) h e → Collects why view step f c (Ok v) e
  collects_all v k s = collected v refl (last_answers view step f c w.count g d h e (Ok None) w.went s) (k ∙ w.holds)

  pub collects_refused : (x : E) → Once view step g d (Err x) h e → Collects why view step f c (Err x) e
  collects_refused x s = not_answered x refl (last_answers view step f c w.count g d h e (Err x) w.went s)

  pub collects_stalled : (x : E) (y : T) → Once view step g d (Ok (Some y)) h e → TookNothing d e → IsOfContent (why x) → Collects why view step f c (Err x) e
  collects_stalled x y s t o = not_advanced x refl o y (last_answers view step f c w.count g d h e (Ok (Some y)) w.went s) t

  pub collects_unkept : (x : E) (y : T) → Once view step g d (Ok (Some y)) h e → (TookNothing d e → ⊥) → why x ≡ of_memory
      → Collects why view step f c (Err x) e
  collects_unkept x y s t o = not_kept x refl o y (last_answers view step f c w.count g d h e (Ok (Some y)) w.went s) t
