-- What encoders of choices, of the items of a slice and of an iterator mean is lawful.
use Rattle.std.specs.Prelude.{Option, None, Some, List, ◌≡◌, ◌⊎◌, [], ◌∷◌, Ok, Err}
use Rattle.std.proofs.Common.{subst, inl, inr, sym, refl}
use Rattle.std.specs.Iterator.{Count, Yields}
use denote.Ref.{Bor}
use denote.Param.Members.{Shared}
use Rattle.bcder.specs.declared.{encode.values.choice.Choice2.Choice2, encode.values.choice.Choice3.Choice3, mode.Mode.Mode}
use Rattle.bcder.specs.declared.{encode.error.EncodeError.EncodeError}
use Rattle.bcder.specs.declared.encode.values.choice.Choice2.TheVariants as two
use Rattle.bcder.specs.declared.encode.values.choice.Choice3.TheVariants as three
use Rattle.bcder.specs.calls.Meaning.{Meaning, IsLawful, NoValues, Encoded, EachOf}
use Rattle.bcder.specs.calls.Iterated.{AnyHolds, AnyMeans, EitherHolds, EitherMeans, OptionCan, OptionMeans, Gives, ItemMeans, MayMap}
use Rattle.bcder.specs.calls.Iterated.{SameMeaning, AlwaysGives, GivesOneList, MeanSame, RunsMean}
use Rattle.bcder.specs.laws.Joined.{NoValues_lawful, EachOf_lawful}

-- ---- choices

pub option_lawful : {X : Type 0} {P : X → Type 0} {M : X → Meaning → Type 0} (mode : Mode) → ((x : X) → P x → IsLawful mode (M x))
    → (o : Option X) → OptionCan P o → IsLawful mode (OptionMeans M o)
option_lawful mode h (Some x) can = h x can
option_lawful mode h None can = NoValues_lawful mode

pub either_lawful : {L R : Type 0} {P : L → Type 0} {Q : R → Type 0} {M : L → Meaning → Type 0} {N : R → Meaning → Type 0} (mode : Mode)
    → ((x : L) → P x → IsLawful mode (M x)) → ((y : R) → Q y → IsLawful mode (N y)) → (c : Choice2 L R) → EitherHolds P Q c
    → IsLawful mode (EitherMeans M N c)
either_lawful mode h k (two.One x) can = h x can
either_lawful mode h k (two.Two y) can = k y can

pub any_lawful : {L C R : Type 0} {P : L → Type 0} {Q : C → Type 0} {S : R → Type 0} {M : L → Meaning → Type 0} {N : C → Meaning → Type 0}
    {O : R → Meaning → Type 0} (mode : Mode) → ((x : L) → P x → IsLawful mode (M x)) → ((y : C) → Q y → IsLawful mode (N y))
    → ((z : R) → S z → IsLawful mode (O z)) → (c : Choice3 L C R) → AnyHolds P Q S c → IsLawful mode (AnyMeans M N O c)
any_lawful mode h k l (three.One x) can = h x can
any_lawful mode h k l (three.Two y) can = k y can
any_lawful mode h k l (three.Three z) can = l z can

-- ---- items of a slice

pub either_means : {V : Type 0} (means : V → Mode → Meaning → Type 0) (v w : V) → (v ≡ w) ⊎ SameMeaning means v w
    → (mode : Mode) (m : Meaning) → means v mode m → means w mode m
either_means means v w (inl is) mode m h = subst (λ x. means x mode m) is h
either_means means v w (inr s) mode m h = s.same mode m h

module _ {F U V : Type 0} (g : Shared F (Bor U × Unit {0}) V) (f : F) where
  -- whatever u means, each value that is given for it means
  pub item_means : {can : V → Type 0} {means : V → Mode → Meaning → Type 0} {u : U} → MayMap g f can means u
      → {mode : Mode} {v : V} → Gives g f u v → (m : Meaning) → ItemMeans g f means mode u m → means v mode m
  item_means {means = means} may {mode} {v} gives m p =
      either_means means p.value v
      (may.2 p.value v p.given.shown gives.shown p.given.shows gives.shows p.given.met gives.met) mode m p.meant

  pub item_lawful : {can : V → Type 0} {means : V → Mode → Meaning → Type 0} (mode : Mode)
      → ((v : V) → can v → IsLawful mode (means v mode)) → (u : U) → MayMap g f can means u → IsLawful mode (ItemMeans g f means mode u)
  item_lawful {means = means} mode lawful u may = record {
    one = record {
      same = λ m n p q.
          (lawful q.value (may.1 q.value q.given.shown q.given.shows q.given.met)).one.same m n (item_means may q.given m p) q.meant;
    };
    encodes = λ e p. (lawful p.value (may.1 p.value p.given.shown p.given.shows p.given.met)).encodes e p.meant;
  }

-- ---- items of an iterator

pub to_first : {A : Type 0} (means : A → Mode → Meaning → Type 0) (y z : A) → MeanSame means y z → (mode : Mode) (m : Meaning)
    → means z mode m → means y mode m
to_first means y z (inl is) mode m h = subst (λ x. means x mode m) is h
to_first means y z (inr s) mode m h = s.0.same mode m h

pub to_second : {A : Type 0} (means : A → Mode → Meaning → Type 0) (y z : A) → MeanSame means y z → (mode : Mode) (m : Meaning)
    → means y mode m → means z mode m
to_second means y z (inl is) mode m h = rw is h
to_second means y z (inr s) mode m h = s.1.same mode m h

module _ {I A : Type 0} (steps : I → Option A → I → Type 0) (can : A → Type 0) (means : A → Mode → Meaning → Type 0) where
  -- xs is a prefix of ys, and t gives the others
  pub record Follows (mode : Mode) (xs ys : List A) (t : I) : Type 0 where
    pub rest : List A
    pub gives_rest : AlwaysGives steps can means t rest
    pub refused : (e : EncodeError) → EachOf (λ v. means v mode) xs (Err e) → EachOf (λ v. means v mode) ys (Err e)
    pub whole : rest ≡ [] → (z : Encoded) → EachOf (λ v. means v mode) xs (Ok z) → EachOf (λ v. means v mode) ys (Ok z)

  no_refusal : (e : EncodeError) → NoValues (Err e) → ⊥
  no_refusal e r = cc

  pub follows : (mode : Mode) (s t : I) (xs ys : List A) → AlwaysGives steps can means s ys → Yields steps s xs t → Follows mode xs ys t
  follows mode s t [] ys h run = record {
    rest = ys;
    gives_rest = subst (λ i. AlwaysGives steps can means i ys) run h;
    refused = λ e r. absurd (no_refusal e r);
    whole = λ none z r. subst (λ l. EachOf (λ v. means v mode) l (Ok z)) (sym none) r;
  }
  follows mode s t (x ∷ xs) [] h run = absurd (h x run.0 run.1)
  follows mode s t (x ∷ xs) (y ∷ ys) h run =
      let at = h.1 x run.0 run.1 in
      let f = follows mode run.0 t xs ys at.1 run.2 in
      let same = to_first means y x at.0.1 mode in
      record {
        rest = f.rest;
        gives_rest = f.gives_rest;
        refused = λ e r. elim r
            [ inl now ↦ inl (same (Err e) now) | inr later ↦ inr (later.0, same (Ok later.0) later.1, f.refused e later.2) ];
        whole = λ none z r. (r.0, r.1, same (Ok r.0) r.2, f.whole none r.1 r.3, r.4);
      }

  -- at the end nothing is left
  pub none_left : (t u : I) (rest : List A) → AlwaysGives steps can means t rest → steps t None u → rest ≡ []
  none_left t u [] h s = refl
  none_left t u (y ∷ ys) h s = absurd (h.0 u s)

module _ {T I A : Type 0} {is_clone : T → T → Type 0} {gives : T → I → Type 0} {steps : I → Option A → I → Type 0} {can_next : I → Type 0}
    {left : I → Count} {can : A → Type 0} {means : A → Mode → Meaning → Type 0} {x : T}
    (one : GivesOneList is_clone gives steps can_next left can means x) (mode : Mode) where
  -- whatever a run means, the list means
  pub as_listed : (m : Meaning) → RunsMean is_clone gives steps (λ v. means v mode) x m → EachOf (λ v. means v mode) one.items m
  as_listed (Ok z) (xs, lists, each) =
      let b = lists.begins in
      let f = follows steps can means mode b.from b.to xs one.items (one.same b.copy b.from b.cloned b.made) b.ran in
      f.whole (none_left steps can means b.to lists.left f.rest f.gives_rest lists.ends) z each
  as_listed (Err e) (xs, b, each) =
      let f = follows steps can means mode b.from b.to xs one.items (one.same b.copy b.from b.cloned b.made) b.ran in
      f.refused e each

  pub runs_lawful : ((v : A) → can v → IsLawful mode (means v mode)) → IsLawful mode (RunsMean is_clone gives steps (λ v. means v mode) x)
  runs_lawful lawful =
      let listed = EachOf_lawful mode lawful one.items one.all_can in
      record {
        one = record { same = λ m n p q. listed.one.same m n (as_listed m p) (as_listed n q) };
        encodes = λ e p. listed.encodes e (as_listed (Ok e) p);
      }
