-- Searches for a name.
use Rattle.std.proofs.Common.{◌≡◌, ℕ, List, [], ◌∷◌, ◌++◌, Option, Some, None, sym, subst, ◌∙◌, IfNone, inl, inr, ◌⊎◌}
use Rattle.std.specs.Borrow.{Bor}
use Rattle.std.specs.Iterator.{AlwaysYields}
use Rattle.std.specs.Option.{MatchOption}
use Rattle.std.proofs.lemmas.List.{append_cancel_left}
use Rattle.names.specs.Names.{line_of, Has, HasLine}

-- what follows the number on a line begins with no space
pub no_name : (line number rest : List ℕ) (Q : Bor (List ℕ) → Type 0) (r : Option (Bor (List ℕ))) → line ≡ number ++ rest
    → MatchOption r ((x : List ℕ) → rest ≡ 32 ∷ x → ⊥) Q → IfNone r ((name : List ℕ) → line ≡ line_of number name → ⊥)
no_name line number rest Q None e n = λ name k. n name (append_cancel_left number rest (32 ∷ name) (sym e ∙ k))
no_name line number rest Q (Some x) e n = tt

-- an iterator gives items: each is one of all, and each of all that gives a name is one of them
module _ {S A B : Type 0} (steps : S → Option A → S → Type 0) (item : A → B) (all : List B) (P : List ℕ → B → Type 0) where
  pub record Gives (s : S) : Type 0 where
    pub others : List B
    pub yields : AlwaysYields steps item s others
    pub among : (name : List ℕ) → Has (P name) others → Has (P name) all
    pub has : (name : List ℕ) → Has (P name) all → Has (P name) others

  pub gives_all : (s : S) → AlwaysYields steps item s all → Gives s
  gives_all s h = record { others = all; yields = h; among = λ name k. k; has = λ name k. k }

  pub gives_one : (s t : S) (x : A) (name : List ℕ) → Gives s → steps s (Some x) t → P name (item x) → Has (P name) all
  gives_one s t x name g h e = one g.others g.yields (g.among name)
    where
      one : (ys : List B) → AlwaysYields steps item s ys → (Has (P name) ys → Has (P name) all) → Has (P name) all
      one [] y k = absurd (y x t h)
      one (z ∷ zs) y k = k (inl (subst (P name) (y.1 x t h).0 e))

  pub gives_others : (s t : S) (x : A) → Gives s → steps s (Some x) t → ((name : List ℕ) → P name (item x) → ⊥) → Gives t
  gives_others s t x g h n = rest g.others g.yields g.among g.has
    where
      without : (z : B) (zs : List B) (name : List ℕ) → item x ≡ z → P name z ⊎ Has (P name) zs → Has (P name) zs
      without z zs name e (inl k) = absurd (n name (subst (P name) (sym e) k))
      without z zs name e (inr k) = k

      rest : (ys : List B) → AlwaysYields steps item s ys → ((name : List ℕ) → Has (P name) ys → Has (P name) all)
          → ((name : List ℕ) → Has (P name) all → Has (P name) ys) → Gives t
      rest [] y k m = absurd (y x t h)
      rest (z ∷ zs) y k m = record {
        others = zs;
        yields = (y.1 x t h).1;
        among = λ name i. k name (inr i);
        has = λ name i. without z zs name (y.1 x t h).0 (m name i);
      }

  pub gives_none : (s t : S) (name : List ℕ) → Gives s → steps s None t → Has (P name) all → ⊥
  gives_none s t name g h i = none g.others g.yields (g.has name i)
    where
      none : (ys : List B) → AlwaysYields steps item s ys → Has (P name) ys → ⊥
      none [] y k = k
      none (z ∷ zs) y k = y.0 t h

-- a text equal to one without the number has no line with it
pub no_name_in : (text other number : List ℕ) (r : Option (Bor (List ℕ))) → text ≡ other → IfNone r ((name : List ℕ) → HasLine text number name → ⊥)
    → IfNone r ((name : List ℕ) → HasLine other number name → ⊥)
no_name_in text other number r e = subst (λ w. IfNone r ((name : List ℕ) → HasLine w number name → ⊥)) e
