-- Cases.
use Rattle.std.proofs.Common.{◌≡◌, Bool, true, false, ◌⊎◌, inl, inr}
use Rattle.std.specs.Prelude.{IsTrue, ◌↔◌}

pub not_both : (b : Bool) → IsTrue b → b ≡ false → ⊥
not_both true t e = absurd cc
not_both false t e = absurd cc

-- the last of four, if the others don't hold
pub last_of_four : {A B C D : Type 0} (a b c d : Bool) → IsTrue a ↔ A → a ≡ false → IsTrue b ↔ B → b ≡ false → IsTrue c ↔ C → c ≡ false
    → IsTrue d ↔ D → IsTrue d ↔ (A ⊎ B ⊎ C ⊎ D)
last_of_four a b c d p na q nb r nc s = (
  λ e. inr (inr (inr (s.0 e))),
  λ h. elim h [
    | inl x ↦ absurd (not_both a (p.1 x) na)
    | inr i ↦ elim i [
      | inl x ↦ absurd (not_both b (q.1 x) nb)
      | inr j ↦ elim j [
        | inl x ↦ absurd (not_both c (r.1 x) nc)
        | inr x ↦ s.1 x
      ]
    ]
  ],
)
