-- What a function from contents octets says of them.
use Rattle.std.specs.Prelude.{ℕ, List, Result, MatchResult}
use Rattle.bcder.specs.declared.decode.error.ContentError.{ContentError}
use Rattle.bcder.specs.calls.Cause.{of_content, IsOfContent}

-- the octets mean x, or nothing
abbrev pub MeansOrNothing : {T : Type 0} → (List ℕ → T → Type 0) → List ℕ → Result T ContentError → Type 0
MeansOrNothing Means w r = MatchResult r (λ x. Means w x) (λ e. ((x : _) → Means w x → ⊥) × IsOfContent (of_content e))
