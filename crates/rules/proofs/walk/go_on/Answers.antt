use Rattle.std.proofs.Common.{◌≡◌, Bool, true, false, refl, sym, ◌∙◌, rules}
use Rattle.rules.specs.declared.around.Met.TheVariants.{Lost}
use Rattle.rules.proofs.Walking.{walk_lost, walk_followed}
use Rattle.rules.proofs.walk.go_on.Goals as goal
use Rattle.rules.proofs.walk.go_on.Goals.{then-not-place-via-then-not-place, then-not-place-via-else-not-place+then-is_lost}

pub returns-then-not-place-clause-walk : goal.returns-then-not-place-clause-walk
returns-then-not-place-clause-walk c = λ octets i.
    walk_lost _ _ octets _ _ _ _ _ _ _ _ _ _ _ _ _ i c.in-Ok.ensures (elim c.then-not-place.branch [
      | then-not-place-via-then-not-place w ↦ (λ e.
          let n : c.args.place.whole ≡ false = search rules in
          let z : ◌≡◌ {A = Bool} true false = sym e ∙ n in
          absurd cc)
      | then-not-place-via-else-not-place+then-is_lost w ↦ (λ _. w.is_lost.ensures.0 (search rules))
    ])

pub returns-clause-walk : goal.returns-clause-walk
returns-clause-walk c = λ octets i.
    let w : c.args.place.whole ≡ true = search rules in
    let l : c.in-Ok.next.met ≡ Lost → ⊥ = search rules in
    walk_followed _ _ octets _ _ _ _ _ _ _ _ _ _ _ _ _ _ _ _ c.args.place.rest i c.in-Ok.ensures w l refl c.in-Ok-follow.ensures
