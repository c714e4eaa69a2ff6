-- A step that stopped is an error for the same reason.
use Rattle.std.proofs.Common.{◌≡◌, ◌∙◌, subst, sym}
use Rattle.bcder.specs.declared.decode.error.ContentError.{ContentError}
use Rattle.bcder.specs.calls.Cause.{Cause, IsOfContent}
use Rattle.bcder.specs.calls.Content.{NothingThere, any, Reading, Asked}
use Rattle.bcder.specs.calls.Calls as calls
use Rattle.bcder.specs.calls.Content as refusals
use Rattle.bcder.specs.calls.Content.{Refuses}
use Rattle.bcder.specs.calls.Walking.{HasNoNext}
use Rattle.bcder.specs.steps.Entering.{NamesViolation}

module _ {E F : Type 0} (stopped : E → Cause ContentError) (why : F → Cause ContentError) (s : E) (e : F) (same : why e ≡ stopped s) (c d : Reading) where
  own : IsOfContent (stopped s) → IsOfContent (why e)
  own o = subst IsOfContent (sym same) o

  named : NamesViolation (stopped s) c → NamesViolation (why e) c
  named o = (o.0, o.1, same ∙ o.2)

  pub header_stopped : (asked : Asked) → Refuses stopped asked (NothingThere asked) ⊥ c s d → Refuses why asked (NothingThere asked) ⊥ c e d
  header_stopped asked (refusals.Refuses.failed x o) = refusals.Refuses.failed x (own o)
  header_stopped asked (refusals.Refuses.source k x) = refusals.Refuses.source (same ∙ k) x
  header_stopped asked (refusals.Refuses.nothing x o) =
      refusals.Refuses.nothing x (record { refused = own o.refused; named = λ q. named (o.named q) })
  header_stopped asked (refusals.Refuses.otherwise n) = absurd n

  pub end_stopped : calls.RefusesEnd stopped c s d → calls.RefusesEnd why c e d
  end_stopped (calls.RefusesEnd.left_failed x o) = calls.RefusesEnd.left_failed x (own o)
  end_stopped (calls.RefusesEnd.source_failed k x) = calls.RefusesEnd.source_failed (same ∙ k) x
  end_stopped (calls.RefusesEnd.left_open x o) = calls.RefusesEnd.left_open x (own o)

  pub walk_stopped : Refuses stopped any HasNoNext ⊥ c s d → Refuses why any HasNoNext ⊥ c e d
  walk_stopped (refusals.Refuses.failed x o) = refusals.Refuses.failed x (own o)
  walk_stopped (refusals.Refuses.source k x) = refusals.Refuses.source (same ∙ k) x
  walk_stopped (refusals.Refuses.nothing n o) = refusals.Refuses.nothing n (record { refused = own o.refused; named = λ q. named (o.named q) })
  walk_stopped (refusals.Refuses.otherwise n) = absurd n
