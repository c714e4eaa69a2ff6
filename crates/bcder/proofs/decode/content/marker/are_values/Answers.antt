use Rattle.std.proofs.Common.{◌≡◌, true, false, refl, ap, rules}
use Rattle.bcder.specs.calls.Cause.{is_memory_cause, cause_of}
use Rattle.bcder.specs.calls.Content.{values}
use Rattle.bcder.specs.calls.Views.{of_constructed}
use Rattle.std.specs.Prelude.{Err}
use Rattle.bcder.proofs.Exactness.{all_exactly}
use Rattle.bcder.proofs.Markers.{values_there, values_found, not_memory, never_grew, as_other, as_no}
use Rattle.bcder.proofs.decode.content.marker.are_values.Goals.{then-is_memory, else-is_memory}
use Rattle.bcder.proofs.decode.content.marker.are_values.Goals as goal

pub returns-in-Ok : goal.returns-in-Ok
unfolding of_constructed
returns-in-Ok c = (
  λ t. values_found _ c.args.mode c.args.octets.now c.over-cons.ensures.mode (ap values c.over-cons.ensures.kind) (search rules)
      (c.in-Ok.ensures.skipped.value.0 c.over-cons.ensures.state),
  λ v. refl,
)

pub returns-after-is_memory : goal.returns-after-is_memory
unfolding of_constructed
returns-after-is_memory c =
    elim c.if-is_memory.branch [
      | then-is_memory w ↦ as_other _ _ _ w.result-is w.is_list.ensures
      | else-is_memory w ↦
          let n : is_memory_cause (cause_of c.in-Err.error) ≡ false = search rules in
          as_no _ _ (search rules) (λ v. let x : false ≡ true =
          all_exactly _ _ never_grew (Err c.in-Err.error) c.in-Err.ensures.skipped (λ m. not_memory _ n m) c.over-cons.ensures.state
          (values_there _ c.args.mode c.args.octets.now c.over-cons.ensures.mode (ap values c.over-cons.ensures.kind) (search rules) v) in cc)
    ]
