use Rattle.std.proofs.Common.{ℕ}
use Rattle.bcder.specs.declared.encode.primitive.Primitive.{Primitive}
use Rattle.bcder.specs.laws.Listed.{slice_iter_lacks}
use Rattle.bcder.proofs.Lemmas.{if_refused, wants_where_it_lacks}
use Rattle.writers.proofs.lists.write_numbers.Goals as goal

pub returns : goal.returns
returns g c =
    if_refused c.write_encoded.result _ _
    (λ e wants is. (slice_iter_lacks {L = λ (v : Primitive ℕ). ⊥} (λ s r t h. h) (λ y h. h) (λ _. Unit {0}) tt (λ s t h. h) (λ s t h. h) (wants is)).4)
    (wants_where_it_lacks c.write_encoded.result c.write_encoded.ensures)
