use Rattle.std.proofs.Common.{◌≡◌, ◌-◌, suc, length, slice_get, Some, refl, arith}
use Rattle.std.proofs.lemmas.Option.{slice_get_read}
use Rattle.encodings.proofs.Converting.{write_stops}
use Rattle.encodings.proofs.Reading.{last_apart}
use Rattle.encodings.proofs.backwards.write.Goals as goal

pub returns-in-Err-clause-none : goal.returns-in-Err-clause-none
returns-in-Err-clause-none c =
    let l : length c.loop-rest.rest.now ≡ suc (length c.loop-rest.rest.now - 1) = omega (arith, c.in-len1-up.len_at_least) in
    let g : slice_get c.loop-rest.rest.now (length c.loop-rest.rest.now - 1) ≡ Some c.item-item.result =
    slice_get_read c.loop-rest.rest.now (length c.loop-rest.rest.now) (length c.loop-rest.rest.now - 1) c.item-item.result refl
    (omega (arith, c.in-len1-up.len_at_least)) c.item-item.is in
    λ k. write_stops _ _ _ _ _ _ _ c.loop-rest.invariant _ _ (last_apart _ _ _ l g) (c.in-Err.ensures.none k)
