use Rattle.std.proofs.Common.{◌++◌, ◌∙◌}
use Rattle.std.specs.Prelude.{codes}
use Rattle.bcder.specs.calls.Identifiers.{error_text}
use Rattle.mkoid.proofs.Writing.{on_err, whenever_err, shorter_more, shorter_behind}
use Rattle.mkoid.proofs.write_refusal.Goals as goal

pub returns-in_err-write_octets-clause-err : goal.returns-in_err-write_octets-clause-err
returns-in_err-write_octets-clause-err g c =
    whenever_err c.from_residual.result _ (shorter_more _ _ c.args.arg.now (codes ": " ++ (error_text c.args.error.now ++ codes ".\n"))
    (rw c.as_bytes.ensures.value at c.in_err-write_octets.ensures.refused))

pub returns-in_err-write_octets-2-clause-err : goal.returns-in_err-write_octets-2-clause-err
returns-in_err-write_octets-2-clause-err g c =
    let first = rw c.as_bytes.ensures.value at c.in_ok-write_octets.ensures.ok in
    let second = rw c.as_slice.ensures at c.in_err-write_octets-2.ensures.refused in
    whenever_err c.from_residual-in_err-write_octets-2.result _
    (shorter_behind _ _ _ _ _ first (shorter_more _ _ (codes ": ") (error_text c.args.error.now ++ codes ".\n") second))

pub returns-in_err-write_octets-3-clause-err : goal.returns-in_err-write_octets-3-clause-err
returns-in_err-write_octets-3-clause-err g c =
    let first = rw c.as_bytes.ensures.value at c.in_ok-write_octets.ensures.ok in
    let second = rw c.as_slice.ensures at c.in_ok-write_octets-2.ensures.ok in
    let third = rw (c.as_bytes-2.ensures.value ∙ c.text_of.ensures) at c.in_err-write_octets-3.ensures.refused in
    whenever_err c.from_residual-in_err-write_octets-3.result _
    (shorter_behind _ _ _ _ _ first (shorter_behind _ _ _ _ _ second (shorter_more _ _ (error_text c.args.error.now) (codes ".\n") third)))

pub returns-clause-err : goal.returns-clause-err
returns-clause-err g c =
    let first = rw c.as_bytes.ensures.value at c.in_ok-write_octets.ensures.ok in
    let second = rw c.as_slice.ensures at c.in_ok-write_octets-2.ensures.ok in
    let third = rw (c.as_bytes-2.ensures.value ∙ c.text_of.ensures) at c.in_ok-write_octets-3.ensures.ok in
    on_err c.write_octets-4.result _ _ (λ a. shorter_behind _ _ _ _ _ first
    (shorter_behind _ _ _ _ _ second (shorter_behind _ _ _ _ _ third (rw c.as_slice-2.ensures at a)))) c.write_octets-4.ensures.refused
