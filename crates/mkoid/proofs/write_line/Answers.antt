use Rattle.std.proofs.Common.{refl, string_bytes}
use Rattle.mkoid.specs.Lines.{refusal_line}
use Rattle.mkoid.specs.Lines.IsLine.{named, refused}
use Rattle.mkoid.proofs.Writing.{on_ok, on_err}
use Rattle.mkoid.proofs.write_line.Goals as goal

pub returns-in-Ok-clause-ok : goal.returns-in-Ok-clause-ok
returns-in-Ok-clause-ok g c =
    on_ok c.write_octets.result _ _ (λ a. (string_bytes c.in-Ok.line, named c.in-Ok.ensures.named, rw c.as_bytes.ensures.value at a)) c.write_octets.ensures.ok

pub returns-in-Ok-clause-err : goal.returns-in-Ok-clause-err
returns-in-Ok-clause-err g c = on_err c.write_octets.result _ _
    (λ a. (string_bytes c.in-Ok.line, named c.in-Ok.ensures.named, rw c.as_bytes.ensures.value at a)) c.write_octets.ensures.refused

pub returns-in-Err-clause-ok : goal.returns-in-Err-clause-ok
returns-in-Err-clause-ok g c = on_ok c.write_refusal.result _ _
    (λ a. (refusal_line c.args.arg.now c.in-Err.error, refused c.in-Err.error c.in-Err.ensures.refused refl, a)) c.write_refusal.ensures.ok

pub returns-in-Err-clause-err : goal.returns-in-Err-clause-err
returns-in-Err-clause-err g c = on_err c.write_refusal.result _ _
    (λ a. (refusal_line c.args.arg.now c.in-Err.error, refused c.in-Err.error c.in-Err.ensures.refused refl, a)) c.write_refusal.ensures.err
