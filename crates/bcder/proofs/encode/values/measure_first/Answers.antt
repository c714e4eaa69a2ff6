use Rattle.std.proofs.Common.{refl, sym, subst}
use Rattle.bcder.specs.declared.mode.Mode.{Mode}
use Rattle.bcder.specs.calls.Noted.{noted, MayRead}
use Rattle.bcder.proofs.Noting.{noted_read, where_ok}
use Rattle.bcder.proofs.encode.values.measure_first.Goals as goal

pub returns-in-Cer-clause-noted : goal.returns-in-Cer-clause-noted
returns-in-Cer-clause-noted g c =
    let read : Mode → Type 0 = λ mode. MayRead (g.E.Encoder.takes c.args.encoder.now mode) (noted c.measured.new.sizes) in
    where_ok c.measured.result (λ n. subst read (sym c.in-Cer.is) (noted_read _ _ c.requires.none n _ refl)) c.measured.ensures.noted

pub returns-in-Ber-clause-noted : goal.returns-in-Ber-clause-noted
returns-in-Ber-clause-noted g c =
    where_ok c.measured-in-Ber.result (λ n. noted_read _ _ c.requires.none n _ refl) c.measured-in-Ber.ensures.noted
