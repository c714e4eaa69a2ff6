use Rattle.std.proofs.Common.{ap, false}
use Rattle.std.specs.List.{concat}
use Rattle.bcder.specs.declared.length.Length.TheVariants.{Definite}
use Rattle.bcder.specs.x690.Octets.{header}
use Rattle.bcder.proofs.Writing.{halts, stops, follows_on, same_octets}
use Rattle.bcder.proofs.string.octet.write.put_whole.Goals as goal

pub returns-in_err-put_header : goal.returns-in_err-put_header
returns-in_err-put_header g c = halts _ c.from_residual.ensures
    (stops (concat c.args.parts) (same_octets (ap (λ n. header c.args.tag false (Definite n)) c.requires.all) c.in_err-put_header.ensures))

pub returns : goal.returns
returns g c = follows_on (same_octets (ap (λ n. header c.args.tag false (Definite n)) c.requires.all) c.in_ok-put_header.ensures) c.put_parts.ensures
