use Rattle.std.proofs.Common.{[], ◌∷◌}
use Rattle.std.specs.List.{concat}
use Rattle.bcder.specs.calls.StringMeaning.{segments_in_cer}
use Rattle.bcder.proofs.Writing.{halts, stops, follows_on}
use Rattle.bcder.proofs.string.octet.write.put_cut.Goals as goal

pub returns-in_err-put_header : goal.returns-in_err-put_header
returns-in_err-put_header g c =
    halts _ c.from_residual.ensures (stops (0x00 ∷ 0x00 ∷ []) (stops (segments_in_cer (concat c.args.parts)).octets c.in_err-put_header.ensures))

pub returns-in_err-put_segments : goal.returns-in_err-put_segments
returns-in_err-put_segments g c =
    halts _ c.from_residual-in_err-put_segments.ensures (stops (0x00 ∷ 0x00 ∷ []) (follows_on c.in_ok-put_header.ensures c.in_err-put_segments.ensures))

pub returns : goal.returns
returns g c = follows_on (follows_on c.in_ok-put_header.ensures c.in_ok-put_segments.ensures) c.put_all.ensures
