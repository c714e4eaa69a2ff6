use Rattle.std.proofs.Common.{◌≤◌, ◌+◌, length, drop, sym, ap, ◌∙◌, arith}
use Rattle.bytes.proofs.Ranges.{drop-slice_range}
use Rattle.bcder.specs.calls.StringSource.{InBlock}
use Rattle.bcder.proofs.StringSources.{range_length}
use Rattle.bcder.proofs.string.octet.source.chunk.Chunk.advance.Goals as goal

pub returns : goal.returns
returns c =
    let f = c.self.inside in
    let len = c.args.len in
    let size = ap (λ (g : InBlock). length g.octets) c.self.view_is in
    let fits : f.start + len ≤ f.end =
    omega (arith, size, c.requires, c.self.invariant.0, range_length f.block f.start f.end c.self.invariant.0 c.self.invariant.1) in
    ap (λ w. record { block = f.block; octets = w; is_shared = f.is_shared }) (sym (drop-slice_range f.block f.start f.end len fits))
    ∙ ap (λ (g : InBlock). record { block = g.block; octets = drop len g.octets; is_shared = g.is_shared }) c.self.view_is
