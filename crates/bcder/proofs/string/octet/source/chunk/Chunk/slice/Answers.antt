use Rattle.std.proofs.Common.{◌≤◌, ◌≡◌, ◌+◌, length, slice_range, sym, ap, ◌∙◌, arith}
use Rattle.bytes.proofs.Ranges.{slice_range-slice_range}
use Rattle.bcder.specs.calls.StringSource.{InBlock}
use Rattle.bcder.proofs.StringSources.{range_length}
use Rattle.bcder.proofs.string.octet.source.chunk.Chunk.slice.Goals as goal

pub overflow_add-self-inside : goal.overflow_add-self-inside
overflow_add-self-inside c =
    let f = c.self.inside in
    let size = ap (λ (g : InBlock). length g.octets) c.self.view_is in
    omega (
      arith,
      size,
      c.requires.start_le_end,
      c.requires.in_bounds,
      c.self.invariant.0,
      c.self.invariant.1,
      c.len-bound.ensures.bound,
      c.len-bound.ensures.value,
      range_length f.block f.start f.end c.self.invariant.0 c.self.invariant.1,
    )

pub overflow_add-self-inside-2 : goal.overflow_add-self-inside-2
overflow_add-self-inside-2 c =
    let f = c.self.inside in
    let size = ap (λ (g : InBlock). length g.octets) c.self.view_is in
    omega (
      arith,
      size,
      c.requires.in_bounds,
      c.self.invariant.0,
      c.self.invariant.1,
      c.len-bound.ensures.bound,
      c.len-bound.ensures.value,
      range_length f.block f.start f.end c.self.invariant.0 c.self.invariant.1,
    )

pub returns : goal.returns
returns c =
    let f = c.self.inside in
    let start = c.args.start in
    let end = c.args.end in
    let size = ap (λ (g : InBlock). length g.octets) c.self.view_is in
    let fits : f.start + end ≤ f.end =
    omega (arith, size, c.requires.in_bounds, c.self.invariant.0, range_length f.block f.start f.end c.self.invariant.0 c.self.invariant.1) in
    let same : slice_range c.args.self.now.octets start end ≡ slice_range f.block (f.start + start) (f.start + end) =
    ap (λ (g : InBlock). slice_range g.octets start end) (sym c.self.view_is)
    ∙ slice_range-slice_range f.block f.start f.end start end c.requires.start_le_end fits in
    c.in_ok-slice.ensures.ok ∙ sym same
