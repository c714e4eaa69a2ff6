use Rattle.std.proofs.Common.{drop, length, sym, ap, ◌∙◌, subst, arith}
use Rattle.std.proofs.lemmas.List.{drop-drop, length-drop}
use Rattle.bcder.specs.steps.SegmentTable.{AreWithin, segments_at}
use Rattle.bcder.specs.calls.StringSource.{ToCome}
use Rattle.bcder.proofs.StringSources.{AreWithin-drop, segments_at-drop, segments_at-length}
use Rattle.bcder.proofs.string.octet.source.Behind.pass.Goals as goal

pub invariant_of-self : goal.invariant_of-self
invariant_of-self c =
    let s = c.self.inside in
    let left = drop s.next s.segments.items in
    let more = drop-drop c.args.count s.next s.segments.items in
    let count = ap (λ (b : ToCome). length b.parts) c.self.view_is in (
      subst (AreWithin s.octets) more (AreWithin-drop s.octets left c.args.count c.self.invariant.0),
      omega (arith, count, c.self.invariant.1, c.requires, segments_at-length s.octets left, length-drop s.next s.segments.items),
    )

pub returns : goal.returns
returns c =
    let s = c.self.inside in
    let left = drop s.next s.segments.items in
    ap (λ ps. record { octets = s.octets; parts = ps })
    (ap (segments_at s.octets) (sym (drop-drop c.args.count s.next s.segments.items)) ∙ segments_at-drop s.octets left c.args.count)
    ∙ ap (λ (b : ToCome). record { octets = b.octets; parts = drop c.args.count b.parts }) c.self.view_is
