use Rattle.std.proofs.Common.{◌≡◌, sym, ap, rules}
use Rattle.bcder.proofs.Capturing.{captures_over, captures_none}
use Rattle.bcder.proofs.decode.content.capture.capture_over.Goals as goal

pub returns-in-Ok : goal.returns-in-Ok
returns-in-Ok g c =
    let same : c.take_passed-octets.result.1.now ≡ c.source-1.given.0 = search rules in
    let fresh : c.set_limit.new.self.source.pos ≡ 0 = search rules in
    let old : c.set_limit.new.self.source.source.now ≡ c.args.source.now = search rules in
    let limit : c.set_limit.new.self.limit ≡ c.args.limit = search rules in
    let t = c.take_passed-octets.ensures in
    captures_over _ _ _ _ _ _ _ _ _ _ _ _ _ _ _ _ _ _ _ _ _ fresh (ap g.S.Source.stream old) limit (ap (λ x. g.S.Source.stream x.source.now)
    (sym c.unwrap-capture.ensures)) (ap g.S.Source.stream same) _ c.run_capturing-result.ensures.ran c.in-Ok.field-0 c.in-Ok.is
    (ap (λ x. x.pos) (sym c.unwrap-capture.ensures)) c.take_passed-octets.result.0 t.value t.count t.no_fault t.cause t.err t.kept

pub returns-in-Err : goal.returns-in-Err
returns-in-Err g c =
    let same : c.into_source-back.result.now ≡ c.source-in-Err-1.given.0 = search rules in
    let fresh : c.set_limit.new.self.source.pos ≡ 0 = search rules in
    let old : c.set_limit.new.self.source.source.now ≡ c.args.source.now = search rules in
    let limit : c.set_limit.new.self.limit ≡ c.args.limit = search rules in
    captures_none _ _ _ _ _ _ _ _ _ _ _ _ _ _ _ _ _ _ _ _ 0 fresh (ap g.S.Source.stream old) limit
    (ap (λ x. g.S.Source.stream x.source.now) (sym c.unwrap-capture.ensures)) (ap g.S.Source.stream same) _ c.run_capturing-result.ensures.ran _ c.in-Err.is
    (ap g.S.Source.stream c.into_source-back.ensures.value)
