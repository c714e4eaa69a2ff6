use Rattle.std.proofs.Common.{◌≡◌, ◌<◌, ◌++◌, length, sym, ap₂, ◌∙◌, take-append-drop, rules}
use Rattle.encodings.proofs.Cutting.{feeds_open}
use Rattle.encodings.proofs.cut.feed_some.Goals as goal

pub returns-in-Ok-fill : goal.returns-in-Ok-fill
returns-in-Ok-fill c =
    let whole : c.args.octets.now ≡ c.split_at.result.0.now ++ c.split_at.result.1.now =
    sym (ap₂ (λ v w. v ++ w) c.split_at.ensures.front c.split_at.ensures.back ∙ take-append-drop c.min-len.result c.args.octets.now) in
    let some : 0 < length c.split_at.result.0.now = search rules in
    record { front = c.split_at.result.0.now; is = whole; some = some; feeds = feeds_open _ _ _ _ _ _ _ some c.in-Ok.ensures.opens c.in-Ok-fill.ensures }
