use Rattle.std.proofs.Common.{refl, arith}
use Rattle.bcder.proofs.Peeking.{if_front}
use Rattle.bcder.proofs.PlainReader.{long_stands}
use Rattle.bcder.proofs.decode.header.look_long.Goals as goal

pub returns-in-len4-up : goal.returns-in-len4-up
returns-in-len4-up c =
    if_front _ _ _ 4 _ c.short_front.result c.in-len4-up.len_at_least c.short_front.ensures
    (λ x. long_stands c.args.mode c.args.octets.now x _ _ _ c.in-len4-up.len_at_least c.if-leading-lt31.true c.if-count.true c.if-high-ne0.true
    refl refl (omega arith))
