use Rattle.bcder.proofs.CharSets.{went_on, stopped}
use Rattle.bcder.proofs.string.restricted.char_set.CharSet.check.Goals as goal

pub returns-in_err-next_char : goal.returns-in_err-next_char
returns-in_err-next_char g c =
    stopped g.Self.CharSet.step c.args.octets.octets c.loop.octets.octets c.next_char.new.octets.octets _ c.from_residual.result c.from_residual.ensures.1
    c.in_err-next_char.ensures c.loop.invariant

pub loop-preserved : goal.loop-preserved
loop-preserved g c =
    went_on g.Self.CharSet.step g.met.Self.CharSet.lawful c.args.octets.octets c.loop.octets.octets c.next_char.new.octets.octets _ c.if-is_some.ensures
    c.in_ok-next_char.ensures c.loop.invariant
