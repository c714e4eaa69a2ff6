use Rattle.std.proofs.Common.{refl}
use Rattle.bcder.proofs.decode.content.fn.Constructed.take_opt_constructed.take_constructed_body.Goals as goal

pub op-requires : goal.op-requires
op-requires g c = c.requires _ refl

pub returns : goal.returns
returns g c = record { handed = _; left = _; handed_is = refl; left_is = refl; called = c.op.ensures }
