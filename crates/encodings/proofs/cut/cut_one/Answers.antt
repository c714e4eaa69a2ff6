use Rattle.std.proofs.Common.{◌∷◌, arith}
use Rattle.encodings.specs.Pieces.{all_made, made_of}
use Rattle.encodings.proofs.Cutting.{in_state, out_of_state}
use Rattle.encodings.proofs.cut.cut_one.Goals as goal

pub returns-in-Ok : goal.returns-in-Ok
returns-in-Ok c = in_state _ _ _ _ _ _ _ (omega (arith, c.if-state-gt0.true)) (c.in-Ok.ensures (all_made c.args.rest.now))

pub returns-in-Ok-cut_outside : goal.returns-in-Ok-cut_outside
returns-in-Ok-cut_outside c =
    out_of_state _ (made_of c.args.item.now ∷ all_made c.args.rest.now) _ _ _ (omega (arith, c.if-state-gt0.false))
    c.in-Ok-cut_outside.ensures
