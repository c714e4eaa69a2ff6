use Rattle.std.proofs.Common.{[], ◌∷◌, sym, arith}
use Rattle.bcder.proofs.Enclosing.{short_definite}
use Rattle.bcder.proofs.Writing.{same_octets}
use Rattle.bcder.proofs.encode.short.put_octet.Goals as goal

pub returns : goal.returns
returns g c = same_octets (sym (short_definite c.args.tag c.in-Some.identifier (c.args.octet ∷ []) c.in-Some.ensures (omega arith))) c.put_all.ensures
