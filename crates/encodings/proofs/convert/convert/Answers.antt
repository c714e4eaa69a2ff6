use Rattle.std.proofs.Common.{◌≡◌, subst, sym, rules}
use Rattle.bcder.specs.declared.mode.Mode.TheVariants.{Ber}
use Rattle.encodings.specs.Conversion.{Converts}
use Rattle.encodings.proofs.Converting.{kept}
use Rattle.encodings.proofs.convert.convert.Goals as goal

pub returns-then-eq : goal.returns-then-eq
returns-then-eq c =
    let b : c.args.to ≡ Ber = search rules in
    subst (λ m. Converts c.args.from m c.args.octets.now c.store_whole.result c.args.buffer.now c.store_whole.new.buffer c.args.size.now
    c.store_whole.new.size) (sym b) (kept _ _ _ _ _ _ _ (search rules) c.store_whole.ensures)
