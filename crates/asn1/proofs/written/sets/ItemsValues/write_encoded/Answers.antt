use Rattle.std.proofs.Common.{rules, arith, ◌<◌, ◌≢◌, length}
use Rattle.bcder.specs.declared.mode.Mode.TheVariants.{Ber}
use Rattle.std.specs.Prelude.{◌≡◌, true}
use Rattle.asn1.proofs.SetsSorted.{row_written}
use Rattle.asn1.proofs.written.sets.ItemsValues.write_encoded.Goals as goal

pub returns-then-is_in_order : goal.returns-then-is_in_order
returns-then-is_in_order g c =
    let mode = c.args.mode in
    let W = (λ (v : g.row.T.Denot). g.T.Encode.writes g.T.Type.TAG v mode) in
    let t : c.is_in_order.result ≡ true = search rules in
    let s = λ (ne : mode ≢ Ber). (let h = c.is_in_order.ensures.yes t ne in let n : length c.args.self.now.0.now.items < 2 = search (rules, arith) in n) in
    row_written W c.args.self.now.0.now.items mode (λ v. g.met.T.Encode.lawful g.T.Type.TAG v mode) s (λ v. g.T.Encode.may_lack v mode)
    c.write_fields.result c.write_fields.ensures
