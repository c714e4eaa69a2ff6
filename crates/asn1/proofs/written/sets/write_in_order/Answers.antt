use Rattle.std.proofs.Common.{subst, inr}
use Rattle.asn1.specs.SetsWritten.{AreKeptInOrder}
use Rattle.asn1.proofs.SetsSorted.{kept_written}
use Rattle.asn1.proofs.written.sets.write_in_order.Goals as goal

pub returns-in-Ok-in_order : goal.returns-in-Ok-in_order
returns-in-Ok-in_order g c =
    let mode = c.args.mode in
    let W = (λ (v : g.row.T.Denot). g.T.Encode.writes g.T.Type.TAG v mode) in
    let cs = c.in-Ok-in_order.pieces.items in
    let k = subst (λ z. AreKeptInOrder mode W z cs) c.as_slice.ensures.value c.in-Ok-in_order.ensures in
    kept_written W c.args.items.now.items mode c.requires.not_ber cs k _ _ (λ a. inr (c.requires.not_ber, c.requires.two)) c.write_encoded.result
    c.write_encoded.ensures
