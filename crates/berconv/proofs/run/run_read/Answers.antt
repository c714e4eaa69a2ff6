use Rattle.std.proofs.Common.{[], subst, sym}
use Rattle.std.proofs.KnownBytes.{Keeps-refl}
use Rattle.cli.specs.Pem.{HasBlocks}
use Rattle.berconv.specs.Ends.{Ends, AppendsConversion, AppendsConversions}
use Rattle.berconv.proofs.run.run_read.Goals as goal

pub returns-in-Ok : goal.returns-in-Ok
returns-in-Ok g c =
    let m : HasBlocks c.args.request.form c.args.octets.now = c.has_blocks.ensures.yes c.if-has_blocks.true in
    let k = c.in-Ok.ensures.converted in
    Ends.in_blocks m k.0 k.1 c.deref.result.now (subst (AppendsConversions c.args.request k.0 []) (sym c.deref.ensures.value) k.2) c.put.ensures

pub returns-in-Err : goal.returns-in-Err
returns-in-Err g c =
    let m : HasBlocks c.args.request.form c.args.octets.now = c.has_blocks.ensures.yes c.if-has_blocks.true in
    Ends.no_blocks m c.in-Err.refusal c.in-Err.ensures.refused (record {
      status = c.refuse.ensures.status;
      nothing = Keeps-refl (g.W.Write.contents c.args.out.now);
      block = c.in-Err.number;
      told = c.refuse.ensures.told;
    })

pub returns-in-Ok-converted_alone : goal.returns-in-Ok-converted_alone
returns-in-Ok-converted_alone g c =
    let k = c.in-Ok-converted_alone.ensures.converted in
    Ends.alone (c.has_blocks.ensures.no c.if-has_blocks.false) k.0 k.1 c.deref-in-Ok-converted_alone.result.now
    (subst (AppendsConversion c.args.request k.0 []) (sym c.deref-in-Ok-converted_alone.ensures.value) k.2) c.put-in-Ok-converted_alone.ensures

pub returns-in-Err-converted_alone : goal.returns-in-Err-converted_alone
returns-in-Err-converted_alone g c = Ends.refused (c.has_blocks.ensures.no c.if-has_blocks.false) c.in-Err-converted_alone.refusal
    c.in-Err-converted_alone.ensures.refused (record {
      status = c.refuse-in-Err-converted_alone.ensures.status;
      nothing = Keeps-refl (g.W.Write.contents c.args.out.now);
      block = 0;
      told = c.refuse-in-Err-converted_alone.ensures.told;
    })
