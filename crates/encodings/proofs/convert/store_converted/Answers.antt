use Rattle.std.proofs.Common.{◌≡◌, sym, ap, subst, rules}
use Rattle.bcder.specs.declared.mode.Mode.TheVariants.{Cer}
use Rattle.encodings.specs.Pieces.{ReadsAs, all_made}
use Rattle.encodings.proofs.Converting.{stored_in_der, stored_in_cer, only_der, read_fits_in}
use Rattle.encodings.proofs.convert.store_converted.Goals as goal

pub store_cut-requires : goal.store_cut-requires
store_cut-requires c =
    let e : c.args.to ≡ Cer = search rules in
    read_fits_in c.args.from c.args.to c.args.octets.now _ e
    (subst (ReadsAs c.args.from c.args.to c.args.octets.now) (sym (ap all_made c.as_slice.ensures.value)) c.in-Ok.ensures.read)

pub returns-then-eq : goal.returns-then-eq
returns-then-eq c =
    let e : c.args.to ≡ Cer = search rules in
    stored_in_cer _ _ _ _ _ _ _ _ _ e
    (subst (ReadsAs c.args.from c.args.to c.args.octets.now) (sym (ap all_made c.as_slice.ensures.value)) c.in-Ok.ensures.read) c.store_cut.ensures

pub returns : goal.returns
returns c =
    let n : c.args.to ≡ Cer → ⊥ = search rules in
    stored_in_der _ _ _ _ _ _ _ _ _ (only_der c.args.to c.requires.canonical n) c.requires.whole
    (subst (ReadsAs c.args.from c.args.to c.args.octets.now) (sym (ap all_made c.as_slice-2.ensures.value)) c.in-Ok.ensures.read) c.store_items.ensures
