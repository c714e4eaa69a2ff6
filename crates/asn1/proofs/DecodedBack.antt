-- What is encoded is decoded.
use Rattle.std.proofs.Common.{◌≡◌, [], refl, subst}
use Rattle.bcder.specs.declared.mode.Mode.{Mode}
use Rattle.bcder.specs.x690.Identifier.{Tag}
use Rattle.bcder.specs.x690.Tree.{Tree}
use Rattle.bcder.specs.calls.Captured.{Kept, kept_stream}
use Rattle.bcder.specs.calls.Gathered.{HoldsMeant}
use Rattle.bcder.specs.calls.Meaning.{Meaning, IsLawful}
use Rattle.bcder.specs.laws.Complete.{one_encoding}
use Rattle.asn1.specs.Decoded.{IsValueOf, IsDecodedBack}
use Rattle.asn1.specs.Writing.{IsReadAs}
use Rattle.asn1.proofs.TakenBack.{alone}

module _ {T K : Type 0} (mode : Mode) (Tags : Tag → Type 0) (Means : Tree → T → Type 0) (key : T → K) (x : T) (M : Meaning → Type 0) where
  pub decoded_back : IsLawful mode M → IsReadAs Tags Means key x M → IsDecodedBack mode Tags Means key M x
  decoded_back l read e m =
      let w = read e m in
      let a = alone Tags Means key (key x) mode e (l.encodes e m) w in
      record {
        some = w.some;
        is = record { tree = w.tree; encodes = a; tagged = w.tagged; means = w.means };
        only =
            λ y h.
            w.only y (subst (λ t. Means t y) (one_encoding mode h.tree w.tree e.octets e.octets [] [] h.encodes a refl).tree h.means);
      }

  -- what was kept of it is
  pub kept_back : IsDecodedBack mode Tags Means key M x → (c : Kept) → HoldsMeant M mode c → (y : T) → IsValueOf mode Tags Means (kept_stream c).rest y
      → key y ≡ key x
  kept_back back c h y v = (back h.what h.meant).only y (subst (λ (z : Kept). IsValueOf mode Tags Means (kept_stream z).rest y) h.holds v)
