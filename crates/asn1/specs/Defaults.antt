-- Values that may be left out, and then are the default (X.680, 25.10).
use Rattle.std.specs.Prelude.{◌≡◌, ◌≢◌, ◌⊎◌}
use Rattle.bcder.specs.declared.mode.Mode.{Mode}
use Rattle.bcder.specs.declared.mode.Mode.TheVariants.{Ber}
use Rattle.bcder.specs.x690.Identifier.{Tag}
use Rattle.bcder.specs.x690.Tree.{Tree, Trees}
use Rattle.asn1.specs.Types.{IsMember, BeginWithout}

-- the first, if it has one of the tags: in CER and DER not the default (X.690, 11.5); or the default, if it has none
abbrev pub IsDefaulted : {T K : Type 0} → Mode → (Tag → Type 0) → (Tree → T → Type 0) → (T → K) → K
    → Trees → T → Trees → Type 0
IsDefaulted mode Tags Means key default ts x us =
    (IsMember Tags Means ts x us × (mode ≢ Ber → key x ≢ default))
    ⊎ (BeginWithout Tags ts × ((us ≡ ts) × (key x ≡ default)))
