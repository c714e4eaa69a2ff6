-- What may come where, by definitions of the crates below.
use Rattle.std.specs.Prelude.{◌≡◌, ◌≢◌, ◌↔◌, true, false, None}
use Rattle.bcder.specs.declared.mode.Mode.{Mode}
use Rattle.bcder.specs.declared.mode.Mode.TheVariants.{Ber, Der}
use Rattle.bcder.specs.x690.Identifier.{Tag}
use Rattle.bcder.specs.x690.OctetString.{AreSegmentsIn}
use Rattle.bcder.specs.x690.Tree.{Trees}
use Rattle.encodings.specs.Sets.{is_set, each, AreInOrder}
use Rattle.rules.specs.Kinds.{is_bits, kind_of, IsString}
use Rattle.rules.specs.Means.{AreMeant}
use Rattle.rules.specs.Placed.{are_several, AreInPlace, MayComeEach, MayEnd}

-- 9.3, 10.3, 11.6: the values inside a SET are in order
abbrev pub SetsAreInOrder : Type 0
SetsAreInOrder =
    (mode : Mode) (t : Tag) (ts : Trees) → mode ≢ Ber → is_set t ≡ true → MayComeEach mode t None ts ↔ AreInOrder mode (each ts)

-- 8.7.3, 9.2: values that mean some of their types are the segments of a string
abbrev pub StringsAreSegmented : Type 0
StringsAreSegmented =
    (mode : Mode) (t : Tag) (ts : Trees) → mode ≢ Der → IsString (kind_of t) → is_bits (kind_of t) ≡ false → AreMeant mode ts
    → AreInPlace mode ts
    → MayComeEach mode t None ts × MayEnd mode (kind_of t) (are_several ts) ↔ AreSegmentsIn mode ts
