-- What a type whose values are read back says of them: the members of `Clear`, of `Encode` and of `Type`.
use Rattle.std.specs.Prelude.{Bool, List}
use Rattle.bcder.specs.declared.mode.Mode.{Mode}
use Rattle.bcder.specs.x690.Identifier.{Tag}
use Rattle.bcder.specs.x690.Tree.{Tree}
use Rattle.bcder.specs.calls.Meaning.{Meaning}
use Rattle.asn1.specs.declared.trace.Part.{Part}
use Rattle.asn1.specs.TagSets.{TagSet}

-- as `⟦<A as Clear>⟧` has them
abbrev pub ClearOf : Type 0 → Type 1
ClearOf A = record {
  TAG : Tag;
  expects : Tag → List Part;
  tags : Tag → Tag → Type 0;
  Key : Type 0;
  key : A → Key;
  means : Mode → Tree → A → Type 0;
  keeps_all : Type 0;
  writes : Tag → A → Mode → Meaning → Type 0;
  may_lack : A → Mode → Type 0;
  is_clear : A → Mode → Type 0;
  tag_set : TagSet;
  distinct : Bool;
  always_clear : Mode → Bool;
}
