-- What is noted of a part in which something was refused.
use Rattle.std.specs.Prelude.{◌≡◌, List, [], ◌∷◌}
use Rattle.asn1.specs.declared.trace.Part.{Part}

-- the parts were noted, one after the other
abbrev pub AreNoted : {P : Type 0} → (P → Part → P → Type 0) → P → List Part → P → Type 0
AreNoted noted p [] q = q ≡ p
AreNoted noted p (part ∷ parts) q = (between : _) × noted p part between × AreNoted noted between parts q
