-- Contents octets of object identifiers (X.690, 8.19), and their text.
use Rattle.std.proofs.Common.{◌≡◌, [], ◌∷◌, refl}
use Rattle.std.specs.Prelude.{codes}
use Rattle.bcder.specs.declared.oid.components.Position.TheVariants.{First, Second, Other}
use Rattle.bcder.specs.calls.Identifiers.{component_parts}
use Rattle.bcder.specs.x690.ObjectIdentifier.{components}
use Rattle.bcder.specs.calls.Identifiers.{between_dots}

-- 8.19.5, the example: {2 100 3}
the_example : components (0x81 ∷ 0x34 ∷ 0x03 ∷ []) ≡ 2 ∷ 100 ∷ 3 ∷ []
the_example = refl

basic_constraints : components (0x55 ∷ 0x1D ∷ 0x13 ∷ []) ≡ 2 ∷ 5 ∷ 29 ∷ 19 ∷ []
basic_constraints = refl

-- 8.19.4: where the first component changes
first_components : (components (0x27 ∷ []) ≡ 0 ∷ 39 ∷ []) × (components (0x28 ∷ []) ≡ 1 ∷ 0 ∷ []) × (components (0x4F ∷ []) ≡ 1 ∷ 39 ∷ [])
    × (components (0x50 ∷ []) ≡ 2 ∷ 0 ∷ [])
first_components = (refl, refl, refl, refl)

-- the first two components stand in the first subidentifier
two_in_one : component_parts (0x2B ∷ 0x06 ∷ [])
    ≡ record { position = First; octets = 0x2B ∷ [] } ∷ record { position = Second; octets = 0x2B ∷ [] } ∷ record { position = Other; octets = 0x06 ∷ [] } ∷ []
two_in_one = refl

-- what doesn't end is part of no component
unfinished : (components (0x81 ∷ 0x34 ∷ 0x83 ∷ []) ≡ 2 ∷ 100 ∷ []) × (components (0x83 ∷ []) ≡ []) × (components [] ≡ [])
unfinished = (refl, refl, refl)

-- digits that are 0 in front change no number
leading_zeros : components (0x55 ∷ 0x80 ∷ 0x80 ∷ 0x01 ∷ []) ≡ 2 ∷ 5 ∷ 1 ∷ []
leading_zeros = refl

-- the largest second component of 32 bits, and one more
largest : (components (0x90 ∷ 0x80 ∷ 0x80 ∷ 0x80 ∷ 0x4F ∷ []) ≡ 2 ∷ 4294967295 ∷ [])
    × (components (0x90 ∷ 0x80 ∷ 0x80 ∷ 0x80 ∷ 0x50 ∷ []) ≡ 2 ∷ 4294967296 ∷ [])
largest = (refl, refl)

dots : (between_dots (codes "1.39.0") ≡ codes "1" ∷ codes "39" ∷ codes "0" ∷ []) × (between_dots (codes "1..2") ≡ codes "1" ∷ [] ∷ codes "2" ∷ [])
    × (between_dots (codes "1.") ≡ codes "1" ∷ [] ∷ []) × (between_dots [] ≡ [] ∷ [])
dots = (refl, refl, refl, refl)
