-- CHOICE: one of two types (X.680, 29; X.690, 8.13).
use Rattle.std.proofs.Common.{inl, inr}
use Rattle.std.specs.Prelude.{◌⊎◌}
use Rattle.bcder.specs.x690.Identifier.{Tag, IsValueTag}
use Rattle.bcder.specs.x690.Tree.{Tree}
use Rattle.bcder.specs.calls.Valued.{tag_of}
use Rattle.asn1.specs.declared.choice.Choice2.{Choice2}
use Rattle.asn1.specs.declared.choice.Choice2.TheVariants.{One, Two}
use Rattle.asn1.specs.declared.choice.Choice3.{Choice3}
use Rattle.asn1.specs.declared.choice.Choice3.TheVariants as three
use Rattle.asn1.specs.declared.choice.Choice4.{Choice4}
use Rattle.asn1.specs.declared.choice.Choice4.TheVariants as four

-- the tags of the first type and those of the second
abbrev pub EitherTag : (Tag → Type 0) → (Tag → Type 0) → Tag → Type 0
EitherTag Tags Others t = Tags t ⊎ Others t

-- with a tag of the first type, what it means there; with another of the second's, what it means there
abbrev pub IsChoice : {A B : Type 0} → (Tag → Type 0) → (Tree → A → Type 0) → (Tag → Type 0) → (Tree → B → Type 0)
    → Tree → Choice2 A B → Type 0
IsChoice Tags Means Others Signify t (One a) = Tags (tag_of t) × Means t a
IsChoice Tags Means Others Signify t (Two b) = (Tags (tag_of t) → ⊥) × (Others (tag_of t) × Signify t b)

abbrev pub choice_key : {A B K L : Type 0} → (A → K) → (B → L) → Choice2 A B → Choice2 K L
choice_key f g (One a) = One (f a)
choice_key f g (Two b) = Two (g b)

pub either_tagged : {Tags Others : Tag → Type 0} → ((t : Tag) → Tags t → IsValueTag t) → ((t : Tag) → Others t → IsValueTag t)
    → (t : Tag) → EitherTag Tags Others t → IsValueTag t
either_tagged f g t h = elim h [ inl p ↦ f t p | inr q ↦ g t q ]

-- a CHOICE of three or four types, as one of the first and the others
abbrev pub three_in_two : {A B C : Type 0} → Choice3 A B C → Choice2 A (Choice2 B C)
three_in_two (three.One a) = One a
three_in_two (three.Two b) = Two (One b)
three_in_two (three.Three c) = Two (Two c)

abbrev pub four_in_two : {A B C D : Type 0} → Choice4 A B C D → Choice2 A (Choice2 B (Choice2 C D))
four_in_two (four.One a) = One a
four_in_two (four.Two b) = Two (One b)
four_in_two (four.Three c) = Two (Two (One c))
four_in_two (four.Four d) = Two (Two (Two d))
