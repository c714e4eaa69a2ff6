-- What is written of a CHOICE (X.680, 29; X.690, 8.13).
use Rattle.std.specs.Prelude.{◌≡◌, refl}
use Rattle.bcder.specs.declared.mode.Mode.{Mode}
use Rattle.bcder.specs.x690.Identifier.{Tag}
use Rattle.bcder.specs.calls.Meaning.{Meaning, IsLawful}
use Rattle.asn1.specs.declared.choice.Choice2.{Choice2}
use Rattle.asn1.specs.declared.choice.Choice2.TheVariants.{One, Two}
use Rattle.asn1.specs.declared.choice.Choice3.{Choice3}
use Rattle.asn1.specs.declared.choice.Choice3.TheVariants as three
use Rattle.asn1.specs.declared.choice.Choice4.{Choice4}
use Rattle.asn1.specs.declared.choice.Choice4.TheVariants as four
use Rattle.asn1.specs.Choices.{three_in_two, four_in_two}

-- what is written of the value in it (a `search` that knows which it is does not look below a binder: so no meaning is bound here)
abbrev pub WritesEither : {A B : Type 0} → (A → Meaning → Type 0) → (B → Meaning → Type 0) → Choice2 A B → Meaning → Type 0
WritesEither M N (One a) = M a
WritesEither M N (Two b) = N b

abbrev pub EitherLacks : {A B : Type 0} → (A → Type 0) → (B → Type 0) → Choice2 A B → Type 0
EitherLacks P Q (One a) = P a
EitherLacks P Q (Two b) = Q b

-- the value in it is clear, and for the second type the tags are distinct (X.680, 29.3)
abbrev pub IsClearEither : {A B : Type 0} → (Tag → Type 0) → (Tag → Type 0) → (A → Type 0) → (B → Type 0) → Choice2 A B → Type 0
IsClearEither Tags Others P Q (One a) = P a
IsClearEither Tags Others P Q (Two b) = Q b × ((t : Tag) → Others t → Tags t → ⊥)

pub either_lawful : {A B : Type 0} {mode : Mode} (M : A → Meaning → Type 0) (N : B → Meaning → Type 0) → ((a : A) → IsLawful mode (M a))
    → ((b : B) → IsLawful mode (N b)) → (x : Choice2 A B) → IsLawful mode (WritesEither M N x)
either_lawful M N l k (One a) = l a
either_lawful M N l k (Two b) = k b

-- each value of the nested choice is one of three or four types
pub made_of_three : {A B C : Type 0} (v : Choice2 A (Choice2 B C)) → (x : Choice3 A B C) × (three_in_two x ≡ v)
made_of_three (One a) = (three.One a, refl)
made_of_three (Two (One b)) = (three.Two b, refl)
made_of_three (Two (Two c)) = (three.Three c, refl)

pub made_of_four : {A B C D : Type 0} (v : Choice2 A (Choice2 B (Choice2 C D))) → (x : Choice4 A B C D) × (four_in_two x ≡ v)
made_of_four (One a) = (four.One a, refl)
made_of_four (Two (One b)) = (four.Two b, refl)
made_of_four (Two (Two (One c))) = (four.Three c, refl)
made_of_four (Two (Two (Two d))) = (four.Four d, refl)
