-- What is written of a CHOICE is read back.
use Rattle.std.proofs.Common.{◌≡◌, ap, inl, inr}
use Rattle.bcder.specs.x690.Identifier.{Tag}
use Rattle.bcder.specs.x690.Tree.{Tree}
use Rattle.bcder.specs.calls.Valued.{tag_of}
use Rattle.bcder.specs.calls.Meaning.{Meaning}
use Rattle.asn1.specs.declared.choice.Choice2.{Choice2}
use Rattle.asn1.specs.declared.choice.Choice2.TheVariants.{One, Two}
use Rattle.asn1.specs.Writing.{IsWritten, IsReadAs}
use Rattle.asn1.specs.Choices.{EitherTag, IsChoice, choice_key}
use Rattle.asn1.specs.ChoicesWritten.{WritesEither, IsClearEither}

module _ {A B K L : Type 0} (P Q : Tag → Type 0) (Means : Tree → A → Type 0) (Signify : Tree → B → Type 0) (f : A → K) (g : B → L) where
  first_only : (t : Tree) → P (tag_of t) → (k : K) → ((a : A) → Means t a → f a ≡ k) → (y : Choice2 A B) → IsChoice P Means Q Signify t y
      → choice_key f g y ≡ One k
  first_only t p k only (One a) h = ap One (only a h.1)
  first_only t p k only (Two b) h = absurd (h.0 p)

  second_only : (t : Tree) → (P (tag_of t) → ⊥) → (k : L) → ((b : B) → Signify t b → g b ≡ k) → (y : Choice2 A B) → IsChoice P Means Q Signify t y
      → choice_key f g y ≡ Two k
  second_only t n k only (One a) h = absurd (n h.0)
  second_only t n k only (Two b) h = ap Two (only b h.1.1)

  module _ (Clear : A → Type 0) (Bright : B → Type 0) (M : A → Meaning → Type 0) (N : B → Meaning → Type 0)
      (one : (a : A) → Clear a → IsReadAs P Means f a (M a)) (two : (b : B) → Bright b → IsReadAs Q Signify g b (N b)) where
    pub choice_read_back : (x : Choice2 A B) → IsClearEither P Q Clear Bright x
        → IsReadAs (EitherTag P Q) (IsChoice P Means Q Signify) (choice_key f g) x (WritesEither M N x)
    choice_read_back (One a) c e m =
        let w : IsWritten P Means f (f a) e = one a c e m in
        record {
          tree = w.tree;
          is = w.is;
          tagged = inl w.tagged;
          some = One w.some;
          means = (w.tagged, w.means);
          only = first_only w.tree w.tagged (f a) w.only;
        }
    choice_read_back (Two b) c e m =
        let w : IsWritten Q Signify g (g b) e = two b c.0 e m in
        let n = c.1 (tag_of w.tree) w.tagged in
        record {
          tree = w.tree;
          is = w.is;
          tagged = inr w.tagged;
          some = Two w.some;
          means = (n, (w.tagged, w.means));
          only = second_only w.tree n (g b) w.only;
        }
