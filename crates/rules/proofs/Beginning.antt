-- What octets begin with.
use Rattle.std.proofs.Common.{◌≡◌, ℕ, ◌-◌, ◌<◌, ◌≤◌, Bool, List, ◌++◌, length, take, drop, Option, Some, None, refl, sym, ap, ap₂, subst, ◌∙◌, arith}
use Rattle.std.proofs.lemmas.List.{length-append, length-take-le, take_at, take-append-drop}
use Rattle.bcder.specs.declared.mode.Mode.{Mode}
use Rattle.bcder.specs.declared.mode.Mode.TheVariants.{Ber}
use Rattle.bcder.specs.x690.Encoding.{IsHeader}
use Rattle.bcder.specs.x690.Identifier.{AreOctets, Tag}
use Rattle.bcder.specs.calls.Content.{length_of}
use Rattle.bcder.specs.laws.Canonical.{header_in_ber}
use Rattle.bcder.specs.laws.Sound.{AreOctets-take}
use Rattle.bcder.specs.laws.Stands.{AreOctets-after}
use Rattle.encodings.specs.Open.{Open, GoesBeyond}
use Rattle.encodings.specs.Pieces as pieces
use Rattle.rules.specs.Begun.{BeginsValue, of_definite, of_indefinite}

module _ (mode : Mode) (x : List ℕ) (t : Tag) (f : Bool) (n : Option ℕ) (h z : List ℕ) (d : IsHeader mode t f (length_of n) h) (is : x ≡ h ++ z) where
  pub begun_definite : (k : ℕ) (c b : List ℕ) (size : ℕ) → n ≡ Some k → k ≤ length z → c ≡ take k z → b ≡ drop k z → size ≡ length x - length z
      → BeginsValue mode x t f size c (Some b)
  begun_definite k c b size e l front back s =
      let count : length c ≡ k = ap length front ∙ length-take-le k z l in
      let told : IsHeader mode t f (length_of (Some (length c))) h = subst (λ j. IsHeader mode t f (length_of (Some j)) h) (sym count) (rw e at d) in
      let whole : x ≡ h ++ (c ++ b) = is ∙ ap (λ w. h ++ w) (sym (take-append-drop k z) ∙ ap₂ (λ v w. v ++ w) (sym front) (sym back)) in
      of_definite h b told refl whole (omega (arith, s, ap length is, length-append h z))

  pub begun_marked : (size : ℕ) → n ≡ None → size ≡ length x - length z → BeginsValue mode x t f size z None
  begun_marked size e s = of_indefinite h (rw e at d) refl is (omega (arith, s, ap length is, length-append h z))

  pub begun_beyond : (k : ℕ) → n ≡ Some k → length z < k → GoesBeyond mode x
  begun_beyond k e l = record {
    tag = t;
    form = f;
    len = k;
    header = h;
    behind = z;
    is_header = rw e at d;
    is = is;
    more = l;
  }

pub as_piece : (mode : Mode) (x : List ℕ) (t : Tag) (f : Bool) (size : ℕ) (c : List ℕ) (o : Open) → BeginsValue mode x t f size c o
    → pieces.BeginsPiece mode x t f c o
as_piece mode x t f size c o (of_definite h b d e is s) = pieces.of_definite h b d e is
as_piece mode x t f size c o (of_indefinite h d e is s) = pieces.of_indefinite h d e is

pub octets_inside : (mode : Mode) (x : List ℕ) (t : Tag) (f : Bool) (size : ℕ) (c : List ℕ) (o : Open) → AreOctets x → BeginsValue mode x t f size c o
    → AreOctets c
octets_inside mode x t f size c o octets (of_definite h b d e is s) =
    subst AreOctets (take_at c b (length c) refl) (AreOctets-take (length c) (c ++ b) (AreOctets-after h x (c ++ b) is octets))
octets_inside mode x t f size c o octets (of_indefinite h d e is s) = AreOctets-after h x c is octets

pub value_in_ber : (mode : Mode) (x : List ℕ) (t : Tag) (f : Bool) (size : ℕ) (c : List ℕ) (o : Open) → BeginsValue mode x t f size c o
    → BeginsValue Ber x t f size c o
value_in_ber mode x t f size c o (of_definite h b d e is s) = of_definite h b (header_in_ber mode t f _ h d) e is s
value_in_ber mode x t f size c o (of_indefinite h d e is s) = of_indefinite h (header_in_ber mode t f _ h d) e is s

pub beyond_in_ber : (mode : Mode) (x : List ℕ) → GoesBeyond mode x → GoesBeyond Ber x
beyond_in_ber mode x g = record {
  tag = g.tag;
  form = g.form;
  len = g.len;
  header = g.header;
  behind = g.behind;
  is_header = header_in_ber mode g.tag g.form _ g.header g.is_header;
  is = g.is;
  more = g.more;
}
