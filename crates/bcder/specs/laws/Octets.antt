-- What the grammar is about are octets.
use Rattle.std.proofs.Common.{ℕ, zero, suc, ◌+◌, ◌/◌, ◌%◌, ◌^◌, ◌<◌, Bool, true, false, List, [], ◌∷◌, ◌++◌, arith, inl, inr}
use Rattle.std.proofs.lemmas.Bool.{cases_lt, lt-ltb, le-ltb}
use Rattle.bcder.specs.declared.mode.Mode.{Mode}
use Rattle.bcder.specs.declared.length.Length.{Length}
use Rattle.bcder.specs.declared.length.Length.TheVariants.{Definite, Indefinite}
use Rattle.bcder.specs.x690.Identifier.{AreOctets, Class, universal, application, context_specific, private, Tag}
use Rattle.bcder.specs.x690.Identifier.{IsTag, class_bits, form_bit, base128, identifier}
use Rattle.bcder.specs.x690.Length.{IsLengthForm, AreLengthOctets, IsEndOfContents}
use Rattle.bcder.specs.x690.Tree.{Tree, primitive, constructed, Trees, no_trees, ◌∷ₜ◌}
use Rattle.bcder.specs.x690.Encoding.{IsHeader, IsFramed, IsEncoding, AreEncodings}
use Rattle.bcder.specs.laws.Lengths.{IsLengthForm-from_length}

pub AreOctets-nil : AreOctets []
AreOctets-nil i = omega arith

pub AreOctets-cons : (b : ℕ) (w : List ℕ) → b < 256 → AreOctets w → AreOctets (b ∷ w)
AreOctets-cons b w h k zero = h
AreOctets-cons b w h k (suc i) = k i

pub two : (a b : ℕ) → a < 256 → b < 256 → AreOctets (a ∷ b ∷ [])
two a b h k = AreOctets-cons a (b ∷ []) h (AreOctets-cons b [] k AreOctets-nil)

pub three : (a b c : ℕ) → a < 256 → b < 256 → c < 256 → AreOctets (a ∷ b ∷ c ∷ [])
three a b c h k l = AreOctets-cons a (b ∷ c ∷ []) h (two b c k l)

pub AreOctets-append : (u v : List ℕ) → AreOctets u → AreOctets v → AreOctets (u ++ v)
AreOctets-append [] v h k i = k i
AreOctets-append (b ∷ u) v h k zero = h 0
AreOctets-append (b ∷ u) v h k (suc i) = AreOctets-append u v (λ j. h (suc j)) k i

lead : (c : Class) (f : Bool) (n : ℕ) → n < 32 → class_bits c + form_bit f + n < 256
lead universal false n h = omega arith
lead universal true n h = omega arith
lead application false n h = omega arith
lead application true n h = omega arith
lead context_specific false n h = omega arith
lead context_specific true n h = omega arith
lead private false n h = omega arith
lead private true n h = omega arith

AreOctets-base128 : (n : ℕ) → n < 2 ^ 21 → AreOctets (base128 n)
unfolding base128
AreOctets-base128 n h =
    elim (cases_lt n 128) [
      | inl a ↦ rw (lt-ltb n 128 a) (AreOctets-cons n [] (omega arith) AreOctets-nil)
      | inr a ↦ elim (cases_lt n 16384) [
        | inl b ↦ rw (le-ltb n 128 a, lt-ltb n 16384 b) (two (128 + n / 128) (n % 128) (omega arith) (omega arith))
        | inr b ↦ rw (le-ltb n 128 a, le-ltb n 16384 b)
            (three (128 + n / 16384) (128 + n / 128 % 128) (n % 128) (omega arith) (omega arith) (omega arith))
      ]
    ]

AreOctets-identifier : (t : Tag) (f : Bool) → IsTag t → AreOctets (identifier t f)
unfolding identifier
AreOctets-identifier t f h =
    elim (cases_lt t.number 31) [
      | inl a ↦ rw (lt-ltb t.number 31 a) (AreOctets-cons _ [] (lead t.class f t.number (omega arith)) AreOctets-nil)
      | inr a ↦ rw (le-ltb t.number 31 a)
          (AreOctets-cons _ (base128 t.number) (lead t.class f 31 (omega arith)) (AreOctets-base128 t.number h))
    ]

form_octets : (n : ℕ) (w : List ℕ) → IsLengthForm n w → AreOctets w
form_octets n w (inl s) = rw (s.1) (AreOctets-cons n [] (let l = s.0 in omega arith) AreOctets-nil)
form_octets n w (inr l) = rw (l.is) (AreOctets-cons _ l.digits (let m = l.limit in omega arith) l.octets)

tells_octets : (mode : Mode) (len : Length) (w : List ℕ) → AreLengthOctets mode len w → AreOctets w
tells_octets mode (Definite n) w h = form_octets n w (IsLengthForm-from_length mode n w h)
tells_octets mode Indefinite w h = rw h (AreOctets-cons 0x80 [] (omega arith) AreOctets-nil)

end_octets : (mode : Mode) (w : List ℕ) → IsEndOfContents mode w → AreOctets w
end_octets mode w h = rw (h.is) (AreOctets-cons 0 h.zero_length (omega arith) (tells_octets mode (Definite 0) h.zero_length h.is_length))

header_octets : (mode : Mode) (t : Tag) (f : Bool) (len : Length) (w : List ℕ) → IsHeader mode t f len w → AreOctets w
header_octets mode t f len w h = rw (h.is) (AreOctets-append (identifier t f) h.length_octets (AreOctets-identifier t f h.is_value_tag.fits)
    (tells_octets mode len h.length_octets h.tells))

framed_octets : (mode : Mode) (t : Tag) (contents w : List ℕ) → AreOctets contents → IsFramed mode t contents w → AreOctets w
framed_octets mode t contents w o (inl d) =
    rw (d.is) (AreOctets-append d.header contents (header_octets mode t true _ d.header d.is_header) o)
framed_octets mode t contents w o (inr d) =
    rw (d.is) (AreOctets-append d.header (contents ++ d.end) (header_octets mode t true _ d.header d.is_header)
    (AreOctets-append contents d.end o (end_octets mode d.end d.is_end)))

mutual
  pub AreOctets-encoding : (mode : Mode) (t : Tree) (w : List ℕ) → IsEncoding mode t w → AreOctets w
  AreOctets-encoding mode (primitive t contents) w h =
      rw (h.1.is) (AreOctets-append h.1.header contents (header_octets mode t false _ h.1.header h.1.is_header) h.0)
  AreOctets-encoding mode (constructed t ts) w h = framed_octets mode t h.0 w (AreOctets-encodings mode ts h.0 h.1) h.2

  pub AreOctets-encodings : (mode : Mode) (ts : Trees) (w : List ℕ) → AreEncodings mode ts w → AreOctets w
  AreOctets-encodings mode no_trees w h = rw h AreOctets-nil
  AreOctets-encodings mode (t ∷ₜ ts) w h =
      rw (h.4) (AreOctets-append h.0 h.1 (AreOctets-encoding mode t h.0 h.2) (AreOctets-encodings mode ts h.1 h.3))
