-- What encoders write is an encoding.
use Rattle.std.proofs.Common.{◌≡◌, ℕ, ◌+◌, ◌^◌, ◌/◌, ◌%◌, ◌<◌, ◌≤◌, Bool, true, false, List, [], ◌∷◌, ◌++◌, length, refl}
use Rattle.std.proofs.Common.{sym, subst, append_assoc, append-nil, arith, inl, inr, ltb-true}
use Rattle.std.proofs.lemmas.Bool.{cases_lt, lt-ltb, le-ltb, le-leb}
use Rattle.bcder.specs.declared.mode.Mode.{Mode}
use Rattle.bcder.specs.declared.mode.Mode.TheVariants.{Ber, Cer, Der}
use Rattle.bcder.specs.declared.length.Length.{Length}
use Rattle.bcder.specs.declared.length.Length.TheVariants.{Definite, Indefinite}
use Rattle.bcder.specs.x690.Identifier.{AreOctets, Tag, IsValueTag}
use Rattle.bcder.specs.x690.Length.{big_endian, IsDefiniteLength, AreLengthOctets, IsEndOfContents}
use Rattle.bcder.specs.x690.Octets.{definite_length, length_octets, fits_length, header, definite, enclosed}
use Rattle.bcder.specs.x690.Tree.{primitive, constructed, Trees}
use Rattle.bcder.specs.x690.Encoding.{may_have, IsHeader, IsDefinite, IsIndefinite, IsEncoding, AreEncodings}
use Rattle.bcder.specs.calls.Meaning.{fits_enclosed}
use Rattle.bcder.specs.steps.Reading.{least, may_tell}
use Rattle.bcder.specs.laws.Octets.{AreOctets-nil, AreOctets-cons, two, three}
use Rattle.bcder.specs.laws.Sound.{short_is, long_is}

four : (a b c d : ℕ) → a < 256 → b < 256 → c < 256 → d < 256 → AreOctets (a ∷ b ∷ c ∷ d ∷ [])
four a b c d h k l m = AreOctets-cons a (b ∷ c ∷ d ∷ []) h (three b c d k l m)

-- ---- lengths

length_from : (mode : Mode) (n : ℕ) (ds : List ℕ) → 1 ≤ length ds → length ds ≤ 4 → AreOctets ds → big_endian ds ≡ n → least (length ds) ≤ n
    → IsDefiniteLength mode n ((0x80 + length ds) ∷ ds)
unfolding may_tell
length_from Ber n ds some limit o number m =
    inr (record { digits = ds; is = refl; some = some; limit = limit; octets = o; number = number })
length_from Cer n ds some limit o number m =
    long_is Cer n _ (record { digits = ds; is = refl; some = some; limit = limit; octets = o; number = number }) (le-leb _ _ m)
length_from Der n ds some limit o number m =
    long_is Der n _ (record { digits = ds; is = refl; some = some; limit = limit; octets = o; number = number }) (le-leb _ _ m)

pub IsDefiniteLength-written : (mode : Mode) (n : ℕ) → n < 2 ^ 32 → IsDefiniteLength mode n (definite_length n)
unfolding definite_length
IsDefiniteLength-written mode n h =
    elim (cases_lt n 0x80) [
      | inl a ↦ rw (lt-ltb n 0x80 a) (short_is mode n a)
      | inr a ↦ elim (cases_lt n 0x100) [
        | inl b ↦ rw (le-ltb n 0x80 a, lt-ltb n 0x100 b)
            (length_from mode n (n ∷ []) (omega arith) (omega arith) (AreOctets-cons n [] b AreOctets-nil) (omega arith) a)
        | inr b ↦ elim (cases_lt n 0x10000) [
          | inl c ↦ rw (le-ltb n 0x80 a, le-ltb n 0x100 b, lt-ltb n 0x10000 c) (length_from mode n ((n / 0x100) ∷ (n % 0x100) ∷ [])
              (omega arith) (omega arith) (two (n / 0x100) (n % 0x100) (omega arith) (omega arith)) (omega arith) b)
          | inr c ↦ elim (cases_lt n 0x1000000) [
            | inl d ↦ rw (le-ltb n 0x80 a, le-ltb n 0x100 b, le-ltb n 0x10000 c, lt-ltb n 0x1000000 d)
                (length_from mode n ((n / 0x10000) ∷ (n / 0x100 % 0x100) ∷ (n % 0x100) ∷ []) (omega arith) (omega arith)
                (three (n / 0x10000) (n / 0x100 % 0x100) (n % 0x100) (omega arith) (omega arith) (omega arith)) (omega arith) c)
            | inr d ↦ rw (le-ltb n 0x80 a, le-ltb n 0x100 b, le-ltb n 0x10000 c, le-ltb n 0x1000000 d)
                (length_from mode n ((n / 0x1000000) ∷ (n / 0x10000 % 0x100) ∷ (n / 0x100 % 0x100) ∷ (n % 0x100) ∷ []) (omega arith)
                (omega arith) (four (n / 0x1000000) (n / 0x10000 % 0x100) (n / 0x100 % 0x100) (n % 0x100) (omega arith) (omega arith)
                (omega arith) (omega arith)) (omega arith) d)
          ]
        ]
      ]
    ]

length_written : (mode : Mode) (len : Length) → fits_length len ≡ true → AreLengthOctets mode len (length_octets len)
length_written mode (Definite n) h = IsDefiniteLength-written mode n (ltb-true _ _ h)
length_written mode Indefinite h = refl

-- ---- headers and values

header_written : (mode : Mode) (t : Tag) (f : Bool) (len : Length) → IsValueTag t → may_have mode f len ≡ true → fits_length len ≡ true
    → IsHeader mode t f len (header t f len)
header_written mode t f len v allowed h =
    record { is_value_tag = v; allowed = allowed; length_octets = length_octets len; tells = length_written mode len h; is = refl }

definite_written : (mode : Mode) (t : Tag) (f : Bool) (contents : List ℕ) → IsValueTag t
    → may_have mode f (Definite (length contents)) ≡ true → length contents < 2 ^ 32 → IsDefinite mode t f contents (definite t f contents)
definite_written mode t f contents v allowed h =
    record { header = header t f (Definite (length contents)); is_header = header_written mode t f _ v allowed (lt-ltb _ _ h); is = refl }

end_written : (mode : Mode) → IsEndOfContents mode (0x00 ∷ 0x00 ∷ [])
end_written mode = record { zero_length = 0 ∷ []; is = refl; is_length = short_is mode 0 (omega arith) }

indefinite_written : (mode : Mode) (t : Tag) (contents : List ℕ) → IsValueTag t → may_have mode true Indefinite ≡ true
    → IsIndefinite mode t contents ((header t true Indefinite ++ contents) ++ 0x00 ∷ 0x00 ∷ [])
indefinite_written mode t contents v allowed =
    record {
      header = header t true Indefinite;
      is_header = header_written mode t true Indefinite v allowed refl;
      end = 0x00 ∷ 0x00 ∷ [];
      is_end = end_written mode;
      is = append_assoc (header t true Indefinite) contents (0x00 ∷ 0x00 ∷ []);
    }

primitive_allowed : (mode : Mode) (n : ℕ) → may_have mode false (Definite n) ≡ true
primitive_allowed Ber n = refl
primitive_allowed Cer n = refl
primitive_allowed Der n = refl

pub primitive_written : (mode : Mode) (t : Tag) (contents : List ℕ) → IsValueTag t → AreOctets contents → length contents < 2 ^ 32
    → IsEncoding mode (primitive t contents) (definite t false contents)
primitive_written mode t contents v o h = (o, definite_written mode t false contents v (primitive_allowed mode (length contents)) h)

-- what is written in CER is an encoding, for any number of contents octets
pub cer_written : (t : Tag) (ts : Trees) (contents : List ℕ) → IsValueTag t → AreEncodings Cer ts contents
    → IsEncoding Cer (constructed t ts) (enclosed Cer t contents)
cer_written t ts contents v e = (contents, e, inr (indefinite_written Cer t contents v refl))

pub constructed_written : (mode : Mode) (t : Tag) (ts : Trees) (contents : List ℕ) → IsValueTag t → fits_enclosed mode t (length contents)
    ≡ true → AreEncodings mode ts contents → IsEncoding mode (constructed t ts) (enclosed mode t contents)
constructed_written Ber t ts contents v h e = subst (IsEncoding Ber (constructed t ts)) (sym (append-nil (definite t true contents)))
    (contents, e, inl (definite_written Ber t true contents v refl (ltb-true _ _ h)))
constructed_written Cer t ts contents v h e = cer_written t ts contents v e
constructed_written Der t ts contents v h e = subst (IsEncoding Der (constructed t ts)) (sym (append-nil (definite t true contents)))
    (contents, e, inl (definite_written Der t true contents v refl (ltb-true _ _ h)))
