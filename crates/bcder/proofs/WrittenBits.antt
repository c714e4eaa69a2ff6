-- Bit strings as they are written, and read back.
use Rattle.std.proofs.Common.{◌≡◌, ◌≢◌, ℕ, suc, ◌+◌, ◌*◌, ◌/◌, ◌^◌, ◌<◌, ◌≤◌, true, false, List, [], ◌∷◌, ◌++◌}
use Rattle.std.proofs.Common.{length, append_assoc, refl, sym, ap, ◌∙◌, arith, ◌⊎◌, inl, inr}
use Rattle.std.specs.Prelude.{Ok}
use Rattle.bcder.specs.declared.mode.Mode.{Mode}
use Rattle.bcder.specs.declared.mode.Mode.TheVariants.{Ber, Cer, Der}
use Rattle.bcder.specs.declared.encode.error.EncodeError.{EncodeError}
use Rattle.bcder.specs.declared.encode.error.EncodeError.TheVariants.{NoMemory}
use Rattle.bcder.specs.declared.length.Length.TheVariants.{Definite}
use Rattle.bcder.specs.x690.Identifier.{AreOctets, Tag}
use Rattle.bcder.specs.x690.Octets.{header, definite}
use Rattle.bcder.specs.calls.Encoders.{RefusesBy}
use Rattle.bcder.specs.x690.BitString.{Bits, IsBits, bits, cleared, contents_octets, as_written, MayHave, BitShape, IsBitString}
use Rattle.bcder.specs.calls.Meaning.{fits_primitive, BitsMean}
use Rattle.bcder.specs.calls.Written.{IsReadBack}
use Rattle.bcder.specs.calls.Readers.{HoldBits}
use Rattle.std.proofs.lemmas.Nat.{shr_high, pow_pos}
use Rattle.std.proofs.lemmas.Bool.{leb-true}
use Rattle.bcder.proofs.Bits.{cleared_length, cleared_push, as_many_octets, written_octets}
use Rattle.bcder.proofs.Clearing.{same_bits, same_cleared}
use Rattle.bcder.proofs.WholeStrings.{string_fits, refuses_string, string_is}

-- ---- the bits

pub written_same : (mode : Mode) (x : Bits) → bits (as_written mode x) ≡ bits x
written_same Ber x = refl
written_same Cer x = same_bits x
written_same Der x = same_bits x

pub written_alike : (mode : Mode) (x y : Bits) → mode ≢ Ber → IsBits x → IsBits y → AreOctets x.octets → AreOctets y.octets → bits x ≡ bits y
    → as_written mode x ≡ as_written mode y
written_alike Ber x y n p q o s e = absurd (n refl)
written_alike Cer x y n p q o s e = same_cleared x y p q e o s
written_alike Der x y n p q o s e = same_cleared x y p q e o s

same_record : (u v : ℕ) (a b : List ℕ) → u ≡ v → a ≡ b → ◌≡◌ {A = Bits} (record { unused = u; octets = a }) (record { unused = v; octets = b })
same_record u v a b e f = rw (e, f) refl

pub same_contents : (x y : Bits) → contents_octets x ≡ contents_octets y → x ≡ y
same_contents x y e =
    let u : x.unused ≡ y.unused = cc in
    let o : x.octets ≡ y.octets = cc in
    same_record x.unused y.unused x.octets y.octets u o

-- ---- what is read is written back

unused_octets : (mode : Mode) (x : Bits) → MayHave mode x → as_written mode x ≡ x
unused_octets Ber x h = refl
unused_octets Cer x h = same_record x.unused x.unused _ x.octets refl h.1
unused_octets Der x h = same_record x.unused x.unused _ x.octets refl h

pub written_back : (mode : Mode) (w : List ℕ) (x : Bits) → IsBitString mode w x → contents_octets (as_written mode x) ≡ w
written_back mode [] x h = absurd h.1
written_back mode (b ∷ w) x h =
    let y : Bits = record { unused = b; octets = w } in
    let same : x ≡ y = same_contents x y h.0 in
    ap (λ z. contents_octets (as_written mode z)) same ∙ ap contents_octets (unused_octets mode y h.1.1)

-- ---- what is written is read back

cleared_twice : (unused : ℕ) (w : List ℕ) → cleared unused (cleared unused w) ≡ cleared unused w
cleared_twice unused [] = refl
cleared_twice unused (b ∷ []) =
    let none : b / 2 ^ unused * 2 ^ unused + 0 ≡ b / 2 ^ unused * 2 ^ unused = omega arith in
    let again : b / 2 ^ unused * 2 ^ unused / 2 ^ unused ≡ b / 2 ^ unused =
    ap (λ n. n / 2 ^ unused) (sym none) ∙ shr_high (b / 2 ^ unused) unused 0 (pow_pos unused) in
    ap (λ n. n * 2 ^ unused ∷ []) again
cleared_twice unused (b ∷ c ∷ []) = ap (λ v. b ∷ v) (cleared_twice unused (c ∷ []))
cleared_twice unused (b ∷ c ∷ d ∷ w) = ap (λ v. b ∷ v) (cleared_twice unused (c ∷ d ∷ w))

cleared_none : (unused : ℕ) (w : List ℕ) → cleared unused w ≡ [] → w ≡ []
cleared_none unused [] e = refl
cleared_none unused (b ∷ []) e = absurd (let f = ap length e in omega arith)
cleared_none unused (b ∷ c ∷ w) e = absurd (let f = ap length e in omega arith)

cleared_bits : (x : Bits) → IsBits x → IsBits (record { unused = x.unused; octets = cleared x.unused x.octets })
cleared_bits x h = record { few = h.few; none = λ e. h.none (cleared_none x.unused x.octets e); size = omega (arith, h.size, cleared_length x.unused x.octets) }

few_octets : (n : ℕ) → fits_primitive Cer (n + 1) ≡ true → suc n ≤ 1000
few_octets n e = let h = leb-true (n + 1) 1000 e in omega arith

pub written_shape : (mode : Mode) (x : Bits) → IsBits x → fits_primitive mode (length x.octets + 1) ≡ true → BitShape mode (contents_octets (as_written mode x))
written_shape Ber x is fits = (is, tt)
written_shape Cer x is fits =
    (cleared_bits x is, (let h = few_octets (length x.octets) fits in omega (arith, cleared_length x.unused x.octets), cleared_twice x.unused x.octets))
written_shape Der x is fits = (cleared_bits x is, cleared_twice x.unused x.octets)

-- ---- the encoders

module _ (refusal : EncodeError) (mode : Mode) (x : Bits) where
  module _ (small : x.unused < 256) (octets : AreOctets x.octets) where
    pub bits_fit : fits_primitive mode (1 + length x.octets) ≡ true → BitsMean refusal mode x (Ok (contents_octets (as_written mode x)))
    bits_fit fits = string_fits refusal mode (contents_octets (as_written mode x)) (written_octets mode x small octets)
        (ap (fits_primitive mode) (as_many_octets mode x ∙ omega arith) ∙ fits)

    pub bits_refused : refusal ≢ NoMemory → fits_primitive mode (1 + length x.octets) ≡ false → RefusesBy (BitsMean refusal mode x) ⊥ refusal
    bits_refused memory long = refuses_string refusal mode (contents_octets (as_written mode x)) memory (written_octets mode x small octets)
        (ap (fits_primitive mode) (as_many_octets mode x ∙ omega arith) ∙ long)

  -- what is meant is what is written
  pub bits_are : (c : List ℕ) → BitsMean refusal mode x (Ok c) → c ≡ contents_octets (as_written mode x)
  bits_are c m = string_is refusal mode (contents_octets (as_written mode x)) c m

-- the unused count, and the octets
pub contents_split : (mode : Mode) (x : Bits) → x.unused ∷ (as_written mode x).octets ≡ contents_octets (as_written mode x)
contents_split Ber x = refl
contents_split Cer x = refl
contents_split Der x = refl

-- behind a header
pub value_split : (t : Tag) (mode : Mode) (x : Bits) (n : ℕ) → n ≡ length x.octets + 1
    → (header t false (Definite n) ++ x.unused ∷ []) ++ (as_written mode x).octets ≡ definite t false (contents_octets (as_written mode x))
value_split t mode x n e =
    let m : n ≡ length (contents_octets (as_written mode x)) = omega (arith, as_many_octets mode x) in
    append_assoc (header t false (Definite n)) (x.unused ∷ []) (as_written mode x).octets ∙ ap (λ v. header t false (Definite n) ++ v) (contents_split mode x)
    ∙ ap (λ k. header t false (Definite k) ++ contents_octets (as_written mode x)) m

-- octets that end with one, as they are written in CER and DER
pub written_push : (mode : Mode) (unused b n : ℕ) → (mode ≡ Cer) ⊎ (mode ≡ Der) → n ≡ b / 2 ^ unused * 2 ^ unused → (front : List ℕ)
    → (as_written mode (record { unused = unused; octets = front ++ b ∷ [] })).octets ≡ front ++ n ∷ []
written_push mode unused b n (inl cer) e front = rw cer (cleared_push unused front b ∙ ap (λ k. front ++ k ∷ []) (sym e))
written_push mode unused b n (inr der) e front = rw der (cleared_push unused front b ∙ ap (λ k. front ++ k ∷ []) (sym e))

-- ---- read back

-- what is written of a bit string means it, as it is written, and no other
pub bits_read : {T : Type 0} (refusal : EncodeError) (mode : Mode) (x : Bits) (reads : List ℕ → T → Type 0) (y : T)
    → AreOctets (contents_octets (as_written mode x)) → fits_primitive mode (length x.octets + 1) ≡ true
    → reads (contents_octets (as_written mode x)) y → ((z : T) → reads (contents_octets (as_written mode x)) z → z ≡ y)
    → IsReadBack (BitsMean refusal mode x) reads y
bits_read refusal mode x reads y octets fits r o =
    let w = contents_octets (as_written mode x) in
    let n : length w ≡ length x.octets + 1 = as_many_octets mode x ∙ omega arith in
    record {
      contents = w;
      written = string_fits refusal mode w octets (ap (fits_primitive mode) n ∙ fits);
      only = string_is refusal mode w;
      read = r;
      no_other = o;
    }

pub bit_string_read : (refusal : EncodeError) (mode : Mode) (x : Bits) → IsBits x → AreOctets x.octets → fits_primitive mode (length x.octets + 1) ≡ true
    → IsReadBack (BitsMean refusal mode x) (IsBitString mode) (as_written mode x)
bit_string_read refusal mode x is octets fits =
    let o = written_octets mode x (let f = is.few in omega arith) octets in
    bits_read refusal mode x (IsBitString mode) (as_written mode x) o fits (refl, written_shape mode x is fits) (λ z h. same_contents z (as_written mode x) h.0)

pub bit_string_held : (refusal : EncodeError) (mode : Mode) (x : Bits) → IsBits x → AreOctets x.octets → fits_primitive mode (length x.octets + 1) ≡ true
    → IsReadBack {T = Unit {0}} (BitsMean refusal mode x) (HoldBits mode) tt
bit_string_held refusal mode x is octets fits =
    let o = written_octets mode x (let f = is.few in omega arith) octets in
    bits_read {T = Unit {0}} refusal mode x (HoldBits mode) tt o fits (written_shape mode x is fits) (λ z h. refl)
