-- In CER and DER a value has one encoding, which is an encoding in BER too.
use Rattle.std.proofs.Common.{◌≡◌, ◌≢◌, ℕ, suc, ◌+◌, ◌*◌, ◌^◌, ◌<◌, Bool, true, false, List, [], ◌∷◌, ◌++◌}
use Rattle.std.proofs.Common.{length, refl, sym, ap, ap₂, ◌∙◌, arith, inl, inr}
use Rattle.std.proofs.lemmas.Nat.{same_from_place, mul-le}
use Rattle.bcder.specs.declared.mode.Mode.{Mode}
use Rattle.bcder.specs.declared.mode.Mode.TheVariants.{Ber, Cer, Der}
use Rattle.bcder.specs.declared.length.Length.{Length}
use Rattle.bcder.specs.declared.length.Length.TheVariants.{Definite, Indefinite}
use Rattle.bcder.specs.x690.Identifier.{AreOctets, Tag, identifier}
use Rattle.bcder.specs.x690.Length.{big_endian, IsLengthForm, IsShortest, IsDefiniteLength, IsEndOfContents, AreLengthOctets}
use Rattle.bcder.specs.x690.Tree.{Tree, primitive, constructed, Trees, no_trees, ◌∷ₜ◌}
use Rattle.bcder.specs.x690.Encoding.{may_have, IsHeader, IsDefinite, IsIndefinite, IsFramed, IsEncoding, AreEncodings}
use Rattle.bcder.specs.laws.Lengths.{IsLengthForm-from_length}

pub big_endian-lt : (w : List ℕ) → AreOctets w → big_endian w < 256 ^ length w
big_endian-lt [] h = omega arith
big_endian-lt (b ∷ w) h =
    let r = big_endian-lt w (λ i. h (suc i)) in
    let m = mul-le b (256 ^ length w) 255 (256 ^ length w) (let l = h 0 in omega arith) (omega arith) in
    let p : 256 ^ suc (length w) ≡ 256 * 256 ^ length w = omega arith in
    omega arith

pub same_digits : (v w : List ℕ) → length v ≡ length w → AreOctets v → AreOctets w → big_endian v ≡ big_endian w → v ≡ w
same_digits [] [] l h k e = refl
same_digits [] (b ∷ w) l h k e = absurd (omega arith)
same_digits (a ∷ v) [] l h k e = absurd (omega arith)
same_digits (a ∷ v) (b ∷ w) l h k e =
    let len : length v ≡ length w = omega arith in
    let place : a * 256 ^ length w + big_endian v ≡ b * 256 ^ length w + big_endian w = rw (← len) (rw (← len) at e) in
    let both = same_from_place a (big_endian v) b (big_endian w) (256 ^ length w) (rw (← len) (big_endian-lt v (λ i. h (suc i))))
    (big_endian-lt w (λ i. k (suc i))) place in
    ap₂ (λ x y. x ∷ y) both.0 (same_digits v w len (λ i. h (suc i)) (λ i. k (suc i)) both.1)

shortest_once : (n : ℕ) (v w : List ℕ) → IsLengthForm n v → IsLengthForm n w → IsShortest n v → IsShortest n w → v ≡ w
shortest_once n v w (inl a) (inl b) s t = a.1 ∙ sym b.1
shortest_once n v w (inl a) (inr b) s t = absurd (let some = b.some in let l = t v (inl a) in omega (arith, ap length a.1, ap length b.is))
shortest_once n v w (inr a) (inl b) s t = absurd (let some = a.some in let l = s w (inl b) in omega (arith, ap length a.is, ap length b.1))
shortest_once n v w (inr a) (inr b) s t =
    let l = s w (inr b) in
    let m = t v (inr a) in
    let len : length a.digits ≡ length b.digits = omega (arith, ap length a.is, ap length b.is) in
    let same = same_digits a.digits b.digits len a.octets b.octets (a.number ∙ sym b.number) in
    a.is ∙ ap (λ ds. (0x80 + length ds) ∷ ds) same ∙ sym b.is

pub one_form : (mode : Mode) → mode ≢ Ber → (n : ℕ) (v w : List ℕ) → IsDefiniteLength mode n v → IsDefiniteLength mode n w → v ≡ w
one_form Ber h n v w l m = absurd (h refl)
one_form Cer h n v w l m = shortest_once n v w l.0 m.0 l.1 m.1
one_form Der h n v w l m = shortest_once n v w l.0 m.0 l.1 m.1

pub one_marker : (mode : Mode) → mode ≢ Ber → (d e : List ℕ) → IsEndOfContents mode d → IsEndOfContents mode e → d ≡ e
one_marker mode h d e x y = x.is ∙ ap (λ l. 0x00 ∷ l) (one_form mode h 0 _ _ x.is_length y.is_length) ∙ sym y.is

one_telling : (mode : Mode) → mode ≢ Ber → (len : Length) (v w : List ℕ) → AreLengthOctets mode len v → AreLengthOctets mode len w → v ≡ w
one_telling mode h (Definite n) v w d e = one_form mode h n v w d e
one_telling mode h Indefinite v w d e = d ∙ sym e

one_header : (mode : Mode) → mode ≢ Ber → (t : Tag) (f : Bool) (len : Length) (v w : List ℕ) → IsHeader mode t f len v
    → IsHeader mode t f len w → v ≡ w
one_header mode h t f len v w d e = d.is ∙ ap (λ l. identifier t f ++ l) (one_telling mode h len _ _ d.tells e.tells) ∙ sym e.is

definite_once : (mode : Mode) → mode ≢ Ber → (t : Tag) (f : Bool) (contents v w : List ℕ) → IsDefinite mode t f contents v
    → IsDefinite mode t f contents w → v ≡ w
definite_once mode h t f contents v w d e =
    d.is ∙ ap (λ l. l ++ contents) (one_header mode h t f _ _ _ d.is_header e.is_header) ∙ sym e.is

indefinite_once : (mode : Mode) → mode ≢ Ber → (t : Tag) (contents v w : List ℕ) → IsIndefinite mode t contents v
    → IsIndefinite mode t contents w → v ≡ w
indefinite_once mode h t contents v w d e =
    d.is ∙ ap₂ (λ x y. x ++ (contents ++ y)) (one_header mode h t true _ _ _ d.is_header e.is_header)
    (one_marker mode h _ _ d.is_end e.is_end) ∙ sym e.is

not_both : (mode : Mode) → mode ≢ Ber → (n : ℕ) → may_have mode true (Definite n) ≡ true → may_have mode true Indefinite ≡ true → ⊥
not_both Ber h n a b = h refl
not_both Cer h n a b = cc
not_both Der h n a b = cc

framed_once : (mode : Mode) → mode ≢ Ber → (t : Tag) (contents v w : List ℕ) → IsFramed mode t contents v
    → IsFramed mode t contents w → v ≡ w
framed_once mode h t contents v w (inl d) (inl e) = definite_once mode h t true contents v w d e
framed_once mode h t contents v w (inl d) (inr e) = absurd (not_both mode h (length contents) d.is_header.allowed e.is_header.allowed)
framed_once mode h t contents v w (inr d) (inl e) = absurd (not_both mode h (length contents) e.is_header.allowed d.is_header.allowed)
framed_once mode h t contents v w (inr d) (inr e) = indefinite_once mode h t contents v w d e

mutual
  pub one_spelling : (mode : Mode) → mode ≢ Ber → (t : Tree) (v w : List ℕ) → IsEncoding mode t v → IsEncoding mode t w → v ≡ w
  one_spelling mode h (primitive t contents) v w d e = definite_once mode h t false contents v w d.1 e.1
  one_spelling mode h (constructed t ts) v w d e =
      framed_once mode h t d.0 v w d.2 (rw (one_spelling_each mode h ts e.0 d.0 e.1 d.1) at e.2)

  pub one_spelling_each : (mode : Mode) → mode ≢ Ber → (ts : Trees) (v w : List ℕ) → AreEncodings mode ts v → AreEncodings mode ts w → v ≡ w
  one_spelling_each mode h no_trees v w d e = d ∙ sym e
  one_spelling_each mode h (t ∷ₜ ts) v w d e =
      d.4 ∙ ap₂ (λ x y. x ++ y) (one_spelling mode h t d.0 e.0 d.2 e.2) (one_spelling_each mode h ts d.1 e.1 d.3 e.3) ∙ sym e.4

-- ---- what is encoded in CER or DER is encoded in BER

tells_in_ber : (mode : Mode) (len : Length) (w : List ℕ) → AreLengthOctets mode len w → AreLengthOctets Ber len w
tells_in_ber mode (Definite n) w l = IsLengthForm-from_length mode n w l
tells_in_ber mode Indefinite w l = l

allowed_in_ber : (mode : Mode) (f : Bool) (len : Length) → may_have mode f len ≡ true → may_have Ber f len ≡ true
allowed_in_ber mode false (Definite n) e = refl
allowed_in_ber mode false Indefinite e = e
allowed_in_ber mode true len e = refl

pub header_in_ber : (mode : Mode) (t : Tag) (f : Bool) (len : Length) (w : List ℕ) → IsHeader mode t f len w → IsHeader Ber t f len w
header_in_ber mode t f len w d = record {
  is_value_tag = d.is_value_tag;
  allowed = allowed_in_ber mode f len d.allowed;
  length_octets = d.length_octets;
  tells = tells_in_ber mode len _ d.tells;
  is = d.is;
}

definite_in_ber : (mode : Mode) (t : Tag) (f : Bool) (contents w : List ℕ) → IsDefinite mode t f contents w → IsDefinite Ber t f contents w
definite_in_ber mode t f contents w d = record { header = d.header; is_header = header_in_ber mode t f _ _ d.is_header; is = d.is }

framed_in_ber : (mode : Mode) (t : Tag) (contents w : List ℕ) → IsFramed mode t contents w → IsFramed Ber t contents w
framed_in_ber mode t contents w (inl d) = inl (definite_in_ber mode t true contents w d)
framed_in_ber mode t contents w (inr d) =
    inr (record {
      header = d.header;
      is_header = header_in_ber mode t true _ _ d.is_header;
      end = d.end;
      is_end = record {
        zero_length =
            d.is_end.zero_length;
        is = d.is_end.is;
        is_length = IsLengthForm-from_length mode _ _ d.is_end.is_length;
      };
      is = d.is;
    })

mutual
  pub IsEncoding-in_ber : (mode : Mode) (t : Tree) (w : List ℕ) → IsEncoding mode t w → IsEncoding Ber t w
  IsEncoding-in_ber mode (primitive t contents) w h = (h.0, definite_in_ber mode t false contents w h.1)
  IsEncoding-in_ber mode (constructed t ts) w h = (h.0, AreEncodings-in_ber mode ts h.0 h.1, framed_in_ber mode t h.0 w h.2)

  pub AreEncodings-in_ber : (mode : Mode) (ts : Trees) (w : List ℕ) → AreEncodings mode ts w → AreEncodings Ber ts w
  AreEncodings-in_ber mode no_trees w h = h
  AreEncodings-in_ber mode (t ∷ₜ ts) w h = (h.0, h.1, IsEncoding-in_ber mode t h.0 h.2, AreEncodings-in_ber mode ts h.1 h.3, h.4)
