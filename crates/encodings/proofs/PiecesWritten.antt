-- What is written of pieces is the encodings of the values that they are of.
use Rattle.std.proofs.Common.{◌≡◌, ◌≢◌, ℕ, zero, suc, ◌^◌, ◌<◌, ◌≤◌, Bool, true, false, List, [], ◌∷◌, ◌++◌, length, refl, sym, ap, ap₂, subst, ◌∙◌}
use Rattle.std.proofs.Common.{append_assoc, append-nil, Some, inl, inr, arith}
use Rattle.std.specs.Prelude.{◌==◌, if◌then◌else◌}
use Rattle.std.specs.List.{concat}
use Rattle.std.proofs.lemmas.List.Folds.{concat-append}
use Rattle.std.proofs.lemmas.Bool.{lt-ltb}
use Rattle.bcder.specs.declared.mode.Mode.{Mode}
use Rattle.bcder.specs.declared.mode.Mode.TheVariants.{Ber, Cer, Der}
use Rattle.bcder.specs.x690.Identifier.{AreOctets, Tag, IsValueTag}
use Rattle.bcder.specs.x690.Length.{IsLengthForm}
use Rattle.bcder.specs.x690.OctetString.{segments, segments_of}
use Rattle.bcder.specs.x690.Octets.{constructed_length, header, definite, closing, enclosed}
use Rattle.bcder.specs.x690.Tree.{Tree, primitive, constructed, Trees, no_trees, ◌∷ₜ◌}
use Rattle.bcder.specs.x690.Encoding.{IsHeader, IsFramed, IsEncoding, AreEncodings}
use Rattle.bcder.specs.calls.Content.{length_of}
use Rattle.bcder.specs.laws.Canonical.{big_endian-lt, one_spelling}
use Rattle.bcder.specs.laws.Lengths.{IsLengthForm-from_length}
use Rattle.bcder.specs.laws.Octets.{AreOctets-nil, AreOctets-cons, AreOctets-append}
use Rattle.bcder.specs.laws.Written.{primitive_written, cer_written, constructed_written}
use Rattle.encodings.specs.declared.convert.Kind.{Kind}
use Rattle.encodings.specs.declared.convert.Kind.TheVariants.{Boolean, Bits, Text, Other}
use Rattle.encodings.specs.Conversion.{kind_of, all_or_none, ContentsBecome, Becomes, Become}
use Rattle.encodings.specs.Pieces.{Made, made_value, made_beginning, made_end, made_string, made_part, made_string_end, parts, parts_of, makes, all_make}
use Rattle.encodings.specs.Pieces.{Frames, in_front, headed, ended, string_headed, string_ended, written}
use Rattle.encodings.specs.Pieces.{LengthFits, AreThere, Fit, spelled, all_spelled, TreeFits, TreesFit}

-- ---- the octets of pieces are those of the values

pub in_front_both : (a b : List ℕ) (f : Frames) → in_front a (in_front b f) ≡ in_front (a ++ b) f
in_front_both a b f = ap (λ w. record { inner = w; outer = f.outer }) (sym (append_assoc a b f.inner))

in_front_nil : (mode : Mode) (qs : List Made) → written mode qs ≡ in_front [] (written mode qs)
in_front_nil mode [] = refl
in_front_nil mode (made_value t c ∷ qs) = refl
in_front_nil mode (made_beginning t ∷ qs) = refl
in_front_nil mode (made_end ∷ qs) = refl
in_front_nil mode (made_string t ∷ qs) = refl
in_front_nil mode (made_part c ∷ qs) = refl
in_front_nil mode (made_string_end ∷ qs) = refl

pub around : (mode : Mode) (t : Tag) (s : List ℕ) (f : Frames) → headed mode t (in_front s (ended mode f)) ≡ in_front (enclosed mode t s) f
around mode t s f =
    rw (append-nil s) (ap (λ w. record { inner = w; outer = f.outer })
    (sym (append_assoc (header t true (constructed_length mode (length s))) s (closing mode ++ f.inner))
    ∙ sym (append_assoc (header t true (constructed_length mode (length s)) ++ s) (closing mode) f.inner)))

pub around_string : (t : Tag) (s : List ℕ) (f : Frames) → string_headed t (in_front s (string_ended f)) ≡ in_front (definite t false s) f
around_string t s f =
    rw (append-nil s) (ap (λ w. record { inner = w; outer = f.outer }) (sym (append_assoc (header t false (length_of (Some (length s)))) s f.inner)))

mutual
  segment_written : (mode : Mode) (t : Tree) (is : List Made) → written mode (parts t ++ is) ≡ in_front (concat (segments t)) (written mode is)
  segment_written mode (primitive t c) is = ap (λ w. in_front w (written mode is)) (sym (append-nil c))
  segment_written mode (constructed t ts) is =
      sym (in_front_nil mode ((parts_of ts ++ made_part [] ∷ []) ++ is))
      ∙ ap (written mode) (append_assoc (parts_of ts) (made_part [] ∷ []) is)
      ∙ segments_written mode ts (made_part [] ∷ is)
      ∙ ap (in_front (concat (segments_of ts))) (sym (in_front_nil mode is))

  segments_written : (mode : Mode) (ts : Trees) (is : List Made)
      → written mode (parts_of ts ++ is) ≡ in_front (concat (segments_of ts)) (written mode is)
  segments_written mode no_trees is = in_front_nil mode is
  segments_written mode (t ∷ₜ ts) is =
      ap (written mode) (append_assoc (parts t) (parts_of ts) is) ∙ segment_written mode t (parts_of ts ++ is)
      ∙ ap (in_front (concat (segments t))) (segments_written mode ts is)
      ∙ in_front_both (concat (segments t)) (concat (segments_of ts)) (written mode is)
      ∙ ap (λ w. in_front w (written mode is)) (sym (concat-append (segments t) (segments_of ts)))

inside_string : (mode : Mode) (ts : Trees) (is : List Made)
    → written mode ((parts_of ts ++ made_string_end ∷ []) ++ is) ≡ in_front (concat (segments_of ts)) (string_ended (written mode is))
inside_string mode ts is = ap (written mode) (append_assoc (parts_of ts) (made_string_end ∷ []) is) ∙ segments_written mode ts (made_string_end ∷ is)

mutual
  one_written : (mode : Mode) (t u : Tree) (is : List Made) → Becomes mode t u
      → written mode (makes t u ++ is) ≡ in_front (spelled mode u) (written mode is)
  one_written mode (primitive t c) (primitive u d) is b = refl
  one_written mode (primitive t c) (constructed u us) is b = absurd b
  one_written mode (constructed t ts) (primitive u d) is b =
      ap (string_headed u) (inside_string mode ts is) ∙ around_string u (concat (segments_of ts)) (written mode is)
      ∙ ap (λ s. in_front (definite u false s) (written mode is)) (sym b.1.is)
  one_written mode (constructed t ts) (constructed u us) is b =
      ap (λ l. headed mode u (written mode l)) (append_assoc (all_make ts us) (made_end ∷ []) is)
      ∙ ap (headed mode u) (all_written mode ts us (made_end ∷ is) b.2) ∙ around mode u (all_spelled mode us) (written mode is)

  pub all_written : (mode : Mode) (ts us : Trees) (is : List Made) → Become mode ts us
      → written mode (all_make ts us ++ is) ≡ in_front (all_spelled mode us) (written mode is)
  all_written mode no_trees no_trees is b = in_front_nil mode is
  all_written mode no_trees (u ∷ₜ us) is b = absurd b
  all_written mode (t ∷ₜ ts) no_trees is b = absurd b
  all_written mode (t ∷ₜ ts) (u ∷ₜ us) is b =
      ap (written mode) (append_assoc (makes t u) (all_make ts us) is) ∙ one_written mode t u (all_make ts us ++ is) b.0
      ∙ ap (in_front (spelled mode u)) (all_written mode ts us is b.1) ∙ in_front_both (spelled mode u) (all_spelled mode us) (written mode is)

-- ---- lengths that have room

inside : (mode : Mode) (ts us : Trees) (is : List Made) → Become mode ts us
    → written mode ((all_make ts us ++ made_end ∷ []) ++ is) ≡ in_front (all_spelled mode us) (ended mode (written mode is))
inside mode ts us is b = ap (written mode) (append_assoc (all_make ts us) (made_end ∷ []) is) ∙ all_written mode ts us (made_end ∷ is) b

inside_size : (mode : Mode) (ts us : Trees) (is : List Made) → Become mode ts us
    → length (written mode ((all_make ts us ++ made_end ∷ []) ++ is)).inner ≡ length (all_spelled mode us)
inside_size mode ts us is b = ap (λ f. length f.inner) (inside mode ts us is b) ∙ ap length (append-nil (all_spelled mode us))

string_size : (mode : Mode) (ts : Trees) (is : List Made)
    → length (written mode ((parts_of ts ++ made_string_end ∷ []) ++ is)).inner ≡ length (concat (segments_of ts))
string_size mode ts is = ap (λ f. length f.inner) (inside_string mode ts is) ∙ ap length (append-nil (concat (segments_of ts)))

mutual
  segment_fits : (mode : Mode) (t : Tree) (is : List Made) → Fit mode (parts t ++ is) → Fit mode is
  segment_fits mode (primitive t c) is h = h.1
  segment_fits mode (constructed t ts) is h =
      (segments_fit mode ts (made_part [] ∷ is) (subst (Fit mode) (append_assoc (parts_of ts) (made_part [] ∷ []) is) h.1)).1

  segments_fit : (mode : Mode) (ts : Trees) (is : List Made) → Fit mode (parts_of ts ++ is) → Fit mode is
  segments_fit mode no_trees is h = h
  segments_fit mode (t ∷ₜ ts) is h =
      segments_fit mode ts is (segment_fits mode t (parts_of ts ++ is) (subst (Fit mode) (append_assoc (parts t) (parts_of ts) is) h))

mutual
  segment_fits_back : (mode : Mode) (t : Tree) (is : List Made) → Fit mode is → Fit mode (parts t ++ is)
  segment_fits_back mode (primitive t c) is h = (tt, h)
  segment_fits_back mode (constructed t ts) is h =
      (tt, subst (Fit mode) (sym (append_assoc (parts_of ts) (made_part [] ∷ []) is)) (segments_fit_back mode ts (made_part [] ∷ is) (tt, h)))

  segments_fit_back : (mode : Mode) (ts : Trees) (is : List Made) → Fit mode is → Fit mode (parts_of ts ++ is)
  segments_fit_back mode no_trees is h = h
  segments_fit_back mode (t ∷ₜ ts) is h =
      subst (Fit mode) (sym (append_assoc (parts t) (parts_of ts) is)) (segment_fits_back mode t (parts_of ts ++ is) (segments_fit_back mode ts is h))

mutual
  one_fits : (mode : Mode) (t u : Tree) (is : List Made) → Becomes mode t u → Fit mode (makes t u ++ is) → TreeFits mode u × Fit mode is
  one_fits mode (primitive t c) (primitive u d) is b h = (h.0, h.1)
  one_fits mode (primitive t c) (constructed u us) is b h = absurd b
  one_fits mode (constructed t ts) (primitive u d) is b h = (
    subst (λ n. n < 2 ^ 32) (string_size mode ts is ∙ ap length (sym b.1.is)) h.0.0,
    (segments_fit mode ts (made_string_end ∷ is) (subst (Fit mode) (append_assoc (parts_of ts) (made_string_end ∷ []) is) h.1)).1,
  )
  one_fits mode (constructed t ts) (constructed u us) is b h =
      let r = all_fit mode ts us (made_end ∷ is) b.2 (subst (Fit mode) (append_assoc (all_make ts us) (made_end ∷ []) is) h.1) in
      ((subst (LengthFits mode) (inside_size mode ts us is b.2) h.0.0, r.0), r.1.1)

  pub all_fit : (mode : Mode) (ts us : Trees) (is : List Made) → Become mode ts us → Fit mode (all_make ts us ++ is) → TreesFit mode us × Fit mode is
  all_fit mode no_trees no_trees is b h = (tt, h)
  all_fit mode no_trees (u ∷ₜ us) is b h = absurd b
  all_fit mode (t ∷ₜ ts) no_trees is b h = absurd b
  all_fit mode (t ∷ₜ ts) (u ∷ₜ us) is b h =
      let f = one_fits mode t u (all_make ts us ++ is) b.0 (subst (Fit mode) (append_assoc (makes t u) (all_make ts us) is) h) in
      let g = all_fit mode ts us is b.1 f.1 in
      ((f.0, g.0), g.1)

mutual
  one_fits_back : (mode : Mode) (t u : Tree) (is : List Made) → Becomes mode t u → TreeFits mode u → Fit mode is → Fit mode (makes t u ++ is)
  one_fits_back mode (primitive t c) (primitive u d) is b h k = (h, k)
  one_fits_back mode (primitive t c) (constructed u us) is b h k = absurd b
  one_fits_back mode (constructed t ts) (primitive u d) is b h k = (
    (subst (λ n. n < 2 ^ 32) (ap length b.1.is ∙ sym (string_size mode ts is)) h, subst (λ f. AreThere f.outer) (sym (inside_string mode ts is)) tt),
    subst (Fit mode) (sym (append_assoc (parts_of ts) (made_string_end ∷ []) is)) (segments_fit_back mode ts (made_string_end ∷ is) (tt, k)),
  )
  one_fits_back mode (constructed t ts) (constructed u us) is b h k = (
    (subst (LengthFits mode) (sym (inside_size mode ts us is b.2)) h.0, subst (λ f. AreThere f.outer) (sym (inside mode ts us is b.2)) tt),
    subst (Fit mode) (sym (append_assoc (all_make ts us) (made_end ∷ []) is)) (all_fit_back mode ts us (made_end ∷ is) b.2 h.1 (tt, k)),
  )

  pub all_fit_back : (mode : Mode) (ts us : Trees) (is : List Made) → Become mode ts us → TreesFit mode us → Fit mode is
      → Fit mode (all_make ts us ++ is)
  all_fit_back mode no_trees no_trees is b h k = k
  all_fit_back mode no_trees (u ∷ₜ us) is b h k = absurd b
  all_fit_back mode (t ∷ₜ ts) no_trees is b h k = absurd b
  all_fit_back mode (t ∷ₜ ts) (u ∷ₜ us) is b h k =
      subst (Fit mode) (sym (append_assoc (makes t u) (all_make ts us) is))
      (one_fits_back mode t u (all_make ts us ++ is) b.0 h.0 (all_fit_back mode ts us is b.1 h.1 k))

-- ---- the octets of values are their encodings

pub encloses : (mode : Mode) (t : Tag) (ts : Trees) (w : List ℕ) → IsValueTag t → LengthFits mode (length w) → AreEncodings mode ts w
    → IsEncoding mode (constructed t ts) (enclosed mode t w)
encloses Ber t ts w v l e = constructed_written Ber t ts w v (lt-ltb _ _ l) e
encloses Cer t ts w v l e = cer_written t ts w v e
encloses Der t ts w v l e = constructed_written Der t ts w v (lt-ltb _ _ l) e

one_octet : (b : ℕ) → AreOctets (all_or_none b ∷ [])
one_octet b = by_test (b == 0)
  where
    by_test : (t : Bool) → AreOctets ((if t then 0 else 255) ∷ [])
    by_test true = AreOctets-cons 0 [] (omega arith) AreOctets-nil
    by_test false = AreOctets-cons 255 [] (omega arith) AreOctets-nil

pub contents_octets : (mode : Mode) (k : Kind) (c d : List ℕ) → AreOctets c → ContentsBecome mode k c d → AreOctets d
contents_octets mode Boolean c d o b = rw b.2 (one_octet b.0)
contents_octets mode Bits c d o b = rw b.1 o
contents_octets mode Text c d o b = rw b o
contents_octets mode Other c d o b = rw b o

pub framed_tag : (mode : Mode) (t : Tag) (c w : List ℕ) → IsFramed mode t c w → IsValueTag t
framed_tag mode t c w (inl d) = d.is_header.is_value_tag
framed_tag mode t c w (inr d) = d.is_header.is_value_tag

mutual
  segment_octets : (from : Mode) (t : Tree) (v : List ℕ) → IsEncoding from t v → AreOctets (concat (segments t))
  segment_octets from (primitive t c) v e = rw (append-nil c) e.0
  segment_octets from (constructed t ts) v e = segments_octets from ts e.0 e.1

  pub segments_octets : (from : Mode) (ts : Trees) (v : List ℕ) → AreEncodings from ts v → AreOctets (concat (segments_of ts))
  segments_octets from no_trees v e = AreOctets-nil
  segments_octets from (t ∷ₜ ts) v e =
      subst AreOctets (sym (concat-append (segments t) (segments_of ts)))
      (AreOctets-append (concat (segments t)) (concat (segments_of ts)) (segment_octets from t e.0 e.2) (segments_octets from ts e.1 e.3))

mutual
  one_encodes : (from mode : Mode) (t u : Tree) (v : List ℕ) → IsEncoding from t v → Becomes mode t u → TreeFits mode u → IsEncoding mode u (spelled mode u)
  one_encodes from mode (primitive t c) (primitive u d) v e b f =
      primitive_written mode u d (rw b.0 e.1.is_header.is_value_tag) (contents_octets mode (kind_of t) c d e.0 b.1) f
  one_encodes from mode (primitive t c) (constructed u us) v e b f = absurd b
  one_encodes from mode (constructed t ts) (primitive u d) v e b f =
      primitive_written mode u d (rw b.0 (framed_tag from t e.0 v e.2)) (subst AreOctets (sym b.1.is) (segments_octets from ts e.0 e.1)) f
  one_encodes from mode (constructed t ts) (constructed u us) v e b f =
      encloses mode u us (all_spelled mode us) (rw b.0 (framed_tag from t e.0 v e.2)) f.0 (all_encode from mode ts us e.0 e.1 b.2 f.1)

  pub all_encode : (from mode : Mode) (ts us : Trees) (v : List ℕ) → AreEncodings from ts v → Become mode ts us → TreesFit mode us
      → AreEncodings mode us (all_spelled mode us)
  all_encode from mode no_trees no_trees v e b f = refl
  all_encode from mode no_trees (u ∷ₜ us) v e b f = absurd b
  all_encode from mode (t ∷ₜ ts) no_trees v e b f = absurd b
  all_encode from mode (t ∷ₜ ts) (u ∷ₜ us) v e b f =
      (spelled mode u, all_spelled mode us, one_encodes from mode t u e.0 e.2 b.0 f.0, all_encode from mode ts us e.1 e.3 b.1 f.1, refl)

-- ---- encodings are these octets

power : (k : ℕ) → k ≤ 4 → 256 ^ k ≤ 2 ^ 32
power zero l = omega arith
power (suc zero) l = omega arith
power (suc (suc zero)) l = omega arith
power (suc (suc (suc zero))) l = omega arith
power (suc (suc (suc (suc zero)))) l = omega arith
power (suc (suc (suc (suc (suc k))))) l = absurd (omega (arith, l))

form_below : (n : ℕ) (w : List ℕ) → IsLengthForm n w → n < 2 ^ 32
form_below n w (inl s) = omega (arith, s.0)
form_below n w (inr l) = omega (arith, l.number, big_endian-lt l.digits l.octets, power (length l.digits) l.limit)

pub length_below : (mode : Mode) (t : Tag) (form : Bool) (n : ℕ) (h : List ℕ) → IsHeader mode t form (length_of (Some n)) h → n < 2 ^ 32
length_below mode t form n h d = form_below n d.length_octets (IsLengthForm-from_length mode n d.length_octets d.tells)

framed_fits : (mode : Mode) (t : Tag) (c w : List ℕ) → IsFramed mode t c w → mode ≢ Ber → LengthFits mode (length c)
framed_fits Ber t c w h ne = absurd (ne refl)
framed_fits Cer t c w h ne = tt
framed_fits Der t c w (inl d) ne = length_below Der t true (length c) d.header d.is_header
framed_fits Der t c w (inr d) ne = absurd (no d.is_header.allowed)
  where
    no : false ≡ true → ⊥
    no e = cc

mutual
  one_is_spelled : (mode : Mode) → mode ≢ Ber → (t : Tree) (w : List ℕ) → IsEncoding mode t w → TreeFits mode t × (w ≡ spelled mode t)
  one_is_spelled mode ne (primitive t c) w e =
      let l = length_below mode t false (length c) e.1.header e.1.is_header in
      (l, one_spelling mode ne (primitive t c) w (definite t false c) e (primitive_written mode t c e.1.is_header.is_value_tag e.0 l))
  one_is_spelled mode ne (constructed t ts) w e =
      let i = all_are_spelled mode ne ts e.0 e.1 in
      let l = framed_fits mode t e.0 w e.2 ne in (
        (subst (λ c. LengthFits mode (length c)) i.1 l, i.0),
        one_spelling mode ne (constructed t ts) w (enclosed mode t (all_spelled mode ts)) e
            (rw (← i.1) (encloses mode t ts e.0 (framed_tag mode t e.0 w e.2) l e.1)),
      )

  pub all_are_spelled : (mode : Mode) → mode ≢ Ber → (ts : Trees) (w : List ℕ) → AreEncodings mode ts w → TreesFit mode ts × (w ≡ all_spelled mode ts)
  all_are_spelled mode ne no_trees w e = (tt, e)
  all_are_spelled mode ne (t ∷ₜ ts) w e =
      let a = one_is_spelled mode ne t e.0 e.2 in
      let b = all_are_spelled mode ne ts e.1 e.3 in
      ((a.0, b.0), e.4 ∙ ap₂ (λ x y. x ++ y) a.1 b.1)
