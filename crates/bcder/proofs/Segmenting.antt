-- Octets written in segments.
use Rattle.std.proofs.Common.{◌≡◌, ℕ, zero, suc, ◌+◌, ◌-◌, ◌*◌, ◌^◌, ◌<◌, ◌≤◌, min, true, false, List, [], ◌∷◌, ◌++◌, length, take, drop, Option, Result}
use Rattle.std.proofs.Common.{Ok, Err, refl, sym, ap, ◌∙◌, subst, append_assoc, append-nil, inl, inr, arith, IsErr, IsErrAnd, ◌⊎◌}
use Rattle.std.specs.List.{concat}
use Rattle.std.specs.Prelude.{IfOk, IfErr}
use Rattle.std.specs.Io.KnownBytes.{Appends}
use Rattle.std.proofs.KnownBytes.{Appends-trans}
use Rattle.std.proofs.lemmas.Bool.{lt-ltb, le-ltb}
use Rattle.std.proofs.lemmas.List.{length-append, length-take-le, length-drop, take-append-le, drop-append-le, drop-drop}
use Rattle.std.proofs.Math.Seq.{take-add, take-length}
use Rattle.bcder.specs.declared.encode.error.EncodeError.{EncodeError}
use Rattle.bcder.specs.declared.encode.error.WriteError.{WriteError}
use Rattle.bcder.specs.declared.encode.slot.Failed.{Failed}
use Rattle.bcder.specs.declared.length.Length.TheVariants.{Definite}
use Rattle.bcder.specs.declared.mode.Mode.{Mode}
use Rattle.bcder.specs.declared.mode.Mode.TheVariants.{Ber, Cer, Der}
use Rattle.bcder.specs.declared.string.octet.write.Progress.{Progress}
use Rattle.bcder.specs.x690.Identifier.{AreOctets, Tag, identifier}
use Rattle.bcder.specs.x690.Octets.{definite_length, header, definite, enclosed_size}
use Rattle.bcder.specs.x690.Tree.{Tree, primitive, constructed, Trees, no_trees, ◌∷ₜ◌}
use Rattle.bcder.specs.x690.Encoding.{IsEncoding, AreEncodings}
use Rattle.bcder.specs.x690.OctetString.{octet_string_tag, segments, segments_of, AreSegmented}
use Rattle.bcder.specs.calls.StringOctets.{StringOctets, whole, cut, octets_of as string_octets, parts}
use Rattle.bcder.specs.calls.Captured.{Kept}
use Rattle.bcder.specs.calls.Gathered.{KeptMeans}
use Rattle.bcder.specs.calls.Meaning.{Encoded, Meaning, ValueMeans, constructed_meaning, fits_enclosed, primitive_encoded, constructed_encoded}
use Rattle.bcder.specs.calls.Encoders.{SizeOfValues, WritesEncoding, WroteOf, MayHaveHeader, RefusesValueHeader}
use Rattle.bcder.specs.calls.StringMeaning.{full_segments, segmented, segments_in_cer, is_cut, OctetsMean, StringMeans}
use Rattle.bcder.specs.steps.Segmenting.{segments_size, CutSize, unwritten, to_write, IsProgress, Advanced, PartWritten, SegmentBegun}
use Rattle.std.proofs.lemmas.List.Folds.{concat-append}
use Rattle.bcder.specs.laws.Octets.{AreOctets-nil, AreOctets-append}
use Rattle.bcder.proofs.Comparing.{parts_joined}
use Rattle.bcder.proofs.Enclosing.{definite-length, enclosed-length}
use Rattle.bcder.proofs.Writing.{stops, follows_on, same_octets}

-- ---- sizes

identifier-length : length (identifier octet_string_tag false) ≡ 1
unfolding identifier
identifier-length = refl

thousand-length : length (definite_length 1000) ≡ 3
unfolding definite_length
thousand-length = refl

segment-length : (w : List ℕ) → length (definite octet_string_tag false w) ≡ 1 + length (definite_length (length w)) + length w
segment-length w = definite-length octet_string_tag false w ∙ ap (λ n. n + length (definite_length (length w)) + length w) identifier-length

segmented-length : (n : ℕ) (w : List ℕ) → 1000 * n ≤ length w
    → length (segmented n w).octets ≡ length w + (4 * n + 1 + length (definite_length (length w - 1000 * n)))
segmented-length zero w h =
    let same : length w - 1000 * 0 ≡ length w = omega arith in
    let last = ap (λ k. length (definite_length k)) same in
    omega (arith, segment-length w, last)
segmented-length (suc n) w h =
    let first = take 1000 w in
    let full : length first ≡ 1000 = length-take-le 1000 w (omega arith) in
    let thousand = ap (λ k. length (definite_length k)) full ∙ thousand-length in
    let behind = length-drop 1000 w in
    let rest = segmented-length n (drop 1000 w) (omega (arith, behind)) in
    let same : length (drop 1000 w) - 1000 * n ≡ length w - 1000 * suc n = omega (arith, behind) in
    let last = ap (λ k. length (definite_length k)) same in
    omega (
      arith,
      length-append (definite octet_string_tag false first) (segmented n (drop 1000 w)).octets,
      segment-length first,
      full,
      thousand,
      behind,
      rest,
      last,
    )

pub segments-length : (w : List ℕ) → length (segments_in_cer w).octets ≡ segments_size (length w)
segments-length w = segmented-length (full_segments (length w)) w (omega arith)

-- ---- what has an encoding

module _ (t : Tag) (w : List ℕ) (o : AreOctets w) where
  cut_at : (r : Result ℕ EncodeError) → is_cut Cer (length w) ≡ true → CutSize t (length w) r → SizeOfValues (OctetsMean t w Cer) ⊥ r
  cut_at (Ok size) is (v, size_is, fits) =
      let inside = segments_in_cer w in
      let fits_at = ap (fits_enclosed Cer t) (segments-length w) ∙ fits in (
        constructed_encoded Cer t inside,
        inr (v, (Ok w, (refl, o), rw (is, fits_at) refl)),
        size_is ∙ ap (enclosed_size Cer t) (sym (segments-length w)) ∙ sym (enclosed-length Cer t inside.octets),
      )
  cut_at (Err e) is (inl (ends, e_is)) = record { meant = λ ne. inl (ends, ap Err e_is); lacking = λ n. cc }
  cut_at (Err e) is (inr (v, fits, e_is)) =
      let fits_at = ap (fits_enclosed Cer t) (segments-length w) ∙ fits in
      record { meant = λ ne. inr (v, (Ok w, (refl, o), rw (is, fits_at) (ap Err e_is))); lacking = λ n. cc }

  cut_in : (mode : Mode) (r : Result ℕ EncodeError) → is_cut mode (length w) ≡ true → CutSize t (length w) r → SizeOfValues (OctetsMean t w mode) ⊥ r
  cut_in Cer r is h = cut_at r is h
  cut_in Ber r is h = cc
  cut_in Der r is h = cc

  whole_at : (mode : Mode) (r : Result ℕ EncodeError) → is_cut mode (length w) ≡ false
      → IfOk r (λ n. MayHaveHeader t (length w) × (n ≡ length (header t false (Definite (length w))) + length w)) → IfErr r (RefusesValueHeader t (length w))
      → SizeOfValues (OctetsMean t w mode) ⊥ r
  whole_at mode (Ok n) is h none =
      let fits = lt-ltb _ _ h.0.1 in
      (primitive_encoded t w, inr (h.0.0, (Ok w, (refl, o), rw (is, fits) refl)), h.1 ∙ sym (length-append (header t false (Definite (length w))) w))
  whole_at mode (Err e) is none (inl (ends, e_is)) = record { meant = λ ne. inl (ends, ap Err e_is); lacking = λ n. cc }
  whole_at mode (Err e) is none (inr (v, large, e_is)) =
      let fits = le-ltb (length w) (2 ^ 32) large in
      record { meant = λ ne. inr (v, (Ok w, (refl, o), rw (is, fits) (ap Err e_is))); lacking = λ n. cc }

pub cut_size : (t : Tag) (mode : Mode) (n : ℕ) (r : Result ℕ EncodeError) → is_cut mode n ≡ true → CutSize t n r → (w : List ℕ) → AreOctets w → n ≡ length w
    → SizeOfValues (OctetsMean t w mode) ⊥ r
cut_size t mode n r is h w o e = cut_in t w o mode r (ap (is_cut mode) (sym e) ∙ is) (subst (λ k. CutSize t k r) e h)

pub whole_size : (t : Tag) (mode : Mode) (n : ℕ) (r : Result ℕ EncodeError) → is_cut mode n ≡ false
    → IfOk r (λ k. MayHaveHeader t n × (k ≡ length (header t false (Definite n)) + n)) → IfErr r (RefusesValueHeader t n) → (w : List ℕ) → AreOctets w
    → n ≡ length w → SizeOfValues (OctetsMean t w mode) ⊥ r
whole_size t mode n r is ok refused w o e =
    whole_at t w o mode r (ap (is_cut mode) (sym e) ∙ is)
    (subst (λ l. IfOk r (λ k. MayHaveHeader t l × (k ≡ length (header t false (Definite l)) + l))) e ok)
    (subst (λ l. IfErr r (RefusesValueHeader t l)) e refused)

-- ---- the next segment

unwritten_some : (w : List ℕ) → 0 < length w → unwritten w ≡ (segments_in_cer w).octets
unwritten_some [] h = absurd (omega arith)
unwritten_some (b ∷ w) h = refl

drop_all : (w : List ℕ) (k : ℕ) → k ≡ length w → drop k w ≡ []
drop_all [] zero h = refl
drop_all [] (suc k) h = refl
drop_all (b ∷ w) zero h = absurd (omega arith)
drop_all (b ∷ w) (suc k) h = drop_all w k (omega arith)

abbrev segment_header : ℕ → List ℕ
segment_header k = header octet_string_tag false (Definite k)

segmented_begins : (n : ℕ) (v : List ℕ) (k : ℕ) → n ≡ full_segments (length v) → 0 < length v → k ≡ min (length v) 1000
    → (segmented n v).octets ≡ segment_header k ++ (take k v ++ unwritten (drop k v))
segmented_begins zero v k is some k_is =
    let all : k ≡ length v = omega arith in
    let front : take k v ≡ v = ap (λ j. take j v) all ∙ take-length v in
    let none : unwritten (drop k v) ≡ [] = ap unwritten (drop_all v k all) in
    ap (λ j. segment_header j ++ v) (sym all)
    ∙ ap (λ l. segment_header k ++ l) (sym (append-nil v) ∙ ap (λ l. l ++ []) (sym front) ∙ ap (λ l. take k v ++ l) (sym none))
segmented_begins (suc n) v k is some k_is =
    let thousand : k ≡ 1000 = omega arith in
    let behind = length-drop 1000 v in
    let full : length (take 1000 v) ≡ 1000 = length-take-le 1000 v (omega arith) in
    let count : n ≡ full_segments (length (drop 1000 v)) = omega (arith, behind) in
    let more : (segmented n (drop 1000 v)).octets ≡ unwritten (drop 1000 v) =
    ap (λ j. (segmented j (drop 1000 v)).octets) count ∙ sym (unwritten_some (drop 1000 v) (omega (arith, behind))) in
    ap (λ j. (segment_header j ++ take 1000 v) ++ (segmented n (drop 1000 v)).octets) full
    ∙ append_assoc (segment_header 1000) (take 1000 v) (segmented n (drop 1000 v)).octets
    ∙ ap (λ l. segment_header 1000 ++ (take 1000 v ++ l)) more
    ∙ ap (λ j. segment_header j ++ (take j v ++ unwritten (drop j v))) (sym thousand)

module _ (p : Progress) (k : ℕ) (v : List ℕ) (none : p.left ≡ 0) (some : 0 < p.behind) (k_is : k ≡ min p.behind 1000) (at : IsProgress p v) where
  begins : to_write p v ≡ segment_header k ++ to_write (record { left = k; behind = p.behind - k }) v
  begins =
      let k_of : k ≡ min (length v) 1000 = omega arith in
      ap (λ j. take j v ++ unwritten (drop j v)) none
      ∙ unwritten_some v (omega arith)
      ∙ segmented_begins (full_segments (length v)) v k refl (omega arith) k_of

  -- a segment was begun
  pub begun : {old new : Option (List ℕ)} → Appends old new (segment_header k) → Advanced p v (record { left = k; behind = p.behind - k }) v old new
  begun appends = record { written = segment_header k; appends = appends; is = begins; progress = omega arith }

  pub begin_failed : {old new : Option (List ℕ)} {e : WriteError} → WroteOf ⊥ (segment_header k) old new (Err e) → WroteOf ⊥ (to_write p v) old new (Err e)
  begin_failed h = same_octets (sym begins) (stops (to_write (record { left = k; behind = p.behind - k }) v) h)

-- an error that `?` passes on
pub begin_halts : (p : Progress) {why : WriteError} {old new : Option (List ℕ)} {f : Failed} (r : Result Progress Failed) → IsErr r × IsErrAnd r (λ d. d ≡ f)
    → SegmentBegun p why old new (Err f) → SegmentBegun p why old new r
begin_halts p (Ok q) is h = absurd is.1
begin_halts p (Err d) is h = h

pub part_halts : (p : Progress) (part : List ℕ) {why : WriteError} {old new : Option (List ℕ)} {f : Failed} (r : Result Progress Failed)
    → IsErr r × IsErrAnd r (λ d. d ≡ f) → PartWritten p part why old new (Err f) → PartWritten p part why old new r
part_halts p part (Ok q) is h = absurd is.1
part_halts p part (Err d) is h = h

-- ---- one step after another

pub advanced_on : {p q r : Progress} {u v w : List ℕ} {a b c : Option (List ℕ)} → Advanced p u q v a b → Advanced q v r w b c → Advanced p u r w a c
advanced_on {p} {q} {r} {u} {v} {w} {a} {b} {c} x y = record {
  written = x.written ++ y.written;
  appends = Appends-trans a b c x.written y.written x.appends y.appends;
  is = x.is ∙ ap (λ l. x.written ++ l) y.is ∙ sym (append_assoc x.written y.written (to_write r w));
  progress = y.progress;
}

-- what is to come, under another name
pub advanced_to : {p q : Progress} {u v w : List ℕ} {a b : Option (List ℕ)} → v ≡ w → Advanced p u q v a b → Advanced p u q w a b
advanced_to {p} {q} {u} {v} {w} {a} {b} e x = subst (λ l. Advanced p u q l a b) e x

-- octets were appended
pub appended : {w : List ℕ} {a b : Option (List ℕ)} → Appends a b w → WroteOf ⊥ w a b (Ok tt)
appended h = record { done = h }

-- and where the next one fails
pub advanced_failed : {p q : Progress} {u v : List ℕ} {a b c : Option (List ℕ)} {e : WriteError} → Advanced p u q v a b → WroteOf ⊥ (to_write q v) b c (Err e)
    → WroteOf ⊥ (to_write p u) a c (Err e)
advanced_failed x h = same_octets (sym x.is) (follows_on (appended x.appends) h)

module _ (p : Progress) (k : ℕ) (w v : List ℕ) (in_segment : k ≤ p.left) (in_part : k ≤ length w) where
  front_is : to_write p (w ++ v) ≡ take k w ++ to_write (record { left = p.left - k; behind = p.behind }) (drop k w ++ v)
  front_is =
      let all : p.left ≡ k + (p.left - k) = omega arith in
      let m = p.left - k in
      let back = drop-append-le k w v in_part in
      let front = take-append-le k w v in_part in
      ap (λ j. take j (w ++ v) ++ unwritten (drop j (w ++ v))) all
      ∙ ap (λ l. l ++ unwritten (drop (k + m) (w ++ v))) (take-add k m (w ++ v) ∙ ap (λ l. l ++ take m (drop k (w ++ v))) front)
      ∙ append_assoc (take k w) (take m (drop k (w ++ v))) (unwritten (drop (k + m) (w ++ v)))
      ∙ ap (λ l. take k w ++ (take m (drop k (w ++ v)) ++ unwritten l)) (sym (drop-drop m k (w ++ v)))
      ∙ ap (λ l. take k w ++ (take m l ++ unwritten (drop m l))) back

  -- the first k octets that are to come were written, which stand in the segment that was begun and in the part at hand
  pub front_written : {old new : Option (List ℕ)} → IsProgress p (w ++ v) → Appends old new (take k w)
      → Advanced p (w ++ v) (record { left = p.left - k; behind = p.behind }) (drop k w ++ v) old new
  front_written at appends = record {
    written = take k w;
    appends = appends;
    is = front_is;
    progress = omega (arith, at, length-append w v, length-append (drop k w) v, length-drop k w);
  }

  pub front_failed : {old new : Option (List ℕ)} {e : WriteError} → WroteOf ⊥ (take k w) old new (Err e) → WroteOf ⊥ (to_write p (w ++ v)) old new (Err e)
  front_failed h = same_octets (sym front_is) (stops (to_write (record { left = p.left - k; behind = p.behind }) (drop k w ++ v)) h)

-- ---- all parts

pub none_begun : (len : ℕ) (w : List ℕ) → 0 < length w → to_write (record { left = 0; behind = len }) w ≡ (segments_in_cer w).octets
none_begun len w some = unwritten_some w some

-- the next part was written
pub next_part : {p q r : Progress} {u l : List ℕ} (part m : List ℕ) {a b c : Option (List ℕ)} → l ≡ part ++ m → Advanced p u q l a b
    → ((v : List ℕ) → IsProgress q (part ++ v) → Advanced q (part ++ v) r v b c) → Advanced p u r m a c
next_part {p} {q} {r} {u} {l} part m {a} {b} {c} e x f = advanced_on x (subst (λ w. Advanced q w r m b c) (sym e) (f m (subst (IsProgress q) e x.progress)))

-- it was not
pub part_failed : {p q : Progress} {u l : List ℕ} (part m : List ℕ) {a b c : Option (List ℕ)} {d : WriteError} → l ≡ part ++ m → Advanced p u q l a b
    → ((v : List ℕ) → IsProgress q (part ++ v) → WroteOf ⊥ (to_write q (part ++ v)) b c (Err d)) → WroteOf ⊥ (to_write p u) a c (Err d)
part_failed {p} {q} {u} {l} part m {a} {b} {c} {d} e x f =
    advanced_failed x (subst (λ w. WroteOf ⊥ (to_write q w) b c (Err d)) (sym e) (f m (subst (IsProgress q) e x.progress)))

-- ---- octets under another name

pub same_string : (t : Tag) (mode : Mode) {v w : List ℕ} {a b : Option (List ℕ)} {r : Result (Unit {0}) WriteError} → v ≡ w
    → ((e : Encoded) → OctetsMean t v mode (Ok e) → WroteOf ⊥ e.octets a b r) → (e : Encoded) → OctetsMean t w mode (Ok e) → WroteOf ⊥ e.octets a b r
same_string t mode {v} {w} {a} {b} {r} same f = subst (λ u. (e : Encoded) → OctetsMean t u mode (Ok e) → WroteOf ⊥ e.octets a b r) same f

-- ---- a string that was cut

mutual
  segments_octets : (mode : Mode) (t : Tree) (w : List ℕ) → IsEncoding mode t w → AreOctets (concat (segments t))
  segments_octets mode (primitive t contents) w h = rw (append-nil contents) (h.0)
  segments_octets mode (constructed t ts) w h = all_segments_octets mode ts h.0 h.1

  all_segments_octets : (mode : Mode) (ts : Trees) (w : List ℕ) → AreEncodings mode ts w → AreOctets (concat (segments_of ts))
  all_segments_octets mode no_trees w h = AreOctets-nil
  all_segments_octets mode (t ∷ₜ ts) w h =
      subst AreOctets (sym (concat-append (segments t) (segments_of ts)))
      (AreOctets-append (concat (segments t)) (concat (segments_of ts)) (segments_octets mode t h.0 h.2) (all_segments_octets mode ts h.1 h.3))

pub parts_octets : (mode : Mode) (w : List ℕ) (ps : List (List ℕ)) → AreSegmented mode w ps → AreOctets (concat ps)
parts_octets mode w ps h = subst (λ p. AreOctets (concat p)) h.hold (all_segments_octets mode h.values w h.encode)

-- in CER and DER it means what its octets mean
pub by_octets : (t : Tag) (s : StringOctets) (mode : Mode) → (mode ≡ Cer) ⊎ (mode ≡ Der) → StringMeans t s mode ≡ OctetsMean t (string_octets s) mode
by_octets t (whole w) Ber form = refl
by_octets t (whole w) Cer form = refl
by_octets t (whole w) Der form = refl
by_octets t (cut kept ps) Cer form = refl
by_octets t (cut kept ps) Der form = refl
by_octets t (cut kept ps) Ber (inl e) = cc
by_octets t (cut kept ps) Ber (inr e) = cc

-- and in one piece in any mode
pub in_one_piece : (t : Tag) (w : List ℕ) (mode : Mode) → StringMeans t (whole w) mode ≡ OctetsMean t w mode
in_one_piece t w Ber = refl
in_one_piece t w Cer = refl
in_one_piece t w Der = refl

-- ---- writings of what is the same

pub written_as : {M N : Meaning → Type 0} {lacks : Type 0} {a b : Option (List ℕ)} {r : Result (Unit {0}) WriteError} → N ≡ M → WritesEncoding M lacks a b r
    → WritesEncoding N lacks a b r
written_as same f = λ e m. f e (subst (λ (P : Meaning → Type 0). P (Ok e)) same m)

-- a string in one piece
pub whole_is : (t : Tag) (s : StringOctets) (mode : Mode) (w u : List ℕ) → whole w ≡ s → u ≡ w → StringMeans t s mode ≡ OctetsMean t u mode
whole_is t s mode w u is same = ap (λ x. StringMeans t x mode) (sym is) ∙ in_one_piece t w mode ∙ ap (λ x. OctetsMean t x mode) (sym same)

-- a string whose parts are written
pub parts_are : (t : Tag) (s : StringOctets) (mode : Mode) (ps : List (List ℕ)) → (mode ≡ Cer) ⊎ (mode ≡ Der) → ps ≡ parts s
    → StringMeans t s mode ≡ OctetsMean t (concat ps) mode
parts_are t s mode ps form same = by_octets t s mode form ∙ ap (λ x. OctetsMean t x mode) (sym (ap concat same ∙ parts_joined s))

-- a string that is written as it was cut
pub cut_is : (t : Tag) (s : StringOctets) (mode : Mode) (kept : Kept) (ps : List (List ℕ)) → cut kept ps ≡ s → mode ≡ Ber
    → StringMeans t s mode ≡ ValueMeans t (constructed_meaning t mode) (KeptMeans kept mode)
cut_is t s mode kept ps is ber =
    ap (λ x. StringMeans t x mode) (sym is)
    ∙ ap (StringMeans t (cut kept ps)) ber
    ∙ ap (λ x. ValueMeans t (constructed_meaning t x) (KeptMeans kept x)) (sym ber)
