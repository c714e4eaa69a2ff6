-- A string that was written is taken back.
use Rattle.std.proofs.Common.{◌≡◌, ◌≢◌, ◌≤◌, ◌<◌, ◌^◌, ℕ, zero, suc, Bool, true, false, List, [], ◌++◌, length, Option, Some, None}
use Rattle.std.proofs.Common.{refl, ap, sym, ◌∙◌, arith, length-append, append_assoc, append-nil, subst, inl, inr}
use Rattle.std.specs.List.{concat}
use Rattle.std.proofs.lemmas.Bool.{lt-ltb, le-ltb}
use Rattle.std.specs.Prelude.{Result, Ok, Err}
use Rattle.std.proofs.lemmas.List.{append_cancel_left}
use Rattle.bcder.specs.declared.mode.Mode.{Mode}
use Rattle.bcder.specs.declared.length.Length.{Length}
use Rattle.bcder.specs.declared.length.Length.TheVariants.{Definite, Indefinite}
use Rattle.bcder.specs.declared.decode.content.State.TheVariants.{Open}
use Rattle.bcder.specs.declared.decode.error.DecodeError.{DecodeError}
use Rattle.bcder.specs.declared.mode.Mode.TheVariants.{Ber, Cer, Der}
use Rattle.bcder.specs.x690.Identifier.{Tag, AreOctets, IsValueTag}
use Rattle.bcder.specs.x690.Octets.{definite, enclosed, enclosed_size}
use Rattle.bcder.specs.x690.Tree.{Tree, primitive, constructed, Trees}
use Rattle.bcder.specs.x690.Encoding.{IsHeader, IsFramed, IsEncoding, AreEncodings}
use Rattle.bcder.specs.calls.Captured.{Kept}
use Rattle.bcder.specs.calls.StringOctets.{StringOctets, whole, cut, octets_of, MeansString}
use Rattle.bcder.specs.x690.OctetString.{segments_of, flat, MayBeWhole, IsOctetString, AreSegmented, AreSegmentsIn}
use Rattle.bcder.specs.calls.Meaning.{Encoded, Meaning, fits_enclosed}
use Rattle.bcder.specs.calls.StringMeaning.{full_segments, segments_in_cer, is_cut, OctetsMean, StringMeans}
use Rattle.bcder.specs.calls.Content.{Reading, tagged, IsAbsent, IsElsewhere, none_left, other, marker}
use Rattle.bcder.specs.calls.Walking.{HasValue}
use Rattle.bcder.specs.calls.Calls.{HasNone}
use Rattle.bcder.specs.calls.Valued.{tag_of, TakesTree, TakesNextTree, TakesOneTree, RefusesTree}
use Rattle.bcder.specs.calls.Written.{StandsIn, SourceFailedOrNoMemory}
use Rattle.bcder.specs.calls.Written.{IsWrittenString, HasOctets, HasSomeOctets, AnswersSuch, IsTakenString, IsMadeUp, one_encoded, WrittenAsRead}
use Rattle.bcder.specs.laws.Canonical.{big_endian-lt, one_spelling}
use Rattle.bcder.specs.laws.Complete.{only_at_front, two_octets}
use Rattle.bcder.specs.laws.Lengths.{IsLengthForm-from_length}
use Rattle.bcder.specs.laws.StringMeanings.{segments_encode, StringMeans_lawful}
use Rattle.bcder.specs.laws.Written.{primitive_written, cer_written}
use Rattle.bcder.proofs.Enclosing.{enclosed-length}
use Rattle.bcder.proofs.Headers.{front_of_header, no_other_front}
use Rattle.bcder.proofs.Moving.{open_not_ended, open_not_failed}
use Rattle.bcder.proofs.OneString.{means_flat, one_string, one_string_encoding, over_1000}
use Rattle.bcder.proofs.Segmenting.{by_octets, parts_octets}
use Rattle.bcder.specs.calls.Content as refusals
use Rattle.bcder.proofs.WrittenStrings.{segments_hold, segments_shape, meant_whole, meant_cut, not_ber, string_written}

-- ---- what stands in front

-- the header of a value in front is that of no other tag
header_there : (tag : Tag) (c : Reading) (form : Bool) (len : Length) (header x rest : List ℕ) → IsHeader c.mode tag form len header
    → c.stream.rest ≡ header ++ x → 2 ≤ length c.stream.rest → IsElsewhere tag c rest → ⊥
header_there tag c form len header x rest is_header is some (none_left e l) = omega (arith, some, ap length e)
header_there tag c form len header x rest is_header is some (other o l) =
    no_other_front c.mode tag c.stream.rest _ x (front_of_header c.mode tag form len header c.stream.rest x is_header is) refl o
header_there tag c form len header x rest is_header is some (marker e k m) = is_header.is_value_tag.no_end e

some_there : (c : Reading) (t : Tree) (w after : List ℕ) → HasValue c t w after → 2 ≤ length c.stream.rest
some_there c t w after has = omega (arith, two_octets c.mode t w has.encodes, ap length has.rest, length-append w after)

value_there : (c : Reading) (t : Tree) (w after rest : List ℕ) → HasValue c t w after → IsElsewhere (tag_of t) c rest → ⊥
value_there c (primitive t contents) w after rest has =
    let d = has.encodes.1 in
    header_there t c false (Definite (length contents)) d.header (contents ++ after) rest d.is_header
    (has.rest ∙ ap (λ z. z ++ after) d.is ∙ append_assoc d.header contents after) (some_there c (primitive t contents) w after has)
value_there c (constructed t ts) w after rest has =
    let some = some_there c (constructed t ts) w after has in
    let contents = has.encodes.0 in
    elim has.encodes.2 [
      | inl d ↦ header_there t c true (Definite (length contents)) d.header (contents ++ after) rest d.is_header
          (has.rest ∙ ap (λ z. z ++ after) d.is ∙ append_assoc d.header contents after) some
      | inr d ↦ header_there t c true Indefinite d.header ((contents ++ d.end) ++ after) rest d.is_header
          (has.rest ∙ ap (λ z. z ++ after) d.is ∙ append_assoc d.header (contents ++ d.end) after) some
    ]

-- ---- what an octet string means

meant_by : (mode : Mode) (v : Tree) (w : List ℕ) → IsEncoding mode v w → IsOctetString mode v → (s : StringOctets) × MeansString mode v s
meant_by mode (primitive t contents) w h shape = (whole contents, (shape, refl))
meant_by mode (constructed t ts) w h shape =
    let kept : Kept = record { mode = mode; octets = h.0; start = 0 } in
    (cut kept (segments_of ts), (shape, (kept, refl, h.1, refl)))

-- ---- what is taken

module _ (X : Type 0) (t : Tag) (mode : Mode) (w : List ℕ) (e : Encoded) (written : IsWrittenString t mode w e) (c : Reading) (after : List ℕ)
    (s : StandsIn mode e.octets after c) where
  there : HasValue c written.value e.octets after × (tag_of written.value ≡ t)
  there = (record { usable = s.usable; encodes = subst (λ m. IsEncoding m written.value e.octets) (sym s.in_mode) written.encodes; rest = s.rest }, written.tag)

  taken_is : (y : StringOctets) (d : Reading) → TakesTree t (MeansString c.mode) c y d → (octets_of y ≡ w) × (d.stream.rest ≡ after) × (d.state ≡ Open)
  taken_is y d x =
      let h = x.has.0 in
      let one = only_at_front c.mode written.value e.octets after there.0.encodes x.tree x.octets d.stream.rest h.encodes (sym there.0.rest ∙ h.rest) in
      let rest : e.octets ++ d.stream.rest ≡ e.octets ++ after = ap (λ z. z ++ d.stream.rest) (sym one.1) ∙ sym h.rest ∙ there.0.rest in
      (means_flat c.mode x.tree y x.means.1 ∙ ap flat one.0 ∙ written.octets, append_cancel_left e.octets d.stream.rest after rest, x.stays)

  refusal_fails : (f : DecodeError X) (d : Reading)
      → RefusesTree t (MeansString c.mode) c f d → SourceFailedOrNoMemory c f d
  refusal_fails f d (refusals.failed h i) = absurd (open_not_failed c.state s.usable h)
  refusal_fails f d (refusals.source h g) = inl (h, g)
  refusal_fails f d (refusals.otherwise h) = inr h.0
  refusal_fails f d (refusals.nothing b i) =
      let meant = meant_by c.mode written.value e.octets there.0.encodes (subst (λ m. IsOctetString m written.value) (sym s.in_mode) written.shape) in
      absurd (b.value written.value e.octets after meant.0 there meant.1)

  not_none : (d : Reading) → HasNone (tagged t) c d → ⊥
  not_none d n = absent n.missing.0
    where
      absent : IsAbsent (tagged t) c d.stream.rest → ⊥
      absent (inl h) = open_not_ended c.state s.usable h.0
      absent (inr h) = value_there c written.value e.octets after d.stream.rest there.0 (subst (λ u. IsElsewhere u c d.stream.rest) (sym written.tag) h.1)

  one_taken : (r : Result StringOctets (DecodeError X)) (d : Reading) → TakesOneTree t (MeansString c.mode) c r d → AnswersSuch (HasOctets w) after c r d
  one_taken (Ok y) d x =
      let is = taken_is y d x.value in
      record { value = is.0; rest = is.1; stays = is.2; no_fault = x.no_fault; fails = tt; mode = x.mode; marked = x.marked }
  one_taken (Err f) d x = record {
    value = tt;
    rest = tt;
    stays = tt;
    no_fault = tt;
    fails = elim x.refused [ inl n ↦ absurd (not_none d n.0) | inr n ↦ refusal_fails f d n.1 ];
    mode = x.mode;
    marked = x.marked;
  }

  next_taken : (r : Result (Option StringOctets) (DecodeError X)) (d : Reading) → TakesNextTree t (MeansString c.mode) c r d
      → AnswersSuch (HasSomeOctets w) after c r d
  next_taken (Ok None) d x = absurd (not_none d x.value)
  next_taken (Ok (Some y)) d x =
      let is = taken_is y d x.value in
      record { value = is.0; rest = is.1; stays = is.2; no_fault = x.no_fault; fails = tt; mode = x.mode; marked = x.marked }
  next_taken (Err f) d x = record { value = tt; rest = tt; stays = tt; no_fault = tt; fails = refusal_fails f d x.refused.1; mode = x.mode; marked = x.marked }

pub string_taken : {X : Type 0} (t : Tag) (mode : Mode) (w : List ℕ) (e : Encoded) → IsWrittenString t mode w e → IsTakenString X t mode w e
string_taken {X} t mode w e written = record {
  one = λ c after s. one_taken X t mode w e written c after s;
  next = λ c after s. next_taken X t mode w e written c after s;
}

-- ---- what is read is written back

made_up : (mode : Mode) (t : Tree) (s : StringOctets) (w : List ℕ) → MeansString mode t s → IsEncoding mode t w → IsMadeUp s
made_up mode (primitive t b) s w m k = subst IsMadeUp (sym m.1) k.0
made_up mode (constructed t ts) s w m k =
    let kept = m.1.0 in
    let is_mode = m.1.1 in
    let parts : AreSegmented kept.mode kept.octets (segments_of ts) = record {
      values = ts;
      encode = subst (λ z. AreEncodings z ts kept.octets) (sym is_mode) m.1.2;
      shape = subst (λ z. AreSegmentsIn z ts) (sym is_mode) m.0;
      hold = refl;
    } in
    subst IsMadeUp (sym m.1.3) parts

four_octets : (k : ℕ) → k ≤ 4 → 256 ^ k ≤ 2 ^ 32
four_octets zero h = omega arith
four_octets (suc zero) h = omega arith
four_octets (suc (suc zero)) h = omega arith
four_octets (suc (suc (suc zero))) h = omega arith
four_octets (suc (suc (suc (suc zero)))) h = omega arith
four_octets (suc (suc (suc (suc (suc k))))) h = absurd (omega arith)

-- a header that was read tells fewer than 2^32 contents octets
told_length : (mode : Mode) (t : Tag) (form : Bool) (n : ℕ) (header : List ℕ) → IsHeader mode t form (Definite n) header → n < 2 ^ 32
told_length mode t form n header h = elim (IsLengthForm-from_length mode n h.length_octets h.tells) [
  | inl short ↦ omega (arith, short.0)
  | inr long ↦ (let number = long.number in omega (arith, number, big_endian-lt long.digits long.octets, four_octets (length long.digits) long.limit))
]

not_cut : (mode : Mode) (w : List ℕ) → MayBeWhole mode w → is_cut mode (length w) ≡ false
not_cut Ber w h = refl
not_cut Cer w h = le-ltb 1000 (length w) h
not_cut Der w h = refl

whole_as_read : (mode : Mode) → mode ≢ Ber → (t : Tag) (contents w : List ℕ) → MayBeWhole mode contents → IsEncoding mode (primitive t contents) w
    → OctetsMean t (contents ++ []) mode (Ok (one_encoded (primitive t contents) w))
whole_as_read mode ne t contents w shape k =
    let d = k.1.is_header in
    let few = told_length mode t false (length contents) k.1.header d in
    let same : w ≡ definite t false contents =
    one_spelling mode ne (primitive t contents) w (definite t false contents) k (primitive_written mode t contents d.is_value_tag k.0 few) in
    let meant : OctetsMean t contents mode (Ok (one_encoded (primitive t contents) (definite t false contents))) =
    meant_whole t mode contents d.is_value_tag k.0 few (not_cut mode contents shape) in
    subst (λ u. OctetsMean t u mode (Ok (one_encoded (primitive t contents) w))) (sym (append-nil contents))
    (subst (λ u. OctetsMean t contents mode (Ok (one_encoded (primitive t contents) u))) (sym same) meant)

framed_tag : (mode : Mode) (t : Tag) (contents w : List ℕ) → IsFramed mode t contents w → IsValueTag t
framed_tag mode t contents w (inl d) = d.is_header.is_value_tag
framed_tag mode t contents w (inr d) = d.is_header.is_value_tag

cut_as_read : Cer ≢ Ber → (t : Tag) (ts : Trees) (w : List ℕ) → AreSegmentsIn Cer ts → IsEncoding Cer (constructed t ts) w → length w < 2 ^ 64
    → OctetsMean t (concat (segments_of ts)) Cer (Ok (one_encoded (constructed t ts) w))
cut_as_read ne t ts w shape k short =
    let u : List ℕ = concat (segments_of ts) in
    let inside : Encoded = segments_in_cer u in
    let more : 1000 < length u = over_1000 ts shape in
    let o : AreOctets u = parts_octets Cer k.0 (segments_of ts) (record { values = ts; encode = k.1; shape = shape; hold = refl }) in
    let v : IsValueTag t = framed_tag Cer t k.0 w k.2 in
    let spelled : IsEncoding Cer (constructed t inside.values) (enclosed Cer t inside.octets) =
    cer_written t inside.values inside.octets v (segments_encode (full_segments (length u)) u o (omega arith)) in
    let one : constructed t inside.values ≡ constructed t ts =
    one_string Cer ne (constructed t inside.values) (constructed t ts)
    (segments_shape (full_segments (length u)) u (omega (arith, more)) (omega (arith, more)) (omega (arith, more))) shape refl
    (segments_hold (full_segments (length u)) u) in
    let same : enclosed Cer t inside.octets ≡ w =
    one_spelling Cer ne (constructed t ts) (enclosed Cer t inside.octets) w (subst (λ z. IsEncoding Cer z (enclosed Cer t inside.octets)) one spelled) k in
    let fits : fits_enclosed Cer t (length inside.octets) ≡ true =
    lt-ltb (enclosed_size Cer t (length inside.octets)) (2 ^ 64) (omega (arith, short, ap length same, enclosed-length Cer t inside.octets)) in
    let meant : OctetsMean t u Cer (Ok (one_encoded (constructed t inside.values) (enclosed Cer t inside.octets))) =
    meant_cut t u v o (lt-ltb 1000 (length u) more) fits in
    subst (λ z. OctetsMean t u Cer (Ok (one_encoded z w))) one (subst (λ z. OctetsMean t u Cer (Ok (one_encoded (constructed t inside.values) z))) same meant)

-- the octets of a value that was read mean this value, with the octets that it was read from
meant_as_read : (mode : Mode) → mode ≢ Ber → (t : Tree) (w : List ℕ) → IsOctetString mode t → IsEncoding mode t w → length w < 2 ^ 64
    → OctetsMean (tag_of t) (flat t) mode (Ok (one_encoded t w))
meant_as_read Ber ne t w shape k short = absurd (ne refl)
meant_as_read Der ne (constructed t ts) w shape k short = absurd shape
meant_as_read Der ne (primitive t contents) w shape k short = whole_as_read Der ne t contents w shape k
meant_as_read Cer ne (primitive t contents) w shape k short = whole_as_read Cer ne t contents w shape k
meant_as_read Cer ne (constructed t ts) w shape k short = cut_as_read ne t ts w shape k short

pub written_as_read : (s : StringOctets) → WrittenAsRead s (λ tag. StringMeans tag s)
written_as_read s mode ne t w m k =
    let means : StringMeans (tag_of t) s mode ≡ OctetsMean (tag_of t) (flat t) mode =
    by_octets (tag_of t) s mode (not_ber mode ne) ∙ ap (λ u. OctetsMean (tag_of t) u mode) (means_flat mode t s m.1) in
    let meant : length w < 2 ^ 64 → StringMeans (tag_of t) s mode (Ok (one_encoded t w)) =
    λ short. subst (λ (M : Meaning → Type 0). M (Ok (one_encoded t w))) (sym means) (meant_as_read mode ne t w m.0 k short) in
    record {
      meant = meant;
      only = λ short n h. (StringMeans_lawful (tag_of t) s mode).one.same n (Ok (one_encoded t w)) h (meant short);
      octets = λ e h. let v = string_written (tag_of t) mode s (made_up mode t s w m k) e h in
          one_string_encoding mode ne v.value t e.octets w v.shape m.0 v.tag (v.octets ∙ means_flat mode t s m.1) v.encodes k;
    }
