-- A value that was written is taken back.
use Rattle.std.proofs.Common.{◌≡◌, ℕ, zero, suc, ◌+◌, ◌*◌, ◌/◌, ◌%◌, ◌^◌, ◌<◌, ◌≤◌, Bool, true, false, List, [], ◌∷◌, ◌++◌, length, Option, Some}
use Rattle.std.proofs.Common.{None, refl, ap, sym, ◌∙◌, arith, length-append, append_assoc, append-nil, subst, ◌⊎◌, inl, inr}
use Rattle.std.specs.Prelude.{ℤ, pos, negsuc, Result, Ok, Err}
use Rattle.std.proofs.lemmas.Bool.{cases_lt, lt-ltb, le-ltb}
use Rattle.std.proofs.lemmas.List.{append_cancel_left}
use Rattle.bcder.specs.calls.Readers.{AreNot, NoBits}
use Rattle.bcder.specs.declared.mode.Mode.{Mode}
use Rattle.bcder.specs.declared.length.Length.TheVariants.{Definite}
use Rattle.bcder.specs.declared.decode.content.State.TheVariants.{Open}
use Rattle.bcder.specs.declared.decode.error.DecodeError.{DecodeError}
use Rattle.std.specs.Int.{Width, FitsUnsignedBits}
use Rattle.std.specs.Int.RustNames.{FitsSigned}
use Rattle.bcder.specs.x690.Identifier.{universal, Tag, IsValueTag, AreOctets, boolean_tag, integer_tag, null_tag}
use Rattle.bcder.specs.calls.Valued.{tag_of, TakesTree}
use Rattle.bcder.specs.calls.Cause.{cause_of, of_source, of_memory}
use Rattle.bcder.specs.calls.Calls.{Answered}
use Rattle.bcder.specs.calls.Decoding.{IsAllOf, by_closure, left_failed, Decodes, RefusesDecode}
use Rattle.bcder.specs.calls.Encoders.{Writes}
use Rattle.bcder.specs.calls.Stream.{Stream}
use Rattle.std.specs.Borrow.{MutBor}
use Rattle.std.specs.Io.KnownBytes.{Appends}
use Rattle.bcder.specs.x690.Integer.{AreInteger, octet, octets_within, integer_octets}
use Rattle.bcder.specs.x690.Number.{HasMagnitude}
use Rattle.bcder.specs.x690.Tree.{Tree, primitive, constructed}
use Rattle.bcder.specs.x690.Encoding.{IsEncoding}
use Rattle.bcder.specs.x690.Octets.{definite}
use Rattle.bcder.specs.calls.Meaning.{Encoded, Meaning, ContentsMeaning, IsLawfulContents, Exactly, ExactlyOctets}
use Rattle.bcder.specs.calls.Meaning.{truth_octets, fits_primitive, BitsMean, ValueMeans, primitive_encoded, primitive_meaning}
use Rattle.bcder.specs.declared.oid.Oid.{Oid}
use Rattle.bcder.specs.x690.ObjectIdentifier.{IsComplete, identifier_tag}
use Rattle.bcder.specs.declared.encode.error.EncodeError.{EncodeError}
use Rattle.bcder.specs.x690.BitString.{Bits, IsBits, bit_string_tag, as_written, IsBitString}
use Rattle.bcder.specs.calls.Readers.{HoldBits}
use Rattle.bcder.specs.calls.Written.{IsReadBack}
use Rattle.bcder.specs.calls.Content.{Reading, tagged, IsAbsent, IsElsewhere, none_left, other, marker}
use Rattle.bcder.specs.calls.Calls.{OneBy, NextBy, HasNone}
use Rattle.bcder.specs.calls.Readers.{MeanNothing, MeanAnother, NoInteger, NoUnsigned, IsThis, IsSigned, IsUnsigned, IsTruth, IsNull}
use Rattle.bcder.specs.calls.Content as refusals
use Rattle.bcder.specs.calls.Walking.{HasValue}
use Rattle.bcder.specs.calls.Valued.{InPrimitive, RefusesAs, PassesNextBy}
use Rattle.bcder.specs.calls.Written.{StandsIn, SourceFailed, SourceFailedOrNoMemory, AnswersLeaving, TakesBack, IsTakenBackBy, IsTakenBack}
use Rattle.bcder.specs.laws.Complete.{only_at_front, definite_size}
use Rattle.bcder.specs.laws.Integers.{integer_octets_are}
use Rattle.bcder.specs.laws.Meanings.{primitive_lawful, Exactly_lawful, ExactlyOctets_lawful, BitsMean_lawful, truth_octets_are}
use Rattle.bcder.specs.laws.Octets.{AreOctets-nil}
use Rattle.bcder.specs.laws.Written.{primitive_written}
use Rattle.bcder.proofs.Bits.{as_many_octets}
use Rattle.bcder.proofs.WrittenBits.{bits_are, bit_string_read, bit_string_held}
use Rattle.bcder.proofs.Contents.{unsigned_read, signed_read, truth_read, integer_read, natural_read, octets_read}
use Rattle.bcder.proofs.Headers.{front_of_header, no_other_front}
use Rattle.bcder.proofs.Moving.{open_not_ended, open_not_failed}

-- ---- what stands in front

contents_same : (t : Tag) (v w : List ℕ) → ◌≡◌ {A = Tree} (primitive t v) (primitive t w) → v ≡ w
contents_same t v w e = cc

module _ (tag : Tag) (c : Reading) (contents w after : List ℕ) (has : HasValue c (primitive tag contents) w after) where
  -- no other value does
  same_value : (v x y : List ℕ) → HasValue c (primitive tag v) x y → (v ≡ contents) × (y ≡ after)
  same_value v x y h =
      let one = only_at_front c.mode (primitive tag contents) w after has.encodes (primitive tag v) x y h.encodes (sym has.rest ∙ h.rest) in
      let rest : w ++ y ≡ w ++ after = ap (λ z. z ++ y) (sym one.1) ∙ sym h.rest ∙ has.rest in
      (contents_same tag v contents one.0, append_cancel_left w y after rest)

  not_elsewhere : (rest : List ℕ) → IsElsewhere tag c rest → ⊥
  not_elsewhere rest (none_left e l) =
      let size = definite_size c.mode tag false contents w has.encodes.1 in
      omega (arith, size, ap length (sym e ∙ has.rest), length-append w after)
  not_elsewhere rest (other o l) =
      let d = has.encodes.1 in
      let stands = front_of_header c.mode tag false (Definite (length contents)) d.header c.stream.rest (contents ++ after) d.is_header
      (has.rest ∙ ap (λ z. z ++ after) d.is ∙ append_assoc d.header contents after) in
      no_other_front c.mode tag c.stream.rest _ (contents ++ after) stands refl o
  not_elsewhere rest (marker e k m) = has.encodes.1.is_header.is_value_tag.no_end e

  -- a value of the tag is there
  not_none : (d : Reading) → HasNone (tagged tag) c d → ⊥
  not_none d n = absent n.missing.0
    where
      absent : IsAbsent (tagged tag) c d.stream.rest → ⊥
      absent (inl e) = open_not_ended c.state has.usable e.0
      absent (inr e) = not_elsewhere d.stream.rest e.1

-- ---- what is taken

module _ {T X : Type 0} (Fails : Reading → DecodeError X → Reading → Type 0) (tag : Tag) (Means : List ℕ → T → Type 0)
    (Refuses : List ℕ → DecodeError X → Type 0) (mode : Mode) (x : T)
    (source : (c : Reading) (e : DecodeError X) (d : Reading) → SourceFailed c e d → Fails c e d) where
  module _ (contents w after : List ℕ) (encodes : IsEncoding mode (primitive tag contents) w) (no_other : (y : T) → Means contents y → y ≡ x)
      (excused : (c : Reading) (e : DecodeError X) (d : Reading) → Refuses contents e → Fails c e d) (c : Reading) (s : StandsIn mode w after c) where
    has_value : HasValue c (primitive tag contents) w after
    has_value = record { usable = s.usable; encodes = subst (λ m. IsEncoding m (primitive tag contents) w) (sym s.in_mode) encodes; rest = s.rest }

    taken_is : (y : T) (d : Reading) → TakesTree tag (InPrimitive Means) c y d → (y ≡ x) × (d.stream.rest ≡ after) × (d.state ≡ Open)
    taken_is y d t = by_tree t.tree t.octets t.has t.means
      where
        by_tree : (v : Tree) (u : List ℕ) → HasValue c v u d.stream.rest × (tag_of v ≡ tag) → InPrimitive Means v y
            → (y ≡ x) × (d.stream.rest ≡ after) × (d.state ≡ Open)
        by_tree (primitive k b) u h m =
            let same = same_value tag c contents w after has_value b u d.stream.rest
            (subst (λ z. HasValue c (primitive z b) u d.stream.rest) h.1 h.0) in
            (no_other y (subst (λ z. Means z y) same.0 m), same.1, t.stays)
        by_tree (constructed k ts) u h m = absurd m

    refusal_fails : (e : DecodeError X) (d : Reading) → RefusesAs tag Refuses c e d → Fails c e d
    refusal_fails e d (refusals.Refuses.failed f i) = absurd (open_not_failed c.state s.usable f)
    refusal_fails e d (refusals.Refuses.source f g) = source c e d (f, g)
    refusal_fails e d (refusals.Refuses.nothing b i) = absurd (b.value (primitive tag contents) w after tt (has_value, refl) tt)
    refusal_fails e d (refusals.Refuses.otherwise (v, z, rest, h, r)) =
        let same = same_value tag c contents w after has_value v z rest h in
        excused c e d (subst (λ y. Refuses y e) same.0 r)

    one_answers : (r : Result T (DecodeError X)) (d : Reading) → OneBy (tagged tag) (TakesTree tag (InPrimitive Means)) (RefusesAs tag Refuses) c r d → AnswersLeaving Fails x after c r d
    one_answers (Ok y) d t =
        let is = taken_is y d t.value in
        record { value = is.0; rest = is.1; stays = is.2; no_fault = t.no_fault; fails = tt; mode = t.mode; marked = t.marked }
    one_answers (Err e) d t = record {
      value = tt;
      rest = tt;
      stays = tt;
      no_fault = tt;
      fails =
          elim t.refused [ inl n ↦ absurd (not_none tag c contents w after has_value d n.0) | inr n ↦ refusal_fails e d n.1 ];
      mode = t.mode;
      marked = t.marked;
    }

    next_answers : (r : Result (Option T) (DecodeError X)) (d : Reading) → NextBy (tagged tag) (TakesTree tag (InPrimitive Means)) (RefusesAs tag Refuses) c r d → AnswersLeaving Fails (Some x) after c r d
    next_answers (Ok None) d t = absurd (not_none tag c contents w after has_value d t.value)
    next_answers (Ok (Some y)) d t =
        let is = taken_is y d t.value in
        record { value = ap Some is.0; rest = is.1; stays = is.2; no_fault = t.no_fault; fails = tt; mode = t.mode; marked = t.marked }
    next_answers (Err e) d t =
        record { value = tt; rest = tt; stays = tt; no_fault = tt; fails = refusal_fails e d t.refused.1; mode = t.mode; marked = t.marked }

    passed_answers : (r : Result T (DecodeError X)) (d : Reading) → PassesNextBy tag Means Refuses c r d → AnswersLeaving Fails x after c r d
    passed_answers (Ok y) d t = elim t.value [
      | inl v ↦
          (let is = taken_is y d v in record { value = is.0; rest = is.1; stays = is.2; no_fault = t.no_fault; fails = tt; mode = t.mode; marked = t.marked })
      | inr n ↦ absurd (not_none tag c contents w after has_value d n)
    ]
    passed_answers (Err e) d t =
        record { value = tt; rest = tt; stays = tt; no_fault = tt; fails = refusal_fails e d t.refused.1; mode = t.mode; marked = t.marked }

    takes_back : TakesBack Fails tag Means Refuses x after c
    takes_back = record { one = one_answers; next = next_answers; passed = passed_answers }

  -- contents octets that are read back make a value that is taken back
  pub taken_back_by : (C : ContentsMeaning → Type 0) → IsValueTag tag → IsLawfulContents C → (back : IsReadBack C Means x) → length back.contents < 2 ^ 32
      → ((c : Reading) (e : DecodeError X) (d : Reading) → Refuses back.contents e → Fails c e d)
      → IsTakenBackBy Fails tag Means Refuses mode (ValueMeans tag (primitive_meaning tag) C) x
  taken_back_by C value lawful back short excused =
      let encoded : Encoded = primitive_encoded tag back.contents in
      let meant : ◌≡◌ {A = Meaning} (Ok encoded) (primitive_meaning tag (Ok back.contents)) = rw (lt-ltb _ _ short) refl in
      let written : ValueMeans tag (primitive_meaning tag) C (Ok encoded) = inr (value, (Ok back.contents, back.written, meant)) in
      record {
        encoded = encoded;
        written = written;
        only = λ m p. (primitive_lawful tag mode lawful).one.same m (Ok encoded) p written;
        takes = λ c after s. takes_back back.contents (definite tag false back.contents) after
            (primitive_written mode tag back.contents value (lawful.octets back.contents back.written) short) back.no_other excused c s;
      }

pub taken_back : {T X : Type 0} (tag : Tag) (Means : List ℕ → T → Type 0) (mode : Mode) (x : T) (C : ContentsMeaning → Type 0) → IsValueTag tag
    → IsLawfulContents C → (back : IsReadBack C Means x) → length back.contents < 2 ^ 32
    → IsTakenBack X tag Means mode (ValueMeans tag (primitive_meaning tag) C) x
taken_back {T} {X} tag Means mode x C value lawful back short =
    taken_back_by {T = T} {X = X} SourceFailed tag Means (MeanNothing Means) mode x (λ c e d f. f) C value lawful back short
    (λ c e d m. absurd (m.0 x back.read))

-- ---- sizes

short_within : (k j : ℕ) (negative : Bool) (n : ℕ) → n < 128 * 256 ^ j → length (octets_within k negative n) ≤ suc j
short_within zero j negative n h = omega arith
short_within (suc k) zero negative n h = rw (lt-ltb n 128 (omega (arith, h))) (omega arith)
short_within (suc k) (suc j) negative n h = elim (cases_lt n 128) [
  | inl a ↦ rw (lt-ltb n 128 a) (omega arith)
  | inr a ↦ rw (le-ltb n 128 a) (
      let p : 256 ^ suc j ≡ 256 * 256 ^ j = omega arith in
      omega (arith, length-append (octets_within k negative (n / 256)) ((octet negative (n % 256)) ∷ []), short_within k j negative (n / 256) (omega arith)))
]

-- an integer of 128 bits has at most 17 octets
pub short_integer : (z : ℤ) → HasMagnitude z → length (integer_octets z) ≤ 17
unfolding integer_octets
short_integer (pos n) h = short_within n 16 false n (omega (arith, h))
short_integer (negsuc n) h = short_within n 16 true n (omega (arith, h))

-- ---- the values of Rust

-- a tag in the universal class below 31, but for that of end-of-contents octets
universal_value : (n : ℕ) → 1 ≤ n → n ≤ 30 → IsValueTag (record { class = universal; number = n })
universal_value n some few = record { fits = omega (arith, few); no_end = λ e. let z : n ≡ 0 = ap (λ t. t.number) e in omega (arith, z, some) }

exactly_taken : {T X : Type 0} (n : ℕ) (Means : List ℕ → T → Type 0) (mode : Mode) (x : T) (w : List ℕ) → 1 ≤ n → n ≤ 30 → AreOctets w → length w ≤ 17
    → IsReadBack (Exactly w) Means x
    → IsTakenBack X (record { class = universal; number = n }) Means mode
    (ValueMeans (record { class = universal; number = n }) (primitive_meaning (record { class = universal; number = n })) (Exactly w)) x
exactly_taken {T} {X} n Means mode x w some few octets short back =
    taken_back {T = T} {X = X} (record { class = universal; number = n }) Means mode x (Exactly w) (universal_value n some few) (Exactly_lawful w octets) back
    (omega (arith, short, ap length (back.only w refl)))

pub unsigned_taken : {X : Type 0} (bits n : ℕ) (mode : Mode) → FitsUnsignedBits bits (pos n) → n < 2 ^ 128
    → IsTakenBack X integer_tag (IsUnsigned bits) mode (ValueMeans integer_tag (primitive_meaning integer_tag) (Exactly (integer_octets (pos n)))) n
unsigned_taken {X} bits n mode h k = exactly_taken {X = X} 2 (IsUnsigned bits) mode n (integer_octets (pos n)) (omega arith) (omega arith)
    (integer_octets_are (pos n)) (short_integer (pos n) k) (unsigned_read bits n h)

pub signed_taken : {X : Type 0} (w : Width) (z : ℤ) (mode : Mode) → FitsSigned w z → HasMagnitude z
    → IsTakenBack X integer_tag (IsSigned w) mode (ValueMeans integer_tag (primitive_meaning integer_tag) (Exactly (integer_octets z))) z
signed_taken {X} w z mode h k =
    exactly_taken {X = X} 2 (IsSigned w) mode z (integer_octets z) (omega arith) (omega arith) (integer_octets_are z) (short_integer z k) (signed_read w z h)

truth_short : (b : Bool) → length (truth_octets b) ≤ 17
truth_short true = omega arith
truth_short false = omega arith

pub truth_taken : {X : Type 0} (mode : Mode) (b : Bool)
    → IsTakenBack X boolean_tag (IsTruth mode) mode (ValueMeans boolean_tag (primitive_meaning boolean_tag) (Exactly (truth_octets b))) b
truth_taken {X} mode b =
    exactly_taken {X = X} 1 (IsTruth mode) mode b (truth_octets b) (omega arith) (omega arith) (truth_octets_are b) (truth_short b) (truth_read mode b)

pub null_taken : {X : Type 0} (mode : Mode) (x : Unit {0})
    → IsTakenBack X null_tag IsNull mode (ValueMeans null_tag (primitive_meaning null_tag) (Exactly [])) x
null_taken {X} mode x = exactly_taken {X = X} 5 IsNull mode x [] (omega arith) (omega arith) AreOctets-nil (omega arith)
    (record { contents = []; written = refl; only = λ v p. let same : v ≡ [] = cc in same; read = refl; no_other = λ y p. refl })

-- by another reader than one that refuses what means nothing
integer_taken_by : {T X : Type 0} (Fails : Reading → DecodeError X → Reading → Type 0) (Means : List ℕ → T → Type 0) (Refuses : List ℕ → DecodeError X → Type 0)
    (mode : Mode) (x : T) (z : ℤ) → length (integer_octets z) < 2 ^ 32
    → ((c : Reading) (e : DecodeError X) (d : Reading) → SourceFailed c e d → Fails c e d) → (back : IsReadBack (Exactly (integer_octets z)) Means x)
    → ((c : Reading) (e : DecodeError X) (d : Reading) → Refuses back.contents e → Fails c e d)
    → IsTakenBackBy Fails integer_tag Means Refuses mode (ValueMeans integer_tag (primitive_meaning integer_tag) (Exactly (integer_octets z))) x
integer_taken_by {T} {X} Fails Means Refuses mode x z short source back excused =
    taken_back_by {T = T} {X = X} Fails integer_tag Means Refuses mode x source (Exactly (integer_octets z)) (universal_value 2 (omega arith) (omega arith))
    (Exactly_lawful (integer_octets z) (integer_octets_are z)) back (omega (arith, short, ap length (back.only (integer_octets z) refl))) excused

pub skipped_taken : {X : Type 0} (n : ℕ) (mode : Mode) → n < 256 → IsTakenBackBy {X = X} SourceFailed integer_tag (IsThis {T = Unit {0}} 8 n)
    (MeanAnother n) mode (ValueMeans integer_tag (primitive_meaning integer_tag) (Exactly (integer_octets (pos n)))) tt
skipped_taken {X} n mode h =
    let back = unsigned_read 8 n (omega (arith, h)) in
    integer_taken_by {T = Unit {0}} {X = X} SourceFailed (IsThis {T = Unit {0}} 8 n) (MeanAnother n) mode tt (pos n)
    (omega (arith, short_integer (pos n) (omega (arith, h)))) (λ c e d f. f)
    (record { contents = back.contents; written = back.written; only = back.only; read = back.read; no_other = λ y p. refl })
    (λ c e d r. elim r [ inl another ↦ absurd (another.2 (back.no_other another.0 another.1)) | inr none ↦ absurd (none.0 n back.read) ])

-- where a reader wants memory
or_memory : {T X B : Type 0} (Means : List ℕ → T → Type 0) (w : List ℕ) (x : T) → Means w x → (c : Reading) (e : DecodeError X) (d : Reading)
    → MeanNothing Means w e ⊎ (cause_of e ≡ of_memory) × B → SourceFailedOrNoMemory c e d
or_memory Means w x m c e d (inl none) = absurd (none.0 x m)
or_memory Means w x m c e d (inr memory) = inr memory.0

pub integer_taken : {X : Type 0} (z : ℤ) (mode : Mode) → length (integer_octets z) < 2 ^ 32 → IsTakenBackBy {X = X} SourceFailedOrNoMemory integer_tag
    (λ w y. AreInteger y w) NoInteger mode (ValueMeans integer_tag (primitive_meaning integer_tag) (Exactly (integer_octets z))) z
integer_taken {X} z mode short =
    let back = integer_read z in
    integer_taken_by {T = ℤ} {X = X} SourceFailedOrNoMemory (λ w y. AreInteger y w) NoInteger mode z z short (λ c e d f. inl f) back
    (or_memory {X = X} (λ w y. AreInteger y w) back.contents z back.read)

pub natural_taken : {X : Type 0} (n : ℕ) (mode : Mode) → length (integer_octets (pos n)) < 2 ^ 32 → IsTakenBackBy {X = X} SourceFailedOrNoMemory integer_tag
    (λ w m. AreInteger (pos m) w) NoUnsigned mode (ValueMeans integer_tag (primitive_meaning integer_tag) (Exactly (integer_octets (pos n)))) n
natural_taken {X} n mode short =
    let back = natural_read n in
    integer_taken_by {T = ℕ} {X = X} SourceFailedOrNoMemory (λ w m. AreInteger (pos m) w) NoUnsigned mode n (pos n) short (λ c e d f. inl f) back
    (or_memory {X = X} (λ w m. AreInteger (pos m) w) back.contents n back.read)

-- ---- object identifiers

abbrev holds_octets : List ℕ → Oid (List ℕ) → Type 0
holds_octets w y = (y.0 ≡ w) × IsComplete w

same_identifier : (a b : Oid (List ℕ)) → a.0 ≡ b.0 → a ≡ b
same_identifier a b e = rw e refl

pub identifier_taken : {X : Type 0} (y : Oid (List ℕ)) (mode : Mode) → IsComplete y.0 → length y.0 < 2 ^ 32 → AreOctets y.0 → IsTakenBackBy {X = X}
    SourceFailedOrNoMemory identifier_tag holds_octets (AreNot IsComplete) mode (ValueMeans identifier_tag (primitive_meaning identifier_tag) (ExactlyOctets y.0)) y
identifier_taken {X} y mode complete short octets =
    let back = octets_read {T = Oid (List ℕ)} y.0 holds_octets y octets (refl, complete) (λ z p. same_identifier z y p.0) in
    taken_back_by {T = Oid (List ℕ)} {X = X} SourceFailedOrNoMemory identifier_tag holds_octets (AreNot IsComplete) mode y (λ c e d f. inl f) (ExactlyOctets y.0)
    (universal_value 6 (omega arith) (omega arith)) (ExactlyOctets_lawful y.0) back
    (omega (arith, short, ap length (back.only y.0 (refl, octets)))) (λ c e d r. elim r [
      | inl none ↦ absurd (none.0 (back.read.1))
      | inr memory ↦ inr memory.0
    ])

-- ---- bit strings

few_written : (refusal : EncodeError) (mode : Mode) (x : Bits) (c : List ℕ) → BitsMean refusal mode x (Ok c) → length x.octets + 1 < 2 ^ 32 → length c < 2 ^ 32
few_written refusal mode x c m short = omega (arith, ap length (bits_are refusal mode x c m), as_many_octets mode x)

module _ {X : Type 0} (refusal : EncodeError) (mode : Mode) (x : Bits) (is : IsBits x) (octets : AreOctets x.octets)
    (fits : fits_primitive mode (length x.octets + 1) ≡ true) (short : length x.octets + 1 < 2 ^ 32) where
  pub bits_taken : IsTakenBackBy {X = X} SourceFailedOrNoMemory bit_string_tag (IsBitString mode) (NoBits mode) mode
      (ValueMeans bit_string_tag (primitive_meaning bit_string_tag) (BitsMean refusal mode x)) (as_written mode x)
  bits_taken =
      let back = bit_string_read refusal mode x is octets fits in
      taken_back_by {T = Bits} {X = X} SourceFailedOrNoMemory bit_string_tag (IsBitString mode) (NoBits mode) mode (as_written mode x) (λ c e d f. inl f)
      (BitsMean refusal mode x) (universal_value 3 (omega arith) (omega arith)) (BitsMean_lawful refusal mode x) back
      (few_written refusal mode x back.contents back.written short) (λ c e d r. elim r [
        | inl none ↦ absurd (none.0 back.read.1)
        | inr memory ↦ inr memory.0
      ])

  pub bits_skipped : IsTakenBack {T = Unit {0}} X bit_string_tag (HoldBits mode) mode
      (ValueMeans bit_string_tag (primitive_meaning bit_string_tag) (BitsMean refusal mode x)) tt
  bits_skipped =
      let back = bit_string_held refusal mode x is octets fits in
      taken_back {T = Unit {0}} {X = X} bit_string_tag (HoldBits mode) mode tt (BitsMean refusal mode x) (universal_value 3 (omega arith) (omega arith))
      (BitsMean_lawful refusal mode x) back (few_written refusal mode x back.contents back.written short)

-- ---- decoded by a closure that takes one value, from a source that can't fail

module _ {C T X : Type 0} (view : C → Reading) (post : MutBor C → Result T (DecodeError X) → MutBor C → Type 0)
    (no_fault : (e : DecodeError X) → cause_of e ≡ of_source → ⊥) (tag : Tag) (Means : List ℕ → T → Type 0)
    (takes : (p : MutBor C) (r : Result T (DecodeError X)) (q : MutBor C) → post p r q → OneBy (tagged tag) (TakesTree tag (InPrimitive Means)) (RefusesAs tag (MeanNothing Means)) (view p.now) r (view q.now))
    (mode : Mode) (Writes : Meaning → Type 0) (x : T) (back : IsTakenBack X tag Means mode Writes x) (s : Stream) (whole : s.rest ≡ back.encoded.octets) where
  took : (i j : Reading) (r : Result T (DecodeError X)) → Answered {R = Result T (DecodeError X)} view post i r j
      → OneBy (tagged tag) (TakesTree tag (InPrimitive Means)) (RefusesAs tag (MeanNothing Means)) i r j
  took i j r a = subst (λ z. OneBy (tagged tag) (TakesTree tag (InPrimitive Means)) (RefusesAs tag (MeanNothing Means)) z r j) a.handed_is
      (subst (λ z. OneBy (tagged tag) (TakesTree tag (InPrimitive Means)) (RefusesAs tag (MeanNothing Means)) (view a.handed.now) r z) a.left_is (takes a.handed r a.left a.called))

  all_stands : (i : Reading) → IsAllOf s mode i → StandsIn mode back.encoded.octets [] i
  all_stands i o = record { usable = o.state; in_mode = o.mode; rest = ap (λ z. z.rest) o.stream ∙ whole ∙ sym (append-nil back.encoded.octets) }

  answers_all : (i j : Reading) (r : Result T (DecodeError X)) → IsAllOf s mode i → Answered {R = Result T (DecodeError X)} view post i r j
      → AnswersLeaving SourceFailed x [] i r j
  answers_all i j r o a = (back.takes i [] (all_stands i o)).one r j (took i j r a)

  -- what was written is decoded
  pub decoded_is : (y : T) (left : Stream) → Decodes view post s mode y left → y ≡ x
  decoded_is y left d = (answers_all d.handed d.left (Ok y) d.over d.answered).value

  -- and not refused
  pub decoded : (e : DecodeError X) (left : Stream) → RefusesDecode cause_of view post s mode e left → ⊥
  decoded e left d = elim d.refuses [
    | by_closure a ↦ no_fault e ((answers_all d.handed d.left (Err e) d.over a).fails.0)
    | left_failed y a f i ↦ open_not_failed d.left.state ((answers_all d.handed d.left (Ok y) d.over a).stays) f
  ]

-- ---- what a writing left, of values that mean one thing

pub written_whole : (M : Meaning → Type 0) (lacks : Type 0) (old new : Option (List ℕ)) (a : Encoded) → ((m : Meaning) → M m → m ≡ Ok a)
    → Writes (λ (e : Encoded). e.octets) M lacks old new (Ok tt) → Appends old new a.octets
written_whole M lacks old new a only h = elim h.went [
  | inl w ↦
      let same : w.0 ≡ a = (let e : ◌≡◌ {A = Meaning} (Ok w.0) (Ok a) = only (Ok w.0) w.1 in cc) in
      subst (λ (z : Encoded). Appends old new z.octets) same w.2.done
  | inr n ↦ absurd (let e = n.1 in cc)
]
