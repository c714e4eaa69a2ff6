-- What is written of an octet string is one.
use Rattle.std.proofs.Common.{◌≡◌, ◌≢◌, ℕ, zero, suc, ◌+◌, ◌-◌, ◌*◌, ◌/◌, ◌%◌, ◌^◌, ◌<◌, ◌≤◌, Bool, true, false, List, [], ◌∷◌, ◌++◌, length}
use Rattle.std.proofs.Common.{take, drop, Ok, Err, refl, sym, ap, ◌∙◌, subst, append-nil, inl, inr, arith, ltb-true, ◌⊎◌}
use Rattle.std.specs.Prelude.{nat_lt, if◌then◌else◌}
use Rattle.std.specs.List.{concat}
use Rattle.std.proofs.lemmas.Bool.{lt-ltb, cases_lt}
use Rattle.std.proofs.lemmas.List.{length-take-le, length-drop, take-append-drop}
use Rattle.bcder.specs.declared.encode.error.EncodeError.TheVariants.{LengthTooLarge}
use Rattle.bcder.specs.declared.length.Length.TheVariants.{Indefinite}
use Rattle.bcder.specs.declared.mode.Mode.{Mode}
use Rattle.bcder.specs.declared.mode.Mode.TheVariants.{Ber, Cer, Der}
use Rattle.bcder.specs.x690.Identifier.{Tag, AreOctets, IsValueTag}
use Rattle.bcder.specs.x690.Octets.{definite_length, enclosed_size}
use Rattle.bcder.specs.x690.Tree.{Tree, primitive, constructed, Trees, no_trees, ◌∷ₜ◌}
use Rattle.bcder.specs.x690.Encoding.{AreEncodings}
use Rattle.bcder.specs.calls.Captured.{Kept}
use Rattle.bcder.specs.calls.Encoders.{HasEncoding}
use Rattle.bcder.specs.calls.Gathered.{suits, KeptMeans}
use Rattle.bcder.specs.calls.StringOctets.{StringOctets, whole, cut, octets_of}
use Rattle.bcder.specs.x690.OctetString.{segments_of, flat, MayBeWhole, FollowFull, AreSegments, AreSegmentsIn, IsOctetString, AreSegmented}
use Rattle.bcder.specs.calls.Meaning.{Encoded, Meaning, IsLawful, ValueMeans, primitive_meaning, constructed_meaning}
use Rattle.bcder.specs.calls.Meaning.{primitive_encoded, constructed_encoded, fits_enclosed, enclosed_refusal}
use Rattle.bcder.specs.calls.StringMeaning.{full_segments, segmented, segments_in_cer, is_cut, string_meaning, OctetsMean, StringMeans, WrappedMeans}
use Rattle.bcder.specs.calls.Written.{IsWrittenString, WritesString, WritesShort, contents_count, WritesAlike, IsMadeUp}
use Rattle.bcder.specs.calls.Valued.{tag_of}
use Rattle.bcder.specs.laws.Complete.{one_list}
use Rattle.bcder.specs.laws.StringMeanings.{OctetsMean_lawful, StringMeans_lawful}
use Rattle.bcder.specs.steps.Segmenting.{segments_size}
use Rattle.bcder.proofs.Beginnings.{identifier_size}
use Rattle.bcder.proofs.Enclosing.{inside_of, constructed_given, header-length}
use Rattle.bcder.proofs.Segmenting.{by_octets, segments-length, parts_octets}
use Rattle.bcder.proofs.Wrapping.{wrapped_given, wrapped_taken, lawful_octets}
use Rattle.bcder.proofs.Writes.{one_of}

-- ---- segments

-- they hold the octets
pub segments_hold : (n : ℕ) (w : List ℕ) → concat (segments_of (segmented n w).values) ≡ w
segments_hold zero w = append-nil w
segments_hold (suc n) w = ap (λ l. take 1000 w ++ l) (segments_hold n (drop 1000 w)) ∙ take-append-drop 1000 w

-- and behind one of 1000 octets they have the form that CER asks for
segments_follow : (n : ℕ) (w : List ℕ) → 1000 * n < length w → length w ≤ 1000 * n + 1000 → FollowFull (segmented n w).values
segments_follow zero w some few = (refl, (omega arith, omega arith))
segments_follow (suc zero) w some few =
    ((refl, length-take-le 1000 w (omega arith)), segments_follow zero (drop 1000 w) (omega (arith, length-drop 1000 w)) (omega (arith, length-drop 1000 w)))
segments_follow (suc (suc n)) w some few =
    ((refl, length-take-le 1000 w (omega arith)), segments_follow (suc n) (drop 1000 w) (omega (arith, length-drop 1000 w)) (omega (arith, length-drop 1000 w)))

pub segments_shape : (n : ℕ) (w : List ℕ) → 1 ≤ n → 1000 * n < length w → length w ≤ 1000 * n + 1000 → AreSegmentsIn Cer (segmented n w).values
segments_shape zero w more some few = absurd (omega arith)
segments_shape (suc n) w more some few =
    ((refl, length-take-le 1000 w (omega arith)), segments_follow n (drop 1000 w) (omega (arith, length-drop 1000 w)) (omega (arith, length-drop 1000 w)))

-- ---- what has an encoding

pub meant_whole : (t : Tag) (mode : Mode) (w : List ℕ) → IsValueTag t → AreOctets w → length w < 2 ^ 32 → is_cut mode (length w) ≡ false
    → OctetsMean t w mode (Ok (primitive_encoded t w))
meant_whole t mode w v o short is = inr (v, (Ok w, (refl, o), rw (is, lt-ltb (length w) (2 ^ 32) short) refl))

pub meant_cut : (t : Tag) (w : List ℕ) → IsValueTag t → AreOctets w → is_cut Cer (length w) ≡ true
    → fits_enclosed Cer t (length (segments_in_cer w).octets) ≡ true → OctetsMean t w Cer (Ok (constructed_encoded Cer t (segments_in_cer w)))
meant_cut t w v o is fits = inr (v, (Ok w, (refl, o), rw (is, fits) refl))

at_most_five : (a b c d : Bool) (u v x y z : List ℕ) → length u ≤ 5 → length v ≤ 5 → length x ≤ 5 → length y ≤ 5 → length z ≤ 5
    → length (if a then u else if b then v else if c then x else if d then y else z) ≤ 5
at_most_five true b c d u v x y z h k l m n = h
at_most_five false true c d u v x y z h k l m n = k
at_most_five false false true d u v x y z h k l m n = l
at_most_five false false false true u v x y z h k l m n = m
at_most_five false false false false u v x y z h k l m n = n

few_length_octets : (n : ℕ) → length (definite_length n) ≤ 5
unfolding definite_length
few_length_octets n = at_most_five (nat_lt n 0x80) (nat_lt n 0x100) (nat_lt n 0x10000) (nat_lt n 0x1000000)
    (n ∷ []) (0x81 ∷ n ∷ []) (0x82 ∷ (n / 0x100) ∷ (n % 0x100) ∷ []) (0x83 ∷ (n / 0x10000) ∷ (n / 0x100 % 0x100) ∷ (n % 0x100) ∷ [])
    (0x84 ∷ (n / 0x1000000) ∷ (n / 0x10000 % 0x100) ∷ (n / 0x100 % 0x100) ∷ (n % 0x100) ∷ []) (omega arith) (omega arith) (omega arith) (omega arith)
    (omega arith)

-- segments of fewer than 2^32 octets fit a value
segments_fit : (t : Tag) (n : ℕ) → n < 2 ^ 32 → fits_enclosed Cer t (segments_size n) ≡ true
segments_fit t n short =
    lt-ltb (enclosed_size Cer t (segments_size n)) (2 ^ 64)
    (omega (arith, short, header-length t true Indefinite, identifier_size t true, few_length_octets (n - 1000 * full_segments n)))

meant_at : (t : Tag) (mode : Mode) (w : List ℕ) (b : Bool) → is_cut mode (length w) ≡ b → IsValueTag t → AreOctets w → length w < 2 ^ 32
    → HasEncoding (OctetsMean t w mode)
meant_at t mode w false is v o short = (primitive_encoded t w, meant_whole t mode w v o short is)
meant_at t Cer w true is v o short =
    (constructed_encoded Cer t (segments_in_cer w), meant_cut t w v o is (ap (fits_enclosed Cer t) (segments-length w) ∙ segments_fit t (length w) short))
meant_at t Ber w true is v o short = cc
meant_at t Der w true is v o short = cc

pub octets_meant : (t : Tag) (mode : Mode) (w : List ℕ) → AreOctets w → WritesShort t (length w) (OctetsMean t w mode)
octets_meant t mode w o v short = meant_at t mode w (is_cut mode (length w)) refl v o short

all_suit_ber : (mode : Mode) → suits mode Ber ≡ true
all_suit_ber Ber = refl
all_suit_ber Cer = refl
all_suit_ber Der = refl

pub string_meant : (t : Tag) (mode : Mode) (s : StringOctets) → IsMadeUp s → WritesShort t (contents_count mode s) (StringMeans t s mode)
string_meant t Ber (whole w) made = octets_meant t Ber w made
string_meant t Cer (whole w) made = octets_meant t Cer w made
string_meant t Der (whole w) made = octets_meant t Der w made
string_meant t Ber (cut kept ps) made =
    let inside : Encoded = record { values = made.values; octets = kept.octets } in
    λ v short. (
      constructed_encoded Ber t inside,
      constructed_given t Ber (KeptMeans kept Ber) inside (all_suit_ber kept.mode, made.encode, refl)
          (lt-ltb (length kept.octets) (2 ^ 32) short) v,
    )
string_meant t Cer (cut kept ps) made = octets_meant t Cer (concat ps) (parts_octets kept.mode kept.octets ps made)
string_meant t Der (cut kept ps) made = octets_meant t Der (concat ps) (parts_octets kept.mode kept.octets ps made)

-- ---- octets by themselves

may_be_whole : (mode : Mode) (w : List ℕ) → is_cut mode (length w) ≡ false → MayBeWhole mode w
may_be_whole Ber w is = tt
may_be_whole Der w is = tt
may_be_whole Cer w is = elim (cases_lt 1000 (length w)) [
  | inl more ↦ absurd (let t = lt-ltb 1000 (length w) more in cc)
  | inr few ↦ few
]

module _ (t : Tag) (mode : Mode) (w : List ℕ) (e : Encoded) (encodes : AreEncodings mode e.values e.octets) where
  written_value : (value : Tree) → e.values ≡ value ∷ₜ no_trees → tag_of value ≡ t → IsOctetString mode value → flat value ≡ w → IsWrittenString t mode w e
  written_value value alone tag shape octets = record {
    value = value;
    alone = alone;
    encodes = one_of mode value e.octets (subst (λ vs. AreEncodings mode vs e.octets) alone encodes);
    tag = tag;
    shape = shape;
    octets = octets;
  }

  written_whole : (b : Bool) → is_cut mode (length w) ≡ false → Ok e ≡ (if b then Ok (primitive_encoded t w) else Err LengthTooLarge)
      → IsWrittenString t mode w e
  written_whole false is eq = cc
  written_whole true is eq =
      let same : e ≡ primitive_encoded t w = cc in
      written_value (primitive t w) (ap (λ (x : Encoded). x.values) same) refl (may_be_whole mode w is) (append-nil w)

cut_at : (t : Tag) (w : List ℕ) (e : Encoded) (b : Bool) → 1000 < length w → AreEncodings Cer e.values e.octets
    → Ok e ≡ (if b then Ok (constructed_encoded Cer t (segments_in_cer w)) else Err (enclosed_refusal Cer)) → IsWrittenString t Cer w e
cut_at t w e false more encodes eq = cc
cut_at t w e true more encodes eq =
    let inside = segments_in_cer w in
    let same : e ≡ constructed_encoded Cer t inside = cc in
    written_value t Cer w e encodes (constructed t inside.values) (ap (λ (x : Encoded). x.values) same) refl
    (segments_shape (full_segments (length w)) w (omega arith) (omega arith) (omega arith)) (segments_hold (full_segments (length w)) w)

string_at : (t : Tag) (mode : Mode) (w : List ℕ) (e : Encoded) (b : Bool) → is_cut mode (length w) ≡ b → AreEncodings mode e.values e.octets
    → Ok e ≡ (if b then constructed_meaning t Cer (Ok (segments_in_cer w)) else primitive_meaning t (Ok w)) → IsWrittenString t mode w e
string_at t mode w e false is encodes eq = written_whole t mode w e encodes (nat_lt (length w) (2 ^ 32)) is eq
string_at t Cer w e true is encodes eq = cut_at t w e (fits_enclosed Cer t (length (segments_in_cer w).octets)) (ltb-true _ _ is) encodes eq
string_at t Ber w e true is encodes eq = cc
string_at t Der w e true is encodes eq = cc

means_string : (t : Tag) (mode : Mode) (w : List ℕ) (e : Encoded) → AreEncodings mode e.values e.octets → OctetsMean t w mode (Ok e)
    → IsWrittenString t mode w e
means_string t mode w e encodes (inl p) = cc
means_string t mode w e encodes (inr (v, (c, (is, o), eq))) = string_at t mode w e (is_cut mode (length w)) refl encodes (eq ∙ ap (string_meaning t mode) is)

pub octets_written : (t : Tag) (mode : Mode) (w : List ℕ) → WritesString t mode w (OctetsMean t w mode)
octets_written t mode w e m = means_string t mode w e ((OctetsMean_lawful t w mode).encodes e m) m

-- ---- a string

-- segments of any of the sets of rules are segments in BER
pieces_segments : (ts : Trees) → FollowFull ts → AreSegments ts
pieces_segments no_trees h = absurd h
pieces_segments (primitive t w ∷ₜ no_trees) h = (h.0, tt)
pieces_segments (constructed t us ∷ₜ no_trees) h = absurd h
pieces_segments (primitive t w ∷ₜ (u ∷ₜ us)) h = (h.0.0, pieces_segments (u ∷ₜ us) h.1)
pieces_segments (constructed t vs ∷ₜ (u ∷ₜ us)) h = absurd h.0

segments_in_ber : (mode : Mode) (ts : Trees) → AreSegmentsIn mode ts → AreSegments ts
segments_in_ber Ber ts h = h
segments_in_ber Der ts h = absurd h
segments_in_ber Cer no_trees h = absurd h
segments_in_ber Cer (primitive t w ∷ₜ ts) h = (h.0.0, pieces_segments ts h.1)
segments_in_ber Cer (constructed t us ∷ₜ ts) h = absurd h.0

cut_written : (t : Tag) (kept : Kept) (ps : List (List ℕ)) → AreSegmented kept.mode kept.octets ps
    → WritesString t Ber (concat ps) (ValueMeans t (constructed_meaning t Ber) (KeptMeans kept Ber))
cut_written t kept ps made e m =
    let inside = inside_of t Ber (KeptMeans kept Ber) e m in
    let same = one_list kept.mode inside.values.values made.values kept.octets inside.meant.1 made.encode in
    let encodes = (StringMeans_lawful t (cut kept ps) Ber).encodes e m in
    written_value t Ber (concat ps) e encodes (constructed t inside.values.values) (ap (λ (x : Encoded). x.values) inside.is) refl
    (subst AreSegments (sym same) (segments_in_ber kept.mode made.values made.shape))
    (ap (λ ts. concat (segments_of ts)) same ∙ ap concat made.hold)

pub string_written : (t : Tag) (mode : Mode) (s : StringOctets) → IsMadeUp s → WritesString t mode (octets_of s) (StringMeans t s mode)
string_written t Ber (whole w) made = octets_written t Ber w
string_written t Cer (whole w) made = octets_written t Cer w
string_written t Der (whole w) made = octets_written t Der w
string_written t Ber (cut kept ps) made = cut_written t kept ps made
string_written t Cer (cut kept ps) made = octets_written t Cer (concat ps)
string_written t Der (cut kept ps) made = octets_written t Der (concat ps)

pub not_ber : (mode : Mode) → mode ≢ Ber → (mode ≡ Cer) ⊎ (mode ≡ Der)
not_ber Ber ne = absurd (ne refl)
not_ber Cer ne = inl refl
not_ber Der ne = inr refl

pub written_alike : (t : Tag) (mode : Mode) (r s : StringOctets) → WritesAlike t mode r s
written_alike t mode r s ne same m h =
    let form = not_ber mode ne in
    let is = by_octets t r mode form ∙ ap (λ w. OctetsMean t w mode) same ∙ sym (by_octets t s mode form) in
    subst (λ (M : Meaning → Type 0). M m) is h

-- ---- what is wrapped

pub wrapped_written : (t : Tag) (mode inner : Mode) (M : Meaning → Type 0) → IsLawful inner M → (x : Encoded) → M (Ok x)
    → WritesString t mode x.octets (WrappedMeans t mode M)
wrapped_written t mode inner M lawful x holds e m =
    octets_written t mode x.octets e (wrapped_taken t mode M lawful.one x holds (lawful_octets inner lawful x holds) (Ok e) m)

pub wrapped_meant : (t : Tag) (mode inner : Mode) (M : Meaning → Type 0) → IsLawful inner M → (x : Encoded) → M (Ok x)
    → WritesShort t (length x.octets) (WrappedMeans t mode M)
wrapped_meant t mode inner M lawful x holds v short =
    let e = octets_meant t mode x.octets (lawful_octets inner lawful x holds) v short in
    (e.0, wrapped_given t mode M x holds (Ok e.0) e.1)
