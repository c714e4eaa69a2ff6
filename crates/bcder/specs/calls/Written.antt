-- What is written is an encoding, and is read back: laws, contracts of functions of `src/laws`.
use Rattle.std.specs.Prelude.{◌≡◌, ◌≢◌, ◌⊎◌, List, ℕ, Option, Result, Ok, Err, ◌++◌, Some, IfOk, IfErr, OnOk, ◌<◌, ◌≤◌, length, ◌^◌}
use Rattle.std.specs.Prelude.{MatchOption}
use Rattle.std.specs.Borrow.{MutBor}
use Rattle.std.specs.Io.KnownBytes.{Appends, Keeps}
use Rattle.std.specs.List.{concat}
use denote.Triple.Both.{Both}
use Rattle.bcder.specs.declared.{encode.error.WriteError.WriteError, mode.Mode.Mode, decode.content.State.TheVariants.Open}
use Rattle.bcder.specs.declared.{decode.error.DecodeError.DecodeError}
use Rattle.bcder.specs.declared.mode.Mode.TheVariants.{Ber, Cer, Der}
use Rattle.bcder.specs.x690.Identifier.{Tag, IsValueTag, AreOctets}
use Rattle.bcder.specs.x690.Tree.{Trees, constructed, Tree, primitive, no_trees, ◌∷ₜ◌}
use Rattle.bcder.specs.x690.Encoding.{IsEncoding, AreEncodings}
use Rattle.bcder.specs.x690.OctetString.{segments_of, flat, IsOctetString, AreSegmented}
use Rattle.bcder.specs.x690.CharSet.{Step}
use Rattle.bcder.specs.calls.Meaning.{Encoded, Meaning, ContentsMeaning}
use Rattle.bcder.specs.calls.Encoders.{AppendsFront, HasEncoding}
use Rattle.bcder.specs.calls.Valued.{tag_of, TakesOneTree, TakesNextTree, TakesOneBy, TakesNextBy, PassesNextBy}
use Rattle.bcder.specs.calls.Cause.{cause_of, of_source, of_memory}
use Rattle.bcder.specs.calls.Stream.{Grew}
use Rattle.bcder.specs.calls.Content.{Reading}
use Rattle.bcder.specs.calls.Readers.{MeanNothing}
use Rattle.bcder.specs.calls.StringOctets.{StringOctets, octets_of, parts, IsStringOf, whole, cut, MeansString}
use Rattle.bcder.specs.calls.StringMeaning.{StringMeans}
use Rattle.bcder.specs.calls.RestrictedString.{MeansRestricted}

-- what M says is an encoding of its values
abbrev pub WritesEncodings : Mode → (Meaning → Type 0) → Type 0
WritesEncodings mode M = (e : Encoded) → M (Ok e) → AreEncodings mode e.values e.octets

-- in CER and DER, what M says is the only encoding of its values
abbrev pub WritesTheOnlyOne : Mode → (Meaning → Type 0) → Type 0
WritesTheOnlyOne mode M = mode ≢ Ber → (e : Encoded) → M (Ok e) → (w : List ℕ) → AreEncodings mode e.values w → w ≡ e.octets

-- ---- one constructed value

-- w is an encoding of a constructed value with the tag
pub record EncodesConstructed (tag : Tag) (mode : Mode) (w : List ℕ) : Type 0 where
  pub values : Trees
  pub encodes : IsEncoding mode (constructed tag values) w

-- an encoding of such a value was appended; if there is none, or the target failed, nothing or a prefix of one
abbrev pub AppendsConstructed : Tag → Mode → Option (List ℕ) → Option (List ℕ) → Result (Unit {0}) WriteError → Type 0
AppendsConstructed tag mode old new (Ok u) = (w : List ℕ) × EncodesConstructed tag mode w × Appends old new w
AppendsConstructed tag mode old new (Err e) = Keeps old new ⊎ ((w : List ℕ) × EncodesConstructed tag mode w × AppendsFront old new w)

-- what the writing of a constructed value with the tag did to the target
pub record WroteConstructed {W : Type 0} (contents : W → Option (List ℕ)) (target : Both (MutBor W) (MutBor W)) (tag : Tag) (mode : Mode)
    (r : Result (Unit {0}) WriteError) : Type 0 where
  pub done : AppendsConstructed tag mode (contents target.entry.now) (contents target.exit.now) r

-- ---- contents octets

-- contents octets are written that are read as x, and as nothing else
pub record IsReadBack {T : Type 0} (Writes : ContentsMeaning → Type 0) (Reads : List ℕ → T → Type 0) (x : T) : Type 0 where
  pub contents : List ℕ
  pub written : Writes (Ok contents)
  pub only : (w : List ℕ) → Writes (Ok w) → w ≡ contents
  pub read : Reads contents x
  pub no_other : (y : T) → Reads contents y → y ≡ x

-- all values in range are written, in each mode, as contents octets that are read as them, and as nothing else
abbrev pub AreReadBack : {T : Type 0} → (T → Type 0) → (T → Mode → ContentsMeaning → Type 0) → (Mode → List ℕ → T → Type 0) → Type 0
AreReadBack InRange writes reads = (mode : Mode) (x : _) → InRange x → IsReadBack (writes x mode) (reads mode) x

-- ---- whole values

-- the octets w come next in open content in the mode, before those of `after`
pub record StandsIn (mode : Mode) (w after : List ℕ) (c : Reading) : Type 0 where
  pub usable : c.state ≡ Open
  pub in_mode : c.mode ≡ mode
  pub rest : c.stream.rest ≡ w ++ after

-- the source failed, and e says so
abbrev pub SourceFailed : {X : Type 0} → Reading → DecodeError X → Reading → Type 0
SourceFailed c e d = (cause_of e ≡ of_source) × Grew c.stream.faults d.stream.faults

-- the source failed, and e says so, or memory ran out
abbrev pub SourceFailedOrNoMemory : {X : Type 0} → Reading → DecodeError X → Reading → Type 0
SourceFailedOrNoMemory c e d = SourceFailed c e d ⊎ (cause_of e ≡ of_memory)

module _ {X : Type 0} (Fails : Reading → DecodeError X → Reading → Type 0) where
  -- x was returned without a fault of the source, and `after` is left of the content, which stays open; or the source failed;
  -- the mode and the mark stay
  pub record AnswersLeaving {T : Type 0} (x : T) (after : List ℕ) (c : Reading) (r : Result T (DecodeError X)) (d : Reading) : Type 0 where
    pub value : IfOk r (λ y. y ≡ x)
    pub rest : OnOk r (d.stream.rest ≡ after)
    pub stays : OnOk r (d.state ≡ Open)
    pub no_fault : OnOk r (d.stream.faults ≡ c.stream.faults)
    pub fails : IfErr r (λ e. Fails c e d)
    pub mode : d.mode ≡ c.mode
    pub marked : d.marked ≡ c.marked

  module _ {T : Type 0} (tag : Tag) (Means : List ℕ → T → Type 0) (Refuses : List ℕ → DecodeError X → Type 0) where
    -- each typed take of c returns x, and leaves `after`
    pub record TakesBack (x : T) (after : List ℕ) (c : Reading) : Type 0 where
      pub one : (r : Result T (DecodeError X)) (d : Reading)
          → TakesOneBy tag Means Refuses c r d → AnswersLeaving x after c r d
      pub next : (r : Result (Option T) (DecodeError X)) (d : Reading)
          → TakesNextBy tag Means Refuses c r d
          → AnswersLeaving (Some x) after c r d
      pub passed : (r : Result T (DecodeError X)) (d : Reading) → PassesNextBy tag Means Refuses c r d → AnswersLeaving x after c r d

    -- one thing is written for x, an encoding; wherever it comes next in content in the mode, x is taken back
    pub record IsTakenBackBy (mode : Mode) (Writes : Meaning → Type 0) (x : T) : Type 0 where
      pub encoded : Encoded
      pub written : Writes (Ok encoded)
      pub only : (m : Meaning) → Writes m → m ≡ Ok encoded
      pub takes : (c : Reading) (after : List ℕ) → StandsIn mode encoded.octets after c → TakesBack x after c

-- x is taken back by a reader that refuses what means nothing, unless the source fails
abbrev pub IsTakenBack : {T : Type 0} → Type 0 → Tag → (List ℕ → T → Type 0) → Mode → (Meaning → Type 0) → T → Type 0
IsTakenBack X tag Means mode Writes x = IsTakenBackBy {X = X} SourceFailed tag Means (MeanNothing Means) mode Writes x

-- all values in range are taken back, in each mode
abbrev pub AreTakenBack : {T : Type 0} → Type 0 → (T → Type 0) → Tag → (Mode → List ℕ → T → Type 0) → (T → Mode → Meaning → Type 0) → Type 0
AreTakenBack X InRange tag means writes = (mode : Mode) (x : _) → InRange x → IsTakenBack X tag (means mode) mode (writes x mode) x

-- ---- octet strings

-- in DER an octet string is primitive (10.2)
abbrev pub PrimitiveInDer : Type 0
PrimitiveInDer = (t : Tree) → IsOctetString Der t → t ≡ primitive (tag_of t) (flat t)

-- in CER an octet string is primitive exactly if it has at most 1000 octets (9.2)
abbrev pub PrimitiveInCer : Type 0
PrimitiveInCer = (t : Tree) → IsOctetString Cer t → (length (flat t) ≤ 1000) × (t ≡ primitive (tag_of t) (flat t))
    ⊎ (1000 < length (flat t)) × (ts : Trees) × (t ≡ constructed (tag_of t) ts)

-- in CER and DER two octet strings with the same tag and octets are the same value
abbrev pub OneString : Type 0
OneString = (mode : Mode) → mode ≢ Ber → (t u : Tree) → IsOctetString mode t → IsOctetString mode u → tag_of t ≡ tag_of u
    → flat t ≡ flat u → t ≡ u

-- in CER and DER two octet strings with the same tag and octets are encoded by the same octets
abbrev pub OneStringEncoding : Type 0
OneStringEncoding = (mode : Mode) → mode ≢ Ber → (t u : Tree) (v w : List ℕ) → IsOctetString mode t → IsOctetString mode u
    → tag_of t ≡ tag_of u → flat t ≡ flat u → IsEncoding mode t v → IsEncoding mode u w → v ≡ w

-- the parts of a string, joined, are its octets
abbrev pub PartsJoin : Type 0
PartsJoin = (s : StringOctets) → concat (parts s) ≡ octets_of s

-- the octet string that a value means has the octets of the value
abbrev pub MeansFlat : Type 0
MeansFlat = (mode : Mode) (t : Tree) (s : StringOctets) → IsStringOf mode t s → octets_of s ≡ flat t

-- if a value is cut into segments, these are the parts of the octet string that it means
abbrev pub MeansSegments : Type 0
MeansSegments = (mode : Mode) (tag : Tag) (ts : Trees) (s : StringOctets) → IsStringOf mode (constructed tag ts) s
    → parts s ≡ segments_of ts

-- ---- octet strings that are written

-- e is one value with the tag: an octet string in the mode, with these octets
pub record IsWrittenString (t : Tag) (mode : Mode) (w : List ℕ) (e : Encoded) : Type 0 where
  pub value : Tree
  pub alone : e.values ≡ value ∷ₜ no_trees
  pub encodes : IsEncoding mode value e.octets
  pub tag : tag_of value ≡ t
  pub shape : IsOctetString mode value
  pub octets : flat value ≡ w

-- what M says is one value with the tag, an octet string in the mode with these octets
abbrev pub WritesString : Tag → Mode → List ℕ → (Meaning → Type 0) → Type 0
WritesString t mode w M = (e : Encoded) → M (Ok e) → IsWrittenString t mode w e

-- the number of contents octets of a string: in BER one that was cut is written with its segments as they came
abbrev pub contents_count : Mode → StringOctets → ℕ
contents_count Ber (cut kept ps) = length kept.octets
contents_count mode s = length (octets_of s)

-- what M says is an encoding, if a value may have the tag, for fewer than 2^32 contents octets
abbrev pub WritesShort : Tag → ℕ → (Meaning → Type 0) → Type 0
WritesShort t n M = IsValueTag t → n < 2 ^ 32 → HasEncoding M

-- in CER and DER the octets alone determine what is written
abbrev pub WritesAlike : Tag → Mode → StringOctets → StringOctets → Type 0
WritesAlike t mode r s = mode ≢ Ber → octets_of r ≡ octets_of s → (m : Meaning) → StringMeans t r mode m → StringMeans t s mode m

-- what a string is made of: octets, which are those of the segments that it was cut into
abbrev pub IsMadeUp : StringOctets → Type 0
IsMadeUp (whole w) = AreOctets w
IsMadeUp (cut kept ps) = AreSegmented kept.mode kept.octets ps

-- ---- read back

-- a string with these octets
abbrev pub HasOctets : List ℕ → StringOctets → Type 0
HasOctets w s = octets_of s ≡ w

abbrev pub HasSomeOctets : List ℕ → Option StringOctets → Type 0
HasSomeOctets w o = MatchOption o ⊥ (λ s. HasOctets w s)

-- what P says was returned without a fault of the source, and `after` is left of the content, which stays open;
-- or the source failed, or memory ran out
pub record AnswersSuch {T X : Type 0} (P : T → Type 0) (after : List ℕ) (c : Reading) (r : Result T (DecodeError X))
    (d : Reading) : Type 0 where
  pub value : IfOk r P
  pub rest : OnOk r (d.stream.rest ≡ after)
  pub stays : OnOk r (d.state ≡ Open)
  pub no_fault : OnOk r (d.stream.faults ≡ c.stream.faults)
  pub fails : IfErr r (λ e. SourceFailedOrNoMemory c e d)
  pub mode : d.mode ≡ c.mode
  pub marked : d.marked ≡ c.marked

-- wherever what is meant comes next in content in the mode, a take of a string with the tag returns one with these octets,
-- and leaves what follows
pub record IsTakenString (X : Type 0) (t : Tag) (mode : Mode) (w : List ℕ) (e : Encoded) : Type 0 where
  pub one : (c : Reading) (after : List ℕ) → StandsIn mode e.octets after c → (r : Result StringOctets (DecodeError X)) (d : Reading)
      → TakesOneTree t (MeansString c.mode) c r d → AnswersSuch (HasOctets w) after c r d
  pub next : (c : Reading) (after : List ℕ) → StandsIn mode e.octets after c → (r : Result (Option StringOctets) (DecodeError X))
      (d : Reading) → TakesNextTree t (MeansString c.mode) c r d → AnswersSuch (HasSomeOctets w) after c r d

-- ---- written as it was read

-- one value with these octets
abbrev pub one_encoded : Tree → List ℕ → Encoded
one_encoded t w = record { values = t ∷ₜ no_trees; octets = w }

-- what M says is the value t with the octets w, and nothing else, if these are fewer than 2^64; and in no case other octets
pub record IsAsRead (t : Tree) (w : List ℕ) (M : Meaning → Type 0) : Type 0 where
  pub meant : length w < 2 ^ 64 → M (Ok (one_encoded t w))
  pub only : length w < 2 ^ 64 → (m : Meaning) → M m → m ≡ Ok (one_encoded t w)
  pub octets : (e : Encoded) → M (Ok e) → e.octets ≡ w

-- if the string s was read in CER or DER, an encoder of it writes, under its tag, what was read
abbrev pub WrittenAsRead : StringOctets → (Tag → Mode → Meaning → Type 0) → Type 0
WrittenAsRead s means =
    (mode : Mode) → mode ≢ Ber → (t : Tree) (w : List ℕ) → MeansString mode t s → IsEncoding mode t w → IsAsRead t w (means (tag_of t) mode)

-- ---- restricted strings

-- wherever what is meant comes next in content in the mode, a take of a string of the set with the tag returns one with these octets,
-- and leaves what follows
pub record IsTakenRestricted (X : Type 0) (step : Step) (t : Tag) (mode : Mode) (w : List ℕ) (e : Encoded) : Type 0 where
  pub one : (c : Reading) (after : List ℕ) → StandsIn mode e.octets after c → (r : Result StringOctets (DecodeError X)) (d : Reading)
      → TakesOneTree t (MeansRestricted step c.mode) c r d → AnswersSuch (HasOctets w) after c r d
  pub next : (c : Reading) (after : List ℕ) → StandsIn mode e.octets after c → (r : Result (Option StringOctets) (DecodeError X))
      (d : Reading) → TakesNextTree t (MeansRestricted step c.mode) c r d → AnswersSuch (HasSomeOctets w) after c r d

-- if the string s of the set was read in CER or DER, an encoder of it writes, under its tag, what was read
abbrev pub WrittenAsReadOf : Step → StringOctets → (Tag → Mode → Meaning → Type 0) → Type 0
WrittenAsReadOf step s means = (mode : Mode) → mode ≢ Ber → (t : Tree) (w : List ℕ)
    → MeansRestricted step mode t s → IsEncoding mode t w → IsAsRead t w (means (tag_of t) mode)

-- in CER and DER, two strings of the set with the same tag and octets are one value with one encoding
abbrev pub OneRestricted : Step → Type 0
OneRestricted step = (mode : Mode) → mode ≢ Ber → (t u : Tree) (r s : StringOctets) → MeansRestricted step mode t r
    → MeansRestricted step mode u s → tag_of t ≡ tag_of u → octets_of r ≡ octets_of s
    → (t ≡ u) × ((v w : List ℕ) → IsEncoding mode t v → IsEncoding mode u w → v ≡ w)
