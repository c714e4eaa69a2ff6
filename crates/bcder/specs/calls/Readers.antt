-- What readers of contents octets say, by what the octets mean.
use Rattle.std.specs.Prelude.{◌≡◌, ◌≢◌, ◌⊎◌, ◌<◌, ℕ, ℤ, pos, Bool, List, [], length, Some, Result, Ok, Err, IfOk, IfErr, OnOk, OnErr}
use Rattle.std.specs.Prelude.{IsErrAnd, ◌∷◌, drop, min, Option, MatchOption}
use Rattle.std.specs.Borrow.{MutBor}
use Rattle.std.specs.Int.{Width, FitsUnsignedBits}
use Rattle.std.specs.Int.RustNames.{FitsSigned}
use denote.Triple.Both.{Both}
use Rattle.bcder.specs.declared.{mode.Mode.Mode, decode.content.Primitive.Primitive, decode.content.Content.Content}
use Rattle.bcder.specs.declared.{decode.error.ContentError.ContentError, decode.error.ContentError.TheVariants.ExpectedInteger}
use Rattle.bcder.specs.declared.{decode.error.DecodeError.DecodeError}
use Rattle.bcder.specs.x690.Integer.{AreInteger, truth}
use Rattle.bcder.specs.x690.Number.{IsNumber}
use Rattle.bcder.specs.x690.BitString.{BitShape}
use Rattle.bcder.specs.x690.ObjectIdentifier.{IsComplete}
use Rattle.bcder.specs.calls.Cause.{cause_of, of_source, of_content, of_memory, IsRefusal, MatchCause}
use Rattle.bcder.specs.calls.Stream.{Stream, Grew}
use Rattle.bcder.specs.calls.Content.{Reading, Octets, Falls}
use Rattle.bcder.specs.calls.Views.{of_primitive, content_before, content_after}
use Rattle.bcder.specs.calls.Calls.{Returns}

-- ---- what contents octets mean

-- a number of a signed type
abbrev pub IsSigned : Width → List ℕ → ℤ → Type 0
IsSigned w = IsNumber (λ x. x) (FitsSigned w)

-- a number of an unsigned type of this many bits
abbrev pub IsUnsigned : ℕ → List ℕ → ℕ → Type 0
IsUnsigned bits = IsNumber pos (FitsUnsignedBits bits)

-- a boolean (8.2, 11.1)
abbrev pub IsTruth : Mode → List ℕ → Bool → Type 0
IsTruth mode w x = truth mode w ≡ Some x

-- null, which has no contents octets (8.8.2)
abbrev pub IsNull : {T : Type 0} → List ℕ → T → Type 0
IsNull w x = w ≡ []

-- this number, of an unsigned type
abbrev pub IsThis : {T : Type 0} → ℕ → ℕ → List ℕ → T → Type 0
IsThis bits n w x = IsUnsigned bits w n

-- ---- reading them

-- why contents octets were not read, with error e: the source failed, too few came, or they were refused
pub data RefusesReading {X : Type 0} (RefusesOctets : List ℕ → DecodeError X → Type 0) (c : Reading) (e : DecodeError X)
    (d : Reading) : Type 0 where
  source : cause_of e ≡ of_source → Grew c.stream.faults d.stream.faults → RefusesReading RefusesOctets c e d
  few : ((n : ℕ) → c.owed ≡ Some n → length c.stream.rest < n) → IsRefusal e → d.stream.faults ≡ c.stream.faults
      → RefusesReading RefusesOctets c e d
  refused : c.owed ≡ Some (length c.stream.rest) → RefusesOctets c.stream.rest e → d.stream.faults ≡ c.stream.faults
      → RefusesReading RefusesOctets c e d

-- the octets mean nothing
abbrev pub MeanNothing : {T X : Type 0} → (List ℕ → T → Type 0) → List ℕ → DecodeError X → Type 0
MeanNothing Means w e = ((x : _) → Means w x → ⊥) × IsRefusal e

-- the octets are not those of an integer, or memory ran out for them
abbrev pub NoInteger : {X : Type 0} → List ℕ → DecodeError X → Type 0
NoInteger w e = MeanNothing (λ v z. AreInteger z v) w e ⊎ (cause_of e ≡ of_memory) × ((z : ℤ) × AreInteger z w)

-- the octets are not what P says, or they are and memory ran out for them
abbrev pub AreNot : {X : Type 0} → (List ℕ → Type 0) → List ℕ → DecodeError X → Type 0
AreNot P w e = (P w → ⊥) × IsRefusal e ⊎ (cause_of e ≡ of_memory) × P w

-- the octets are not those of a bit string in the mode, or memory ran out for them
abbrev pub NoBits : {X : Type 0} → Mode → List ℕ → DecodeError X → Type 0
NoBits mode w e = (BitShape mode w → ⊥) × IsRefusal e ⊎ (cause_of e ≡ of_memory) × BitShape mode w

-- the octets are not those of an integer of at least 0, or memory ran out for them
abbrev pub NoUnsigned : {X : Type 0} → List ℕ → DecodeError X → Type 0
NoUnsigned w e = MeanNothing (λ v n. AreInteger (pos n) v) w e ⊎ (cause_of e ≡ of_memory) × ((n : ℕ) × AreInteger (pos n) w)

-- the octets mean another number of a `u8`, or none
abbrev pub MeanAnother : {X : Type 0} → ℕ → List ℕ → DecodeError X → Type 0
MeanAnother n w e = ((m : ℕ) × IsUnsigned 8 w m × (m ≢ n) × (cause_of e ≡ of_content (ExpectedInteger n))) ⊎ MeanNothing (IsUnsigned 8) w e

-- memory ran out for the octets
abbrev pub FindNoMemory : {X : Type 0} → List ℕ → DecodeError X → Type 0
FindNoMemory w e = cause_of e ≡ of_memory

-- octets that came are taken, whatever they are
abbrev pub AreNeverRefused : {X : Type 0} → List ℕ → DecodeError X → Type 0
AreNeverRefused w e = ⊥

module _ {T X : Type 0} (Means : List ℕ → T → Type 0) (Refuses : List ℕ → DecodeError X → Type 0) where
  -- contents octets were read as what they mean, and taken; or refused, and left
  pub record Reads (c : Reading) (r : Result T (DecodeError X)) (d : Reading) : Type 0 where
    pub value : IfOk r (λ x. Means c.stream.rest x)
    pub all : OnOk r (c.owed ≡ Some (length c.stream.rest))
    pub none_left : OnOk r (d.stream.rest ≡ [])
    pub none_owed : OnOk r (d.owed ≡ Some 0)
    pub no_fault : OnOk r (d.stream.faults ≡ c.stream.faults)
    pub refused : IfErr r (λ e. RefusesReading Refuses c e d)
    pub kept : OnErr r (d.stream.rest ≡ c.stream.rest)
    pub still_owed : OnErr r (d.owed ≡ c.owed)
    pub mode : d.mode ≡ c.mode
    pub marked : d.marked ≡ c.marked

-- contents octets were looked at, and left; or did not come
pub record LooksAt {T X : Type 0} (Means : List ℕ → T → Type 0) (c : Reading) (r : Result T (DecodeError X)) (d : Reading) : Type 0 where
  pub value : IfOk r (λ x. Means c.stream.rest x)
  pub all : OnOk r (c.owed ≡ Some (length c.stream.rest))
  pub no_fault : OnOk r (d.stream.faults ≡ c.stream.faults)
  pub refused : IfErr r (λ e. RefusesReading AreNeverRefused c e d)
  pub kept : d.stream.rest ≡ c.stream.rest
  pub still_owed : d.owed ≡ c.owed
  pub mode : d.mode ≡ c.mode
  pub marked : d.marked ≡ c.marked

-- ---- of a parameter, from entry to exit

module _ {S T X : Type 0} (stream : S → Stream) (c : Both (MutBor (Primitive S)) (MutBor (Primitive S))) where
  -- read by a reader with its own meaning, which means something or refuses
  abbrev pub ReadBy : (List ℕ → T → Type 0) → (List ℕ → DecodeError X → Type 0) → Result T (DecodeError X) → Type 0
  ReadBy Means Refuses r = Reads Means Refuses (of_primitive stream c.entry.now) r (of_primitive stream c.exit.now)

  -- read as what the octets mean, refused exactly if they mean nothing
  abbrev pub ReadOctets : (List ℕ → T → Type 0) → Result T (DecodeError X) → Type 0
  ReadOctets Means r = Reads Means (MeanNothing Means) (of_primitive stream c.entry.now) r (of_primitive stream c.exit.now)

-- ---- octets that are lent to a closure

-- for content of either form: that of a constructed value is refused, and left as it is
module _ {S T X : Type 0} (stream : S → Stream) (c : Both (MutBor (Content S)) (MutBor (Content S))) where
  abbrev pub ReadContentBy : (List ℕ → T → Type 0) → (List ℕ → DecodeError X → Type 0) → Result T (DecodeError X) → Type 0
  ReadContentBy Means Refuses r = (content_before stream c).kind ≡ Octets
      → Reads Means Refuses (content_before stream c) r (content_after stream c)

  abbrev pub ReadContent : (List ℕ → T → Type 0) → Result T (DecodeError X) → Type 0
  ReadContent Means r = ReadContentBy Means (MeanNothing Means) r

  abbrev pub RefusedValues : Result T (DecodeError X) → Type 0
  RefusedValues r = (content_before stream c).kind ≢ Octets → IsErrAnd r IsRefusal × (content_after stream c ≡ content_before stream c)

-- a closure that is lent octets, and can't refuse them, returned x
abbrev pub ToldOf : {B T : Type 0} → (B → List ℕ) → (B → T → Type 0) → List ℕ → T → Type 0
ToldOf now post w x = (p : _) × (now p ≡ w) × post p x

-- a closure that is lent octets returned x
abbrev pub Told : {B T : Type 0} → (B → List ℕ) → (B → Result T ContentError → Type 0) → List ℕ → T → Type 0
Told now post w x = (p : _) × (now p ≡ w) × post p (Ok x)

-- a closure that is lent octets refused them, and its error is returned
abbrev pub Untold : {B T X : Type 0} → (B → List ℕ) → (B → Result T ContentError → Type 0) → List ℕ → DecodeError X → Type 0
Untold now post w e = (p : _) × (error : ContentError) × (now p ≡ w) × post p (Err error) × (cause_of e ≡ of_content error)

-- ---- contents octets one by one

-- no octet was taken
abbrev pub LeavesOctets : Reading → Reading → Type 0
LeavesOctets c d = (d.stream.rest ≡ c.stream.rest) × (d.owed ≡ c.owed)

-- the next octet was taken, or there is none; or the source failed
abbrev pub TakesNextOctet : {E : Type 0} → Reading → Result (Option ℕ) E → Reading → Type 0
TakesNextOctet c r d = Returns (λ o. MatchOption o ((c.stream.rest ≡ []) × LeavesOctets c d)
    (λ b. (c.stream.rest ≡ b ∷ d.stream.rest) × Falls c.owed 1 d.owed)) (λ e. Grew c.stream.faults d.stream.faults × LeavesOctets c d) c r d

-- the next octet was taken; or the source failed, or there is none
abbrev pub TakesOctet : {X : Type 0} → Reading → Result ℕ (DecodeError X) → Reading → Type 0
TakesOctet c r d = Returns (λ b. (c.stream.rest ≡ b ∷ d.stream.rest) × Falls c.owed 1 d.owed)
    (λ e. MatchCause (cause_of e) (Grew c.stream.faults d.stream.faults)
    ((d.stream.faults ≡ c.stream.faults) × (c.stream.rest ≡ []) × IsRefusal e) ⊥ × LeavesOctets c d) c r d

-- n octets were passed, or all that come if these are fewer; or the source failed
abbrev pub SkipsOctets : {E : Type 0} → ℕ → Reading → Result ℕ E → Reading → Type 0
SkipsOctets n c r d = Returns (λ k. (k ≡ min n (length c.stream.rest)) × (d.stream.rest ≡ drop k c.stream.rest) × Falls c.owed k d.owed)
    (λ e. Grew c.stream.faults d.stream.faults × LeavesOctets c d) c r d

-- ---- bit strings

-- the octets are those of a bit string in the mode, whatever is returned
abbrev pub HoldBits : {T : Type 0} → Mode → List ℕ → T → Type 0
HoldBits mode w x = BitShape mode w

-- ---- object identifiers

-- the octets end with a subidentifier, whatever is returned
abbrev pub HoldIdentifier : {T : Type 0} → List ℕ → T → Type 0
HoldIdentifier w x = IsComplete w

-- the octets are these, whatever is returned
abbrev pub IsSame : {T : Type 0} → List ℕ → List ℕ → T → Type 0
IsSame v w x = w ≡ v
