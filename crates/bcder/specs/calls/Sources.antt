-- The parts of the sources, and what a call changed of one.
use Rattle.std.specs.Prelude.{ℕ, Option, List, drop, ◌≡◌, ◌<◌, ◌≤◌, length}
use Rattle.std.specs.Borrow.{MutBor}
use denote.Triple.Both.{Both}
use Rattle.bcder.specs.declared.{decode.source.limited.LimitedSource.LimitedSource, decode.source.slice.SliceSource.SliceSource}
use Rattle.bcder.specs.declared.{decode.source.bytes_source.BytesSource.BytesSource, decode.source.capture.CaptureSource.CaptureSource}
use Rattle.bcder.specs.declared.{decode.error.DecodeError.DecodeError}
use Rattle.bcder.specs.calls.Stream.{Stream, limit_or, ahead, pos_after, Grew, IsExhausted}
use Rattle.bcder.specs.calls.Cause.{cause_of, MatchCause, IsRefusal}

-- the source that is limited
abbrev pub wrapped : {S : Type 0} → LimitedSource S → S
wrapped s = s.source

-- the limit: the number of octets up to it, if there is one
abbrev pub limit_of : {S : Type 0} → LimitedSource S → Option ℕ
limit_of s = s.limit

-- the number of octets up to the limit, or 0 if there is none
abbrev pub owed : {S : Type 0} → LimitedSource S → ℕ
owed s = limit_or s.limit 0

-- the source that a capturing one borrows
abbrev pub behind : {S : Type 0} → CaptureSource S → S
behind s = s.source.now

-- how many octets of the borrowed source were passed over
abbrev pub passed : {S : Type 0} → CaptureSource S → ℕ
passed s = s.pos

-- the name of the borrow, which the capturing source keeps
abbrev pub borrow_of : {S : Type 0} → CaptureSource S → ℕ
borrow_of s = s.source.ghost_name

-- a capturing source as a stream, given the stream of the borrowed one
abbrev pub capturing : {S : Type 0} → (S → Stream) → CaptureSource S → Stream
capturing stream s = ahead (borrow_of s) (passed s) (stream (behind s))

-- the octets that are left of a slice and of shared octets
abbrev pub slice_rest : SliceSource → List ℕ
slice_rest s = drop s.passed s.octets.now

abbrev pub shared_rest : BytesSource → List ℕ
shared_rest s = s.octets

-- the position where the octets left of a slice and of shared octets begin
abbrev pub slice_start : SliceSource → ℕ
slice_start s = pos_after s.offset s.passed

abbrev pub shared_start : BytesSource → ℕ
shared_start s = s.pos

-- ---- what a call changed: relations over a parameter from entry to exit

module _ {S : Type 0} (stream : S → Stream) (s : Both (MutBor S) (MutBor S)) where
  -- the source counted no failure
  abbrev pub SameFaults : Type 0
  SameFaults = (stream s.exit.now).faults ≡ (stream s.entry.now).faults

  -- the source counted a failure
  abbrev pub MoreFaults : Type 0
  MoreFaults = Grew (stream s.entry.now).faults (stream s.exit.now).faults

  -- the octets to come are the same
  abbrev pub SameRest : Type 0
  SameRest = (stream s.exit.now).rest ≡ (stream s.entry.now).rest

  -- the octets to come begin at the same position
  abbrev pub SamePosition : Type 0
  SamePosition = (stream s.exit.now).position ≡ (stream s.entry.now).position

  -- what no call changes is the same
  abbrev pub SameKept : Type 0
  SameKept = (stream s.exit.now).kept ≡ (stream s.entry.now).kept

  -- the source failed, and counts it; or content was refused by a fixed text, P holds, and nothing is counted
  abbrev pub RefusedWhere : {X : Type 0} → Type 0 → DecodeError X → Type 0
  RefusedWhere P e = MatchCause (cause_of e) MoreFaults (SameFaults × P × IsRefusal e) ⊥

-- ---- of a limited source, by the wrapped one

-- the wrapped source
abbrev pub inside : {S : Type 0} → (S → Stream) → LimitedSource S → Stream
inside stream s = stream (wrapped s)

module _ {S : Type 0} (stream : S → Stream) (s : LimitedSource S) where
  -- the octets of the wrapped source end before the limit
  abbrev pub EndsEarly : Type 0
  EndsEarly = length (inside stream s).rest < owed s

  -- the octets of the wrapped source reach the limit
  abbrev pub ReachesLimit : Type 0
  ReachesLimit = owed s ≤ length (inside stream s).rest

  -- no octets are left up to the limit, or at all if there is none
  abbrev pub HasNoneLeft : Type 0
  HasNoneLeft = IsExhausted (limit_of s) (inside stream s).rest
