-- Octets that are kept as whole values.
use Rattle.std.specs.Prelude.{◌≡◌, ℕ, List, [], ◌++◌, length, Result, IfOk, IfErr}
use Rattle.std.specs.Borrow.{MutBor}
use denote.Triple.Both.{Both}
use Rattle.bcder.specs.declared.{mode.Mode.Mode, decode.content.Constructed.Constructed, decode.error.DecodeError.DecodeError}
use Rattle.bcder.specs.x690.Tree.{Trees}
use Rattle.bcder.specs.x690.Encoding.{AreEncodings}
use Rattle.bcder.specs.calls.Cause.{cause_of, of_memory}
use Rattle.bcder.specs.calls.Stream.{Stream, borrowed}
use Rattle.bcder.specs.calls.Calls.{MayBeCalledOn, IsLawfulOn}
use Rattle.bcder.specs.calls.Decoding.{IsAllBehind, Decodes, RefusesDecode}
use Rattle.bcder.specs.calls.Views.{of_constructed, lent}

-- octets, the mode in which they are encodings, and the position where they began
pub record Kept : Type 0 where
  pub mode : Mode
  pub octets : List ℕ
  pub start : ℕ

-- the octets are the encodings of a list of values, one after the other
pub record AreWhole (mode : Mode) (w : List ℕ) : Type 0 where
  pub values : Trees
  pub encode : AreEncodings mode values w

-- the source from which kept octets are decoded: all of them are at hand
abbrev pub kept_stream : Kept → Stream
kept_stream c = record { rest = c.octets; avail = length c.octets; faults = 0; position = c.start; kept = [] }

-- ---- what `decode_partial` requires of its closure, and what it says

module _ {S : Type 0} (stream : S → Stream) where
  -- the closure may be called on all the kept values, and moves them
  abbrev pub CallableOnKept : Kept → (MutBor (Constructed (MutBor S)) → Type 0) → Type 0
  CallableOnKept c pre = MayBeCalledOn (of_constructed (lent stream)) (IsAllBehind (kept_stream c) c.mode) pre

  abbrev pub LawfulOnKept : {R : Type 0} → Kept → (MutBor (Constructed (MutBor S)) → R → MutBor (Constructed (MutBor S)) → Type 0) → Type 0
  LawfulOnKept c post = IsLawfulOn (of_constructed (lent stream)) (IsAllBehind (kept_stream c) c.mode) post

  module _ {T X : Type 0}
      (post : MutBor (Constructed (MutBor S)) → Result T (DecodeError X) → MutBor (Constructed (MutBor S)) → Type 0) where
    -- x was decoded from the kept octets c, and the octets d are left of them
    pub record DecodesFront (c : Kept) (x : T) (d : Kept) : Type 0 where
      pub name : ℕ
      pub decodes : Decodes (of_constructed (lent stream)) post (borrowed name (kept_stream c)) c.mode x (borrowed name (kept_stream d))
      pub mode : d.mode ≡ c.mode
      -- the values whose octets were passed, and those that are left
      pub passed : Trees
      pub left : Trees
      pub octets : List ℕ
      pub split : c.octets ≡ octets ++ d.octets
      pub front : AreEncodings c.mode passed octets
      pub back : AreEncodings c.mode left d.octets

    -- nothing was decoded from the kept octets c, and e was returned
    pub data RefusesKept (c : Kept) (e : DecodeError X) : Type 0 where
      by_decode : (name : ℕ) (left : Stream) → RefusesDecode cause_of (of_constructed (lent stream)) post
          (borrowed name (kept_stream c)) c.mode e (borrowed name left) → RefusesKept c e
      by_memory : cause_of e ≡ of_memory → RefusesKept c e

    module _ (c : Both (MutBor Kept) (MutBor Kept)) (r : Result T (DecodeError X)) where
      abbrev pub DecodesPart : Type 0
      DecodesPart = IfOk r (λ x. DecodesFront c.entry.now x c.exit.now)

      abbrev pub RefusesPart : Type 0
      RefusesPart = IfErr r (λ e. RefusesKept c.entry.now e)
