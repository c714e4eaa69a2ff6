-- A source that is one value of a type, or fields.
use Rattle.std.specs.Prelude.{◌≡◌, ℕ, Bool, IsTrue, List, Ok}
use Rattle.bcder.specs.declared.mode.Mode.{Mode}
use Rattle.bcder.specs.declared.decode.error.DecodeError.{DecodeError}
use Rattle.bcder.specs.x690.Identifier.{Tag}
use Rattle.bcder.specs.x690.Tree.{Tree, Trees, no_trees}
use Rattle.bcder.specs.x690.Encoding.{IsEncoding, AreEncodings}
use Rattle.bcder.specs.calls.Cause.{cause_of, of_source, of_memory, IsRefusal}
use Rattle.bcder.specs.calls.Stream.{Stream, Grew}
use Rattle.bcder.specs.calls.Meaning.{Encoded, Meaning}
use Rattle.bcder.specs.calls.Valued.{tag_of}

module _ {T : Type 0} (mode : Mode) (Tags : Tag → Type 0) (Means : Tree → T → Type 0) where
  -- the octets are the encoding of one value with one of the tags, which means x
  pub record IsValueOf (octets : List ℕ) (x : T) : Type 0 where
    pub tree : Tree
    pub encodes : IsEncoding mode tree octets
    pub tagged : Tags (tag_of tree)
    pub means : Means tree x

  -- why nothing was decoded from the source s, and e was returned: memory ran out only if it may
  pub data RefusesAll (may_lack : Bool) {X : Type 0} (s : Stream) (e : DecodeError X) : Type 0 where
    source : (later : Stream) → cause_of e ≡ of_source → Grew s.faults later.faults → RefusesAll may_lack s e
    memory : cause_of e ≡ of_memory → IsTrue may_lack → RefusesAll may_lack s e
    broken : ((x : T) → IsValueOf s.rest x → ⊥) → IsRefusal e → RefusesAll may_lack s e

  -- the octets are those of a value that is told apart by k, and of no other
  pub record AreValueOf {K : Type 0} (key : T → K) (k : K) (octets : List ℕ) : Type 0 where
    pub some : T
    pub is : IsValueOf octets some
    pub only : (y : T) → IsValueOf octets y → key y ≡ k

  -- what is written of x is decoded as what is told apart by the same, and as nothing else
  abbrev pub IsDecodedBack : {K : Type 0} → (T → K) → (Meaning → Type 0) → T → Type 0
  IsDecodedBack key Writes x = (e : Encoded) → Writes (Ok e) → AreValueOf key (key x) e.octets

module _ {T : Type 0} (mode : Mode) (Takes : Trees → T → Trees → Type 0) where
  -- the octets are the encodings of values, all of which are the fields x
  pub record AreFields (octets : List ℕ) (x : T) : Type 0 where
    pub trees : Trees
    pub encode : AreEncodings mode trees octets
    pub taken : Takes trees x no_trees

  -- why no fields were decoded from the source s, and e was returned
  pub data RefusesFieldsOf (may_lack : Bool) {X : Type 0} (s : Stream) (e : DecodeError X) : Type 0 where
    source : (later : Stream) → cause_of e ≡ of_source → Grew s.faults later.faults → RefusesFieldsOf may_lack s e
    memory : cause_of e ≡ of_memory → IsTrue may_lack → RefusesFieldsOf may_lack s e
    broken : ((x : T) → AreFields s.rest x → ⊥) → IsRefusal e → RefusesFieldsOf may_lack s e
