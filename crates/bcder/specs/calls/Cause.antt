-- What errors say.
use Rattle.std.specs.Prelude.{◌≡◌, ℕ, ◌++◌, Bool, true, false, List, Option, Some, None, codes, string_bytes}
use Rattle.std.specs.Fmt.{decimal, ◌++?◌}
use Rattle.bcder.specs.declared.{decode.error.ContentError.ContentError, decode.error.DecodeError.DecodeError}
use Rattle.bcder.specs.declared.{int.error.IntegerError.IntegerError}
use Rattle.bcder.specs.declared.int.error.IntegerError.TheVariants as integer
use Rattle.bcder.specs.declared.decode.error.ContentError.TheVariants.{Static, Owned, ExpectedTag, ExpectedInteger, Boxed}
use Rattle.bcder.specs.declared.decode.error.DecodeError.TheVariants.{Source, Content, NoMemory}
use Rattle.bcder.specs.x690.Identifier.{Tag}

-- why decoding failed, without the source's own error and the position; E is the type of content errors
pub data Cause (E : Type 0) : Type 0 where
  of_source : Cause E
  of_content : E → Cause E
  of_memory : Cause E

abbrev pub cause_of : {S : Type 0} → DecodeError S → Cause ContentError
cause_of (Source e) = of_source
cause_of (Content error pos) = of_content error
cause_of NoMemory = of_memory

-- the position where content was refused, if it was
abbrev pub position_of : {S : Type 0} → DecodeError S → Option ℕ
position_of (Source e) = None
position_of (Content error pos) = Some pos
position_of NoMemory = None

abbrev pub is_source_cause : {E : Type 0} → Cause E → Bool
is_source_cause of_source = true
is_source_cause (of_content e) = false
is_source_cause of_memory = false

abbrev pub is_memory_cause : {E : Type 0} → Cause E → Bool
is_memory_cause of_source = false
is_memory_cause (of_content e) = false
is_memory_cause of_memory = true

-- the cause if the source fails only for lack of memory: a failure of the source is out of memory then
abbrev pub memory_for_source : {E : Type 0} → Cause E → Cause E
memory_for_source of_source = of_memory
memory_for_source (of_content e) = of_content e
memory_for_source of_memory = of_memory

-- the cause is not a content error
abbrev pub IsContentless : {E : Type 0} → Cause E → Type 0
IsContentless of_source = Unit {0}
IsContentless (of_content e) = ⊥
IsContentless of_memory = Unit {0}

-- one of three facts, by the cause
abbrev pub MatchCause : {E : Type 0} → Cause E → Type 0 → Type 0 → Type 0 → Type 0
MatchCause of_source A B C = A
MatchCause (of_content e) A B C = B
MatchCause of_memory A B C = C

-- the content error of a message of the user's own, which has this text
abbrev pub IsBoxed : ContentError → List ℕ → Type 0
IsBoxed (Static text) w = ⊥
IsBoxed (Owned text) w = ⊥
IsBoxed (ExpectedTag tag) w = ⊥
IsBoxed (ExpectedInteger value) w = ⊥
IsBoxed (Boxed text) w = string_bytes text ≡ w

-- ---- texts

-- the text that is shown for a content error, if the text shown for a tag is known
abbrev pub content_text : (Tag → Option (List ℕ)) → ContentError → Option (List ℕ)
content_text tag_text (Static text) = Some text
content_text tag_text (Owned text) = Some (string_bytes text)
content_text tag_text (ExpectedTag tag) = Some (codes "expected tag ") ++? tag_text tag
content_text tag_text (ExpectedInteger value) = Some (codes "expected integer value " ++ decimal value)
content_text tag_text (Boxed text) = Some (string_bytes text)

-- the text that is shown for an error of decoding
abbrev pub decode_text : {S : Type 0} → (S → Option (List ℕ)) → (ContentError → Option (List ℕ)) → DecodeError S → Option (List ℕ)
decode_text source_text error_text (Source e) = source_text e
decode_text source_text error_text (Content error pos) = error_text error ++? Some (codes " (at position " ++ decimal pos ++ codes ")")
decode_text source_text error_text NoMemory = Some (codes "out of memory")

-- content was refused, for a reason that a fixed text gives: the source did not fail, and memory did not run out
abbrev pub IsOfContent : Cause ContentError → Type 0
IsOfContent of_source = ⊥
IsOfContent (of_content (Static text)) = Unit {0}
IsOfContent (of_content (Owned text)) = ⊥
IsOfContent (of_content (ExpectedTag tag)) = ⊥
IsOfContent (of_content (ExpectedInteger value)) = ⊥
IsOfContent (of_content (Boxed text)) = ⊥
IsOfContent of_memory = ⊥

abbrev pub IsRefusal : {S : Type 0} → DecodeError S → Type 0
IsRefusal e = IsOfContent (cause_of e)

-- one of two facts, by the reason why no integer was made
abbrev pub MatchIntegerError : IntegerError → Type 0 → Type 0 → Type 0
MatchIntegerError (integer.Invalid e) A B = A
MatchIntegerError integer.NoMemory A B = B
