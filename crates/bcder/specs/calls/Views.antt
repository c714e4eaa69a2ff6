-- The content that a value of the code is, by the stream of its source.
use Rattle.std.specs.Prelude.{ℕ}
use Rattle.std.specs.Borrow.{GName, MutBor}
use denote.Triple.Both.{Both}
use Rattle.bcder.specs.declared.{decode.source.limited.LimitedSource.LimitedSource, decode.content.Primitive.Primitive}
use Rattle.bcder.specs.declared.{decode.content.Constructed.Constructed, decode.content.Content.Content}
use Rattle.bcder.specs.declared.decode.content.Content.TheVariants as content
use Rattle.bcder.specs.declared.decode.content.State.TheVariants as state
use Rattle.bcder.specs.calls.Stream.{Stream, limited, borrowed}
use Rattle.bcder.specs.calls.Content.{Reading, Octets, values, Moves}

module _ {S : Type 0} (stream : S → Stream) where
  abbrev pub limited_stream : LimitedSource S → Stream
  limited_stream l = limited l.limit (stream l.source)

  unfoldable pub of_constructed : Constructed S → Reading
  of_constructed c = record {
    stream = limited c.source.now.limit (stream c.source.now.source);
    owed = c.source.now.limit;
    kind = values c.kind;
    state = c.state;
    mode = c.mode;
    marked = c.marked;
    name = c.source.ghost_name;
  }

  unfoldable pub of_primitive : Primitive S → Reading
  of_primitive c = record {
    stream = limited c.source.now.limit (stream c.source.now.source);
    owed = c.source.now.limit;
    kind = Octets;
    state = state.Open;
    mode = c.mode;
    marked = c.marked;
    name = c.source.ghost_name;
  }

  abbrev pub of_content : Content S → Reading
  of_content (content.Primitive p) = of_primitive p
  of_content (content.Constructed c) = of_constructed c

-- what a proof names to open both views
unfoldable pub views : Unit {0}
unfolding of_constructed of_primitive
views = tt

-- the name of the borrow that content holds
abbrev pub content_name : {S : Type 0} → Content S → GName
content_name (content.Primitive p) = p.source.ghost_name
content_name (content.Constructed c) = c.source.ghost_name

-- the position where the content begins
abbrev pub content_start : {S : Type 0} → Content S → ℕ
content_start (content.Primitive p) = p.start
content_start (content.Constructed c) = c.start

-- the stream of a source behind a borrow
abbrev pub lent : {S : Type 0} → (S → Stream) → MutBor S → Stream
lent stream s = borrowed s.ghost_name (stream s.now)

-- a parameter of constructed content, at entry and at exit
abbrev pub before : {S : Type 0} → (S → Stream) → Both (MutBor (Constructed S)) (MutBor (Constructed S)) → Reading
before stream c = of_constructed stream c.entry.now

abbrev pub after : {S : Type 0} → (S → Stream) → Both (MutBor (Constructed S)) (MutBor (Constructed S)) → Reading
after stream c = of_constructed stream c.exit.now

-- a parameter of octets, at entry and at exit
abbrev pub octets_before : {S : Type 0} → (S → Stream) → Both (MutBor (Primitive S)) (MutBor (Primitive S)) → Reading
octets_before stream c = of_primitive stream c.entry.now

abbrev pub octets_after : {S : Type 0} → (S → Stream) → Both (MutBor (Primitive S)) (MutBor (Primitive S)) → Reading
octets_after stream c = of_primitive stream c.exit.now

-- a parameter of content of either form, at entry and at exit
abbrev pub content_before : {S : Type 0} → (S → Stream) → Both (MutBor (Content S)) (MutBor (Content S)) → Reading
content_before stream c = of_content stream c.entry.now

abbrev pub content_after : {S : Type 0} → (S → Stream) → Both (MutBor (Content S)) (MutBor (Content S)) → Reading
content_after stream c = of_content stream c.exit.now

-- whatever moved to what a parameter of constructed content, of octets or of either is at entry moves to what it is at exit,
-- so that steps in a row chain by themselves
abbrev pub Moved : {S : Type 0} → (S → Stream) → Both (MutBor (Constructed S)) (MutBor (Constructed S)) → Type 0
Moved stream c = (b : Reading) → Moves b (of_constructed stream c.entry.now) → Moves b (of_constructed stream c.exit.now)

abbrev pub MovedOctets : {S : Type 0} → (S → Stream) → Both (MutBor (Primitive S)) (MutBor (Primitive S)) → Type 0
MovedOctets stream c = (b : Reading) → Moves b (of_primitive stream c.entry.now) → Moves b (of_primitive stream c.exit.now)

abbrev pub MovedContent : {S : Type 0} → (S → Stream) → Both (MutBor (Content S)) (MutBor (Content S)) → Type 0
MovedContent stream c = (b : Reading) → Moves b (of_content stream c.entry.now) → Moves b (of_content stream c.exit.now)
