-- content that moved still holds the same borrow
use Rattle.std.proofs.Common.{◌≡◌, ◌≢◌, ℕ, ◌≤◌, List, length, take, drop, refl, arith}
use Rattle.std.proofs.lemmas.Grind.{common_steps}
use Rattle.bcder.specs.declared.decode.content.Constructed.{Constructed}
use Rattle.bcder.specs.declared.decode.content.Content.{Content}
use Rattle.bcder.specs.declared.decode.content.Content.TheVariants as content
use Rattle.bcder.specs.declared.decode.content.Primitive.{Primitive}
use Rattle.bcder.specs.declared.decode.content.State.TheVariants.{Failed}
use Rattle.bcder.specs.declared.decode.source.limited.LimitedSource.{LimitedSource}
use Rattle.bcder.specs.x690.Identifier.{AreOctets}
use Rattle.bcder.specs.calls.Stream.{Stream, IsSound}
use Rattle.bcder.specs.calls.Content.{Reading, values, Octets, Moves, Resembles}
use Rattle.bcder.specs.steps.Entering.{Advances}
use Rattle.bcder.specs.laws.Limits.{limited_sound, limit_told, first_kept}
use Rattle.bcder.proofs.Entering.{Within, advances_by, within}
use Rattle.bcder.specs.calls.Views.{of_content, of_primitive, of_constructed, content_name, limited_stream}

pub moves_name : (c d : Reading) → Moves c d → d.name ≡ c.name
unfolding Moves
moves_name c d m = m.name

pub name_of_content : {S : Type 0} (stream : S → Stream) (a : Content S) → (of_content stream a).name ≡ content_name a
unfolding of_primitive of_constructed
name_of_content stream (content.Primitive p) = refl
name_of_content stream (content.Constructed p) = refl

pub moves_constructed_name : {S : Type 0} (stream : S → Stream) (a b : Constructed S) → Moves (of_constructed stream a) (of_constructed stream b)
    → b.source.ghost_name ≡ a.source.ghost_name
unfolding of_constructed Moves
moves_constructed_name stream a b m = m.name

take_within : (n : ℕ) (xs : List ℕ) → length (take n xs) ≤ n
take_within n xs = grind (arith, common_steps)

-- a limited source has no more octets than its limit
pub within_constructed : {S : Type 0} (stream : S → Stream) (sound : (x : S) → IsSound (stream x)) (c : Constructed S) → Within (of_constructed stream c)
unfolding of_constructed
within_constructed stream sound c =
    record { fits = λ n e. rw e (take_within n _); octets = (limited_sound c.source.now.limit (stream c.source.now.source) (sound c.source.now.source)).octets }

pub constructed_form : {S : Type 0} (stream : S → Stream) (p : Constructed S) → (of_constructed stream p).kind ≢ Octets
unfolding of_constructed
constructed_form stream p e = (let x : values p.kind ≡ Octets = e in cc)

pub primitive_form : {S : Type 0} (stream : S → Stream) (p : Primitive S) → (of_primitive stream p).kind ≡ Octets
unfolding of_primitive
primitive_form stream p = refl

-- ---- content whose source was looked at

abbrev pub with_source : {S : Type 0} → Constructed S → LimitedSource S → Constructed S
with_source c x = record {
  source = record { ref_ptr = c.source.ref_ptr; ghost_name = c.source.ghost_name; now = x };
  kind = c.kind;
  state = c.state;
  mode = c.mode;
  marked = c.marked;
  start = c.start;
}

pub resembles_with_source : {S : Type 0} (stream : S → Stream) (c : Constructed S) (x : LimitedSource S)
    → (limited_stream stream x).rest ≡ (limited_stream stream c.source.now).rest → (limited_stream stream x).kept ≡ (limited_stream stream c.source.now).kept
    → Resembles (of_constructed stream c) (of_constructed stream (with_source c x))
unfolding of_constructed
resembles_with_source stream c x r k = record {
  rest = r;
  kept = k;
  owed = limit_told c.source.now.limit x.limit (stream c.source.now.source).rest (stream x.source).rest r (first_kept k);
  kind = refl;
  state = refl;
  mode = refl;
  marked = refl;
  name = refl;
}

-- content that failed, behind octets that were passed over
abbrev pub failed_behind : {S : Type 0} → Constructed S → LimitedSource S → Constructed S
failed_behind c x = record {
  source = record { ref_ptr = c.source.ref_ptr; ghost_name = c.source.ghost_name; now = x };
  kind = c.kind;
  state = Failed;
  mode = c.mode;
  marked = c.marked;
  start = c.start;
}

module _ {S : Type 0} (stream : S → Stream) (sound : (x : S) → IsSound (stream x)) (c : Constructed S) (x : LimitedSource S) (n : ℕ)
    (a : n ≤ (limited_stream stream c.source.now).avail) where
  pub advances_behind : (limited_stream stream x).rest ≡ drop n (limited_stream stream c.source.now).rest → (limited_stream stream x).faults
      ≡ (limited_stream stream c.source.now).faults → (limited_stream stream x).kept ≡ (limited_stream stream c.source.now).kept
      → Advances (of_constructed stream c) (of_constructed stream (failed_behind c x)) (take n (of_constructed stream c).stream.rest)
  unfolding of_constructed
  advances_behind r f k = advances_by _ _ (stream c.source.now.source) (stream x.source) c.source.now.limit x.limit n refl refl refl refl
      (sound c.source.now.source) r f k a refl refl refl

  pub octets_behind : (AreOctets (of_constructed stream c).stream.rest) × (n ≤ length (of_constructed stream c).stream.rest)
  unfolding of_constructed
  octets_behind = within c.source.now.limit (stream c.source.now.source) n (sound c.source.now.source) a
