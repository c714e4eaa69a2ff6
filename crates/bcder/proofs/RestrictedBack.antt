-- A restricted string that was written is taken back.
use Rattle.std.proofs.Common.{◌≡◌, List, ℕ, Option, Some, None, ap, sym, ◌∙◌, subst, inl, inr}
use Rattle.std.specs.Prelude.{Result, Ok, Err}
use Rattle.bcder.specs.declared.mode.Mode.{Mode}
use Rattle.bcder.specs.declared.decode.error.DecodeError.{DecodeError}
use Rattle.bcder.specs.x690.Identifier.{Tag}
use Rattle.bcder.specs.calls.Content.{Reading}
use Rattle.bcder.specs.x690.Tree.{Tree}
use Rattle.bcder.specs.x690.Encoding.{IsEncoding}
use Rattle.bcder.specs.calls.StringOctets.{StringOctets, octets_of, MeansString}
use Rattle.bcder.specs.x690.OctetString.{flat}
use Rattle.bcder.specs.x690.CharSet.{Step, IsOfSet}
use Rattle.bcder.specs.calls.RestrictedString.{MeansRestricted}
use Rattle.bcder.specs.calls.Meaning.{Encoded}
use Rattle.bcder.specs.calls.StringMeaning.{StringMeans}
use Rattle.bcder.specs.calls.Written.{StandsIn}
use Rattle.bcder.specs.calls.Walking.{HasValue}
use Rattle.bcder.specs.calls.Valued.{tag_of, TakesTree, WantsMemoryFor, of_value, of_header, RefusesTree}
use Rattle.bcder.specs.calls.Valued.{TakesNextTree, TakesOneTree}
use Rattle.bcder.specs.calls.Written.{IsWrittenString}
use Rattle.bcder.specs.calls.Written.{IsTakenRestricted, WrittenAsReadOf, OneRestricted}
use Rattle.bcder.specs.laws.Complete.{only_at_front}
use Rattle.bcder.proofs.OneString.{means_flat, one_string, one_string_encoding}
use Rattle.bcder.specs.calls.Content.{failed, source, nothing, otherwise}
use Rattle.bcder.proofs.StringsBack.{string_taken, written_as_read}

-- ---- taken as a string of the set, it is taken as an octet string

module _ (step : Step) (X : Type 0) (t : Tag) (mode : Mode) (w : List ℕ) (e : Encoded) (accepted : IsOfSet step w) (written : IsWrittenString t mode w e)
    (c : Reading) (after : List ℕ) (s : StandsIn mode e.octets after c) where
  -- what stands in front has octets that are accepted
  accepted_there : (v : Tree) (u rest : List ℕ) (x : StringOctets) → HasValue c v u rest × (tag_of v ≡ t) → MeansString c.mode v x → IsOfSet step (octets_of x)
  accepted_there v u rest x h m =
      let encodes = subst (λ z. IsEncoding z written.value e.octets) (sym s.in_mode) written.encodes in
      let one = only_at_front c.mode written.value e.octets after encodes v u rest h.0.encodes (sym s.rest ∙ h.0.rest) in
      subst (IsOfSet step) (sym (means_flat c.mode v x m.1 ∙ ap flat one.0 ∙ written.octets)) accepted

  tree_there : (y : StringOctets) (d : Reading) → TakesTree t (MeansRestricted step c.mode) c y d → TakesTree t (MeansString c.mode) c y d
  tree_there y d x = record { tree = x.tree; octets = x.octets; has = x.has; means = x.means.0; stays = x.stays }

  wanted_there : WantsMemoryFor t (MeansRestricted step c.mode) c → WantsMemoryFor t (MeansString c.mode) c
  wanted_there (of_value v u rest x h m) = of_value v u rest x h m.0
  wanted_there (of_header der a h f) = of_header der a h f

  refused_there : (f : DecodeError X) (d : Reading)
      → RefusesTree t (MeansRestricted step c.mode) c f d
      → RefusesTree t (MeansString c.mode) c f d
  refused_there f d (failed h i) = failed h i
  refused_there f d (source h g) = source h g
  refused_there f d (otherwise h) = otherwise (h.0, wanted_there h.1)
  refused_there f d (nothing b i) =
      nothing (record { usable = b.usable; value = λ v u rest x h m. b.value v u rest x h (m, accepted_there v u rest x h m); absent = b.absent }) i

  one_there : (r : Result StringOctets (DecodeError X)) (d : Reading) → TakesOneTree t (MeansRestricted step c.mode) c r d
      → TakesOneTree t (MeansString c.mode) c r d
  one_there (Ok y) d x = record { value = tree_there y d x.value; no_fault = x.no_fault; refused = tt; mode = x.mode; marked = x.marked }
  one_there (Err f) d x = record {
    value = tt;
    no_fault = tt;
    refused = elim x.refused [ inl n ↦ inl n | inr n ↦ inr (n.0, refused_there f d n.1) ];
    mode = x.mode;
    marked = x.marked;
  }

  next_there : (r : Result (Option StringOctets) (DecodeError X)) (d : Reading) → TakesNextTree t (MeansRestricted step c.mode) c r d
      → TakesNextTree t (MeansString c.mode) c r d
  next_there (Ok None) d x = record { value = x.value; no_fault = x.no_fault; refused = tt; mode = x.mode; marked = x.marked }
  next_there (Ok (Some y)) d x =
      record { value = tree_there y d x.value; no_fault = x.no_fault; refused = tt; mode = x.mode; marked = x.marked }
  next_there (Err f) d x =
      record { value = tt; no_fault = tt; refused = (x.refused.0, refused_there f d x.refused.1); mode = x.mode; marked = x.marked }

pub restricted_taken : {X : Type 0} (step : Step) (t : Tag) (mode : Mode) (w : List ℕ) (e : Encoded) → IsOfSet step w → IsWrittenString t mode w e
    → IsTakenRestricted X step t mode w e
restricted_taken {X} step t mode w e accepted written =
    let taken = string_taken {X = X} t mode w e written in
    record {
      one = λ c after s r d x. taken.one c after s r d (one_there step X t mode w e accepted written c after s r d x);
      next = λ c after s r d x. taken.next c after s r d (next_there step X t mode w e accepted written c after s r d x);
    }

-- ---- what is read is written back

pub written_as_read_of : (step : Step) (s : StringOctets) → WrittenAsReadOf step s (λ tag. StringMeans tag s)
written_as_read_of step s mode ne t w m k = written_as_read s mode ne t w m.0 k

pub one_restricted : (step : Step) → OneRestricted step
one_restricted step mode ne t u r s m n tags octets =
    let flats = sym (means_flat mode t r m.0.1) ∙ octets ∙ means_flat mode u s n.0.1 in
    (one_string mode ne t u m.0.0 n.0.0 tags flats, λ v w k h. one_string_encoding mode ne t u v w m.0.0 n.0.0 tags flats k h)
