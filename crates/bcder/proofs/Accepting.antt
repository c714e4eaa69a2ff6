-- A string that is read, and then checked against a set.
use Rattle.std.proofs.Common.{◌≡◌, ◌≢◌, ℕ, ◌≤◌, List, refl, ap, sym, ◌∙◌, subst, inl, inr}
use Rattle.std.specs.Prelude.{Result, Ok, Err, IfOk, IfErr}
use Rattle.bcder.specs.calls.Readers.{AreNot}
use Rattle.bcder.specs.declared.mode.Mode.{Mode}
use Rattle.bcder.specs.declared.mode.Mode.TheVariants.{Cer}
use Rattle.bcder.specs.declared.decode.content.State.TheVariants.{Open}
use Rattle.bcder.specs.declared.decode.error.DecodeError.{DecodeError}
use Rattle.bcder.specs.calls.Cause.{IsRefusal}
use Rattle.bcder.specs.calls.Stream.{limit_or}
use Rattle.bcder.specs.calls.Content.{Reading, Octets}
use Rattle.bcder.specs.calls.Readers.{Reads, RefusesReading, FindNoMemory}
use Rattle.bcder.specs.calls.Readers as readers
use Rattle.bcder.specs.x690.Identifier.{Tag}
use Rattle.bcder.specs.x690.Tree.{Tree, primitive, constructed}
use Rattle.bcder.specs.calls.StringOctets.{StringOctets, whole, octets_of, MeansString}
use Rattle.bcder.specs.x690.OctetString.{flat}
use Rattle.bcder.specs.x690.CharSet.{Step, IsOfSet}
use Rattle.bcder.specs.calls.RestrictedString.{MeansRestricted, MeansPiece}
use Rattle.bcder.specs.calls.Valued.{HoldsNone, ReadsTree, NeedsMemory, of_octets, of_values, of_segments, RefusesToRead}
use Rattle.bcder.specs.calls.Valued.{ReadsContent, ReadsAny, HoldsTree, failed, source, memory, nothing}
use Rattle.bcder.proofs.OneString.{means_flat}
use Rattle.bcder.proofs.Strings.{not_values, all_held, all_whole, too_few, long_none, read_piece}
use Rattle.bcder.proofs.Valued.{one_content}

-- the string may be told by its octets, where it is in one piece
module _ {T : Type 0} (told : T → StringOctets) (step : Step) (c d : Reading) where
  abbrev pub Means : Mode → Tree → T → Type 0
  Means mode t x = MeansString mode t (told x)

  abbrev pub Accepted : Mode → Tree → T → Type 0
  Accepted mode t x = MeansRestricted step mode t (told x)

  read_accepted : {X : Type 0} (s r : T) → r ≡ s → IsOfSet step (octets_of (told s)) → ReadsAny {X = X} Means c (Ok s) d → ReadsAny {X = X} Accepted c (Ok r) d
  read_accepted {X} s r e a h = record { at_tag = λ tag. at tag (h.at_tag tag) }
    where
      at : (tag : Tag) → ReadsContent tag (Means c.mode) {X = X} c (Ok s) d → ReadsContent tag (Accepted c.mode) {X = X} c (Ok r) d
      at tag k = subst (λ z. ReadsContent tag (Accepted c.mode) {X = X} c (Ok z) d) (sym e) (record {
        value = record { tree = k.value.tree; holds = k.value.holds; means = (k.value.means, a) };
        done = k.done;
        no_fault = k.no_fault;
        refused = tt;
        mode = k.mode;
        marked = k.marked;
      })

  -- content is that of one value, whose octets are not accepted
  none_accepted : (tag : Tag) (s : T) → (IsOfSet step (octets_of (told s)) → ⊥) → ReadsTree tag (Means c.mode) c s → (t : Tree) (x : T) → HoldsTree tag c t
      → Accepted c.mode t x → ⊥
  none_accepted tag s n k t x h m =
      let same : t ≡ k.tree = one_content tag c t k.tree h k.holds in
      let octets : octets_of (told x) ≡ octets_of (told s) =
      means_flat c.mode t (told x) m.0.1 ∙ ap flat same ∙ sym (means_flat c.mode k.tree (told s) k.means.1) in
      n (subst (IsOfSet step) octets m.1)

  read_not_accepted : {X : Type 0} (s : T) (e : DecodeError X) → IsRefusal e → (IsOfSet step (octets_of (told s)) → ⊥) → ReadsAny {X = X} Means c (Ok s) d
      → ReadsAny {T = T} Accepted c (Err e) d
  read_not_accepted {X} s e i n h = record { at_tag = λ tag. at tag (h.at_tag tag) }
    where
      at : (tag : Tag) → ReadsContent tag (Means c.mode) {X = X} c (Ok s) d → ReadsContent tag (Accepted c.mode) {X = X} c (Err e) d
      at tag k = record { value = tt; done = tt; no_fault = tt; refused = nothing (none_accepted tag s n k.value) i; mode = k.mode; marked = k.marked }

  pub read_checked : {X : Type 0} (s : T) (r : Result T (DecodeError X)) → IfOk r (λ x. (x ≡ s) × IsOfSet step (octets_of (told s)))
      → IfErr r (λ e. (IsOfSet step (octets_of (told s)) → ⊥) × IsRefusal e) → ReadsAny {X = X} Means c (Ok s) d → ReadsAny Accepted c r d
  read_checked s (Ok x) a n h = read_accepted s x a.0 a.1 h
  read_checked s (Err e) a n h = read_not_accepted s e n.1 n.0 h

  -- what memory is wanted for among values that are captured
  needed_both : (tag : Tag) → c.kind ≢ Octets → NeedsMemory tag (Means c.mode) c d → NeedsMemory tag (Accepted c.mode) c d
  needed_both tag k (of_octets contents x h m) = absurd (k h.form)
  needed_both tag k (of_values der f h r s) = of_values der f h r s
  needed_both tag k (of_segments ts h s) = of_segments ts h s

  refused_both : {X : Type 0} (tag : Tag) (e : DecodeError X) → c.kind ≢ Octets → RefusesToRead tag (Means c.mode) c e d
      → RefusesToRead tag (Accepted c.mode) c e d
  refused_both tag e k (failed s i) = failed s i
  refused_both tag e k (source s g) = source s g
  refused_both tag e k (memory s n) = memory s (needed_both tag k n)
  refused_both tag e k (nothing n i) = nothing (λ t x h m. n t x h m.0) i

  pub read_refused : {X : Type 0} (e : DecodeError X) → c.kind ≢ Octets → ReadsAny {T = T} Means c (Err e) d → ReadsAny {T = T} Accepted c (Err e) d
  read_refused {X} e values h = record { at_tag = λ tag. at tag (h.at_tag tag) }
    where
      at : (tag : Tag) → ReadsContent {T = T} tag (Means c.mode) c (Err e) d → ReadsContent {T = T} tag (Accepted c.mode) c (Err e) d
      at tag k = record { value = tt; done = tt; no_fault = tt; refused = refused_both tag e values k.refused; mode = k.mode; marked = k.marked }

-- ---- contents octets that are looked at before they are taken

module _ (step : Step) (tag : Tag) (c d : Reading) (k : (c.kind ≡ Octets) × (c.state ≡ Open)) where
  -- octets that the set hasn't
  none_of_set : (IsOfSet step c.stream.rest → ⊥) → HoldsNone tag (MeansPiece step c.mode) c
  none_of_set n (primitive t contents) x h m = n (subst (IsOfSet step) (ap octets_of m.0.1 ∙ sym h.1.rest) m.1)
  none_of_set n (constructed t ts) x h m = not_values c ts k.0 k.1 h.1

  pub refuse_long_piece : {X : Type 0} (e : DecodeError X) → IsRefusal e → ((c.mode ≡ Cer → limit_or c.owed 0 ≤ 1000) → ⊥)
      → ReadsContent tag (MeansPiece step c.mode) c (Err e) c
  refuse_long_piece e a long =
      record { value = tt; done = tt; no_fault = tt; refused = nothing (λ t x h m. long_none tag c k long t x h m.0) a; mode = refl; marked = refl }

  characters_refused : {X : Type 0} (e : DecodeError X) → (c.mode ≡ Cer → limit_or c.owed 0 ≤ 1000)
      → RefusesReading (AreNot (IsOfSet step)) c e d → RefusesToRead tag (MeansPiece step c.mode) c e d
  characters_refused e most (readers.RefusesReading.source s g) = source s g
  characters_refused e most (readers.RefusesReading.few s a n) = nothing (too_few tag _ c k.0 k.1 s) a
  characters_refused e most (readers.RefusesReading.refused h (inl n) f) = nothing (none_of_set n.0) n.1
  characters_refused e most (readers.RefusesReading.refused h (inr m) f) =
      memory m.0 (of_octets c.stream.rest c.stream.rest (all_held c k.0 k.1 h) ((all_whole c most h, refl), m.1))

  pub read_characters : {X : Type 0} (r : Result (List ℕ) (DecodeError X)) → Reads (λ w b. (b ≡ w) × IsOfSet step w) (AreNot (IsOfSet step)) c r d
      → (d.kind ≡ Octets) × (d.state ≡ Open) → (c.mode ≡ Cer → limit_or c.owed 0 ≤ 1000) → ReadsContent tag (MeansPiece step c.mode) c r d
  read_characters {X} (Ok b) r l most = accepted_piece (read_piece {X = X} tag c d (Ok b) plain k l most)
    where
      plain : Reads {X = X} (λ w b. b ≡ w) FindNoMemory c (Ok b) d
      plain = record {
        value = r.value.0;
        all = r.all;
        none_left = r.none_left;
        none_owed = r.none_owed;
        no_fault = r.no_fault;
        refused = tt;
        kept = tt;
        still_owed = tt;
        mode = r.mode;
        marked = r.marked;
      }

      accepted_piece : ReadsContent tag (λ t w. MeansString c.mode t (whole w)) {X = X} c (Ok b) d
          → ReadsContent tag (MeansPiece step c.mode) {X = X} c (Ok b) d
      accepted_piece h = record {
        value = record { tree = h.value.tree; holds = h.value.holds; means = (h.value.means, subst (IsOfSet step) (sym r.value.0) r.value.1) };
        done = h.done;
        no_fault = h.no_fault;
        refused = tt;
        mode = h.mode;
        marked = h.marked;
      }
  read_characters (Err e) r l most =
      record { value = tt; done = tt; no_fault = tt; refused = characters_refused e most r.refused; mode = r.mode; marked = r.marked }

-- a primitive string of a set
pub accepted_in_one : (step : Step) (mode : Mode) (t : Tag) (contents : List ℕ) (x : StringOctets) → MeansRestricted step mode (primitive t contents) x
    → MeansRestricted step mode (primitive t contents) (whole contents)
accepted_in_one step mode t contents x means = ((means.0.0, refl), subst (λ s. IsOfSet step (octets_of s)) means.0.1 means.1)
