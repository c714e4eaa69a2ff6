-- Octet strings that are read from content.
use Rattle.std.proofs.Common.{◌≡◌, ◌≢◌, ℕ, ◌<◌, ◌≤◌, List, ◌++◌, length, Option, Some, None, false, refl, ap, sym, ◌∙◌, arith, subst, inl, inr}
use Rattle.std.specs.Prelude.{◌⊎◌, Result, Ok, Err}
use Rattle.std.proofs.lemmas.Bool.{cases_lt}
use Rattle.bcder.specs.declared.mode.Mode.{Mode}
use Rattle.bcder.specs.declared.mode.Mode.TheVariants.{Ber, Cer, Der}
use Rattle.bcder.specs.declared.decode.content.State.{State}
use Rattle.bcder.specs.declared.decode.content.State.TheVariants.{Open, Ended, Failed}
use Rattle.bcder.specs.declared.decode.error.DecodeError.{DecodeError}
use Rattle.bcder.specs.declared.string.octet.Segment.{Segment}
use Rattle.bcder.specs.x690.Identifier.{Tag}
use Rattle.bcder.specs.x690.Tree.{Tree, primitive, constructed, Trees}
use Rattle.bcder.specs.x690.Encoding.{AreEncodings}
use Rattle.bcder.specs.calls.Cause.{cause_of, of_memory, IsRefusal}
use Rattle.bcder.specs.calls.Stream.{limit_or}
use Rattle.bcder.specs.calls.Captured.{Kept}
use Rattle.bcder.specs.calls.Content.{any, Reading, Octets, Closes, HasHeader, IsDone, IsUsedUp, tagged}
use Rattle.bcder.specs.calls.Walking.{HasValue, HasValues}
use Rattle.bcder.specs.calls.Readers.{Reads, RefusesReading, FindNoMemory}
use Rattle.bcder.specs.calls.Readers as readers
use Rattle.bcder.specs.calls.Capturing.{CapturesBy, CapturesValues, HasOthers, HasValuesOrDeep}
use Rattle.bcder.specs.calls.StringOctets.{StringOctets, whole, cut, MeansString}
use Rattle.bcder.specs.x690.OctetString.{segments_of, AreSegmentsIn, MayBeWhole, AreCut}
use Rattle.bcder.specs.steps.SegmentTable.{segments_at, IsTable}
use Rattle.bcder.specs.calls.Valued.{tag_of, HoldsOctets, HoldsValues, HoldsNone, ReadsTree, NeedsMemory, RefusesToRead, ReadsContent, RefusesTree}
use Rattle.bcder.specs.calls.Valued.{HasNoTree, WantsMemoryFor, TakesNextTree}
use Rattle.bcder.specs.calls.Valued as valued
use Rattle.bcder.specs.laws.Lists.{empty_list}
use Rattle.bcder.proofs.Moving.{open_not_ended, open_not_failed}
use Rattle.bcder.specs.calls.Content as refusals
use Rattle.bcder.specs.calls.Content.{Refuses}
use Rattle.bcder.proofs.Valued.{one_values, no_values_of_octets, primitive_in_front}

-- ---- in one piece

-- contents octets, as those of a string in one piece
abbrev pub MeansPiece : Mode → Tree → List ℕ → Type 0
MeansPiece mode t w = MeansString mode t (whole w)

whole_in : (mode : Mode) (w : List ℕ) → (mode ≡ Cer → length w ≤ 1000) → MayBeWhole mode w
whole_in Ber w h = tt
whole_in Cer w h = h refl
whole_in Der w h = tt

-- contents octets are no values
pub not_values : (c : Reading) (ts : Trees) → c.kind ≡ Octets → c.state ≡ Open → HoldsValues c ts → ⊥
not_values c ts k o (inl v) = no_values_of_octets c k v.values
not_values c ts k o (inr e) = open_not_ended c.state o e.0

some_is : (m n : ℕ) → ◌≡◌ {A = Option ℕ} (Some m) (Some n) → m ≡ n
some_is m n e = cc

limit_is : (o : Option ℕ) (n : ℕ) → o ≡ Some n → limit_or o 0 ≡ n
limit_is None n e = (let x : ◌≡◌ {A = Option ℕ} None (Some n) = e in cc)
limit_is (Some m) n e = some_is m n e

-- a string in one piece that is too long in CER
too_long : (mode : Mode) (tag : Tag) (c : Reading) → mode ≡ Cer → 1000 < limit_or c.owed 0 → c.kind ≡ Octets → c.state ≡ Open
    → HoldsNone tag (MeansString mode) c
too_long mode tag c m l k o (primitive t contents) x h means =
    let w : length contents ≤ 1000 = subst (λ z. MayBeWhole z contents) m means.0 in
    omega (arith, l, limit_is c.owed (length contents) h.1.owed, w)
too_long mode tag c m l k o (constructed t ts) x h means = not_values c ts k o h.1

-- octets that all came, not too many in CER, are those of a string in one piece
pub all_whole : (c : Reading) → (c.mode ≡ Cer → limit_or c.owed 0 ≤ 1000) → c.owed ≡ Some (length c.stream.rest) → MayBeWhole c.mode c.stream.rest
all_whole c most h = whole_in c.mode c.stream.rest (λ m. (let q = most m in omega (arith, q, limit_is c.owed (length c.stream.rest) h)))

-- they are those that the content holds
pub all_held : (c : Reading) → c.kind ≡ Octets → c.state ≡ Open → c.owed ≡ Some (length c.stream.rest) → HoldsOctets c c.stream.rest
all_held c k o h = record { usable = o; form = k; owed = h; rest = refl }

done_octets : (d : Reading) → d.kind ≡ Octets → d.state ≡ Open → d.owed ≡ Some 0 → IsDone d
done_octets d k o e = inr (o, subst (λ f. IsUsedUp f d.owed d.stream.rest) (sym k) e)

-- what is answered of contents octets
read_whole : {X : Type 0} (tag : Tag) (c d : Reading) (b : List ℕ) → Reads {X = X} (λ w b. b ≡ w) FindNoMemory c (Ok b) d → (c.kind ≡ Octets) × (c.state ≡ Open)
    → (d.kind ≡ Octets) × (d.state ≡ Open) → (c.mode ≡ Cer → limit_or c.owed 0 ≤ 1000) → ReadsContent tag (MeansPiece c.mode) {X = X} c (Ok b) d
read_whole tag c d b r k l most =
    record {
      value = record {
        tree = primitive tag c.stream.rest;
        holds = (refl, record { usable = k.1; form = k.0; owed = r.all; rest = refl });
        means = (all_whole c most r.all, ap whole r.value);
      };
      done = done_octets d l.0 l.1 r.none_owed;
      no_fault = r.no_fault;
      refused = tt;
      mode = r.mode;
      marked = r.marked;
    }

pub long_none : (tag : Tag) (c : Reading) → (c.kind ≡ Octets) × (c.state ≡ Open) → ((c.mode ≡ Cer → limit_or c.owed 0 ≤ 1000) → ⊥)
    → HoldsNone tag (MeansPiece c.mode) c
long_none tag c k long = by_mode c.mode refl
  where
    by_mode : (m : Mode) → c.mode ≡ m → HoldsNone tag (MeansPiece c.mode) c
    by_mode Ber m = absurd (long (λ q. (let x : ◌≡◌ {A = Mode} Ber Cer = sym m ∙ q in cc)))
    by_mode Cer m = λ t w h means. too_long c.mode tag c m (not_most (limit_or c.owed 0) (λ q. long (λ z. q))) k.0 k.1 t (whole w) h means
      where
        not_most : (n : ℕ) → (n ≤ 1000 → ⊥) → 1000 < n
        not_most n f = elim (cases_lt 1000 n) [ inl l ↦ l | inr l ↦ absurd (f l) ]
    by_mode Der m = absurd (long (λ q. (let x : ◌≡◌ {A = Mode} Der Cer = sym m ∙ q in cc)))

pub refuse_long : {X : Type 0} (tag : Tag) (c : Reading) (e : DecodeError X) → IsRefusal e → (c.kind ≡ Octets) × (c.state ≡ Open)
    → ((c.mode ≡ Cer → limit_or c.owed 0 ≤ 1000) → ⊥) → ReadsContent tag (MeansPiece c.mode) c (Err e) c
refuse_long tag c e a k long =
    record { value = tt; done = tt; no_fault = tt; refused = valued.RefusesToRead.nothing (long_none tag c k long) a; mode = refl; marked = refl }

pub too_few : {T : Type 0} (tag : Tag) (Means : Tree → T → Type 0) (c : Reading) → c.kind ≡ Octets → c.state ≡ Open
    → ((n : ℕ) → c.owed ≡ Some n → length c.stream.rest < n) → HoldsNone tag Means c
too_few tag Means c k o s (primitive t contents) x h means = omega (arith, s (length contents) h.1.owed, ap length h.1.rest)
too_few tag Means c k o s (constructed t ts) x h means = not_values c ts k o h.1

refused_octets : {X : Type 0} (tag : Tag) (c d : Reading) (e : DecodeError X) → c.kind ≡ Octets → c.state ≡ Open → (c.mode ≡ Cer → limit_or c.owed 0 ≤ 1000)
    → RefusesReading FindNoMemory c e d → RefusesToRead tag (MeansPiece c.mode) c e d
refused_octets tag c d e k o most (readers.RefusesReading.source s g) = valued.RefusesToRead.source s g
refused_octets tag c d e k o most (readers.RefusesReading.few s a n) = valued.RefusesToRead.nothing (too_few tag _ c k o s) a
refused_octets tag c d e k o most (readers.RefusesReading.refused h a n) =
    valued.RefusesToRead.memory a (valued.NeedsMemory.of_octets c.stream.rest c.stream.rest (all_held c k o h) (all_whole c most h, refl))

refuse_octets : {X : Type 0} (tag : Tag) (c d : Reading) (e : DecodeError X) → Reads (λ w (b : List ℕ). b ≡ w) FindNoMemory c (Err e) d
    → (c.kind ≡ Octets) × (c.state ≡ Open) → (c.mode ≡ Cer → limit_or c.owed 0 ≤ 1000) → ReadsContent tag (MeansPiece c.mode) c (Err e) d
refuse_octets tag c d e r k most =
    record { value = tt; done = tt; no_fault = tt; refused = refused_octets tag c d e k.0 k.1 most r.refused; mode = r.mode; marked = r.marked }

pub read_piece : {X : Type 0} (tag : Tag) (c d : Reading) (r : Result (List ℕ) (DecodeError X)) → Reads (λ w b. b ≡ w) FindNoMemory c r d → (c.kind ≡ Octets)
    × (c.state ≡ Open) → (d.kind ≡ Octets) × (d.state ≡ Open) → (c.mode ≡ Cer → limit_or c.owed 0 ≤ 1000) → ReadsContent tag (MeansPiece c.mode) c r d
read_piece tag c d (Ok b) r k l most = read_whole tag c d b r k l most
read_piece tag c d (Err e) r k l most = refuse_octets tag c d e r k most

-- what is told of contents octets holds of the string in one piece, where a primitive value means no other
module _ {X : Type 0} (Means : Mode → Tree → StringOctets → Type 0) (in_one : (mode : Mode) (t : Tag) (contents : List ℕ) (x : StringOctets)
    → Means mode (primitive t contents) x → Means mode (primitive t contents) (whole contents)) (tag : Tag) (c d : Reading) where
  pub piece_read : (w : List ℕ) (s : StringOctets) → s ≡ whole w → ReadsContent tag (λ t w. Means c.mode t (whole w)) {X = X} c (Ok w) d
      → ReadsContent tag (Means c.mode) {X = X} c (Ok s) d
  piece_read w s e k = record {
    value = record { tree = k.value.tree; holds = k.value.holds; means = subst (Means c.mode k.value.tree) (sym e) k.value.means };
    done = k.done;
    no_fault = k.no_fault;
    refused = tt;
    mode = k.mode;
    marked = k.marked;
  }

  pub piece_refused : (c.kind ≡ Octets) × (c.state ≡ Open) → (e : DecodeError X) → ReadsContent {T = List ℕ} tag (λ t w. Means c.mode t (whole w)) c (Err e) d
      → ReadsContent {T = StringOctets} tag (Means c.mode) c (Err e) d
  piece_refused o e k = record { value = tt; done = tt; no_fault = tt; refused = of_piece k.refused; mode = k.mode; marked = k.marked }
    where
      none : HoldsNone {T = List ℕ} tag (λ t w. Means c.mode t (whole w)) c → HoldsNone tag (Means c.mode) c
      none n (primitive t contents) x h means = n (primitive t contents) contents h (in_one c.mode t contents x means)
      none n (constructed t ts) x h means = not_values c ts o.0 o.1 h.1

      needed : NeedsMemory {T = List ℕ} tag (λ t w. Means c.mode t (whole w)) c d → NeedsMemory tag (Means c.mode) c d
      needed (valued.NeedsMemory.of_octets contents x h m) = valued.NeedsMemory.of_octets contents (whole x) h m
      needed (valued.NeedsMemory.of_values der f h r s) = valued.NeedsMemory.of_values der f h r s
      needed (valued.NeedsMemory.of_segments ts h s) = valued.NeedsMemory.of_segments ts h s

      of_piece : RefusesToRead {T = List ℕ} tag (λ t w. Means c.mode t (whole w)) c e d → RefusesToRead tag (Means c.mode) c e d
      of_piece (valued.RefusesToRead.failed s i) = valued.RefusesToRead.failed s i
      of_piece (valued.RefusesToRead.source s g) = valued.RefusesToRead.source s g
      of_piece (valued.RefusesToRead.memory s n) = valued.RefusesToRead.memory s (needed n)
      of_piece (valued.RefusesToRead.nothing n i) = valued.RefusesToRead.nothing (none n) i

  pub piece_taken : (w : List ℕ) (s : StringOctets) → s ≡ whole w → TakesNextTree tag (λ t w. Means c.mode t (whole w)) {X = X} c (Ok (Some w)) d
      → TakesNextTree tag (Means c.mode) {X = X} c (Ok (Some s)) d
  piece_taken w s e k = record {
    value = record {
      tree = k.value.tree;
      octets = k.value.octets;
      has = k.value.has;
      means = subst (Means c.mode k.value.tree) (sym e) k.value.means;
      stays = k.value.stays;
    };
    no_fault = k.no_fault;
    refused = tt;
    mode = k.mode;
    marked = k.marked;
  }

  -- behind the header of a primitive value
  pub piece_not_taken : (after : List ℕ) (f : HasHeader (tagged tag) c after) → f.form ≡ false → (e : DecodeError X)
      → TakesNextTree {T = List ℕ} tag (λ t w. Means c.mode t (whole w)) c (Err e) d → TakesNextTree {T = StringOctets} tag (Means c.mode) c (Err e) d
  piece_not_taken after f p e k =
      record { value = tt; no_fault = tt; refused = (k.refused.0, of_piece k.refused.1); mode = k.mode; marked = k.marked }
    where
      none : HasNoTree {T = List ℕ} tag (λ t w. Means c.mode t (whole w)) c → (t : Tree) (w rest : List ℕ) (x : StringOctets) → HasValue c t w rest × (tag_of t ≡ tag)
          → Means c.mode t x → ⊥
      none n (primitive t contents) w rest x h means = n.value (primitive t contents) w rest contents h (in_one c.mode t contents x means)
      none n (constructed t ts) w rest x h means = primitive_in_front tag c after f p t ts w rest h

      wanted : WantsMemoryFor {T = List ℕ} tag (λ t w. Means c.mode t (whole w)) c → WantsMemoryFor tag (Means c.mode) c
      wanted (valued.WantsMemoryFor.of_value t w rest x h m) = valued.WantsMemoryFor.of_value t w rest (whole x) h m
      wanted (valued.WantsMemoryFor.of_header der a h g) = valued.WantsMemoryFor.of_header der a h g

      of_piece : RefusesTree {T = List ℕ} tag (λ t w. Means c.mode t (whole w)) c e d → RefusesTree tag (Means c.mode) c e d
      of_piece (refusals.Refuses.failed s i) = refusals.Refuses.failed s i
      of_piece (refusals.Refuses.source s g) = refusals.Refuses.source s g
      of_piece (refusals.Refuses.otherwise h) = refusals.Refuses.otherwise (h.0, wanted h.1)
      of_piece (refusals.Refuses.nothing n i) = refusals.Refuses.nothing (record { usable = n.usable; value = none n; absent = n.absent }) i

-- a primitive octet string
pub octets_in_one : (mode : Mode) (t : Tag) (contents : List ℕ) (x : StringOctets) → MeansString mode (primitive t contents) x
    → MeansString mode (primitive t contents) (whole contents)
octets_in_one mode t contents x means = (means.0, refl)

-- ---- cut into segments

-- values that were captured are those that the content holds
state_of : (c : Reading) (k : Kept) (d : Reading) → CapturesValues c k d → (c.state ≡ Open) ⊎ (c.state ≡ Ended)
state_of c k d h = by_state c.state refl
  where
    failed : c.state ≡ Failed → ⊥
    failed e = of_closes h.closes
      where
        of_done : d.state ≡ Failed → IsDone d → ⊥
        of_done f (inl g) = (let x : ◌≡◌ {A = State} Failed Ended = sym f ∙ g in cc)
        of_done f (inr g) = open_not_failed d.state g.0 f

        of_closes : Closes c.mode c h.close d → ⊥
        of_closes (inl g) = of_done (g.1 ∙ e) h.done
        of_closes (inr g) = open_not_failed c.state g.2 e

    by_state : (s : State) → c.state ≡ s → (c.state ≡ Open) ⊎ (c.state ≡ Ended)
    by_state Open e = inl e
    by_state Ended e = inr e
    by_state Failed e = absurd (failed e)

captured_values : (c : Reading) (k : Kept) (d : Reading) → CapturesValues c k d → c.state ≡ Open → (ts : Trees) → AreEncodings c.mode ts k.octets → HasValues c
captured_values c k d h o ts a = record { trees = ts; all = k.octets; after = h.close ++ d.stream.rest; encode = a; rest = h.rest; closes = h.are_all o }

captured_held : (c : Reading) (k : Kept) (d : Reading) → CapturesValues c k d → (ts : Trees) → AreEncodings c.mode ts k.octets → HoldsValues c ts
unfolding captured_values
captured_held c k d h ts a = elim (state_of c k d h) [
  | inl o ↦ inl (record { usable = o; values = captured_values c k d h o ts a; are = refl })
  | inr e ↦ inr (e, empty_list c.mode ts (subst (AreEncodings c.mode ts) (h.are_none e) a))
]

read_cut : (tag : Tag) (c d : Reading) (k : Kept) (ss : List Segment) → CapturesValues c k d → IsTable c.mode k.octets ss
    → ReadsTree tag (MeansString c.mode) c (cut k (segments_at k.octets ss))
read_cut tag c d k ss h t =
    let s = t.segmented in
    record {
      tree = constructed tag s.values;
      holds = (refl, captured_held c k d h s.values s.encode);
      means = (s.shape, (k, h.mode, s.encode, ap (cut k) (sym s.hold)));
    }

-- values that are no segments
not_cut : (tag : Tag) (c d : Reading) (k : Kept) → CapturesValues c k d → c.kind ≢ Octets → (AreCut c.mode k.octets → ⊥) → HoldsNone tag (MeansString c.mode) c
unfolding captured_values
not_cut tag c d k h o none (primitive t contents) x held means = o held.1.form
not_cut tag c d k h o none (constructed t ts) x held means =
    none (segments_of ts, record { values = ts; encode = encoded held.1; shape = means.0; hold = refl })
  where
    encoded : HoldsValues c ts → AreEncodings c.mode ts k.octets
    encoded (inl v) =
        let w : HasValues c = captured_values c k d h v.usable h.whole.values h.whole.encode in
        subst (λ z. AreEncodings c.mode z k.octets) (one_values c w v.values ∙ v.are) h.whole.encode
    encoded (inr e) = subst (λ z. AreEncodings c.mode z k.octets) (sym e.1) (h.are_none e.0)

no_others : (tag : Tag) (Means : Tree → StringOctets → Type 0) (c : Reading) → c.kind ≢ Octets → HasOthers c → HoldsNone tag Means c
no_others tag Means c o n (primitive t contents) x held means = o held.1.form
no_others tag Means c o n (constructed t ts) x held means = of_held held.1
  where
    of_held : HoldsValues c ts → ⊥
    of_held (inl v) = n.none v.values
    of_held (inr e) = open_not_ended c.state n.usable e.0

not_captured : {X : Type 0} (tag : Tag) (c d : Reading) (e : DecodeError X) → c.kind ≢ Octets → c.mode ≢ Der
    → (d.stream.rest ≡ c.stream.rest) × (d.owed ≡ c.owed) × (d.state ≡ c.state)
    → Refuses cause_of any HasOthers ((cause_of e ≡ of_memory) × HasValuesOrDeep c) c e d → RefusesToRead tag (MeansString c.mode) c e d
not_captured tag c d e o m b (refusals.Refuses.failed s a) = valued.RefusesToRead.failed s a
not_captured tag c d e o m b (refusals.Refuses.source s g) = valued.RefusesToRead.source s g
not_captured tag c d e o m b (refusals.Refuses.nothing n a) = valued.RefusesToRead.nothing (no_others tag _ c o n) a.refused
not_captured tag c d e o m b (refusals.Refuses.otherwise h) = valued.RefusesToRead.memory h.0 (valued.NeedsMemory.of_values m o h.1 b.0 b.2)

-- what is answered of values
module _ {X : Type 0} (tag : Tag) (c d : Reading) where
  pub read_segments : (k : Kept) (ss : List Segment) (s : StringOctets) → CapturesBy {X = X} CapturesValues HasOthers HasValuesOrDeep c (Ok k) d
      → IsTable c.mode k.octets ss → s ≡ cut k (segments_at k.octets ss) → ReadsContent tag (MeansString c.mode) {X = X} c (Ok s) d
  read_segments k ss s r t is = record {
    value = subst (ReadsTree tag (MeansString c.mode) c) (sym is) (read_cut tag c d k ss r.value t);
    done = (let h : CapturesValues c k d = r.value in h.done);
    no_fault = r.no_fault;
    refused = tt;
    mode = r.mode;
    marked = r.marked;
  }

  pub refuse_segments : (k : Kept) (e : DecodeError X) → CapturesBy {X = X} CapturesValues HasOthers HasValuesOrDeep c (Ok k) d → c.kind ≢ Octets
      → (AreCut c.mode k.octets → ⊥) → IsRefusal e → ReadsContent tag (MeansString c.mode) c (Err e) d
  refuse_segments k e r o none a = record {
    value = tt;
    done = tt;
    no_fault = tt;
    refused = valued.RefusesToRead.nothing (not_cut tag c d k r.value o none) a;
    mode = r.mode;
    marked = r.marked;
  }

  pub refuse_values : (e : DecodeError X) → CapturesBy {X = X} CapturesValues HasOthers HasValuesOrDeep c (Err e) d → c.kind ≢ Octets → c.mode ≢ Der
      → ReadsContent tag (MeansString c.mode) c (Err e) d
  refuse_values e r o m =
      record { value = tt; done = tt; no_fault = tt; refused = not_captured tag c d e o m (r.refused.1, r.refused.2, r.refused.3) r.refused.0; mode = r.mode; marked = r.marked }

  -- segments for whose table there was no memory
  pub refuse_table : (k : Kept) (e : DecodeError X) → CapturesBy {X = X} CapturesValues HasOthers HasValuesOrDeep c (Ok k) d → AreCut c.mode k.octets
      → cause_of e ≡ of_memory → ReadsContent tag (MeansString c.mode) c (Err e) d
  refuse_table k e r a m = record {
    value = tt;
    done = tt;
    no_fault = tt;
    refused = valued.RefusesToRead.memory m
        (valued.NeedsMemory.of_segments a.1.values (captured_held c k d r.value a.1.values a.1.encode) a.1.shape);
    mode = r.mode;
    marked = r.marked;
  }

-- in DER there is no such string
pub refuse_constructed : {X : Type 0} (tag : Tag) (c : Reading) (e : DecodeError X) → c.mode ≡ Der → c.kind ≢ Octets → IsRefusal e
    → ReadsContent tag (MeansString c.mode) c (Err e) c
refuse_constructed tag c e m o a = record { value = tt; done = tt; no_fault = tt; refused = valued.RefusesToRead.nothing none a; mode = refl; marked = refl }
  where
    none : HoldsNone tag (MeansString c.mode) c
    none (primitive t contents) x held means = o held.1.form
    none (constructed t ts) x held means = (let z : AreSegmentsIn Der ts = subst (λ y. AreSegmentsIn y ts) m means.0 in z)
