-- A SET, read: all values are kept, put in the order of their tags, and read as fields.
use Rattle.std.proofs.Common.{◌≡◌, ◌≢◌, ℕ, Bool, true, false, List, [], ◌∷◌, ◌++◌, length, refl, ap, sym, ◌∙◌, subst, inl, inr}
use Rattle.std.specs.Prelude.{Ok, Err, Option, Some, None}
use Rattle.std.specs.declared.convert.Infallible.{Infallible}
use Rattle.bcder.specs.declared.mode.Mode.{Mode}
use Rattle.bcder.specs.declared.mode.Mode.TheVariants.{Ber, Cer, Der}
use Rattle.bcder.specs.declared.decode.error.DecodeError.{DecodeError}
use Rattle.bcder.specs.x690.Identifier.{Tag}
use Rattle.bcder.specs.x690.Tree.{Tree, primitive, constructed, Trees, no_trees, ◌∷ₜ◌, ◌+++◌}
use Rattle.bcder.specs.x690.Encoding.{IsHeader, Header, IsEncoding, AreEncodings}
use Rattle.bcder.specs.calls.Captured.{Kept}
use Rattle.bcder.specs.calls.Cause.{cause_of, IsOfContent, IsRefusal}
use Rattle.bcder.specs.calls.Content.{Reading}
use Rattle.bcder.specs.calls.Content.{length_of}
use Rattle.bcder.specs.calls.Meaning.{Encoded, Meaning}
use Rattle.bcder.specs.calls.Meaning.{EachOf, Joined}
use Rattle.bcder.specs.calls.Gathered.{KeptMeans, HoldsMeant}
use Rattle.bcder.specs.calls.Stream.{Stream}
use Rattle.bcder.specs.calls.Valued.{HoldsValues, tag_of}
use Rattle.bcder.specs.laws.Complete.{one_header, one_list}
use Rattle.asn1.specs.Types.{AreInside, Only, AreList, TakesFields, HoldsNoFields, RefusesFields, ReadsFields}
use Rattle.asn1.specs.Types as types
use Rattle.asn1.specs.Anything.{Every, IsOneValue, KeepsValue}
use Rattle.asn1.specs.Decoded.{AreFields, RefusesFieldsOf}
use Rattle.asn1.specs.Decoded as decoded
use Rattle.asn1.specs.Keys.{MeansOne, IsMeantOnce, TakeOne, AreTakenOnce}
use Rattle.asn1.specs.SetsWritten.{flat, octets_of_each}
use Rattle.asn1.specs.Sets.{Rise, each, tag_place, place, place_of_value, kept_place, AreOrdered, AreSet, AreKeptInOrder, RefusesMembers}
use Rattle.asn1.specs.Writing.{AreTaken, AreReadAs}
use Rattle.std.proofs.lemmas.List.Sorted.{IsPermutation-sym, IsPermutation-trans}
use Rattle.asn1.proofs.Kept.{value_kept}
use Rattle.asn1.proofs.Reading.{encoded_tag, held_once}
use Rattle.asn1.proofs.ReadingBack.{and_none}
use Rattle.asn1.proofs.SetsRead.{never_of_source}
use Rattle.asn1.proofs.SetsSorted.{flat_of}
use Rattle.asn1.proofs.ByTag.{one_rise, one_order, rearranged_encode, AreKept, as_kept, kept_encode, tags_rise, ordered_trees, ordered_kept}

-- ---- the tag of a kept value

record Begins (mode : Mode) (t : Tree) (w : List ℕ) : Type 0 where
  form : Bool
  len : Option ℕ
  header : List ℕ
  rest : List ℕ
  is_header : IsHeader mode (tag_of t) form (length_of len) header
  is : w ≡ header ++ rest

begins : (mode : Mode) (t : Tree) (w : List ℕ) → IsEncoding mode t w → Begins mode t w
begins mode (primitive t v) w e =
    record { form = false; len = Some (length v); header = e.1.header; rest = v; is_header = e.1.is_header; is = e.1.is }
begins mode (constructed t ts) w (v, e, inl d) =
    record { form = true; len = Some (length v); header = d.header; rest = v; is_header = d.is_header; is = d.is }
begins mode (constructed t ts) w (v, e, inr d) =
    record { form = true; len = None; header = d.header; rest = v ++ d.end; is_header = d.is_header; is = d.is }

-- the tag of its header is that of the value
pub place_found : (k : Kept) → IsOneValue k → (t : Tag) (form : Bool) (len : Option ℕ) (w rest : List ℕ) → IsHeader k.mode t form (length_of len) w
    → k.octets ≡ w ++ rest → kept_place k ≡ place t
place_found k o t form len w rest h q =
    let b = begins k.mode o.tree k.octets o.encodes in
    let s = one_header k.mode (tag_of o.tree) t b.form form (length_of b.len) (length_of len) b.header w b.rest rest b.is_header h (sym b.is ∙ q) in
    ap place_of_value (value_kept k o.tree o.encodes) ∙ ap (λ (z : Header). place z.tag) s.0

-- and a kept value has one
pub has_header : (k : Kept) → IsOneValue k
    → ((t : Tag) (form : Bool) (len : Option ℕ) (w x : List ℕ) → IsHeader k.mode t form (length_of len) w → k.octets ≡ w ++ x → ⊥) → ⊥
has_header k o n = (let b = begins k.mode o.tree k.octets o.encodes in n (tag_of o.tree) b.form b.len b.header b.rest b.is_header b.is)

-- ---- all values of content

encoding_held : (c : Reading) (ts : Trees) → HoldsValues c ts → (w : List ℕ) × AreEncodings c.mode ts w
encoding_held c ts (inl h) = (h.values.all, subst (λ z. AreEncodings c.mode z h.values.all) h.are h.values.encode)
encoding_held c ts (inr h) = ([], subst (λ z. AreEncodings c.mode z []) (sym h.1) refl)

module _ (mode : Mode) (asked : Tag) where
  keep_each : (ts : Trees) (w : List ℕ) → AreEncodings mode ts w → (ks : List Kept) × AreList (Every asked) (KeepsValue mode) ts ks no_trees
  keep_each no_trees w e = ([], (tt, refl))
  keep_each (t ∷ₜ ts) w (v, x, e, es, q) =
      let k : Kept = record { mode = mode; octets = v; start = 0 } in
      let r = keep_each ts x es in (
        k ∷ r.0,
        (
          ts,
          record { tree = t; are = refl; tagged = encoded_tag mode t v e; means = record { rules = refl; encodes = e } },
          r.1,
        ),
      )

module _ {T : Type 0} (asked : Tag) (Place : ℕ → ℕ) (Takes : Trees → T → Trees → Type 0) (c d : Reading) where
  -- all values can be kept
  can_keep : (ts : Trees) → HoldsValues c ts → (ks : List Kept) × AreList (Every asked) (KeepsValue c.mode) ts ks no_trees
  can_keep ts h = (let e = encoding_held c ts h in keep_each c.mode asked ts e.0 e.1)

  list_refused : {X : Type 0} (e : DecodeError X) → RefusesFields (AreList (Every asked) (KeepsValue c.mode)) true c e d
      → RefusesFields (AreSet c.mode Place Takes) true c e d
  list_refused e (types.RefusesFields.source s g) = types.RefusesFields.source s g
  list_refused e (types.RefusesFields.memory s l) = types.RefusesFields.memory s l
  list_refused e (types.RefusesFields.broken n a) =
      types.RefusesFields.broken (λ ts us y h g. (let k = can_keep ts h in n ts no_trees k.0 h k.1)) a

  module _ (xs : List Kept) (f : TakesFields (AreList (Every asked) (KeepsValue c.mode)) c xs d) where
    nothing_left : (ts : Trees) → HoldsValues c ts → HoldsValues d no_trees
    nothing_left ts h = (let k = can_keep ts h in f.behind ts no_trees k.0 h k.1)

    all_kept : (ts : Trees) → HoldsValues c ts → AreKept c.mode ts xs
    all_kept ts h =
        let b = f.before no_trees (nothing_left ts h) in
        as_kept c.mode asked ts xs (subst (λ z. AreList (Every asked) (KeepsValue c.mode) z xs no_trees) (held_once c b.0 ts b.1 h) b.2)

    not_in_order : ((ks : List Kept) → AreKeptInOrder c.mode Place xs ks → ⊥) → HoldsNoFields (AreSet c.mode Place Takes) c
    not_in_order n ts us y h g = (let k = ordered_kept c.mode Place ts g.ordered xs (all_kept ts h) g.order in n k.0 k.1)

    not_by_tag : c.mode ≡ Der → (Rise kept_place xs → ⊥) → HoldsNoFields (AreSet c.mode Place Takes) c
    not_by_tag e n ts us y h g = n (tags_rise c.mode ts xs (all_kept ts h) (g.order.by_tag e))

    module _ (s : c.mode ≡ Der → Rise kept_place xs) (ys : List Kept) (o : AreKeptInOrder c.mode Place xs ys) where
      set_taken : (x : T) → AreFields c.mode Takes (flat (octets_of_each ys)) x → TakesFields (AreSet c.mode Place Takes) c x d
      set_taken x a = record {
        before = λ us h.
            let b = f.before us h in
            let t = ordered_trees c.mode Place b.0 xs ys (all_kept b.0 b.1) s o in
            let e = one_list c.mode a.trees t.trees (flat (octets_of_each ys)) a.encode (kept_encode c.mode t.trees ys t.kept) in (
              b.0,
              b.1,
              record {
                ordered = t.trees;
                order = t.order;
                taken = subst (λ z. Takes z x no_trees) e a.taken;
                none_left = held_once d us no_trees h (nothing_left b.0 b.1);
              },
            );
        behind = λ ts us y h g. subst (HoldsValues d) (sym g.none_left) (nothing_left ts h);
      }

      no_set : ((x : T) → AreFields c.mode Takes (flat (octets_of_each ys)) x → ⊥) → HoldsNoFields (AreSet c.mode Place Takes) c
      no_set n ts us y h g =
          let t = ordered_trees c.mode Place ts xs ys (all_kept ts h) s o in
          let q = one_order c.mode Place ts g.ordered t.trees g.order t.order in
          n y (record { trees = t.trees; encode = kept_encode c.mode t.trees ys t.kept; taken = subst (λ z. Takes z y no_trees) q g.taken })

-- ---- what the reader says

abbrev Kepts : Tag → Mode → Trees → List Kept → Trees → Type 0
Kepts asked mode = AreList (Every asked) (KeepsValue mode)

abbrev IsSet : {T : Type 0} → (ℕ → ℕ) → (Mode → Trees → T → Trees → Type 0) → Mode → Trees → T → Trees → Type 0
IsSet Place Takes mode = AreSet mode Place (Takes mode)

module _ {T X : Type 0} (asked : Tag) (Place : ℕ → ℕ) (Takes : Mode → Trees → T → Trees → Type 0) (c d : Reading) where
  pub keeps_none : (e : DecodeError X) → ReadsFields (Kepts asked c.mode) true c (Err e) d
      → ReadsFields (IsSet Place Takes c.mode) true c (Err e) d
  keeps_none e r = record {
    value = tt;
    no_fault = tt;
    refused = list_refused asked Place (Takes c.mode) c d e r.refused;
    mode = r.mode;
    marked = r.marked;
  }

  module _ (xs : List Kept) (r : ReadsFields (Kepts asked c.mode) true {X = X} c (Ok xs) d) (m : Mode) (q : m ≡ d.mode) where
    in_mode : m ≡ c.mode
    in_mode = q ∙ r.mode

    stops : (e : DecodeError X) → RefusesFields (IsSet Place Takes c.mode) true c e d → ReadsFields (IsSet Place Takes c.mode) true c (Err e) d
    stops e f = record { value = tt; no_fault = tt; refused = f; mode = r.mode; marked = r.marked }

    pub refuses_tags : (e : DecodeError X) → (m ≡ Der) × (Rise kept_place xs → ⊥) → IsRefusal e
        → ReadsFields (IsSet Place Takes c.mode) true c (Err e) d
    refuses_tags e n a =
        stops e (types.RefusesFields.broken (not_by_tag asked Place (Takes c.mode) c d xs r.value (sym in_mode ∙ n.0) n.1) a)

    pub refuses_order : (e : DecodeError X) → ((ks : List Kept) → AreKeptInOrder m Place xs ks → ⊥) → IsRefusal e
        → ReadsFields (IsSet Place Takes c.mode) true c (Err e) d
    refuses_order e n a =
        stops e
        (types.RefusesFields.broken
        (not_in_order asked Place (Takes c.mode) c d xs r.value (λ ks o. n ks (subst (λ z. AreKeptInOrder z Place xs ks) (sym in_mode) o))) a)

    module _ (s : m ≡ Der → Rise kept_place xs) (ys : List Kept) (o : AreKeptInOrder m Place xs ys) where
      by_tag : c.mode ≡ Der → Rise kept_place xs
      by_tag e = s (in_mode ∙ e)

      ordered : AreKeptInOrder c.mode Place xs ys
      ordered = subst (λ z. AreKeptInOrder z Place xs ys) in_mode o

      pub reads_set : (x : T) → AreFields m (Takes m) (flat (octets_of_each ys)) x → ReadsFields (IsSet Place Takes c.mode) true {X = X} c (Ok x) d
      reads_set x a = record {
        value =
            set_taken asked Place (Takes c.mode) c d xs r.value by_tag ys ordered x
            (subst (λ z. AreFields z (Takes z) (flat (octets_of_each ys)) x) in_mode a);
        no_fault = r.no_fault;
        refused = tt;
        mode = r.mode;
        marked = r.marked;
      }

      members_refused : (e : DecodeError X) → RefusesMembers m (Takes m) (flat (octets_of_each ys)) e
          → RefusesFields (IsSet Place Takes c.mode) true c e d
      members_refused e (inl a) = types.RefusesFields.memory a refl
      members_refused e (inr a) =
          types.RefusesFields.broken
          (no_set asked Place (Takes c.mode) c d xs r.value by_tag ys ordered
          (λ x b. a.0 x (subst (λ z. AreFields z (Takes z) (flat (octets_of_each ys)) x) (sym in_mode) b))) a.1

      pub refuses_members : (e : DecodeError X) → RefusesMembers m (Takes m) (flat (octets_of_each ys)) e
          → ReadsFields (IsSet Place Takes c.mode) true c (Err e) d
      refuses_members e a = stops e (members_refused e a)

-- ---- kept values, joined

pub joined_octets : (mode : Mode) (ks : List Kept) (k : Kept) → HoldsMeant (Joined (EachOf (λ (c : Kept). KeptMeans c mode) ks)) mode k
    → k.octets ≡ flat (octets_of_each ks)
joined_octets mode ks k h = ap (λ (z : Kept). z.octets) h.holds ∙ flat_of mode ks h.what h.meant.0

-- an error of one source, given as one of another, refuses for the same reason
pub members_converted : {T X : Type 0} {lacks : Bool} (mode : Mode) (Takes : Trees → T → Trees → Type 0) (s : Stream)
    (e : DecodeError Infallible) (f : DecodeError X)
    → cause_of f ≡ cause_of e → RefusesFieldsOf mode Takes lacks s e → RefusesMembers mode Takes s.rest f
members_converted mode Takes s e f q (decoded.RefusesFieldsOf.source later c g) = absurd (never_of_source e c)
members_converted mode Takes s e f q (decoded.RefusesFieldsOf.memory c l) = inl (q ∙ c)
members_converted mode Takes s e f q (decoded.RefusesFieldsOf.broken n a) = inr (n, subst IsOfContent (sym q) a)

-- ---- what sets are told apart by

module _ {T K : Type 0} (mode : Mode) (Place : ℕ → ℕ) (Takes : Trees → T → Trees → Type 0) (keys : T → K) where
  pub one_set : TakeOne Takes keys → MeansOne (AreInside (AreSet mode Place Takes)) keys
  one_set one (primitive t w) x y h k = absurd h
  one_set one (constructed t ts) x y h k =
      let q = one_order mode Place ts h.ordered k.ordered h.order k.order in
      (one k.ordered no_trees no_trees x y (subst (λ z. Takes z x no_trees) q h.taken) k.taken).0

  -- in CER and DER the order of the fields is that of one order of values
  one_place : mode ≢ Ber → (ts us vs : Trees) → AreOrdered mode Place ts vs → AreOrdered mode Place us vs → ts ≡ us
  one_place ne ts us vs o p = told mode refl
    where
      told : (m : Mode) → mode ≡ m → ts ≡ us
      told Ber e = absurd (ne e)
      told Cer e = sym (o.in_place e) ∙ p.in_place e
      told Der e =
          one_rise tag_place ts us (o.by_tag e) (p.by_tag e)
          (IsPermutation-trans (each ts) (each vs) (each us) o.rearranged (IsPermutation-sym (each us) (each vs) p.rearranged))

  pub set_once : mode ≢ Ber → AreTakenOnce mode Takes keys → IsMeantOnce mode Only (AreInside (AreSet mode Place Takes)) keys
  set_once ne once asked (primitive t b) u x y v w d e g h i k q = absurd i
  set_once ne once asked (constructed t ts) (primitive u b) x y v w d e g h i k q = absurd k
  set_once ne once asked (constructed t ts) (constructed u us) x y v w d e g h i k q =
      let a = rearranged_encode mode ts i.ordered d.0 i.order.rearranged d.1 in
      let b = rearranged_encode mode us k.ordered e.0 k.order.rearranged e.1 in
      let s = once i.ordered k.ordered no_trees x y a.0 b.0 a.1 b.1 i.taken k.taken q in
      rw (g ∙ sym h, one_place ne ts us k.ordered (subst (AreOrdered mode Place ts) s i.order) k.order) refl

  -- ---- what is written

  -- fields that are written in the order of a set are read back as one
  pub set_back : (x : T) (May : Trees → Type 0) (W : Meaning → Type 0) → May no_trees
      → ((e : Encoded) → W (Ok e) → AreOrdered mode Place e.values e.values) → AreReadAs Takes keys May x W
      → AreReadAs (AreSet mode Place Takes) keys (λ us. us ≡ no_trees) x W
  set_back x May W may order back e w us n =
      let t = back e w no_trees may in
      let o : AreOrdered mode Place (e.values +++ no_trees) (e.values +++ no_trees) =
      subst (λ z. AreOrdered mode Place z z) (sym (and_none e.values)) (order e w) in
      subst (λ z. AreTaken (AreSet mode Place Takes) keys (keys x) (e.values +++ z) z) (sym n)
      (record {
        some = t.some;
        taken = record { ordered = e.values +++ no_trees; order = o; taken = t.taken; none_left = refl };
        only = λ y vs h. (
          (t.only y no_trees
              (subst (λ z. Takes z y no_trees) (one_order mode Place (e.values +++ no_trees) h.ordered (e.values +++ no_trees) h.order o) h.taken)).0,
          h.none_left,
        );
      })
