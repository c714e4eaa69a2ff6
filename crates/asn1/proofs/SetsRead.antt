-- A SET OF, read value by value up to the end of content.
use Rattle.std.proofs.Common.{◌≡◌, ◌≢◌, ℕ, Bool, true, ◌+◌, ◌≤◌, List, [], ◌∷◌, ◌++◌, length, refl, ap, sym, ◌∙◌, append_assoc, subst, inl, inr}
use Rattle.std.specs.Prelude.{Ok, Err, None}
use Rattle.std.specs.declared.convert.Infallible.{Infallible}
use Rattle.bcder.specs.declared.mode.Mode.{Mode}
use Rattle.bcder.specs.declared.mode.Mode.TheVariants.{Ber}
use Rattle.bcder.specs.declared.decode.error.DecodeError.{DecodeError}
use Rattle.bcder.specs.declared.decode.error.DecodeError.TheVariants.{Source, Content, NoMemory}
use Rattle.bcder.specs.x690.Identifier.{Tag}
use Rattle.bcder.specs.x690.Tree.{Tree, Trees, no_trees, ◌∷ₜ◌, ◌+++◌}
use Rattle.bcder.specs.x690.Encoding.{IsEncoding, AreEncodings}
use Rattle.bcder.specs.calls.Cause.{cause_of, of_source, of_memory, IsOfContent, IsRefusal}
use Rattle.bcder.specs.calls.Stream.{Stream}
use Rattle.bcder.specs.calls.Captured.{Kept}
use Rattle.bcder.specs.calls.Capturing.{CapturesValue, CapturesNext, HasValueOrDeep}
use Rattle.bcder.specs.calls.Content.{any, tagged, Reading, Octets, Moves}
use Rattle.bcder.specs.calls.Walking.{HasNoNext, HasValue, HasValues, PassesValue}
use Rattle.bcder.specs.calls.Valued.{HoldsValues, tag_of}
use Rattle.bcder.specs.laws.Canonical.{one_spelling}
use Rattle.bcder.specs.laws.Complete.{only_at_front}
use Rattle.bcder.specs.laws.Moved.{untouched_is_moved, moved_twice_is_moved}
use Rattle.bcder.proofs.Lemmas.{open_has_not_ended, IsWithinOwed, as_many_are_no_fewer, grew_in_between, shorter_by_a_value, done_is_at_its_end}
use Rattle.bcder.proofs.Lemmas.{values_after, values_with_one_more, trees_with_one_more}
use Rattle.asn1.specs.Types.{IsMember, AreList, TakesFields, HoldsNoFields, RefusesFields, ReadsFields}
use Rattle.asn1.specs.Types as types
use Rattle.asn1.specs.Decoded.{IsValueOf, RefusesAll}
use Rattle.asn1.specs.Decoded as decoded
use Rattle.asn1.specs.SetsOf.{IsNotAfter, IsNotAfterFirst, AreAscending, AreSetOf, RefusesOctets}
use Rattle.asn1.proofs.Members.{no_cons, cons_first, cons_rest}
use Rattle.asn1.proofs.ReadingBack.{joined, and_none}
use Rattle.asn1.proofs.Reading.{failed_holds_none, held_once, none_not_inside}
use Rattle.bcder.specs.calls.Content as refusals
use Rattle.bcder.specs.calls.Content.{Refuses}
use Rattle.asn1.proofs.Reading.{none_held_at_end}

-- ---- values that ascend

module _ (mode : Mode) where
  -- one more value behind them
  one_behind : (ts : Trees) (t u : Tree) (us : Trees) → AreAscending mode (ts +++ (t ∷ₜ no_trees)) → IsNotAfterFirst mode t (u ∷ₜ us)
      → AreAscending mode (u ∷ₜ us) → AreAscending mode (ts +++ (t ∷ₜ (u ∷ₜ us)))
  one_behind no_trees t u us h k l = (k, l)
  one_behind (s ∷ₜ no_trees) t u us h k l = (h.0, (k, l))
  one_behind (s ∷ₜ (r ∷ₜ ts)) t u us h k l = (h.0, one_behind (r ∷ₜ ts) t u us h.1 k l)

  from_there : (ts us : Trees) → AreAscending mode (ts +++ us) → AreAscending mode us
  from_there no_trees us h = h
  from_there (t ∷ₜ ts) us h = from_there ts us h.1

-- ---- values of the list

module _ {T : Type 0} (Tags : Tag → Type 0) (Means : Tree → T → Type 0) where
  -- a list that is all of the values, with one more
  list_more : (ts : Trees) (t : Tree) (xs : List T) (x : T) → AreList Tags Means ts xs no_trees → Tags (tag_of t) → Means t x
      → AreList Tags Means (ts +++ (t ∷ₜ no_trees)) (xs ++ (x ∷ [])) no_trees
  list_more ts t [] x h g k =
      let e : no_trees ≡ ts = h.1 in
      subst (λ z. AreList Tags Means (z +++ (t ∷ₜ no_trees)) (x ∷ []) no_trees) e
      (no_trees, record { tree = t; are = refl; tagged = g; means = k }, (tt, refl))
  list_more ts t (y ∷ ys) x h g k =
      let m : IsMember Tags Means ts y h.0 = h.1 in
      let r = list_more h.0 t ys x h.2 g k in
      (h.0 +++ (t ∷ₜ no_trees), record { tree = m.tree; are = ap (λ z. z +++ (t ∷ₜ no_trees)) m.are; tagged = m.tagged; means = m.means }, r)

  -- a value in such a list has one of the tags, and means something
  record IsOfType (t : Tree) : Type 0 where
    item : T
    tagged : Tags (tag_of t)
    means : Means t item

  value_in : (ts : Trees) (t : Tree) (us : Trees) (xs : List T) → AreList Tags Means (ts +++ (t ∷ₜ us)) xs no_trees → IsOfType t
  value_in no_trees t us [] h = absurd (no_cons t us (sym h.1))
  value_in (s ∷ₜ ts) t us [] h = absurd (no_cons s (ts +++ (t ∷ₜ us)) (sym h.1))
  value_in no_trees t us (x ∷ xs) h =
      let m : IsMember Tags Means (t ∷ₜ us) x h.0 = h.1 in
      let e : m.tree ≡ t = sym (cons_first t m.tree us h.0 m.are) in
      record { item = x; tagged = subst (λ z. Tags (tag_of z)) e m.tagged; means = subst (λ z. Means z x) e m.means }
  value_in (s ∷ₜ ts) t us (x ∷ xs) h =
      let m : IsMember Tags Means (s ∷ₜ (ts +++ (t ∷ₜ us))) x h.0 = h.1 in
      let e : h.0 ≡ ts +++ (t ∷ₜ us) = sym (cons_rest s m.tree (ts +++ (t ∷ₜ us)) h.0 m.are) in
      value_in ts t us xs (subst (λ z. AreList Tags Means z xs no_trees) e h.2)

-- ---- content, of which values were passed

-- these values were passed
record Passed (c : Reading) (ts : Trees) (d : Reading) : Type 0 where
  pub before : (us : Trees) → HoldsValues d us → HoldsValues c (ts +++ us)
  pub behind : (vs : Trees) → HoldsValues c vs → (us : Trees) × (vs ≡ ts +++ us) × HoldsValues d us

module _ (c d : Reading) (w : IsWithinOwed c) (m : Moves c d) (o : d.mode ≡ c.mode) (p : PassesValue c d) where
  first_before : (us : Trees) → HoldsValues d us → HoldsValues c (p.tree ∷ₜ us)
  unfolding Moves
  first_before us (inl k) = inl (record {
    usable = p.has.usable;
    values = values_with_one_more c d w p m o k.values;
    are = trees_with_one_more c d w p m o k.values ∙ ap (λ z. p.tree ∷ₜ z) k.are;
  })
  first_before us (inr k) = absurd (open_has_not_ended d.state p.stays k.0)

  first_behind : (vs : Trees) → HoldsValues c vs → (us : Trees) × (vs ≡ p.tree ∷ₜ us) × HoldsValues d us
  unfolding Moves
  first_behind vs (inl k) =
      let v : HasValues d = values_after c d w p m o k.values in
      let h : HoldsValues d v.trees = inl (record { usable = p.stays; values = v; are = refl }) in
      (v.trees, held_once c vs (p.tree ∷ₜ v.trees) (inl k) (first_before v.trees h), h)
  first_behind vs (inr k) = absurd (open_has_not_ended c.state p.has.usable k.0)

-- the first of the values that content holds comes next
next_value : (c : Reading) (t : Tree) (us : Trees) → HoldsValues c (t ∷ₜ us) → (w after : List ℕ) × HasValue c t w after
next_value c t us (inl h) =
    let e : AreEncodings c.mode (t ∷ₜ us) h.values.all = subst (λ z. AreEncodings c.mode z h.values.all) h.are h.values.encode in (
      e.0,
      e.1 ++ h.values.after,
      record { usable = h.usable; encodes = e.2; rest = h.values.rest ∙ ap (λ z. z ++ h.values.after) e.4 ∙ append_assoc e.0 e.1 h.values.after },
    )
next_value c t us (inr h) = absurd (no_cons t us h.1)

-- ---- the set so far

-- so many values were read of content c, the last with these octets, and d is left
pub record SetSoFar {T : Type 0} (Tags : Tag → Type 0) (Means : Tree → T → Type 0) (c : Reading) (xs : List T) (last : List ℕ) (d : Reading) : Type 0 where
  pub trees : Trees
  pub before : (us : Trees) → HoldsValues d us → HoldsValues c (trees +++ us)
  pub behind : (vs : Trees) → HoldsValues c vs → (us : Trees) × (vs ≡ trees +++ us) × HoldsValues d us
  pub members : AreList Tags Means trees xs no_trees
  pub ascend : c.mode ≢ Ber → AreAscending c.mode trees
  -- the next value's octets don't come before the last ones exactly if they all ascend
  pub follows : c.mode ≢ Ber → (u : Tree) (w : List ℕ) → IsEncoding c.mode u w → IsNotAfter last w → AreAscending c.mode (trees +++ (u ∷ₜ no_trees))
  pub followed : c.mode ≢ Ber → (u : Tree) (us : Trees) (w : List ℕ) → IsEncoding c.mode u w → AreAscending c.mode (trees +++ (u ∷ₜ us)) → IsNotAfter last w
  pub no_fault : d.stream.faults ≡ c.stream.faults
  pub mode : d.mode ≡ c.mode
  pub marked : d.marked ≡ c.marked
  pub moves : Moves c d

module _ {T : Type 0} (Tags : Tag → Type 0) (Means : Tree → T → Type 0) (c : Reading) where
  pub no_set_yet : SetSoFar Tags Means c [] [] c
  no_set_yet = record {
    trees = no_trees;
    before = λ us h. h;
    behind = λ vs h. (vs, refl, h);
    members = (tt, refl);
    ascend = λ ne. tt;
    follows = λ ne u w h k. (tt, tt);
    followed = λ ne u us w h k. tt;
    no_fault = refl;
    mode = refl;
    marked = refl;
    moves = untouched_is_moved c;
  }

  module _ (xs : List T) (last : List ℕ) (d e : Reading) (r : SetSoFar Tags Means c xs last d) (w : IsWithinOwed d) (m : Moves d e) (o : e.mode ≡ d.mode) where
    -- ---- one value was captured

    module _ (k : Kept) (v : CapturesValue d k e) where
      passes : PassesValue d e
      passes = record { tree = v.tree; value = k.octets; has = v.has; only = v.only; stays = v.stays }

      encodes : IsEncoding c.mode v.tree k.octets
      encodes = subst (λ z. IsEncoding z v.tree k.octets) r.mode v.has.encodes

      pub shorter_set : length e.stream.rest + 2 ≤ length d.stream.rest
      shorter_set = shorter_by_a_value d e passes

      -- all values with that one
      trees_more : Trees
      trees_more = r.trees +++ (v.tree ∷ₜ no_trees)

      more_before : (us : Trees) → HoldsValues e us → HoldsValues c (trees_more +++ us)
      unfolding trees_more passes
      more_before us h =
          subst (HoldsValues c) (sym (joined r.trees (v.tree ∷ₜ no_trees) us)) (r.before (v.tree ∷ₜ us) (first_before d e w m o passes us h))

      more_behind : (vs : Trees) → HoldsValues c vs → (us : Trees) × (vs ≡ trees_more +++ us) × HoldsValues e us
      unfolding trees_more passes
      more_behind vs h =
          let b = r.behind vs h in
          let f = first_behind d e w m o passes b.0 b.2 in
          (f.0, b.1 ∙ ap (λ z. r.trees +++ z) f.1 ∙ sym (joined r.trees (v.tree ∷ₜ no_trees) f.0), f.2)

      same_value : (t : Tree) → IsEncoding c.mode t k.octets → t ≡ v.tree
      same_value t h = (only_at_front c.mode v.tree k.octets [] encodes t k.octets [] h refl).0

      not_after_first : c.mode ≢ Ber → (u : Tree) (us : Trees) (y : List ℕ) → IsEncoding c.mode u y → IsNotAfter k.octets y
          → IsNotAfterFirst c.mode v.tree (u ∷ₜ us)
      not_after_first ne u us y h n a b f g =
          subst (λ z. IsNotAfter z b) (one_spelling c.mode ne v.tree k.octets a encodes f) (subst (IsNotAfter k.octets) (one_spelling c.mode ne u y b h g) n)

      module _ (x : T) (i : IsValueOf c.mode Tags Means k.octets x) (n : c.mode ≢ Ber → IsNotAfter last k.octets) (nf : e.stream.faults ≡ d.stream.faults)
          (mk : e.marked ≡ d.marked) where
        is_same : i.tree ≡ v.tree
        is_same = same_value i.tree i.encodes

        pub one_more : SetSoFar Tags Means c (xs ++ (x ∷ [])) k.octets e
        unfolding trees_more
        one_more = record {
          trees = trees_more;
          before = more_before;
          behind = more_behind;
          members =
              list_more Tags Means r.trees v.tree xs x r.members (subst (λ z. Tags (tag_of z)) is_same i.tagged) (subst (λ z. Means z x) is_same i.means);
          ascend = λ ne. r.follows ne v.tree k.octets encodes (n ne);
          follows = λ ne u y h q.
              subst (AreAscending c.mode) (sym (joined r.trees (v.tree ∷ₜ no_trees) (u ∷ₜ no_trees)))
              (one_behind c.mode r.trees v.tree u no_trees (r.follows ne v.tree k.octets encodes (n ne)) (not_after_first ne u no_trees y h q) (tt, tt));
          followed = λ ne u us y h q.
              (from_there c.mode r.trees (v.tree ∷ₜ (u ∷ₜ us))
              (subst (AreAscending c.mode) (joined r.trees (v.tree ∷ₜ no_trees) (u ∷ₜ us)) q)).0 k.octets y encodes h;
          no_fault = nf ∙ r.no_fault;
          mode = o ∙ r.mode;
          marked = mk ∙ r.marked;
          moves = moved_twice_is_moved c d e r.moves m;
        }

      -- content is no set if that value is not of the type, or comes too early
      value_is_of_type : (ts us : Trees) (ys : List T) → HoldsValues c ts → AreSetOf c.mode Tags Means ts ys us
          → (y : T) × IsValueOf c.mode Tags Means k.octets y
      unfolding trees_more
      value_is_of_type ts us ys h g =
          let b = more_behind ts h in
          let q : ts ≡ r.trees +++ (v.tree ∷ₜ b.0) = b.1 ∙ joined r.trees (v.tree ∷ₜ no_trees) b.0 in
          let l : AreList Tags Means ts ys no_trees = subst (λ z. AreList Tags Means ts ys z) g.1 g.0 in
          let z = value_in Tags Means r.trees v.tree b.0 ys (subst (λ z. AreList Tags Means z ys no_trees) q l) in
          (z.item, record { tree = v.tree; encodes = encodes; tagged = z.tagged; means = z.means })

      value_follows : c.mode ≢ Ber → (ts us : Trees) (ys : List T) → HoldsValues c ts → AreSetOf c.mode Tags Means ts ys us → IsNotAfter last k.octets
      unfolding trees_more
      value_follows ne ts us ys h g =
          let b = more_behind ts h in
          let q : ts ≡ r.trees +++ (v.tree ∷ₜ b.0) = b.1 ∙ joined r.trees (v.tree ∷ₜ no_trees) b.0 in
          r.followed ne v.tree b.0 k.octets encodes (subst (AreAscending c.mode) q (g.2 ne))

      pub other_value : ((y : T) → IsValueOf c.mode Tags Means k.octets y → ⊥) → HoldsNoFields (AreSetOf c.mode Tags Means) c
      other_value n ts us ys h g = (let z = value_is_of_type ts us ys h g in n z.0 z.1)

      pub out_of_order : c.mode ≢ Ber → (IsNotAfter last k.octets → ⊥) → HoldsNoFields (AreSetOf c.mode Tags Means) c
      out_of_order ne n ts us ys h g = n (value_follows ne ts us ys h g)

    -- ---- at the end

    module _ (kd : d.kind ≢ Octets) (ke : e.kind ≢ Octets) {X : Type 0} where
      all_before : (n : CapturesNext {X = X} d (Ok None) e) → HoldsValues c r.trees
      all_before n = subst (HoldsValues c) (and_none r.trees) (r.before no_trees (none_held_at_end d e.stream.rest kd n.value.missing.0))

      nothing_left : (n : CapturesNext {X = X} d (Ok None) e) → HoldsValues e no_trees
      nothing_left n = none_held_at_end e e.stream.rest ke (done_is_at_its_end e e.kind refl n.value.missing.1)

      whole_set : (n : CapturesNext {X = X} d (Ok None) e) → TakesFields (AreSetOf c.mode Tags Means) c xs e
      whole_set n = record {
        before = λ us h.
            let z : no_trees ≡ us = held_once e no_trees us (nothing_left n) h in
            (r.trees, all_before n, (subst (AreList Tags Means r.trees xs) z r.members, sym z, r.ascend));
        behind = λ ts us y h g. subst (HoldsValues e) (sym g.1) (nothing_left n);
      }

      pub reads_set : CapturesNext {X = X} d (Ok None) e → ReadsFields (AreSetOf c.mode Tags Means) true {X = X} c (Ok xs) e
      reads_set n = record { value = whole_set n; no_fault = n.no_fault ∙ r.no_fault; refused = tt; mode = o ∙ r.mode; marked = n.marked ∙ r.marked }

    -- ---- an error

    module _ {X : Type 0} (f : DecodeError X) where
      no_value_there : HasNoNext d → (us : Trees) → HoldsValues d us → ⊥
      no_value_there n no_trees h = none_not_inside d w n.some h
      no_value_there n (t ∷ₜ us) h = (let z = next_value d t us h in n.none.none t z.0 z.1 z.2)

      capture_refused : Refuses cause_of any HasNoNext ((cause_of f ≡ of_memory) × HasValueOrDeep d) d f e
          → RefusesFields (AreSetOf c.mode Tags Means) true c f e
      capture_refused (refusals.Refuses.failed s a) =
          types.RefusesFields.broken (λ ts us y h g. (let b = r.behind ts h in failed_holds_none d s b.0 b.2)) a
      capture_refused (refusals.Refuses.source s g) =
          types.RefusesFields.source s (grew_in_between _ _ _ _ (as_many_are_no_fewer _ _ r.no_fault) g refl)
      capture_refused (refusals.Refuses.nothing n a) =
          types.RefusesFields.broken (λ ts us y h g. (let b = r.behind ts h in no_value_there n b.0 b.2)) a.refused
      capture_refused (refusals.Refuses.otherwise h) = types.RefusesFields.memory h.0 refl

      pub refuses_set : CapturesNext d (Err f) e → ReadsFields (AreSetOf c.mode Tags Means) true c (Err f) e
      refuses_set n = record { value = tt; no_fault = tt; refused = capture_refused n.refused.1; mode = o ∙ r.mode; marked = n.marked ∙ r.marked }

      pub stops_set : RefusesFields (AreSetOf c.mode Tags Means) true c f e → e.marked ≡ d.marked → ReadsFields (AreSetOf c.mode Tags Means) true c (Err f) e
      stops_set q n = record { value = tt; no_fault = tt; refused = q; mode = o ∙ r.mode; marked = n ∙ r.marked }

      pub no_memory_for_set : cause_of f ≡ of_memory → e.marked ≡ d.marked → ReadsFields (AreSetOf c.mode Tags Means) true c (Err f) e
      no_memory_for_set a = stops_set (types.RefusesFields.memory a refl)

      pub refuses_value : (k : Kept) (v : CapturesValue d k e) → RefusesOctets c.mode Tags Means k.octets f → e.marked ≡ d.marked
          → ReadsFields (AreSetOf c.mode Tags Means) true c (Err f) e
      refuses_value k v (inl a) n = no_memory_for_set a n
      refuses_value k v (inr a) n = stops_set (types.RefusesFields.broken (other_value k v a.0) a.1) n

      pub refuses_order : (k : Kept) (v : CapturesValue d k e) → c.mode ≢ Ber → (IsNotAfter last k.octets → ⊥) → IsRefusal f → e.marked ≡ d.marked
          → ReadsFields (AreSetOf c.mode Tags Means) true c (Err f) e
      refuses_order k v ne q a n = stops_set (types.RefusesFields.broken (out_of_order k v ne q) a) n

-- ---- octets that are decoded

none_of_it : Infallible → ⊥
none_of_it e = elim e [ ]

pub never_of_source : (e : DecodeError Infallible) → cause_of e ≡ of_source → ⊥
never_of_source (Source e) h = absurd (none_of_it e)
never_of_source (Content error pos) h = cc
never_of_source NoMemory h = cc

-- an error of one source, given as one of another, refuses for the same reason
pub converted : {T X : Type 0} {lacks : Bool} (mode : Mode) (Tags : Tag → Type 0) (Means : Tree → T → Type 0) (s : Stream)
    (e : DecodeError Infallible) (f : DecodeError X)
    → cause_of f ≡ cause_of e → RefusesAll mode Tags Means lacks s e → RefusesOctets mode Tags Means s.rest f
converted mode Tags Means s e f q (decoded.RefusesAll.source later c g) = absurd (never_of_source e c)
converted mode Tags Means s e f q (decoded.RefusesAll.memory c l) = inl (q ∙ c)
converted mode Tags Means s e f q (decoded.RefusesAll.broken n a) = inr (n, subst IsOfContent (sym q) a)
