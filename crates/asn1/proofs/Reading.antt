-- Readers of fields, by the readers of values.
use Rattle.std.proofs.Common.{◌≡◌, ◌≢◌, ℕ, ◌+◌, ◌-◌, ◌≤◌, Bool, true, false, List, [], ◌∷◌, ◌++◌, length, Option, Some, None, refl, ap, sym, ◌∙◌, arith}
use Rattle.std.proofs.Common.{length-append, append_assoc, append-nil, subst, inl, inr}
use Rattle.std.specs.Prelude.{Result, Ok, Err}
use Rattle.bcder.specs.declared.mode.Mode.{Mode}
use Rattle.bcder.specs.declared.decode.content.State.TheVariants.{Failed}
use Rattle.bcder.specs.declared.decode.error.DecodeError.{DecodeError}
use Rattle.bcder.specs.x690.Identifier.{Tag, IsValueTag, identifier, end_of_contents}
use Rattle.bcder.specs.x690.Tree.{Tree, primitive, constructed, Trees, no_trees, ◌∷ₜ◌}
use Rattle.bcder.specs.x690.Encoding.{IsHeader, IsEncoding, AreEncodings, IsFramed}
use Rattle.bcder.specs.calls.Cause.{IsRefusal}
use Rattle.bcder.specs.calls.Violations.{BeginsOther}
use Rattle.bcder.specs.calls.Content.{Reading, Octets, Moves, MovesBy, Whole, Falls, IsAtEnd, of_octets, of_definite, of_indefinite, of_unbounded}
use Rattle.bcder.specs.calls.Content.{EndsBefore, any, tagged, HasMarker, IsAbsent, IsElsewhere, none_left, other}
use Rattle.bcder.specs.calls.Calls.{HasNone}
use Rattle.bcder.specs.calls.Walking.{HasValue, HasValues, PassesValue, ClosesBefore}
use Rattle.bcder.specs.calls.Valued.{HoldsValues, tag_of}
use Rattle.bcder.specs.laws.Complete.{only_at_front}
use Rattle.bcder.specs.laws.Lists.{AreEncodings-one}
use Rattle.bcder.specs.laws.Moved.{whole_marked}
use Rattle.bcder.proofs.Lemmas.{open_has_not_ended, open_has_not_failed, IsWithinOwed, values_after, values_with_one_more, trees_with_one_more}
use Rattle.bcder.proofs.Lemmas.{no_values_at_the_end as none_left_values, no_trees_at_the_end as none_left_trees, done_is_at_its_end}
use Rattle.bcder.proofs.Lemmas.{no_values_without_a_first, header_is_there, one_values, no_values_of_octets, header_of_tagged}
use Rattle.asn1.specs.Types.{AreEvery, HasNoneOf, elsewhere, at_end, by_tags, by_end, TakesTyped, HasNoTyped, RefusesTyped}
use Rattle.asn1.specs.Types.{TakesNextTyped, IsMember, BeginWithout, IsOptional, TakesFields}
use Rattle.asn1.specs.Types.{HoldsNoFields, RefusesFields, ReadsFields}
use Rattle.asn1.specs.Types as types
use Rattle.asn1.proofs.Members.{no_cons, cons_rest, cons_first}

-- ---- the first of the values that content holds

record Standing (c : Reading) (t : Tree) : Type 0 where
  front : List ℕ
  behind : List ℕ
  has : HasValue c t front behind

stands : (c : Reading) (t : Tree) (us : Trees) → HoldsValues c (t ∷ₜ us) → Standing c t
stands c t us (inl h) =
    let e : AreEncodings c.mode (t ∷ₜ us) h.values.all = subst (λ z. AreEncodings c.mode z h.values.all) h.are h.values.encode in
    record {
      front = e.0;
      behind = e.1 ++ h.values.after;
      has = record { usable = h.usable; encodes = e.2; rest = h.values.rest ∙ ap (λ z. z ++ h.values.after) e.4 ∙ append_assoc e.0 e.1 h.values.after };
    }
stands c t us (inr h) = absurd (no_cons t us h.1)

pub failed_holds_none : (c : Reading) → c.state ≡ Failed → (ts : Trees) → HoldsValues c ts → ⊥
failed_holds_none c s ts (inl h) = open_has_not_failed c.state h.usable s
failed_holds_none c s ts (inr h) = (let z = sym h.0 ∙ s in cc)

-- content holds one list of values
pub held_once : (c : Reading) (ts us : Trees) → HoldsValues c ts → HoldsValues c us → ts ≡ us
held_once c ts us (inl h) (inl k) = sym h.are ∙ one_values c h.values k.values ∙ k.are
held_once c ts us (inl h) (inr k) = absurd (open_has_not_ended c.state h.usable k.0)
held_once c ts us (inr h) (inl k) = absurd (open_has_not_ended c.state k.usable h.0)
held_once c ts us (inr h) (inr k) = h.1 ∙ sym k.1

pub member_tagged : {T : Type 0} (Tags : Tag → Type 0) (Means : Tree → T → Type 0) (c : Reading) (ts us : Trees) (x : T) → HoldsValues c ts
    → (g : IsMember Tags Means ts x us) → HoldsValues c (g.tree ∷ₜ us)
member_tagged Tags Means c ts us x h g = subst (HoldsValues c) g.are h

-- ---- content of which nothing was taken

pub record Alike (c d : Reading) : Type 0 where
  pub rest : d.stream.rest ≡ c.stream.rest
  pub owed : d.owed ≡ c.owed
  pub kind : d.kind ≡ c.kind
  pub mode : d.mode ≡ c.mode
  pub state : d.state ≡ c.state

pub alike_back : (c d : Reading) → Alike c d → Alike d c
alike_back c d a = record { rest = sym a.rest; owed = sym a.owed; kind = sym a.kind; mode = sym a.mode; state = sym a.state }

same_values : (c d : Reading) → Alike c d → HasValues c → HasValues d
same_values c d a h = record {
  trees = h.trees;
  all = h.all;
  after = h.after;
  encode = subst (λ z. AreEncodings z h.trees h.all) (sym a.mode) h.encode;
  rest = a.rest ∙ h.rest;
  closes =
      subst (λ z. ClosesBefore z d.mode d.owed h.all h.after) (sym a.kind)
      (subst (λ z. ClosesBefore c.kind z d.owed h.all h.after) (sym a.mode)
      (subst (λ z. ClosesBefore c.kind c.mode z h.all h.after) (sym a.owed) h.closes));
}

same_held : (c d : Reading) → Alike c d → (ts : Trees) → HoldsValues c ts → HoldsValues d ts
unfolding same_values
same_held c d a ts (inl h) = inl (record { usable = a.state ∙ h.usable; values = same_values c d a h.values; are = h.are })
same_held c d a ts (inr h) = inr (a.state ∙ h.0, h.1)

falls_none : (o p : Option ℕ) (n : ℕ) → Falls o n p → n ≡ 0 → p ≡ o
falls_none None None n f e = refl
falls_none None (Some p) n f e = absurd (f refl)
falls_none (Some o) None n f e = absurd (f refl)
falls_none (Some o) (Some p) n f e = ap Some (let z : o ≡ n + p = f in omega arith)

alike : (c d : Reading) → Moves c d → d.mode ≡ c.mode → d.state ≡ c.state → d.stream.rest ≡ c.stream.rest → Alike c d
unfolding Moves
alike c d m o s r = record {
  rest = r;
  owed = falls_none c.owed d.owed (length m.passed) m.owed (omega (arith, ap length m.rest, length-append m.passed d.stream.rest, ap length r));
  kind = m.kind;
  mode = o;
  state = s;
}

pub none_alike : (tag : Tag) (c d : Reading) → IsValueTag tag → Moves c d → d.mode ≡ c.mode → HasNone (tagged tag) c d → Alike c d
none_alike tag c d v m o h = elim h.missing.1 [
  | inl l ↦ alike c d m o l.0 l.1
  | inr l ↦ absurd (v.no_end l.0)
]

-- ---- where none with one of the tags is there

-- the tags: one of them at least, and values can have them
pub record AreTags (Tags : Tag → Type 0) : Type 0 where
  pub own : Tag
  pub is_own : Tags own
  pub value_tags : (t : Tag) → Tags t → IsValueTag t

module _ (Tags : Tag → Type 0) (c : Reading) (w : IsWithinOwed c) where
  not_tagged : (rest : List ℕ) → ((u : Tag) → Tags u → IsAbsent (tagged u) c rest) → (t : Tree) (us : Trees) → HoldsValues c (t ∷ₜ us) → Tags (tag_of t) → ⊥
  not_tagged rest a t us h e =
      let s = stands c t us h in
      header_is_there (tag_of t) c _ rest s.has.usable (header_of_tagged c w (tag_of t) t s.front s.behind (s.has, refl)).1 (a (tag_of t) e)

  begin_without : (rest : List ℕ) → ((u : Tag) → Tags u → IsAbsent (tagged u) c rest) → (ts : Trees) → HoldsValues c ts → BeginWithout Tags ts
  begin_without rest a no_trees h = tt
  begin_without rest a (t ∷ₜ us) h = not_tagged rest a t us h

-- no value with one of the tags comes first in c, and d is the values that it holds
pub record LeavesAll (Tags : Tag → Type 0) (c d : Reading) : Type 0 where
  pub begins : (ts : Trees) → HoldsValues c ts → BeginWithout Tags ts
  pub leaves : (ts : Trees) → HoldsValues c ts → HoldsValues d ts
  pub held : (us : Trees) → HoldsValues d us → HoldsValues c us

module _ (tag : Tag) (c : Reading) (w : IsWithinOwed c) where
  -- and the other way round
  other_of_header : (t : Tag) (f : Bool) (len : _) (h v behind : List ℕ) → t ≢ tag → IsHeader c.mode t f len h → c.stream.rest ≡ v ++ behind → (body : List ℕ)
      → v ≡ h ++ body → BeginsOther tag c.stream.rest
  other_of_header t f len h v behind n d r body e = (
    t,
    f,
    d.length_octets ++ (body ++ behind),
    d.is_value_tag.fits,
    n,
    r ∙ ap (λ z. z ++ behind) e ∙ append_assoc h body behind
        ∙ ap (λ z. z ++ (body ++ behind)) d.is ∙ append_assoc (identifier t f) d.length_octets (body ++ behind),
  )

  pub other_of_value : (t : Tree) (v behind : List ℕ) → tag_of t ≢ tag → IsEncoding c.mode t v → c.stream.rest ≡ v ++ behind → BeginsOther tag c.stream.rest
  other_of_value (primitive t b) v behind n k r = other_of_header t false _ k.1.header v behind n k.1.is_header r b k.1.is
  other_of_value (constructed t ts) v behind n k r = of_framed k.2
    where
      of_framed : IsFramed c.mode t k.0 v → BeginsOther tag c.stream.rest
      of_framed (inl d) = other_of_header t true _ d.header v behind n d.is_header r k.0 d.is
      of_framed (inr d) = other_of_header t true _ d.header v behind n d.is_header r (k.0 ++ d.end) d.is

  empty : (xs : List ℕ) → length xs ≤ 0 → xs ≡ []
  empty [] h = refl
  empty (x ∷ xs) h = absurd (omega arith)

  marker_other : IsValueTag tag → (after x : List ℕ) → c.stream.rest ≡ after → HasMarker c.mode after x → BeginsOther tag c.stream.rest
  unfolding identifier
  marker_other v after x r m = (
    end_of_contents,
    false,
    m.is_end.zero_length ++ x,
    omega arith,
    λ e. v.no_end (sym e),
    r ∙ m.rest ∙ ap (λ z. z ++ x) m.is_end.is,
  )

pub absent_at_end : (c : Reading) → IsWithinOwed c → (c.kind ≢ Octets) → (after : List ℕ) → IsAtEnd c after
    → (rest : List ℕ) × ((tag : Tag) → IsValueTag tag → IsElsewhere tag c rest)
absent_at_end c w k after (of_octets q e) = absurd (k q)
absent_at_end c w k after (of_definite q e) = ([], λ tag v. none_left (empty tag c w c.stream.rest (w.fits 0 e)) refl)
absent_at_end c w k after (of_indefinite q m) = (c.stream.rest, λ tag v. other (marker_other tag c w v c.stream.rest after refl m) refl)
absent_at_end c w k after (of_unbounded q e) = ([], λ tag v. none_left e refl)

framed_tag : (mode : Mode) (t : Tag) (contents v : List ℕ) → IsFramed mode t contents v → IsValueTag t
framed_tag mode t contents v (inl d) = d.is_header.is_value_tag
framed_tag mode t contents v (inr d) = d.is_header.is_value_tag

-- what has an encoding has a tag that a value can have
pub encoded_tag : (mode : Mode) (t : Tree) (v : List ℕ) → IsEncoding mode t v → IsValueTag (tag_of t)
encoded_tag mode (primitive t b) v k = k.1.is_header.is_value_tag
encoded_tag mode (constructed t ts) v k = framed_tag mode t k.0 v k.2

-- at its end no value comes next in content
pub no_value_at_end : (c : Reading) → IsWithinOwed c → c.kind ≢ Octets → (after : List ℕ) → EndsBefore c after → (t : Tree) (v rest : List ℕ)
    → HasValue c t v rest → ⊥
no_value_at_end c w k after (inl e) t v rest h = open_has_not_ended c.state h.usable e
no_value_at_end c w k after (inr e) t v rest h =
    let a = absent_at_end c w k after e.1 in
    let f = header_of_tagged c w (tag_of t) t v rest (h, refl) in
    header_is_there (tag_of t) c f.0 a.0 h.usable f.1 (inr (e.0, a.1 (tag_of t) (encoded_tag c.mode t v h.encodes)))

-- content at its end holds no values
pub none_held_at_end : (c : Reading) (after : List ℕ) → c.kind ≢ Octets → EndsBefore c after → HoldsValues c no_trees
none_held_at_end c after k (inl e) = inr (e, refl)
none_held_at_end c after k (inr e) = inl (record { usable = e.0; values = none_left_values c after k e.1; are = none_left_trees c after k e.1 })

-- ---- where no values are held, content is at its end

abbrev fallen : Option ℕ → ℕ → Option ℕ
fallen None n = None
fallen (Some o) n = Some (o - n)

falls_fallen : (o : Option ℕ) (n : ℕ) → ((m : ℕ) → o ≡ Some m → n ≤ m) → Falls o n (fallen o n)
falls_fallen None n f = refl
falls_fallen (Some o) n f = (let h : n ≤ o = f o refl in omega arith)

module _ (c : Reading) (w : IsWithinOwed c) (t : Tree) (v after : List ℕ) (h : HasValue c t v after) where
  -- content behind a value that stands in front
  abbrev next : Reading
  next = record {
    stream = record { rest = after; avail = c.stream.avail; faults = c.stream.faults; position = c.stream.position; kept = c.stream.kept };
    owed = fallen c.owed (length v);
    kind = c.kind;
    state = c.state;
    mode = c.mode;
    marked = c.marked;
    name = c.name;
  }

  whole_value : Whole c.mode c v next
  whole_value = record {
    trees = t ∷ₜ no_trees;
    values = v;
    close = [];
    split = sym (append-nil v);
    encodes = AreEncodings-one c.mode t v h.encodes;
    closes = inl (refl, refl);
  }

  next_moves : MovesBy c next
  next_moves = record {
    passed = v;
    rest = h.rest;
    owed = falls_fallen c.owed (length v) (λ m e. let l : length c.stream.rest ≤ m = w.fits m e in omega (arith, l, ap length h.rest, length-append v after));
    kept = refl;
    kind = refl;
    mode = λ _. refl;
    name = refl;
    faults = omega arith;
    ended = λ e. absurd (open_has_not_ended c.state h.usable e);
    failed = λ f. f;
    marked = λ f. f;
    ends = λ e. absurd (open_has_not_ended c.state h.usable e);
    whole = λ n o. whole_marked c.mode c next v false c.marked (λ f. absurd (let x : false ≡ true = f in cc)) whole_value;
  }

  next_passed : PassesValue c next
  next_passed = record { tree = t; value = v; has = h; only = λ u x y k e. only_at_front c.mode t v after h.encodes u x y k (sym h.rest ∙ e); stays = h.usable }

  next_mode : next.mode ≡ c.mode
  next_mode = refl

  some_value : (k : HasValues c) → k.trees ≡ no_trees → ⊥
  some_value k e =
      let a : HasValues next = values_after c next w next_passed next_moves next_mode k in
      let v : HasValues c = values_with_one_more c next w next_passed next_moves next_mode a in
      let t = trees_with_one_more c next w next_passed next_moves next_mode a in
      no_cons next_passed.tree a.trees (sym t ∙ one_values c v k ∙ e)

pub none_not_inside : (c : Reading) → IsWithinOwed c → ((after : List ℕ) → EndsBefore c after → ⊥) → HoldsValues c no_trees → ⊥
none_not_inside c w n (inl h) =
    no_values_without_a_first c (record {
      usable = h.usable;
      some = n;
      none = record { none = λ t x y k. some_value c w t x y k h.values h.are };
    }) h.values
none_not_inside c w n (inr h) = n [] (inl h.0)

-- ---- content at its end, whose marker may have been taken

module _ (c d : Reading) (k : c.kind ≢ Octets) (n : HasNone any c d) where
  pub ended_held : HoldsValues c no_trees
  ended_held = none_held_at_end c d.stream.rest k n.missing.0

  pub ended_left : d.kind ≡ c.kind → HoldsValues d no_trees
  ended_left e = none_held_at_end d d.stream.rest (λ q. k (sym e ∙ q)) (done_is_at_its_end d d.kind refl n.missing.1)

module _ (Tags : Tag → Type 0) (c d : Reading) (w : IsWithinOwed c) (m : Moves c d) (o : d.mode ≡ c.mode) (v : AreTags Tags) where
  elsewhere_left : ((t : Tag) → Tags t → HasNone (tagged t) c d) → LeavesAll Tags c d
  elsewhere_left n =
      let a = none_alike v.own c d (v.value_tags v.own v.is_own) m o (n v.own v.is_own) in
      record {
        begins = begin_without Tags c w d.stream.rest (λ u p. (n u p).missing.0);
        leaves = same_held c d a;
        held = same_held d c (alike_back c d a);
      }

  end_left : c.kind ≢ Octets → HasNone any c d → LeavesAll Tags c d
  unfolding Moves
  end_left k n =
      let h = ended_held c d k n in
      let l = ended_left c d k n m.kind in
      record {
        begins = λ ts g. subst (BeginWithout Tags) (held_once c no_trees ts h g) tt;
        leaves = λ ts g. subst (HoldsValues d) (held_once c no_trees ts h g) l;
        held = λ us g. subst (HoldsValues c) (held_once d no_trees us l g) h;
      }

  pub none_leaves_all : HasNoneOf Tags c d → LeavesAll Tags c d
  none_leaves_all (elsewhere n) = elsewhere_left n
  none_leaves_all (at_end f k n) = end_left k n

-- ---- one value, and one that may be left out

module _ {T : Type 0} (Tags : Tag → Type 0) (Means : Tree → T → Type 0) (c d : Reading) (w : IsWithinOwed c) (m : Moves c d) (o : d.mode ≡ c.mode) where
  pub passes : (x : T) → TakesTyped Tags Means c x d → PassesValue c d
  passes x h = record {
    tree = h.tree;
    value = h.octets;
    has = h.has.0;
    only = λ u v y k e. only_at_front c.mode h.tree h.octets d.stream.rest h.has.0.encodes u v y k (sym h.has.0.rest ∙ e);
    stays = h.stays;
  }

  pub member_before : (x : T) (h : TakesTyped Tags Means c x d) (us : Trees) → HoldsValues d us → (ts : Trees) × HoldsValues c ts × IsMember Tags Means ts x us
  unfolding Moves passes
  member_before x h us (inl k) =
      let one = passes x h in
      let v : HasValues c = values_with_one_more c d w one m o k.values in
      let e : v.trees ≡ h.tree ∷ₜ us = trees_with_one_more c d w one m o k.values ∙ ap (λ z. h.tree ∷ₜ z) k.are in
      (h.tree ∷ₜ us, inl (record { usable = h.has.0.usable; values = v; are = e }), record { tree = h.tree; are = refl; tagged = h.has.1; means = h.means })
  member_before x h us (inr k) = absurd (open_has_not_ended d.state h.stays k.0)

  pub behind_first : (x : T) (h : TakesTyped Tags Means c x d) (t : Tree) (us : Trees) → HoldsValues c (t ∷ₜ us) → HoldsValues d us
  unfolding Moves passes
  behind_first x h t us (inl k) =
      let one = passes x h in
      let v : HasValues d = values_after c d w one m o k.values in
      let b : HasValues c = values_with_one_more c d w one m o v in
      let e : h.tree ∷ₜ v.trees ≡ t ∷ₜ us = sym (trees_with_one_more c d w one m o v) ∙ one_values c b k.values ∙ k.are in
      inl (record { usable = h.stays; values = v; are = cons_rest h.tree t v.trees us e })
  behind_first x h t us (inr k) = absurd (no_cons t us k.1)

  member_taken : (x : T) → TakesTyped Tags Means c x d → TakesFields (IsMember Tags Means) c x d
  member_taken x h = record {
    before = member_before x h;
    behind = λ ts us y k g. behind_first x h g.tree us (member_tagged Tags Means c ts us y k g);
  }

  -- with the tag in front, it isn't left out
  not_without : (x : T) (h : TakesTyped Tags Means c x d) (ts : Trees) (vs : Trees) → (h.tree ∷ₜ vs) ≡ ts → BeginWithout Tags ts → ⊥
  not_without x h no_trees vs e b = no_cons h.tree vs e
  not_without x h (t ∷ₜ us) vs e b = b (subst (λ z. Tags (tag_of z)) (cons_first h.tree t vs us e) h.has.1)

  pub tagged_first : (x : T) (h : TakesTyped Tags Means c x d) (ts : Trees) → HoldsValues c ts → BeginWithout Tags ts → ⊥
  unfolding Moves passes
  tagged_first x h ts (inl k) b =
      let one = passes x h in
      let v : HasValues d = values_after c d w one m o k.values in
      not_without x h ts v.trees (sym (trees_with_one_more c d w one m o v) ∙ one_values c (values_with_one_more c d w one m o v) k.values ∙ k.are) b
  tagged_first x h ts (inr k) b = open_has_not_ended c.state h.has.0.usable k.0

  optional_behind : (x : T) (h : TakesTyped Tags Means c x d) (ts us : Trees) (y : Option T) → HoldsValues c ts → IsOptional Tags Means ts y us
      → HoldsValues d us
  optional_behind x h ts us (Some y) k g = behind_first x h g.tree us (member_tagged Tags Means c ts us y k g)
  optional_behind x h ts us None k g = absurd (tagged_first x h ts k g.0)

  optional_taken : (x : T) → TakesTyped Tags Means c x d → TakesFields (IsOptional Tags Means) c (Some x) d
  optional_taken x h = record {
    before = member_before x h;
    behind = optional_behind x h;
  }

  -- it is left out
  module _ (v : AreTags Tags) (n : HasNoneOf Tags c d) where
    left : LeavesAll Tags c d
    left = none_leaves_all Tags c d w m o v n

    not_begun : (t : Tree) (us : Trees) → HoldsValues c (t ∷ₜ us) → Tags (tag_of t) → ⊥
    not_begun t us h = left.begins (t ∷ₜ us) h

    pub none_behind : (ts us : Trees) (y : Option T) → HoldsValues c ts → IsOptional Tags Means ts y us → HoldsValues d us
    none_behind ts us (Some y) k g = absurd (not_begun g.tree us (member_tagged Tags Means c ts us y k g) g.tagged)
    none_behind ts us None k g = subst (HoldsValues d) (sym g.1) (left.leaves ts k)

    pub none_before : (us : Trees) → HoldsValues d us → (ts : Trees) × HoldsValues c ts × IsOptional Tags Means ts None us
    none_before us k = let h : HoldsValues c us = left.held us k in (us, h, (left.begins us h, refl))

    optional_none : TakesFields (IsOptional Tags Means) c None d
    optional_none = record { before = none_before; behind = none_behind }

    pub member_missing : HoldsNoFields (IsMember Tags Means) c
    member_missing ts us y k g = not_begun g.tree us (member_tagged Tags Means c ts us y k g) g.tagged

  -- it was refused
  pub no_member : HasNoTyped Tags Means c → HoldsNoFields (IsMember Tags Means) c
  no_member n ts us y k g =
      let s = stands c g.tree us (member_tagged Tags Means c ts us y k g) in
      n.value g.tree s.front s.behind y (s.has, g.tagged) g.means

  pub none_absent : AreTags Tags → (n : HasNoTyped Tags Means c) → (ts : Trees) → HoldsValues c ts → BeginWithout Tags ts → ⊥
  none_absent v n ts h b = elim n.absent [ by_tags q ↦ none_by_tags q ts h b | by_end f e ↦ none_by_end f e ts h b ]
    where
      none_by_tags : ((rest : List ℕ) → ((t : Tag) → Tags t → IsAbsent (tagged t) c rest) → ⊥) → (ts : Trees) → HoldsValues c ts
          → BeginWithout Tags ts → ⊥
      none_by_tags q no_trees (inr h) b = open_has_not_ended c.state n.usable h.0
      none_by_tags q no_trees (inl h) b =
          let k : c.kind ≢ Octets = (λ q. no_values_of_octets c q h.values) in
          none_not_inside c w (λ x z. elim z [
            | inl y ↦ open_has_not_ended c.state n.usable y
            | inr y ↦ (let a = absent_at_end c w k x y.1 in q a.0 (λ u p. inr (y.0, a.1 u (v.value_tags u p))))
          ]) (inl h)
      none_by_tags q (t ∷ₜ us) h b =
          let s = stands c t us h in
          q c.stream.rest
          (λ u p. inr (n.usable, other (other_of_value u c w t s.front s.behind (λ q. b (subst Tags (sym q) p)) s.has.encodes s.has.rest) refl))

      none_by_end : AreEvery Tags → ((after : List ℕ) → EndsBefore c after → ⊥) → (ts : Trees) → HoldsValues c ts → BeginWithout Tags ts → ⊥
      none_by_end f e no_trees h b = none_not_inside c w e h
      none_by_end f e (t ∷ₜ us) h b = let s = stands c t us h in b (f (tag_of t) (encoded_tag c.mode t s.front s.has.encodes))

  pub no_optional : AreTags Tags → HasNoTyped Tags Means c → HoldsNoFields (IsOptional Tags Means) c
  no_optional v n ts us (Some y) k g = no_member n ts us y k g
  no_optional v n ts us None k g = none_absent v n ts k g.0

  module _ {X : Type 0} {lacks : Bool} where
    refused_member : (e : DecodeError X) → RefusesTyped Tags Means lacks c e d → RefusesFields (IsMember Tags Means) lacks c e d
    refused_member e (types.RefusesTyped.failed s a) = types.RefusesFields.broken (λ ts us y k g. failed_holds_none c s ts k) a
    refused_member e (types.RefusesTyped.source s g) = types.RefusesFields.source s g
    refused_member e (types.RefusesTyped.memory s l h) = types.RefusesFields.memory s l
    refused_member e (types.RefusesTyped.broken n a) = types.RefusesFields.broken (no_member n) a

    refused_optional : AreTags Tags → (e : DecodeError X) → RefusesTyped Tags Means lacks c e d → RefusesFields (IsOptional Tags Means) lacks c e d
    refused_optional v e (types.RefusesTyped.failed s a) = types.RefusesFields.broken (λ ts us y k g. failed_holds_none c s ts k) a
    refused_optional v e (types.RefusesTyped.source s g) = types.RefusesFields.source s g
    refused_optional v e (types.RefusesTyped.memory s l h) = types.RefusesFields.memory s l
    refused_optional v e (types.RefusesTyped.broken n a) = types.RefusesFields.broken (no_optional v n) a

-- ---- what the readers say

module _ {T X : Type 0} {lacks : Bool} (Tags : Tag → Type 0) (Means : Tree → T → Type 0) (c d : Reading) (w : IsWithinOwed c) (m : Moves c d) where
  pub reads_member : (x : T) → TakesNextTyped Tags Means lacks {X = X} c (Ok (Some x)) d → ReadsFields (IsMember Tags Means) lacks {X = X} c (Ok x) d
  reads_member x n = record { value = member_taken Tags Means c d w m n.mode x n.value; no_fault = n.no_fault; refused = tt; mode = n.mode; marked = n.marked }

  pub misses_member : AreTags Tags → (e : DecodeError X) → IsRefusal e → TakesNextTyped Tags Means lacks {X = X} c (Ok None) d
      → ReadsFields (IsMember Tags Means) lacks c (Err e) d
  misses_member v e r n = record {
    value = tt;
    no_fault = tt;
    refused = types.RefusesFields.broken (member_missing Tags Means c d w m n.mode v n.none) r;
    mode = n.mode;
    marked = n.marked;
  }

  pub refuses_member : (e : DecodeError X) → TakesNextTyped Tags Means lacks {X = X} c (Err e) d → ReadsFields (IsMember Tags Means) lacks c (Err e) d
  refuses_member e n = record { value = tt; no_fault = tt; refused = refused_member Tags Means c d w m n.mode e n.refused; mode = n.mode; marked = n.marked }

  pub reads_optional : AreTags Tags → (r : Result (Option T) (DecodeError X)) → TakesNextTyped Tags Means lacks {X = X} c r d
      → ReadsFields (IsOptional Tags Means) lacks c r d
  reads_optional v (Ok (Some x)) n = record {
    value = optional_taken Tags Means c d w m n.mode x n.value;
    no_fault = n.no_fault;
    refused = tt;
    mode = n.mode;
    marked = n.marked;
  }
  reads_optional v (Ok None) n = record {
    value = optional_none Tags Means c d w m n.mode v n.none;
    no_fault = n.no_fault;
    refused = tt;
    mode = n.mode;
    marked = n.marked;
  }
  reads_optional v (Err e) n = record {
    value = tt;
    no_fault = tt;
    refused = refused_optional Tags Means c d w m n.mode v e n.refused;
    mode = n.mode;
    marked = n.marked;
  }
