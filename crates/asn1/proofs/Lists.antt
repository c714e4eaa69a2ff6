-- As many values as have one of the tags.
use Rattle.std.proofs.Common.{◌≡◌, Bool, true, ◌+◌, ◌≤◌, length, List, [], ◌∷◌, ◌++◌, Some, None, refl, sym, ◌∙◌, append_assoc, append-nil, subst}
use Rattle.std.specs.Prelude.{Result, Ok, Err}
use Rattle.std.specs.declared.vec.Vec.{Vec}
use Rattle.std.specs.declared.alloc.Global.{Global}
use Rattle.bcder.specs.declared.mode.Mode.{Mode}
use Rattle.bcder.specs.declared.decode.error.DecodeError.{DecodeError}
use Rattle.bcder.specs.x690.Identifier.{Tag}
use Rattle.bcder.specs.x690.Tree.{Tree, Trees}
use Rattle.bcder.specs.calls.Cause.{cause_of, of_memory}
use Rattle.bcder.specs.calls.Content.{Reading, Moves}
use Rattle.bcder.specs.calls.Valued.{HoldsValues}
use Rattle.bcder.specs.laws.Moved.{untouched_is_moved, moved_twice_is_moved}
use Rattle.bcder.proofs.Lemmas.{IsWithinOwed, as_many_are_no_fewer, grew_in_between, shorter_by_a_value}
use Rattle.asn1.specs.Types.{HasNoneOf, TakesTyped, HasNoTyped, RefusesTyped, TakesNextTyped, AreList, items_of}
use Rattle.asn1.specs.Types.{TakesFields, HoldsNoFields, RefusesFields, ReadsFields}
use Rattle.asn1.specs.Types as types
use Rattle.asn1.proofs.Reading.{AreTags, passes, member_before, behind_first, member_tagged, tagged_first, none_before, none_behind, no_member, no_optional}
use Rattle.asn1.proofs.Reading.{member_missing, failed_holds_none}
use Rattle.asn1.proofs.Pairs.{reads_seen, refuses_seen}

module _ {T : Type 0} (Tags : Tag → Type 0) (Means : Tree → T → Type 0) where
  -- so many were taken of the list that content begins with, and these go on with it
  pub record Runs (c : Reading) (l : List T) (d : Reading) : Type 0 where
    pub before : (us vs : Trees) (xs : List T) → HoldsValues d us → AreList Tags Means us xs vs
        → (ts : Trees) × HoldsValues c ts × AreList Tags Means ts (l ++ xs) vs
    pub behind : (ts vs : Trees) (xs : List T) → HoldsValues c ts → AreList Tags Means ts xs vs
        → (us : Trees) × (ys : List T) × HoldsValues d us × AreList Tags Means us ys vs
    pub no_fault : d.stream.faults ≡ c.stream.faults
    pub mode : d.mode ≡ c.mode
    pub marked : d.marked ≡ c.marked
    pub moves : Moves c d

  pub runs_none : (c : Reading) → Runs c [] c
  runs_none c = record {
    before = λ us vs xs h k. (us, h, k);
    behind = λ ts vs xs h k. (ts, xs, h, k);
    no_fault = refl;
    mode = refl;
    marked = refl;
    moves = untouched_is_moved c;
  }

  module _ (c : Reading) (l : List T) (d e : Reading) (r : Runs c l d) (w : IsWithinOwed d) (m : Moves d e) (o : e.mode ≡ d.mode) where
    more_before : (x : T) → TakesTyped Tags Means d x e → (us vs : Trees) (xs : List T) → HoldsValues e us → AreList Tags Means us xs vs
        → (ts : Trees) × HoldsValues c ts × AreList Tags Means ts ((l ++ (x ∷ [])) ++ xs) vs
    more_before x h us vs xs k g =
        let b = member_before Tags Means d e w m o x h us k in
        let f = r.before b.0 vs (x ∷ xs) b.1 (us, b.2, g) in
        (f.0, f.1, subst (λ z. AreList Tags Means f.0 z vs) (sym (append_assoc l (x ∷ []) xs)) f.2)

    list_behind : (x : T) → TakesTyped Tags Means d x e → (us vs : Trees) (ys : List T) → HoldsValues d us → AreList Tags Means us ys vs
        → (zs : Trees) × (ns : List T) × HoldsValues e zs × AreList Tags Means zs ns vs
    list_behind x h us vs [] k g = absurd (tagged_first Tags Means d e w m o x h us k g.0)
    list_behind x h us vs (y ∷ ys) k g = (g.0, ys, behind_first Tags Means d e w m o x h g.1.tree g.0 (member_tagged Tags Means d us g.0 y k g.1), g.2)

    more_behind : (x : T) → TakesTyped Tags Means d x e → (ts vs : Trees) (xs : List T) → HoldsValues c ts → AreList Tags Means ts xs vs
        → (us : Trees) × (ys : List T) × HoldsValues e us × AreList Tags Means us ys vs
    more_behind x h ts vs xs k g = (let b = r.behind ts vs xs k g in list_behind x h b.0 vs b.1 b.2 b.3)

    runs_more : (x : T) → TakesTyped Tags Means d x e → e.stream.faults ≡ d.stream.faults → e.marked ≡ d.marked → Runs c (l ++ (x ∷ [])) e
    runs_more x h n k = record {
      before = more_before x h;
      behind = more_behind x h;
      no_fault = n ∙ r.no_fault;
      mode = o ∙ r.mode;
      marked = k ∙ r.marked;
      moves = moved_twice_is_moved c d e r.moves m;
    }

    -- at the end of the list
    module _ (v : AreTags Tags) (n : HasNoneOf Tags d e) where
      all_before : (us : Trees) → HoldsValues e us → (ts : Trees) × HoldsValues c ts × AreList Tags Means ts l us
      all_before us k =
          let b = none_before Tags Means d e w m o v n us k in
          let f = r.before b.0 b.0 [] b.1 (b.2.0, refl) in
          (f.0, f.1, subst (λ z. AreList Tags Means f.0 l z) (sym b.2.1) (subst (λ z. AreList Tags Means f.0 z b.0) (append-nil l) f.2))

      list_ends : (us vs : Trees) (ys : List T) → HoldsValues d us → AreList Tags Means us ys vs → HoldsValues e vs
      list_ends us vs [] k g = none_behind Tags Means d e w m o v n us vs None k g
      list_ends us vs (y ∷ ys) k g = absurd (member_missing Tags Means d e w m o v n us g.0 y k g.1)

      all_taken : TakesFields (AreList Tags Means) c l e
      all_taken = record {
        before = all_before;
        behind = λ ts us y k g. (let b = r.behind ts us y k g in list_ends b.0 us b.1 b.2 b.3);
      }

    -- it was refused
    module _ (v : AreTags Tags) where
      no_list_here : (n : HasNoTyped Tags Means d) → (us vs : Trees) (ys : List T) → HoldsValues d us
          → AreList Tags Means us ys vs → ⊥
      no_list_here n us vs [] k g = no_optional Tags Means d e w m o v n us us None k (g.0, refl)
      no_list_here n us vs (y ∷ ys) k g = no_member Tags Means d e w m o n us g.0 y k g.1

      no_list : HasNoTyped Tags Means d → HoldsNoFields (AreList Tags Means) c
      no_list n ts vs xs k g = (let b = r.behind ts vs xs k g in no_list_here n b.0 vs b.1 b.2 b.3)

      list_refused : {X : Type 0} {lacks : Bool} (f : DecodeError X) → RefusesTyped Tags Means lacks d f e → RefusesFields (AreList Tags Means) true c f e
      list_refused f (types.RefusesTyped.failed s a) =
          types.RefusesFields.broken (λ ts us y k g. (let b = r.behind ts us y k g in failed_holds_none d s b.0 b.2)) a
      list_refused f (types.RefusesTyped.source s g) = types.RefusesFields.source s (grew_in_between _ _ _ _ (as_many_are_no_fewer _ _ r.no_fault) g refl)
      list_refused f (types.RefusesTyped.memory s l h) = types.RefusesFields.memory s refl
      list_refused f (types.RefusesTyped.broken n a) = types.RefusesFields.broken (no_list n) a

-- ---- what the reader says, after so many

module _ {T X : Type 0} {lacks : Bool} (Tags : Tag → Type 0) (Means : Mode → Tree → T → Type 0) (c : Reading) (l : List T) (d e : Reading)
    (r : Runs Tags (Means c.mode) c l d) (w : IsWithinOwed d) (m : Moves d e) where
  in_mode : (o : _) → TakesNextTyped Tags (Means d.mode) lacks {X = X} d o e → TakesNextTyped Tags (Means c.mode) lacks {X = X} d o e
  in_mode o n = subst (λ z. TakesNextTyped Tags (Means z) lacks {X = X} d o e) r.mode n

  pub more_of_list : (x : T) → TakesNextTyped Tags (Means d.mode) lacks {X = X} d (Ok (Some x)) e → Runs Tags (Means c.mode) c (l ++ (x ∷ [])) e
  more_of_list x k = (let n = in_mode (Ok (Some x)) k in runs_more Tags (Means c.mode) c l d e r w m n.mode x n.value n.no_fault n.marked)

  pub shorter_list : (x : T) → TakesNextTyped Tags (Means d.mode) lacks {X = X} d (Ok (Some x)) e → length e.stream.rest + 2 ≤ length d.stream.rest
  shorter_list x n = shorter_by_a_value d e (passes Tags (Means d.mode) d e w m n.mode x n.value)

  pub reads_list : AreTags Tags → TakesNextTyped Tags (Means d.mode) lacks {X = X} d (Ok None) e
      → ReadsFields (AreList Tags (Means c.mode)) true {X = X} c (Ok l) e
  reads_list v k =
      let n = in_mode (Ok None) k in
      record {
        value = all_taken Tags (Means c.mode) c l d e r w m n.mode v n.none;
        no_fault = n.no_fault ∙ r.no_fault;
        refused = tt;
        mode = n.mode ∙ r.mode;
        marked = n.marked ∙ r.marked;
      }

  pub refuses_list : AreTags Tags → (f : DecodeError X) → TakesNextTyped Tags (Means d.mode) lacks d (Err f) e
      → ReadsFields (AreList Tags (Means c.mode)) true c (Err f) e
  refuses_list v f k =
      let n = in_mode (Err f) k in
      record {
        value = tt;
        no_fault = tt;
        refused = list_refused Tags (Means c.mode) c l d e r w m n.mode v f n.refused;
        mode = n.mode ∙ r.mode;
        marked = n.marked ∙ r.marked;
      }

  pub keeps_no_list : (f : DecodeError X) → cause_of f ≡ of_memory → (x : T) → TakesNextTyped Tags (Means d.mode) lacks {X = X} d (Ok (Some x)) e
      → ReadsFields (AreList Tags (Means c.mode)) true c (Err f) e
  keeps_no_list f a x n = record {
    value = tt;
    no_fault = tt;
    refused = types.RefusesFields.memory a refl;
    mode = n.mode ∙ r.mode;
    marked = n.marked ∙ r.marked;
  }

-- a list that was read as fields is one as a vector
pub list_as_fields : {T X : Type 0} {lacks : Bool} (Tags : Tag → Type 0) (Means : Mode → Tree → T → Type 0) (c d : Reading)
    (r : Result (Vec T Global) (DecodeError X))
    → ReadsFields (AreList Tags (Means c.mode)) lacks c (items_of r) d
    → ReadsFields (λ (ts : Trees) (y : Vec T Global) (us : Trees). AreList Tags (Means c.mode) ts y.items us) lacks c r d
list_as_fields Tags Means c d (Ok x) h = reads_seen (AreList Tags (Means c.mode)) (λ (z : Vec _ Global). z.items) c d x h
list_as_fields Tags Means c d (Err e) h = refuses_seen (AreList Tags (Means c.mode)) (λ (z : Vec _ Global). z.items) c d e h
