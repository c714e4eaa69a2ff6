-- The steps of passing over a value with a stack of limits.
use Rattle.std.proofs.Common.{◌≡◌, ◌⊎◌, inl, inr, ℕ, zero, suc, ◌+◌, ◌-◌, ◌*◌, ◌<◌, ◌≤◌, Bool, true, false, List, [], ◌∷◌, ◌++◌, length, take, drop}
use Rattle.std.proofs.Common.{Option, Some, None, refl, sym, ap, subst, ◌∙◌, append_assoc, append-nil, arith, length-append}
use Rattle.std.proofs.lemmas.Bool.{cases_lt}
use Rattle.std.proofs.lemmas.Grind.{common_steps}
use Rattle.std.proofs.Math.Seq.{take-append-add, drop-append-add}
use Rattle.std.proofs.lemmas.List.{take-append-drop, take-append-le, drop-append-le, take_all, drop_all}
use Rattle.bcder.specs.declared.mode.Mode.{Mode}
use Rattle.bcder.specs.declared.length.Length.{Length}
use Rattle.bcder.specs.declared.length.Length.TheVariants as len
use Rattle.bcder.specs.declared.decode.content.Kind.{Kind}
use Rattle.bcder.specs.declared.decode.content.Kind.TheVariants as kind
use Rattle.bcder.specs.declared.decode.content.State.TheVariants.{Open}
use Rattle.bcder.specs.steps.Stacked.{Entry, Definite, Indefinite, Reached, after_headings, lack, limit_around, unwound, restored, HasLimit}
use Rattle.bcder.specs.steps.Stacked.{AreLimited, TopIs, is_indefinite, ends, next_to, remain, due, heading, Passes, entry_of, GoesInto, octets}
use Rattle.bcder.specs.steps.Stacked.{values as open_values, LeavesInnermost, IsPart, PassesCalls, IsUnderWay, IsBroken}
use Rattle.bcder.specs.x690.Identifier.{AreOctets, Tag}
use Rattle.bcder.specs.x690.Tree.{Tree, primitive, constructed, Trees, no_trees, ◌∷ₜ◌}
use Rattle.bcder.specs.x690.Encoding.{IsHeader, IsEncoding, Header}
use Rattle.bcder.specs.x690.Preorder.{Heading, preorder, preorders}
use Rattle.bcder.specs.steps.Growing.{AreOpen, grown}
use Rattle.bcder.specs.steps.Reading.{read_header, read_end, read_contents, at_end, read_list, read_tree}
use Rattle.bcder.specs.calls.Stream.{Layer, Stream, cut, past, limit_left}
use Rattle.bcder.specs.calls.Content.{Reading, values, Octets, Falls, FitsOwed, ContentForm, HasMarker, of_octets}
use Rattle.bcder.specs.calls.Content.{of_definite, of_indefinite, of_unbounded, EndsBefore}
use Rattle.bcder.specs.x690.Length.{IsEndOfContents}
use Rattle.bcder.specs.steps.Inside.{popped}
use Rattle.bcder.specs.steps.Inside.{limit_inside}
use Rattle.bcder.specs.calls.Walking.{HeadersStand}
use Rattle.bcder.specs.laws.Complete.{header_complete, header_size}
use Rattle.bcder.specs.laws.Identifiers.{BeginsValue, BeginsValue-identifier}
use Rattle.bcder.specs.laws.Lengths.{read_end-complete}
use Rattle.bcder.specs.laws.Limits.{cut_past, rest_told_behind, first_kept, rest_kept}
use Rattle.bcder.specs.laws.Sound.{none_is, some_inj, end_sound}
use Rattle.bcder.specs.laws.Stands.{tree_sound}
use Rattle.bcder.specs.laws.Moved.{Falls-refl, Falls-trans}
use Rattle.bcder.proofs.Inner.{layer_is}
use Rattle.bcder.proofs.Moving.{open_not_ended}
use Rattle.bcder.proofs.Ends.{from_header, drop_front, two_calls, definite_ends, indefinite_ends, too_few, goes_on, too_long, octets_there, Restores}
use Rattle.bcder.proofs.Ends.{definite_there, definite_short, indefinite_there, FirstIs, first_heading, heads, Restores-none, Restores-all, Restores-short}
use Rattle.bcder.specs.steps.WalkSteps.{NoValue}
use Rattle.bcder.proofs.Growing.{preorders-grown, AreOpen-grown, AreOpen-new}

-- ---- limits

falls_joined : (b p q : Option ℕ) (k : ℕ) → Falls p k q → Falls (limit_around b p) k (limit_around b q)
falls_joined None p q k f = refl
falls_joined (Some b) None None k f = refl
falls_joined (Some b) None (Some q) k f = absurd (f refl)
falls_joined (Some b) (Some p) None k f = absurd (f refl)
falls_joined (Some b) (Some p) (Some q) k f = omega arith

-- the limit around open values falls with the innermost one
pub falls_unwound : (es : List Entry) (p q : Option ℕ) (k : ℕ) → Falls p k q → Falls (unwound es p) k (unwound es q)
falls_unwound [] p q k f = f
falls_unwound (Definite b ∷ es) p q k f = falls_unwound es (limit_around b p) (limit_around b q) k (falls_joined b p q k f)
falls_unwound (Indefinite ∷ es) p q k f = falls_unwound es p q k f

has_falls : (p q : Option ℕ) (k : ℕ) → Falls p k q → HasLimit p → HasLimit q
has_falls None q k f h = absurd h
has_falls (Some p) None k f h = absurd (f refl)
has_falls (Some p) (Some q) k f h = tt

pub limited_falls : (es : List Entry) (p q : Option ℕ) (k : ℕ) → Falls p k q → AreLimited es p → AreLimited es q
limited_falls [] p q k f h = tt
limited_falls (Definite b ∷ es) p q k f h = (has_falls p q k f h.0, h.1)
limited_falls (Indefinite ∷ es) p q k f h = limited_falls es p q k f h

falls_less : (o : Option ℕ) (n : ℕ) → FitsOwed (len.Definite n) o → Falls o n (limit_left o n)
falls_less None n f = refl
falls_less (Some l) n f = omega arith

limited_opened : (n : Length) (es : List Entry) (p : Option ℕ) → FitsOwed n p → AreLimited es p → AreLimited (entry_of n p ∷ es) (limit_inside n p)
limited_opened (len.Definite n) es p f h = (tt, limited_falls es p (limit_left p n) n (falls_less p n f) h)
limited_opened len.Indefinite es p f h = h

pub limited_left : (top : Entry) (es : List Entry) (p : Option ℕ) → AreLimited (top ∷ es) p → AreLimited es (restored top p)
limited_left (Definite b) es p h = h.1
limited_left Indefinite es p h = h

falls_popped : (o : Option ℕ) (n : ℕ) → FitsOwed (len.Definite n) o → Falls o n (popped o n (Some 0))
falls_popped None n f = refl
falls_popped (Some l) n f = omega arith

pub cut_falls : (u v : Option ℕ) (w r : List ℕ) → Falls u (length w) v → cut u (w ++ r) ≡ w ++ cut v r
cut_falls None None w r f = refl
cut_falls None (Some v) w r f = absurd (f refl)
cut_falls (Some u) None w r f = absurd (f refl)
cut_falls (Some u) (Some v) w r f = ap (λ n. take n (w ++ r)) f ∙ take-append-add w r v

pub past_falls : (u v : Option ℕ) (w r : List ℕ) → Falls u (length w) v → past u (w ++ r) ≡ past v r
past_falls None None w r f = refl
past_falls None (Some v) w r f = absurd (f refl)
past_falls (Some u) None w r f = absurd (f refl)
past_falls (Some u) (Some v) w r f = layer_is _ _ _ _ (ap (λ n. drop n (w ++ r)) f ∙ drop-append-add w r v) (omega (arith, f, length-append w r))

pub lack_falls : (u v : Option ℕ) (w r : List ℕ) → Falls u (length w) v → lack u (w ++ r) ≡ lack v r
lack_falls None None w r f = refl
lack_falls None (Some v) w r f = absurd (f refl)
lack_falls (Some u) None w r f = absurd (f refl)
lack_falls (Some u) (Some v) w r f = omega (arith, f, length-append w r)

-- what was passed up to a limit was passed of the source
pub source_passes : (t v : Stream) (p q : Option ℕ) (w : List ℕ) → cut p t.rest ≡ w ++ cut q v.rest
    → ◌≡◌ {A = List Layer} (past q v.rest ∷ v.kept) (past p t.rest ∷ t.kept) → Passes t w v
source_passes t v p q w e k = record { rest = sym (rest_told_behind p q t.rest v.rest w (sym e) (first_kept k)); kept = rest_kept k }

pub passes_trans : (s t v : Stream) (a b : List ℕ) → Passes s a t → Passes t b v → Passes s (a ++ b) v
passes_trans s t v a b x y = record { rest = x.rest ∙ ap (λ z. a ++ z) y.rest ∙ sym (append_assoc a b v.rest); kept = y.kept ∙ x.kept }

pub passes_nothing : (s t : Stream) → t.rest ≡ s.rest → t.kept ≡ s.kept → Passes s [] t
passes_nothing s t e k = record { rest = sym e; kept = k }

-- ---- where headers stand

-- w is some octets, and then v
abbrev IsEndOf : List ℕ → List ℕ → Type 0
IsEndOf v w = (gap : List ℕ) × (w ≡ gap ++ v)

later : (w b c : List ℕ) → IsEndOf b w → IsEndOf c b → IsEndOf c w
later w b c g h = (g.0 ++ h.0, g.1 ∙ ap (λ l. g.0 ++ l) h.1 ∙ sym (append_assoc g.0 h.0 c))

stand_push : (mode : Mode) (hs : List Heading) (h : Heading) (w v x : List ℕ) → HeadersStand mode hs w v
    → (len : Length) (header : List ℕ) → IsHeader mode h.tag h.constructed len header → v ≡ header ++ x → HeadersStand mode (hs ++ h ∷ []) w x
stand_push mode [] h w v x s len header i e = (len, s.0, header, x, i, s.1 ∙ ap (λ l. s.0 ++ l) e, ([], refl))
stand_push mode (g ∷ hs) h w v x s len header i e = (s.0, s.1, s.2, s.3, s.4, s.5, stand_push mode hs h s.3 v x s.6 len header i e)

stand_later : (mode : Mode) (hs : List Heading) (w b c : List ℕ) → HeadersStand mode hs w b → IsEndOf c b → HeadersStand mode hs w c
stand_later mode [] w b c s e = later w b c s e
stand_later mode (h ∷ hs) w b c s e = (s.0, s.1, s.2, s.3, s.4, s.5, stand_later mode hs s.3 b c s.6 e)

pub calls_none : (mode : Mode) (s t : Stream) (o : Option ℕ) → t.rest ≡ s.rest → t.kept ≡ s.kept → PassesCalls mode s o [] t o
calls_none mode s t o e k = record { passed = []; passes = passes_nothing s t e k; falls = Falls-refl o; twice = omega arith; stand = ([], ap (cut o) (sym e)) }

module _ (mode : Mode) (s : Stream) (o : Option ℕ) (calls : List Heading) (t v : Stream) (p q : Option ℕ) (w : List ℕ) (c : PassesCalls mode s o calls t p)
    (g : Passes t w v) (f : Falls p (length w) q) where
  more_falls : Falls o (length (c.passed ++ w)) q
  more_falls = subst (λ n. Falls o n q) (sym (length-append c.passed w)) (Falls-trans o p q (length c.passed) (length w) c.falls f)

  more_cut : cut p t.rest ≡ w ++ cut q v.rest
  more_cut = ap (cut p) g.rest ∙ cut_falls p q w v.rest f

  -- octets were passed
  pub calls_on : PassesCalls mode s o calls v q
  calls_on = record {
    passed = c.passed ++ w;
    passes = passes_trans s t v c.passed w c.passes g;
    falls = more_falls;
    twice = (let y : 2 * length calls ≤ length c.passed = c.twice in omega (arith, length-append c.passed w));
    stand = stand_later mode calls (cut o s.rest) (cut p t.rest) (cut q v.rest) c.stand (w, more_cut);
  }

  -- a header was passed
  pub calls_met : (h : Header) (n : ℕ) → IsHeader mode h.tag h.form h.len w → PassesCalls mode s o (calls ++ heading h n ∷ []) v q
  calls_met h n i = record {
    passed = c.passed ++ w;
    passes = passes_trans s t v c.passed w c.passes g;
    falls = more_falls;
    twice = (let y : 2 * length calls ≤ length c.passed = c.twice in let z : 2 ≤ length w = header_size mode h.tag h.form h.len w i in
        omega (arith, length-append c.passed w, length-append calls (heading h n ∷ [])));
    stand = stand_push mode calls (heading h n) (cut o s.rest) (cut p t.rest) (cut q v.rest) c.stand h.len w i more_cut;
  }

-- ---- a tree for the calls

-- nothing was called yet, or the calls are those of a value
IsPartly : ℕ → List Heading → Type 0
IsPartly k done = ((done ≡ []) × (k ≡ 0)) ⊎ ((1 ≤ k) × IsPart k done)

still_one : (k : ℕ) (t x : Tree) → AreOpen (suc k) (t ∷ₜ no_trees) → (u : Tree) × (grown (suc k) (t ∷ₜ no_trees) x ≡ u ∷ₜ no_trees)
still_one k (primitive t contents) x h = absurd h
still_one k (constructed t ts) x h = (constructed t (grown k ts x), refl)

grown_part : (k j : ℕ) (t x : Tree) (done calls : List Heading) → AreOpen (suc k) (t ∷ₜ no_trees) → AreOpen j (grown (suc k) (t ∷ₜ no_trees) x)
    → preorder t 0 ≡ done → calls ≡ done ++ preorder x (suc k) → IsPart j calls
grown_part k j t x done calls o p e is =
    let one = still_one k t x o in
    let walk : preorders (grown (suc k) (t ∷ₜ no_trees) x) 0 ≡ preorders (t ∷ₜ no_trees) 0 ++ preorder x (0 + suc k) =
    preorders-grown (suc k) (t ∷ₜ no_trees) x 0 o in
    let z : 0 + suc k ≡ suc k = omega arith in
    record {
      tree = one.0;
      opened = subst (AreOpen j) one.1 p;
      are = sym (append-nil (preorder one.0 0)) ∙ sym (ap (λ ts. preorders ts 0) one.1) ∙ walk ∙ ap (λ n. preorders (t ∷ₜ no_trees) 0 ++ preorder x n) z
          ∙ ap (λ l. l ++ preorder x (suc k)) (append-nil (preorder t 0) ∙ e) ∙ sym is;
    }

part_primitive : (k : ℕ) (done : List Heading) (t : Tag) → IsPartly k done → IsPart k (done ++ record { tag = t; constructed = false; depth = k } ∷ [])
unfolding IsPartly
part_primitive k done t (inl h) = rw (h.0, h.1) record { tree = primitive t []; opened = tt; are = refl }
part_primitive zero done t (inr h) = absurd (let l = h.0 in omega arith)
part_primitive (suc k) done t (inr h) =
    grown_part k (suc k) h.1.tree (primitive t []) done _ h.1.opened
    (AreOpen-grown (suc k) (suc k) (h.1.tree ∷ₜ no_trees) (primitive t []) (omega arith) h.1.opened) h.1.are refl

part_constructed : (k : ℕ) (done : List Heading) (t : Tag) → IsPartly k done → IsPart (suc k) (done ++ record { tag = t; constructed = true; depth = k } ∷ [])
unfolding IsPartly
part_constructed k done t (inl h) = rw (h.0, h.1) record { tree = constructed t no_trees; opened = tt; are = refl }
part_constructed zero done t (inr h) = absurd (let l = h.0 in omega arith)
part_constructed (suc k) done t (inr h) =
    grown_part k (suc (suc k)) h.1.tree (constructed t no_trees) done _ h.1.opened (AreOpen-new (suc k) (h.1.tree ∷ₜ no_trees) t h.1.opened) h.1.are refl

AreOpen-less : (j k : ℕ) (ts : Trees) → j ≤ k → AreOpen k ts → AreOpen j ts
AreOpen-less zero k ts l h = tt
AreOpen-less (suc j) zero ts l h = absurd (omega arith)
AreOpen-less (suc j) (suc k) no_trees l h = h
AreOpen-less (suc j) (suc k) (primitive t contents ∷ₜ no_trees) l h = h
AreOpen-less (suc j) (suc k) (constructed t ts ∷ₜ no_trees) l h = AreOpen-less j k ts (omega arith) h
AreOpen-less (suc j) (suc k) (t ∷ₜ (u ∷ₜ us)) l h = AreOpen-less (suc j) (suc k) (u ∷ₜ us) l h

-- there is a tree with one more heading
some_tree : (n : ℕ) (done : List Heading) (h : Header) → IsPartly n done → (u : Tree) × (preorder u 0 ≡ done ++ heading h n ∷ [])
some_tree n done h i = go h.form refl
  where
    go : (f : Bool) → h.form ≡ f → (u : Tree) × (preorder u 0 ≡ done ++ heading h n ∷ [])
    go false e = rw e (let k = part_primitive n done h.tag i in (k.tree, k.are))
    go true e = rw e (let k = part_constructed n done h.tag i in (k.tree, k.are))

begun : IsPartly 0 []
unfolding IsPartly
begun = inl (refl, refl)

partly : (k : ℕ) (done : List Heading) → 1 ≤ k → IsPart k done → IsPartly k done
unfolding IsPartly
partly k done l p = inr (l, p)

-- ---- into the content of a header

into_octets : (mode : Mode) (es : List Entry) (tag : Tag) (n : ℕ) (t v : Stream) (p : Option ℕ) → FitsOwed (len.Definite n) p → n ≤ length t.rest
    → v.rest ≡ drop n t.rest → due mode es (record { tag = tag; form = false; len = len.Definite n }) p t.rest
    ≡ after_headings (record { tag = tag; constructed = false; depth = length es } ∷ []) (remain mode es (popped p n (Some 0)) v.rest)
into_octets mode es tag n t v p f l e =
    let w : List ℕ = take n t.rest in
    let k : length w ≡ n = grind (arith, common_steps) in
    let q = popped p n (Some 0) in
    let falls : Falls p (length w) q = subst (λ m. Falls p m q) (sym k) (falls_popped p n f) in
    let is : t.rest ≡ w ++ v.rest = sym (take-append-drop n t.rest) ∙ ap (λ z. take n t.rest ++ z) (sym e) in
    let c : cut p t.rest ≡ w ++ cut q v.rest = ap (cut p) is ∙ cut_falls p q w v.rest falls in
    let d : drop n (cut p t.rest) ≡ cut q v.rest = ap (drop n) c ∙ ap (λ m. drop m (w ++ cut q v.rest)) (sym k) ∙ drop_front w (cut q v.rest) in
    let b : lack p t.rest ≡ lack q v.rest = ap (lack p) is ∙ lack_falls p q w v.rest falls in
    let a : past p t.rest ≡ past q v.rest = ap (past p) is ∙ past_falls p q w v.rest falls in
    let fits : n ≤ length (cut p t.rest) = omega (arith, k, ap length c, length-append w (cut q v.rest)) in
    octets_there mode es tag n (cut p t.rest) (past p t.rest).octets (lack p t.rest) fits
    ∙ ap (λ x. after_headings (record { tag = tag; constructed = false; depth = length es } ∷ []) (ends mode es x (lack p t.rest) (past p t.rest).octets)) d
    ∙ ap (λ x. after_headings (record { tag = tag; constructed = false; depth = length es } ∷ []) (ends mode es (cut q v.rest) x (past p t.rest).octets)) b
    ∙ ap (λ x. after_headings (record { tag = tag; constructed = false; depth = length es } ∷ []) (ends mode es (cut q v.rest) (lack q v.rest) x.octets)) a

restores : (p : Option ℕ) (n : ℕ) (w : List ℕ) → FitsOwed (len.Definite n) p → n ≤ length (cut p w)
    → Restores (limit_left p n) (drop n (cut p w)) (past p w).octets (lack p w)
restores None n w f l = Restores-none (drop n w)
restores (Some k) n w f l = elim (cases_lt (length w) k) [
  | inl x ↦ (let e : drop k w ≡ [] = drop_all k w (omega arith) in
      let d : take k w ≡ w = take_all k w (omega arith) in
      let g : k - n ≡ length (drop n (take k w)) + (k - length w) = grind (arith, common_steps) in
      rw e (Restores-short (drop n (take k w)) (k - n) (k - length w) g))
  | inr x ↦ (let e : k - length w ≡ 0 = omega arith in
      let g : k - n ≡ length (drop n (take k w)) = grind (arith, common_steps) in
      rw e (Restores-all (drop n (take k w)) (drop k w) (k - n) g))
]

into_definite : (mode : Mode) (es : List Entry) (tag : Tag) (n : ℕ) (w : List ℕ) (p : Option ℕ) → FitsOwed (len.Definite n) p
    → due mode es (record { tag = tag; form = true; len = len.Definite n }) p w
    ≡ after_headings (record { tag = tag; constructed = true; depth = length es } ∷ []) (remain mode (Definite (limit_left p n) ∷ es) (Some n) w)
into_definite mode es tag n w p f = elim (cases_lt (length (cut p w)) n) [
  | inl x ↦ definite_short mode es tag n (take n w) (cut p w) (past p w).octets (drop n w) (lack p w) (n - length w) (limit_left p n) x (few p f x)
  | inr x ↦ (let z : List ℕ = cut p w in
      let y : List ℕ = (past p w).octets in
      let is : z ++ y ≡ w = cut_past p w in
      let a : take n z ≡ take n w = sym (take-append-le n z y x) ∙ ap (take n) is in
      let b : drop n z ++ y ≡ drop n w = sym (drop-append-le n z y x) ∙ ap (drop n) is in
      let c : 0 ≡ n - length w = omega (arith, ap length is, length-append z y) in
      definite_there mode es tag n z y (lack p w) (limit_left p n) x (restores p n w f x)
      ∙ ap (λ u. after_headings (record { tag = tag; constructed = true; depth = length es } ∷ [])
      (ends mode (Definite (limit_left p n) ∷ es) u 0 (drop n z ++ y))) a
      ∙ ap (λ u. after_headings (record { tag = tag; constructed = true; depth = length es } ∷ [])
      (ends mode (Definite (limit_left p n) ∷ es) (take n w) u (drop n z ++ y))) c
      ∙ ap (λ u. after_headings (record { tag = tag; constructed = true; depth = length es } ∷ [])
      (ends mode (Definite (limit_left p n) ∷ es) (take n w) (n - length w) u)) b)
]
  where
    few : (p : Option ℕ) → FitsOwed (len.Definite n) p → length (cut p w) < n → 0 < n - length w
    few None f x = omega arith
    few (Some k) f x = (let y : length (take k w) < n = x in grind (arith, common_steps))

pub into : (mode : Mode) (h : Header) (es fs : List Entry) (t v : Stream) (p q : Option ℕ) → FitsOwed h.len p → GoesInto h es t p fs v q
    → due mode es h p t.rest ≡ after_headings (heading h (length es) ∷ []) (remain mode fs q v.rest)
into mode h es fs t v p q f (octets n a b l e r k i) = rw (a, b, e, i) (into_octets mode es h.tag n t v p (rw b at f) l r)
into mode h es fs t v p q f (open_values a e k i) = go h.len refl
  where
    go : (n : Length) → h.len ≡ n → due mode es h p t.rest ≡ after_headings (heading h (length es) ∷ []) (remain mode fs q v.rest)
    go (len.Definite n) b = rw (a, e, k, i, b) (into_definite mode es h.tag n t.rest p (rw b at f))
    go len.Indefinite b = rw (a, e, k, i, b) (indefinite_there mode es h.tag (cut p t.rest) (past p t.rest).octets (lack p t.rest))

unwound_opened : (n : Length) (es : List Entry) (p : Option ℕ) → FitsOwed n p → unwound (entry_of n p ∷ es) (limit_inside n p) ≡ unwound es p
unwound_opened (len.Definite n) es None f = refl
unwound_opened (len.Definite n) es (Some k) f = ap (λ m. unwound es (Some m)) (let e : k - n + n ≡ k = omega arith in e)
unwound_opened len.Indefinite es p f = refl

module _ (mode : Mode) (s : Stream) (o : Option ℕ) (calls : List Heading) (h : Header) (es fs : List Entry) (t v : Stream) (p q : Option ℕ)
    (f : FitsOwed h.len p) where
  gone_calls : GoesInto h es t p fs v q → PassesCalls mode s o calls t (unwound es p) → PassesCalls mode s o calls v (unwound fs q)
  gone_calls (octets n a b l e r k i) c =
      let w : List ℕ = take n t.rest in
      let j : length w ≡ n = grind (arith, common_steps) in
      let falls : Falls p (length w) (popped p n (Some 0)) = subst (λ m. Falls p m (popped p n (Some 0))) (sym j) (falls_popped p n (rw b at f)) in
      let g : Passes t w v = record { rest = sym (take-append-drop n t.rest) ∙ ap (λ z. take n t.rest ++ z) (sym r); kept = k } in
      rw (e, i)
      (calls_on mode s o calls t v (unwound es p) (unwound es (popped p n (Some 0))) w c g (falls_unwound es p (popped p n (Some 0)) (length w) falls))
  gone_calls (open_values a e k i) c = rw (e, i, k, unwound_opened h.len es p f) c

  gone_limits : GoesInto h es t p fs v q → AreLimited es p → AreLimited fs q
  gone_limits (octets n a b l e r k i) z = rw (e, i) (limited_falls es p (popped p n (Some 0)) n (falls_popped p n (rw b at f)) z)
  gone_limits (open_values a e k i) z = rw (e, i) (limited_opened h.len es p f z)

  gone_part : GoesInto h es t p fs v q → (done : List Heading) → IsPartly (length es) done → IsPart (length fs) (done ++ heading h (length es) ∷ [])
  gone_part (octets n a b l e r k i) done j = rw (e, a) (part_primitive (length es) done h.tag j)
  gone_part (open_values a e k i) done j = rw (e, a) (part_constructed (length es) done h.tag j)

-- ---- what the outcome tells of the calls

-- what is still to come of no open value is what was read
pub front_of : (calls : List Heading) (r : Reached) (u : Tree) (x : List ℕ) (m : ℕ) (y : List ℕ) (mode : Mode)
    → next_to mode [] (Some (u, x)) m y ≡ after_headings calls r → (more : List Heading) × (preorder u 0 ≡ calls ++ more)
unfolding ends
front_of calls None u x m y mode e = absurd (none_is _ (sym e))
front_of calls (Some p) u x m y mode e = (p.0, sym (append-nil (preorder u 0)) ∙ ap (λ q. q.0) (some_inj _ _ e))

pub nothing_read : (mode : Mode) (r : Option (Tree × List ℕ)) (m : ℕ) (y : List ℕ) → next_to mode [] r m y ≡ None → r ≡ None
unfolding ends
nothing_read mode None m y e = refl
nothing_read mode (Some u) m y e = absurd (none_is _ (sym e))

pub read_whole : (mode : Mode) (r : Option (Tree × List ℕ)) (m k : ℕ) (x y z : List ℕ) (calls : List Heading)
    → next_to mode [] r m y ≡ after_headings calls (ends mode [] x k z) → (u : Tree) × (r ≡ Some (u, x)) × (preorder u 0 ≡ calls)
unfolding ends
read_whole mode None m k x y z calls e = absurd (none_is _ e)
read_whole mode (Some u) m k x y z calls e =
    let f = some_inj _ _ e in
    (u.0, ap (λ v. Some (u.0, v)) (ap (λ q. q.1.0) f), sym (append-nil (preorder u.0 0)) ∙ ap (λ q. q.0) f ∙ append-nil calls)

-- ---- the first header

pub first_gone : (mode : Mode) (h : Header) (s t : Stream) (o p : Option ℕ) (es : List Entry) → FitsOwed h.len o → GoesInto h [] s o es t p
    → IsUnderWay mode h s o [] es t p
first_gone mode h s t o p es f g = record {
  outcome = into mode h [] es s t o p f g;
  passes = gone_calls mode s o [] h [] es s t o p f g (calls_none mode s s o refl refl);
  part = gone_part mode s o [] h [] es s t o p f g [] begun;
  limits = gone_limits mode s o [] h [] es s t o p f g tt;
}

pub first_broken : (mode : Mode) (h : Header) (s t : Stream) (o p : Option ℕ) → t.rest ≡ s.rest → t.kept ≡ s.kept → p ≡ o → IsBroken mode h s o [] t p
first_broken mode h s t o p e k i = record {
  some = (let u = some_tree 0 [] h begun in (u.0, [], u.1));
  one = λ u x r. subst (FirstIs (heading h 0) 0) r (first_heading (read_list mode) h.tag h.form h.len (cut o s.rest) 0);
  passes = rw i (calls_none mode s t o e k);
}

-- ---- a header inside

not_at_end : (mode : Mode) (marked : Bool) (w : List ℕ) → BeginsValue w → at_end mode marked w ≡ None
unfolding at_end read_end
not_at_end mode true w h = rw h.is refl
not_at_end mode false w h = rw h.is refl

header_begins : (mode : Mode) (h : Header) (w x : List ℕ) → IsHeader mode h.tag h.form h.len w → BeginsValue (w ++ x)
header_begins mode h w x i = subst BeginsValue (sym (ap (λ l. l ++ x) i.is ∙ append_assoc _ i.length_octets x))
    (BeginsValue-identifier h.tag h.form (i.length_octets ++ x) i.is_value_tag)

-- the header k was passed, while these values are open
pub record IsMet (mode : Mode) (h : Header) (s : Stream) (o : Option ℕ) (calls : List Heading) (es : List Entry) (k : Header) (t : Stream)
    (p : Option ℕ) : Type 0 where
  pub outcome : due mode [] h o s.rest ≡ after_headings (heading h 0 ∷ calls) (due mode es k p t.rest)
  pub passes : PassesCalls mode s o (calls ++ heading k (length es) ∷ []) t (unwound es p)
  pub part : IsPart (length es) (heading h 0 ∷ calls)
  pub limits : AreLimited es p
  pub inside : 1 ≤ length es

pub met : (mode : Mode) (h : Header) (s : Stream) (o : Option ℕ) (calls : List Heading) (es : List Entry) (k : Header) (t v : Stream) (p q : Option ℕ)
    (w : List ℕ) → IsUnderWay mode h s o calls es t p → 1 ≤ length es → AreOctets (cut p t.rest) → cut p t.rest ≡ w ++ cut q v.rest → ◌≡◌ {A = List Layer}
    (past q v.rest ∷ v.kept) (past p t.rest ∷ t.kept) → Falls p (length w) q → IsHeader mode k.tag k.form k.len w → IsMet mode h s o calls es k v q
met mode h s o calls [] k t v p q w u l a e j f i = absurd (omega arith)
met mode h s o calls (top ∷ es) k t v p q w u l a e j f i =
    let g : Passes t w v = source_passes t v p q w e j in
    let none : at_end mode (is_indefinite top) (cut p t.rest) ≡ None = subst (λ x. at_end mode (is_indefinite top) x ≡ None) (sym e)
    (not_at_end mode (is_indefinite top) (w ++ cut q v.rest) (header_begins mode k w (cut q v.rest) i)) in
    let read : read_header mode (cut p t.rest) ≡ Some (k, cut q v.rest) =
    ap (read_header mode) e ∙ header_complete mode k.tag k.form k.len w (cut q v.rest) i in
    let b : lack p t.rest ≡ lack q v.rest = ap (lack p) g.rest ∙ lack_falls p q w v.rest f in
    let c : past p t.rest ≡ past q v.rest = sym (first_kept j) in
    let r : remain mode (top ∷ es) p t.rest ≡ due mode (top ∷ es) k q v.rest =
    goes_on mode top es (cut p t.rest) (past p t.rest).octets (lack p t.rest) a none
    ∙ ap (λ x. next_to mode (top ∷ es) x (lack p t.rest) (past p t.rest).octets) (from_header mode k (cut p t.rest) (cut q v.rest) a read)
    ∙ ap (λ x. next_to mode (top ∷ es) (read_contents (read_list mode) k.tag k.form k.len (cut q v.rest)) x (past p t.rest).octets) b
    ∙ ap (λ (x : Layer). next_to mode (top ∷ es) (read_contents (read_list mode) k.tag k.form k.len (cut q v.rest)) (lack q v.rest) x.octets) c
    in
    record {
      outcome = u.outcome ∙ ap (after_headings (heading h 0 ∷ calls)) r;
      passes = calls_met mode s o calls t v (unwound (top ∷ es) p) (unwound (top ∷ es) q) w u.passes g (falls_unwound (top ∷ es) p q (length w) f) k
          (length (top ∷ es)) i;
      part = u.part;
      limits = limited_falls (top ∷ es) p q (length w) f u.limits;
      inside = l;
    }

module _ (mode : Mode) (h : Header) (s : Stream) (o : Option ℕ) (calls : List Heading) (es : List Entry) (k : Header) (t : Stream) (p : Option ℕ)
    (m : IsMet mode h s o calls es k t p) where
  pub met_gone : (fs : List Entry) (v : Stream) (q : Option ℕ) → FitsOwed k.len p → GoesInto k es t p fs v q
      → IsUnderWay mode h s o (calls ++ heading k (length es) ∷ []) fs v q
  met_gone fs v q f g = record {
    outcome = m.outcome ∙ ap (after_headings (heading h 0 ∷ calls)) (into mode k es fs t v p q f g)
        ∙ two_calls (heading h 0 ∷ calls) (heading k (length es) ∷ []) (remain mode fs q v.rest);
    passes = gone_calls mode s o (calls ++ heading k (length es) ∷ []) k es fs t v p q f g m.passes;
    part = gone_part mode s o calls k es fs t v p q f g (heading h 0 ∷ calls) (partly (length es) (heading h 0 ∷ calls) m.inside m.part);
    limits = gone_limits mode s o calls k es fs t v p q f g m.limits;
  }

  met_one : (u : Tree) (x : List ℕ) → read_contents (read_list mode) h.tag h.form h.len (cut o s.rest) ≡ Some (u, x)
      → (more : List Heading) × (preorder u 0 ≡ heading h 0 ∷ ((calls ++ heading k (length es) ∷ []) ++ more))
  met_one u x r =
      let n = heads mode es (heading k (length es)) (read_contents (read_list mode) k.tag k.form k.len (cut p t.rest)) (past p t.rest).octets (lack p t.rest)
      (first_heading (read_list mode) k.tag k.form k.len (cut p t.rest) (length es)) in
      front_of (heading h 0 ∷ (calls ++ heading k (length es) ∷ [])) n.0 u x (lack o s.rest) (past o s.rest).octets mode
      (sym (ap (λ y. next_to mode [] y (lack o s.rest) (past o s.rest).octets) r) ∙ m.outcome ∙ ap (after_headings (heading h 0 ∷ calls)) n.1
      ∙ two_calls (heading h 0 ∷ calls) (heading k (length es) ∷ []) n.0)

  pub met_broken : (v : Stream) (q : Option ℕ) → v.rest ≡ t.rest → v.kept ≡ t.kept → q ≡ unwound es p
      → IsBroken mode h s o (calls ++ heading k (length es) ∷ []) v q
  met_broken v q e j i = record {
    some = (let u = some_tree (length es) (heading h 0 ∷ calls) k (partly (length es) (heading h 0 ∷ calls) m.inside m.part) in
        (u.0, [], u.1 ∙ ap (λ l. heading h 0 ∷ l) (sym (append-nil (calls ++ heading k (length es) ∷ [])))));
    one = met_one;
    passes = rw i (calls_on mode s o (calls ++ heading k (length es) ∷ []) t v (unwound es p) (unwound es p) [] m.passes (passes_nothing t v e j)
        (Falls-refl (unwound es p)));
  }

-- ---- the end of the innermost value

kinds_differ : (k : Kind) → k ≡ kind.Definite → k ≡ kind.Indefinite → ⊥
kinds_differ k a b = let e : kind.Definite ≡ kind.Indefinite = sym a ∙ b in cc

kind_is : (j k : Kind) → ◌≡◌ {A = ContentForm} (values j) (values k) → j ≡ k
kind_is j k e = cc

-- what remains is what remains without it
module _ (mode : Mode) (es : List Entry) (t v : Stream) (p q : Option ℕ) (w : List ℕ) (g : Passes t w v) (f : Falls p (length w) q)
    (l : past q v.rest ≡ past p t.rest) where
  definite_left : (b : Option ℕ) → p ≡ Some 0
      → (remain mode (Definite b ∷ es) p t.rest ≡ remain mode es b v.rest) × (unwound (Definite b ∷ es) q ≡ unwound es b)
  definite_left b e =
      let n = ended q (subst (λ x. Falls x (length w) q) e f) in
      let same : t.rest ≡ v.rest = g.rest ∙ ap (λ x. x ++ v.rest) (empty w n.0) in
      let z : 0 - length t.rest ≡ 0 = omega arith in (
        ap (λ x. remain mode (Definite b ∷ es) x t.rest) e ∙ ap (λ m. ends mode (Definite b ∷ es) [] m t.rest) z ∙ definite_ends mode b es t.rest
            ∙ ap (remain mode es b) same,
        ap (λ x. unwound es (limit_around b x)) n.1 ∙ ap (unwound es) (back b),
      )
    where
      ended : (q : Option ℕ) → Falls (Some 0) (length w) q → (length w ≡ 0) × (q ≡ Some 0)
      ended None x = absurd (x refl)
      ended (Some m) x = (omega arith, ap Some (let y : m ≡ 0 = omega arith in y))

      empty : (w : List ℕ) → length w ≡ 0 → w ≡ []
      empty [] x = refl
      empty (c ∷ w) x = absurd (omega arith)

      back : (b : Option ℕ) → limit_around b (Some 0) ≡ b
      back None = refl
      back (Some m) = ap Some (let y : m + 0 ≡ m = omega arith in y)

  marker_left : AreOctets (cut p t.rest) → HasMarker mode (cut p t.rest) (cut q v.rest) → (remain mode (Indefinite ∷ es) p t.rest ≡ remain mode es q v.rest)
  marker_left a m =
      indefinite_ends mode es (cut p t.rest) (cut q v.rest) (past p t.rest).octets (lack p t.rest) a
      (ap (read_end mode) m.rest ∙ read_end-complete mode m.marker (cut q v.rest) m.is_end)
      ∙ ap (λ x. ends mode es (cut q v.rest) x (past p t.rest).octets) (ap (lack p) g.rest ∙ lack_falls p q w v.rest f)
      ∙ ap (λ (x : Layer). ends mode es (cut q v.rest) (lack q v.rest) x.octets) (sym l)

  -- the end of content, as content tells it
  pub end_left : (c : Reading) (d : Reading) (k : Kind) (top : Entry) → c.kind ≡ values k → TopIs (top ∷ es) k → c.state ≡ Open → c.mode ≡ mode → c.owed ≡ p
      → c.stream.rest ≡ cut p t.rest → d.stream.rest ≡ cut q v.rest → AreOctets (cut p t.rest) → EndsBefore c d.stream.rest
      → (remain mode (top ∷ es) p t.rest ≡ remain mode es (restored top q) v.rest) × (unwound (top ∷ es) q ≡ unwound es (restored top q))
  end_left c d k top ck ti cs cm co cr dr a (inl x) = absurd (open_not_ended c.state cs x)
  end_left c d k top ck ti cs cm co cr dr a (inr (s, of_octets x o)) = absurd (let y : ◌≡◌ {A = ContentForm} (values k) Octets = sym ck ∙ x in cc)
  end_left c d k (Definite b) ck ti cs cm co cr dr a (inr (s, of_definite x o)) = definite_left b (sym co ∙ o)
  end_left c d k Indefinite ck ti cs cm co cr dr a (inr (s, of_definite x o)) = absurd (kinds_differ k (kind_is k kind.Definite (sym ck ∙ x)) ti)
  end_left c d k (Definite b) ck ti cs cm co cr dr a (inr (s, of_indefinite x m)) = absurd (kinds_differ k ti (kind_is k kind.Indefinite (sym ck ∙ x)))
  end_left c d k Indefinite ck ti cs cm co cr dr a (inr (s, of_indefinite x m)) = (
    marker_left a (subst (λ z. HasMarker mode z (cut q v.rest)) cr
        (subst (λ z. HasMarker mode c.stream.rest z) dr (subst (λ z. HasMarker z c.stream.rest d.stream.rest) cm m))),
    refl,
  )
  end_left c d k (Definite b) ck ti cs cm co cr dr a (inr (s, of_unbounded x e)) =
      absurd (let y : kind.Unbounded ≡ kind.Definite = sym (kind_is k kind.Unbounded (sym ck ∙ x)) ∙ ti in cc)
  end_left c d k Indefinite ck ti cs cm co cr dr a (inr (s, of_unbounded x e)) =
      absurd (let y : kind.Unbounded ≡ kind.Indefinite = sym (kind_is k kind.Unbounded (sym ck ∙ x)) ∙ ti in cc)

-- the innermost value ended, and was left
pub left : (mode : Mode) (h : Header) (s : Stream) (o : Option ℕ) (calls : List Heading) (es fs : List Entry) (t v : Stream) (p q r : Option ℕ) (w : List ℕ)
    (c d : Reading) (k : Kind)
    → IsUnderWay mode h s o calls es t p → Passes t w v → Falls p (length w) q → past q v.rest ≡ past p t.rest
    → c.kind ≡ values k → TopIs es k → c.state ≡ Open → c.mode ≡ mode → c.owed ≡ p → c.stream.rest ≡ cut p t.rest → d.stream.rest ≡ cut q v.rest
    → AreOctets (cut p t.rest) → EndsBefore c d.stream.rest
    → LeavesInnermost es q fs r → IsUnderWay mode h s o calls fs v r
left mode h s o calls es fs t v p q r w c d k u g f l ck ti cs cm co cr dr a e x =
    let is : es ≡ x.top ∷ fs = x.is in
    let b = end_left mode fs t v p q w g f l c d k x.top ck (subst (λ z. TopIs z k) is ti) cs cm co cr dr a e in
    let i : unwound es q ≡ unwound fs r = ap (λ z. unwound z q) is ∙ b.1 ∙ ap (unwound fs) (sym x.limit) in
    record {
      outcome =
          u.outcome ∙ ap (after_headings (heading h 0 ∷ calls)) (ap (λ z. remain mode z p t.rest) is ∙ b.0 ∙ ap (λ z. remain mode fs z v.rest) (sym x.limit));
      passes = subst (PassesCalls mode s o calls v) i
          (calls_on mode s o calls t v (unwound es p) (unwound es q) w u.passes g (falls_unwound es p q (length w) f));
      part = record {
        tree = u.part.tree;
        opened = AreOpen-less (length fs) (length es) (u.part.tree ∷ₜ no_trees) (omega (arith, ap length is)) u.part.opened;
        are = u.part.are;
      };
      limits = subst (AreLimited fs) (sym x.limit) (limited_left x.top fs q (subst (λ z. AreLimited z q) is (limited_falls es p q (length w) f u.limits)));
    }

-- ---- a header that is refused

pub broken : (mode : Mode) (h : Header) (s : Stream) (o : Option ℕ) (calls : List Heading) (es : List Entry) (t v : Stream) (p q r : Option ℕ) (w : List ℕ)
    → IsUnderWay mode h s o calls es t p → Passes t w v → Falls p (length w) q → r ≡ unwound es q → IsBroken mode h s o calls v r
broken mode h s o calls es t v p q r w u g f i = record {
  some = (u.part.tree, [], u.part.are ∙ ap (λ l. heading h 0 ∷ l) (sym (append-nil calls)));
  one = λ y x e. front_of (heading h 0 ∷ calls) (remain mode es p t.rest) y x (lack o s.rest) (past o s.rest).octets mode
      (sym (ap (λ z. next_to mode [] z (lack o s.rest) (past o s.rest).octets) e) ∙ u.outcome);
  passes = rw i (calls_on mode s o calls t v (unwound es p) (unwound es q) w u.passes g (falls_unwound es p q (length w) f));
}

-- where no value stands in front of open content that is not at its end, nothing remains
module _ (mode : Mode) (es : List Entry) (t : Stream) (p : Option ℕ) (c : Reading) (k : Kind) (ck : c.kind ≡ values k) (cs : c.state ≡ Open)
    (cm : c.mode ≡ mode) (co : c.owed ≡ p) (cr : c.stream.rest ≡ cut p t.rest) (a : AreOctets (cut p t.rest)) (n : NoValue c) (e : (after : List ℕ) → EndsBefore c after → ⊥) where
  unread : (r : Option (Tree × List ℕ)) → read_tree mode (cut p t.rest) ≡ r → r ≡ None
  unread None z = refl
  unread (Some u) z = (let y = tree_sound mode (cut p t.rest) u a z in
      absurd (n.none u.0 y.front u.1 (subst (λ m. IsEncoding m u.0 y.front) (sym cm) y.is_encoding) (cr ∙ y.is)))

  next_nothing : (top : Entry) (m : ℕ) → at_end mode (is_indefinite top) (cut p t.rest) ≡ None
      → ends mode (top ∷ es) (cut p t.rest) m (past p t.rest).octets ≡ None
  next_nothing top m f = goes_on mode top es (cut p t.rest) (past p t.rest).octets m a f
      ∙ ap (λ r. next_to mode (top ∷ es) r m (past p t.rest).octets) (unread (read_tree mode (cut p t.rest)) refl)

  unmarked : (r : Option (List ℕ)) → k ≡ kind.Indefinite → read_end mode (cut p t.rest) ≡ r → r ≡ None
  unmarked None i z = refl
  unmarked (Some x) i z =
      let y = end_sound mode (cut p t.rest) x a z in
      absurd (e x (inr (
        cs,
        of_indefinite (ck ∙ ap values i)
            (record { marker = y.marker; is_end = subst (λ m. IsEndOfContents m y.marker) (sym cm) y.is_end; rest = cr ∙ y.is }),
      )))

  some_there : (x : List ℕ) → (length x ≡ 0 → ⊥) → at_end mode false x ≡ None
  unfolding at_end
  some_there [] b = absurd (b refl)
  some_there (z ∷ x) b = refl

  used : (o : Option ℕ) → HasLimit o → o ≡ p → lack o t.rest ≡ 0 → length (cut o t.rest) ≡ 0 → p ≡ Some 0
  used None h i l m = absurd h
  used (Some o) h i l m = sym i ∙ ap Some (let z : o ≡ 0 = grind (arith, common_steps) in z)

  end_none : read_end mode (cut p t.rest) ≡ None → at_end mode true (cut p t.rest) ≡ None
  unfolding at_end
  end_none x = x

  pub nothing_more : (top : Entry) → TopIs (top ∷ es) k → AreLimited (top ∷ es) p → remain mode (top ∷ es) p t.rest ≡ None
  nothing_more Indefinite ti li = next_nothing Indefinite (lack p t.rest) (end_none (unmarked (read_end mode (cut p t.rest)) ti refl))
  nothing_more (Definite b) ti li = go (lack p t.rest) refl
    where
      go : (m : ℕ) → lack p t.rest ≡ m → ends mode (Definite b ∷ es) (cut p t.rest) m (past p t.rest).octets ≡ None
      go (suc m) l = too_few mode b es (cut p t.rest) (past p t.rest).octets m
      go zero l = next_nothing (Definite b) 0
          (some_there (cut p t.rest) (λ z. e c.stream.rest (inr (cs, of_definite (ck ∙ ap values ti) (co ∙ used p li.0 refl l z)))))

-- ---- the whole

pub finished : (mode : Mode) (h : Header) (s : Stream) (o : Option ℕ) (calls : List Heading) (t : Stream) (p : Option ℕ) → IsUnderWay mode h s o calls [] t p
    → (u : Tree) × (read_contents (read_list mode) h.tag h.form h.len (cut o s.rest) ≡ Some (u, cut p t.rest)) × (preorder u 0 ≡ heading h 0 ∷ calls)
finished mode h s o calls t p u = read_whole mode (read_contents (read_list mode) h.tag h.form h.len (cut o s.rest)) (lack o s.rest) (lack p t.rest)
    (cut p t.rest) (past o s.rest).octets (past p t.rest).octets (heading h 0 ∷ calls) u.outcome

-- a refusal of a header means that the content of the first isn't there
pub nothing_whole : (mode : Mode) (h : Header) (s : Stream) (o : Option ℕ) (calls : List Heading) (r : Reached)
    → due mode [] h o s.rest ≡ after_headings calls r → r ≡ None → read_contents (read_list mode) h.tag h.form h.len (cut o s.rest) ≡ None
nothing_whole mode h s o calls r e n = nothing_read mode (read_contents (read_list mode) h.tag h.form h.len (cut o s.rest)) (lack o s.rest)
    (past o s.rest).octets (e ∙ ap (after_headings calls) n)

-- fewer octets than the header of a primitive value tells
pub few_there : (mode : Mode) (es : List Entry) (h : Header) (t : Stream) (p : Option ℕ) (n : ℕ) → h.len ≡ len.Definite n → length t.rest < n
    → read_contents (read_list mode) h.tag h.form h.len (cut p t.rest) ≡ None
few_there mode es h t p n e l = rw e (too_long (read_list mode) h.tag h.form n (cut p t.rest) (fewer p))
  where
    fewer : (p : Option ℕ) → length (cut p t.rest) < n
    fewer None = l
    fewer (Some k) = grind (arith, common_steps)
