-- Values of either form that are taken by readers of their content.
use Rattle.std.proofs.Common.{◌≡◌, ◌≢◌, ℕ, Bool, true, false, List, [], ◌++◌, length, take, Option, Some, None, refl, ap, sym}
use Rattle.std.proofs.Common.{◌∙◌, arith, length-append, append_assoc, append-nil, subst, inl, inr}
use Rattle.std.specs.Prelude.{◌≤◌, IsTrue, Result, Ok, Err}
use Rattle.std.specs.Borrow.{MutBor}
use Rattle.std.proofs.lemmas.List.{take_at}
use Rattle.bcder.specs.declared.mode.Mode.{Mode}
use Rattle.bcder.specs.declared.mode.Mode.TheVariants.{Der}
use Rattle.bcder.specs.declared.length.Length.{Length}
use Rattle.bcder.specs.declared.length.Length.TheVariants.{Definite, Indefinite}
use Rattle.bcder.specs.declared.decode.content.Kind.TheVariants as kind
use Rattle.bcder.specs.declared.decode.content.State.{State}
use Rattle.bcder.specs.declared.decode.content.State.TheVariants.{Open, Ended, Failed}
use Rattle.bcder.specs.declared.decode.error.DecodeError.{DecodeError}
use Rattle.bcder.specs.x690.Identifier.{Tag}
use Rattle.bcder.specs.x690.Length.{IsEndOfContents}
use Rattle.bcder.specs.x690.Tree.{Tree, primitive, constructed, Trees}
use Rattle.bcder.specs.x690.OctetString.{AreSegmentsIn}
use Rattle.bcder.specs.x690.Encoding.{may_have, IsHeader, IsDefinite, IsFramed, IsEncoding, AreEncodings}
use Rattle.bcder.specs.calls.Cause.{cause_of}
use Rattle.bcder.specs.calls.Content.{NothingThere, Reading, ContentForm, values, Octets}
use Rattle.bcder.specs.calls.Content.{tagged, label, HasHeader, HasMarker, IsDone}
use Rattle.bcder.specs.calls.Calls.{Hands, IsFormOf, ContentOf, Answered, TakesValue, RefusesFront, RefusesContent}
use Rattle.bcder.specs.calls.Calls.{by_closure, unfinished, RefusesEnd, left_failed, source_failed, left_open}
use Rattle.bcder.specs.calls.Calls.{HasNone, TakesNext, RefusesTake, by_header, by_form, by_content}
use Rattle.bcder.specs.calls.Walking.{HasValue, HasValues, ClosesBefore}
use Rattle.bcder.specs.calls.Valued.{HoldsOctets, HoldsValues, HoldsTree, ReadsTree, NeedsMemory, RefusesToRead, ReadsContent, ReadsAny, tag_of, RefusesTree}
use Rattle.bcder.specs.calls.Valued.{TakesTree, WantsMemoryFor, TakesNextTree, TakesOneTree}
use Rattle.bcder.specs.calls.Valued as valued
use Rattle.bcder.specs.laws.Complete.{one_header, one_list, one_end_of_list}
use Rattle.bcder.proofs.Moving.{open_not_ended, open_not_failed}
use Rattle.bcder.proofs.Entering.{Within, no_fewer}
use Rattle.bcder.proofs.WalkSteps.{owed_after, done_here, grew_between}
use Rattle.bcder.proofs.Typed.{header_not_absent, or_false, handed_value, handed_before}
use Rattle.bcder.specs.calls.Content as refusals
use Rattle.bcder.specs.calls.Content.{Refuses}
use Rattle.bcder.proofs.Naming.{behind_header}

-- ---- content is that of one value at most

same_fronts : (a b x y : List ℕ) → a ++ x ≡ b ++ y → length a ≡ length b → a ≡ b
same_fronts a b x y e l = sym (take_at a x (length b) l) ∙ ap (take (length b)) e ∙ take_at b y (length b) refl

some_is : (m n : ℕ) → ◌≡◌ {A = Option ℕ} (Some m) (Some n) → m ≡ n
some_is m n e = cc

same_values : (f : ContentForm) (mode : Mode) (o : Option ℕ) (ts us : Trees) (a b x y : List ℕ) → AreEncodings mode ts a → AreEncodings mode us b
    → ClosesBefore f mode o a x → ClosesBefore f mode o b y → a ++ x ≡ b ++ y → ts ≡ us
same_values Octets mode o ts us a b x y h k c d e = absurd c
same_values (values kind.Definite) mode o ts us a b x y h k c d e =
    let s : a ≡ b = same_fronts a b x y e (some_is _ _ (sym c ∙ d)) in
    one_list mode ts us b (subst (AreEncodings mode ts) s h) k
same_values (values kind.Indefinite) mode o ts us a b x y h k c d e =
    (one_end_of_list mode ts us a b c.1.marker d.1.marker c.0 d.0 h k c.1.is_end d.1.is_end (ap (λ z. a ++ z) (sym c.1.rest) ∙ e ∙ ap (λ z. b ++ z) d.1.rest)).0
same_values (values kind.Unbounded) mode o ts us a b x y h k c d e =
    let s : a ≡ b = sym (append-nil a) ∙ ap (λ z. a ++ z) (sym c) ∙ e ∙ ap (λ z. b ++ z) d ∙ append-nil b in
    one_list mode ts us b (subst (AreEncodings mode ts) s h) k

pub one_values : (c : Reading) (h k : HasValues c) → h.trees ≡ k.trees
one_values c h k = same_values c.kind c.mode c.owed h.trees k.trees h.all k.all h.after k.after h.encode k.encode h.closes k.closes (sym h.rest ∙ k.rest)

pub no_values_of_octets : (c : Reading) → c.kind ≡ Octets → HasValues c → ⊥
no_values_of_octets c e h = subst (λ f. ClosesBefore f c.mode c.owed h.all h.after) e h.closes

pub octets_or_values : (c : Reading) (contents : List ℕ) (ts : Trees) → HoldsOctets c contents → HoldsValues c ts → ⊥
octets_or_values c contents ts h (inl k) = no_values_of_octets c h.form k.values
octets_or_values c contents ts h (inr k) = open_not_ended c.state h.usable k.0

same_held : (c : Reading) (ts us : Trees) → HoldsValues c ts → HoldsValues c us → ts ≡ us
same_held c ts us (inl h) (inl k) = sym h.are ∙ one_values c h.values k.values ∙ k.are
same_held c ts us (inl h) (inr k) = absurd (open_not_ended c.state h.usable k.0)
same_held c ts us (inr h) (inl k) = absurd (open_not_ended c.state k.usable h.0)
same_held c ts us (inr h) (inr k) = h.1 ∙ sym k.1

pub one_content : (tag : Tag) (c : Reading) (t u : Tree) → HoldsTree tag c t → HoldsTree tag c u → t ≡ u
one_content tag c (primitive t v) (primitive u w) h k = (let a : t ≡ u = h.0 ∙ sym k.0 in let b : v ≡ w = sym h.1.rest ∙ k.1.rest in rw (a, b) refl)
one_content tag c (primitive t v) (constructed u us) h k = absurd (octets_or_values c v us h.1 k.1)
one_content tag c (constructed t ts) (primitive u w) h k = absurd (octets_or_values c w ts k.1 h.1)
one_content tag c (constructed t ts) (constructed u us) h k = (let a : t ≡ u = h.0 ∙ sym k.0 in let b : ts ≡ us = same_held c ts us h.1 k.1 in rw (a, b) refl)

-- ---- a value behind a header

-- the value whose header stands before y, and x behind it
data Shaped (mode : Mode) (form : Bool) (len : Length) (y x : List ℕ) (tag : Tag) (t : Tree) : Type 0 where
  of_octets : (contents : List ℕ) → t ≡ primitive tag contents → form ≡ false → len ≡ Definite (length contents) → y ≡ contents ++ x
      → Shaped mode form len y x tag t
  of_definite : (ts : Trees) (b : List ℕ) → t ≡ constructed tag ts → form ≡ true → len ≡ Definite (length b) → AreEncodings mode ts b → y ≡ b ++ x
      → Shaped mode form len y x tag t
  of_indefinite : (ts : Trees) (b e : List ℕ) → t ≡ constructed tag ts → len ≡ Indefinite → AreEncodings mode ts b → IsEndOfContents mode e → y ≡ b ++ (e ++ x)
      → Shaped mode form len y x tag t

module _ (mode : Mode) (u : Tag) (form : Bool) (len : Length) (h y : List ℕ) (d : IsHeader mode u form len h) where
  shaped_octets : (t : Tag) (b v x : List ℕ) → IsDefinite mode t false b v → v ++ x ≡ h ++ y → Shaped mode form len y x u (primitive t b)
  shaped_octets t b v x k e =
      let p = one_header mode u t form false len (Definite (length b)) h k.header y (b ++ x) d k.is_header
      (sym e ∙ ap (λ z. z ++ x) k.is ∙ append_assoc k.header b x) in
      of_octets b (ap (λ z. primitive z b) (sym (ap (λ z. z.tag) p.0))) (ap (λ z. z.form) p.0) (ap (λ z. z.len) p.0) p.1

  shaped_values : (t : Tag) (ts : Trees) (b v x : List ℕ) → AreEncodings mode ts b → IsFramed mode t b v → v ++ x ≡ h ++ y
      → Shaped mode form len y x u (constructed t ts)
  shaped_values t ts b v x q (inl k) e =
      let p = one_header mode u t form true len (Definite (length b)) h k.header y (b ++ x) d k.is_header
      (sym e ∙ ap (λ z. z ++ x) k.is ∙ append_assoc k.header b x) in
      of_definite ts b (ap (λ z. constructed z ts) (sym (ap (λ z. z.tag) p.0))) (ap (λ z. z.form) p.0) (ap (λ z. z.len) p.0) q p.1
  shaped_values t ts b v x q (inr k) e =
      let p = one_header mode u t form true len Indefinite h k.header y ((b ++ k.end) ++ x) d k.is_header
      (sym e ∙ ap (λ z. z ++ x) k.is ∙ append_assoc k.header (b ++ k.end) x) in
      of_indefinite ts b k.end (ap (λ z. constructed z ts) (sym (ap (λ z. z.tag) p.0))) (ap (λ z. z.len) p.0) q k.is_end (p.1 ∙ append_assoc b k.end x)

  shaped : (t : Tree) (v x : List ℕ) → IsEncoding mode t v → v ++ x ≡ h ++ y → Shaped mode form len y x u t
  shaped (primitive t b) v x k e = shaped_octets t b v x k.1 e
  shaped (constructed t ts) v x k e = shaped_values t ts k.0 v x k.1 k.2 e

  -- its content is what is handed
  held : (t : Tree) (x : List ℕ) (owed : Option ℕ) (i : Reading) → Shaped mode form len y x u t → Hands mode form len owed y i → HoldsTree u i t
  held t x owed i (of_octets b is f l e) g =
      let k : i.kind ≡ Octets = subst (λ z. IsFormOf z (Definite (length b)) i.kind) f (subst (λ z. IsFormOf form z i.kind) l g.form) in
      let o : (i.owed ≡ Some (length b)) × (i.stream.rest ≡ take (length b) y) = subst (λ z. ContentOf z owed y i.owed i.stream.rest) l g.octets in
      let q : HoldsTree u i (primitive u b) =
      (refl, record { usable = g.state; form = k; owed = o.0; rest = o.1 ∙ ap (take (length b)) e ∙ take_at b x (length b) refl }) in
      subst (HoldsTree u i) (sym is) q
  held t x owed i (of_definite ts b is f l h' e) g =
      let k : i.kind ≡ values kind.Definite = subst (λ z. IsFormOf z (Definite (length b)) i.kind) f (subst (λ z. IsFormOf form z i.kind) l g.form) in
      let o : (i.owed ≡ Some (length b)) × (i.stream.rest ≡ take (length b) y) = subst (λ z. ContentOf z owed y i.owed i.stream.rest) l g.octets in
      let r : i.stream.rest ≡ b ++ [] = o.1 ∙ ap (take (length b)) e ∙ take_at b x (length b) refl ∙ sym (append-nil b) in
      let c : ClosesBefore i.kind i.mode i.owed b [] = subst (λ z. ClosesBefore z i.mode i.owed b []) (sym k) o.0 in
      let v : HasValues i = record { trees = ts; all = b; after = []; encode = subst (λ z. AreEncodings z ts b) (sym g.mode) h'; rest = r; closes = c } in
      let q : HoldsTree u i (constructed u ts) = (refl, inl (record { usable = g.state; values = v; are = refl })) in
      subst (HoldsTree u i) (sym is) q
  held t x owed i (of_indefinite ts b end is l h' s e) g =
      let k : i.kind ≡ values kind.Indefinite = subst (λ z. IsFormOf form z i.kind) l g.form in
      let o : (i.owed ≡ owed) × (i.stream.rest ≡ y) = subst (λ z. ContentOf z owed y i.owed i.stream.rest) l g.octets in
      let m : HasMarker i.mode (end ++ x) x = record { marker = end; is_end = subst (λ z. IsEndOfContents z end) (sym g.mode) s; rest = refl } in
      let c : ClosesBefore i.kind i.mode i.owed b (end ++ x) = subst (λ z. ClosesBefore z i.mode i.owed b (end ++ x)) (sym k) (x, m) in
      let v : HasValues i =
      record { trees = ts; all = b; after = end ++ x; encode = subst (λ z. AreEncodings z ts b) (sym g.mode) h'; rest = o.1 ∙ e; closes = c } in
      let q : HoldsTree u i (constructed u ts) = (refl, inl (record { usable = g.state; values = v; are = refl })) in
      subst (HoldsTree u i) (sym is) q

  -- and its tag is that of the header
  shaped_tag : (t : Tree) (x : List ℕ) → Shaped mode form len y x u t → tag_of t ≡ u
  shaped_tag t x (of_octets b is f l e) = ap tag_of is
  shaped_tag t x (of_definite ts b is f l h' e) = ap tag_of is
  shaped_tag t x (of_indefinite ts b end is l h' s e) = ap tag_of is

-- ---- where a value of the tag stands in front, its header does

module _ (c : Reading) (w : Within c) where
  header_before : (tag : Tag) (f : Bool) (len : Length) (h body v after : List ℕ) → IsHeader c.mode tag f len h → v ≡ h ++ body
      → ((n : ℕ) → len ≡ Definite n → n ≤ length body) → c.stream.rest ≡ v ++ after → (x : List ℕ) × HasHeader (tagged tag) c x
  header_before tag f len h body v after d is fits r =
      let e : c.stream.rest ≡ h ++ (body ++ after) = r ∙ ap (λ z. z ++ after) is ∙ append_assoc h body after in
      let q = owed_after c.owed len (length h) (length c.stream.rest) (length (body ++ after)) w.fits (ap length e ∙ length-append h (body ++ after))
      (λ n z. let y : n ≤ length body = fits n z in omega (arith, y, length-append body after)) in
      (body ++ after, record { tag = tag; form = f; len = len; octets = h; is_header = d; is_asked = refl; rest = e; owed = q.0; falls = q.1; fits = q.2 })

  definite_inj : (a b : ℕ) → ◌≡◌ {A = Length} (Definite a) (Definite b) → a ≤ b
  definite_inj a b e = (let x : a ≡ b = cc in omega arith)

  no_number : (n : ℕ) → ◌≡◌ {A = Length} Indefinite (Definite n) → ⊥
  no_number n e = cc

  header_of_value : (t : Tree) (v after : List ℕ) → IsEncoding c.mode t v → c.stream.rest ≡ v ++ after → (x : List ℕ) × HasHeader (tagged (tag_of t)) c x
  header_of_value (primitive t b) v after k r =
      header_before t false (Definite (length b)) k.1.header b v after k.1.is_header k.1.is (λ n e. definite_inj n (length b) (sym e)) r
  header_of_value (constructed t ts) v after k r = of_framed k.2
    where
      of_framed : IsFramed c.mode t k.0 v → (x : List ℕ) × HasHeader (tagged t) c x
      of_framed (inl d) = header_before t true (Definite (length k.0)) d.header k.0 v after d.is_header d.is (λ n e. definite_inj n (length k.0) (sym e)) r
      of_framed (inr d) = header_before t true Indefinite d.header (k.0 ++ d.end) v after d.is_header d.is (λ n e. absurd (no_number n e)) r

  pub tagged_header : (tag : Tag) (t : Tree) (v after : List ℕ) → HasValue c t v after × (tag_of t ≡ tag) → (x : List ℕ) × HasHeader (tagged tag) c x
  tagged_header tag t v after h = subst (λ u. (x : List ℕ) × HasHeader (tagged u) c x) h.1 (header_of_value t v after h.0.encodes h.0.rest)

-- ---- taken, or refused

-- behind the header of a primitive value no constructed one is
pub primitive_in_front : (tag : Tag) (c : Reading) (after : List ℕ) (f : HasHeader (tagged tag) c after) → f.form ≡ false
    → (t : Tag) (ts : Trees) (v rest : List ℕ) → HasValue c (constructed t ts) v rest × (t ≡ tag) → ⊥
primitive_in_front tag c after f p t ts v rest h =
    of_shaped (shaped c.mode f.tag f.form f.len f.octets after f.is_header (constructed t ts) v rest h.0.encodes (sym h.0.rest ∙ f.rest))
  where
    no_values : {b : List ℕ} → ◌≡◌ {A = Tree} (constructed t ts) (primitive f.tag b) → ⊥
    no_values e = cc

    both : f.form ≡ true → ⊥
    both e = (let x : ◌≡◌ {A = Bool} false true = sym p ∙ e in cc)

    of_shaped : Shaped c.mode f.form f.len after rest f.tag (constructed t ts) → ⊥
    of_shaped (of_octets b is l n e) = no_values is
    of_shaped (of_definite us b is l n q e) = both l
    of_shaped (of_indefinite us b end is l q s e) = (let x : IsTrue false =
        subst (λ z. IsTrue (may_have c.mode z Indefinite)) p (subst (λ z. IsTrue (may_have c.mode f.form z)) l f.is_header.allowed) in cc)

-- content of values is that of a constructed value
constructed_form : (mode : Mode) (f : Bool) (l : Length) (k : ContentForm) → IsTrue (may_have mode f l) → IsFormOf f l k → k ≢ Octets → f ≡ true
constructed_form mode true l k a h n = refl
constructed_form mode false Indefinite k a h n = (let x : IsTrue false = a in cc)
constructed_form mode false (Definite m) k a h n = absurd (n h)

values_form : (c : Reading) (ts : Trees) → c.state ≡ Open → HoldsValues c ts → c.kind ≢ Octets
values_form c ts o (inl h) = λ e. no_values_of_octets c e h.values
values_form c ts o (inr h) = absurd (open_not_ended c.state o h.0)

none_in_der : (ts : Trees) → AreSegmentsIn Der ts → ⊥
none_in_der ts s = s

-- no header was passed
refused_header : {T X : Type 0} (tag : Tag) (Means : Tree → T → Type 0) (c d : Reading) → Within c → (e : DecodeError X)
    → Refuses cause_of (tagged tag) (NothingThere (tagged tag)) ⊥ c e d
    → RefusesTree tag Means c e d
refused_header tag Means c d w e (refusals.Refuses.failed s a) = refusals.Refuses.failed s a
refused_header tag Means c d w e (refusals.Refuses.source s g) = refusals.Refuses.source s g
refused_header tag Means c d w e (refusals.Refuses.otherwise n) = absurd n
refused_header tag Means c d w e (refusals.Refuses.nothing n a) = refusals.Refuses.nothing (record {
  usable = n.usable;
  value = λ t v rest x h k. (let y = tagged_header c w tag t v rest h in n.header y.0 y.1);
  absent = n.absent;
}) a

-- what the calls say where none was
module _ {T X : Type 0} (tag : Tag) (Means : Tree → T → Type 0) (c d : Reading) where
  pub no_tree : d.mode ≡ c.mode → HasNone (tagged tag) c d → TakesNextTree tag Means {X = X} c (Ok None) d
  no_tree m h = record { value = h; no_fault = h.no_fault; refused = tt; mode = m; marked = h.marked }

  pub stopped_tree : Within c → d.mode ≡ c.mode → (e : DecodeError X) → Refuses cause_of (tagged tag) (NothingThere (tagged tag)) ⊥ c e d
      → d.marked ≡ c.marked → d.state ≡ Failed
      → TakesNextTree tag Means c (Err e) d
  stopped_tree w m e h k f = record { value = tt; no_fault = tt; refused = (f, refused_header tag Means c d w e h); mode = m; marked = k }

-- a call that needs the value is refused as one that answers that there is none
pub one_not_taken : {T X : Type 0} (tag : Tag) (Means : Tree → T → Type 0) (c d : Reading) (e : DecodeError X) → TakesNextTree tag Means c (Err e) d
    → TakesOneTree tag Means c (Err e) d
one_not_taken tag Means c d e h = record { value = tt; no_fault = tt; refused = inr h.refused; mode = h.mode; marked = h.marked }

not_done : (l : Reading) → l.state ≡ Failed → IsDone l → ⊥
not_done l e (inl h) = (let x : ◌≡◌ {A = State} Failed Ended = sym e ∙ h in cc)
not_done l e (inr h) = open_not_failed l.state h.0 e

module _ {C T X : Type 0} (view : C → Reading) (post : Tag → MutBor C → Result T (DecodeError X) → MutBor C → Type 0) (tag : Tag)
    (Means : Mode → Tree → T → Type 0)
    (reads : (t : Tag) (p : MutBor C) (r : Result T (DecodeError X)) (q : MutBor C) → post t p r q → ReadsAny Means (view p.now) r (view q.now)) where
  answered_reads : (m : Mode) (u t : Tag) (i j : Reading) (r : Result T (DecodeError X)) → Answered {R = Result T (DecodeError X)} view (post t) i r j
      → i.mode ≡ m → ReadsContent u (Means m) i r j
  answered_reads m u t i j r a e =
      subst (λ z. ReadsContent u (Means z) i r j) e
      (subst (λ z. ReadsContent u (Means z.mode) z r j) a.handed_is
      (subst (λ z. ReadsContent u (Means (view a.handed.now).mode) (view a.handed.now) r z) a.left_is ((reads t a.handed r a.left a.called).at_tag u)))

  module _ (c d : Reading) (x : T) (v : TakesValue view post (tagged tag) c x d) where
    read_all : ReadsContent v.front.tag (Means c.mode) {X = X} v.handed (Ok x) v.answers.left
    read_all = answered_reads c.mode v.front.tag v.front.tag v.handed v.answers.left (Ok x) v.answers.answered v.hands.mode

    unmarked : v.left.marked ≡ false
    unmarked = v.answers.marked ∙ read_all.marked ∙ v.hands.marked

    encodes : IsEncoding c.mode v.tree (v.front.octets ++ v.passed)
    encodes = subst (λ b. IsEncoding (label c.mode b) v.tree (v.front.octets ++ v.passed)) unmarked v.encodes

    is_shaped : Shaped c.mode v.front.form v.front.len (v.passed ++ d.stream.rest) d.stream.rest v.front.tag v.tree
    is_shaped = shaped c.mode v.front.tag v.front.form v.front.len v.front.octets (v.passed ++ d.stream.rest) v.front.is_header v.tree
        (v.front.octets ++ v.passed) d.stream.rest encodes (append_assoc v.front.octets v.passed d.stream.rest)

    taken : TakesTree tag (Means c.mode) c x d
    taken =
        let h = held c.mode v.front.tag v.front.form v.front.len v.front.octets
        (v.passed ++ d.stream.rest) v.front.is_header v.tree d.stream.rest v.front.owed v.handed is_shaped v.hands in
        let r : ReadsTree v.front.tag (Means c.mode) v.handed x = read_all.value in
        let same : r.tree ≡ v.tree = one_content v.front.tag v.handed r.tree v.tree r.holds h in
        record {
          tree = v.tree;
          octets = v.front.octets ++ v.passed;
          has = (
            record { usable = v.usable; encodes = encodes; rest = v.front.rest ∙ sym (append_assoc v.front.octets v.passed d.stream.rest) },
            shaped_tag c.mode v.front.tag v.front.form v.front.len v.front.octets
                (v.passed ++ d.stream.rest) v.front.is_header v.tree d.stream.rest is_shaped ∙ v.front.is_asked,
          );
          means = subst (λ t. Means c.mode t x) same r.means;
          stays = v.stays;
        }

    taken_marked : d.marked ≡ c.marked
    taken_marked = v.marked ∙ or_false c.marked v.left.marked unmarked

    taken_faults : d.stream.faults ≡ c.stream.faults
    taken_faults = sym v.faults_left ∙ v.answers.no_fault ∙ read_all.no_fault ∙ v.faults_handed

  module _ (c d : Reading) (w : Within c) (e : DecodeError X) (f : RefusesFront cause_of view post (tagged tag) c e d) where
    -- the content of what stands in front is what was handed
    held_there : (t : Tree) (v rest : List ℕ) → HasValue c t v rest × (tag_of t ≡ tag) → HoldsTree f.front.tag f.handed t
    held_there t v rest h =
        let s = shaped c.mode f.front.tag f.front.form f.front.len f.front.octets f.after f.front.is_header t v rest h.0.encodes
        (sym h.0.rest ∙ f.front.rest) in
        held c.mode f.front.tag f.front.form f.front.len f.front.octets f.after f.front.is_header t rest f.front.owed f.handed s f.hands

    -- what memory is wanted for in the content is there in front
    needed : NeedsMemory f.front.tag (Means c.mode) f.handed f.left → WantsMemoryFor tag (Means c.mode) c
    needed (valued.NeedsMemory.of_octets contents x h m) =
        let a : f.handed.owed ≡ Some (length f.handed.stream.rest) = h.owed ∙ ap (λ z. Some (length z)) (sym h.rest) in
        let v = handed_value tag c f.handed w f.after f.front f.hands h.form f.usable a _ (handed_before tag c f.handed w f.after f.front f.hands h.form a) in
        valued.WantsMemoryFor.of_value (primitive tag f.handed.stream.rest) _ _ x (record { usable = v.usable; encodes = v.encodes; rest = v.rest }, refl)
        (subst (λ z. Means c.mode (primitive z f.handed.stream.rest) x) f.front.is_asked
        (subst (λ z. Means c.mode (primitive f.front.tag z) x) (sym h.rest) m))
    needed (valued.NeedsMemory.of_values der k h r s) = valued.WantsMemoryFor.of_header (λ e. der (f.hands.mode ∙ e)) f.after f.front
        (constructed_form c.mode f.front.form f.front.len f.handed.kind f.front.is_header.allowed f.hands.form k)
    needed (valued.NeedsMemory.of_segments ts h s) =
        valued.WantsMemoryFor.of_header (λ e. none_in_der ts (subst (λ z. AreSegmentsIn z ts) (f.hands.mode ∙ e) s)) f.after f.front
        (constructed_form c.mode f.front.form f.front.len f.handed.kind f.front.is_header.allowed f.hands.form (values_form f.handed ts f.hands.state h))

    refused_read : RefusesToRead f.front.tag (Means c.mode) f.handed e f.left
        → RefusesTree tag (Means c.mode) c e d
    refused_read (valued.RefusesToRead.failed s a) = absurd (open_not_failed f.handed.state f.hands.state s)
    refused_read (valued.RefusesToRead.source s g) = refusals.Refuses.source s (grew_between _ _ _ _ (no_fewer _ _ f.faults_handed) g f.faults_left)
    refused_read (valued.RefusesToRead.memory s n) = refusals.Refuses.otherwise (s, needed n)
    refused_read (valued.RefusesToRead.nothing n a) =
        refusals.Refuses.nothing (record {
          usable = f.usable;
          value = λ t v rest x h m. n t x (held_there t v rest h) m;
          absent = λ rest. header_not_absent tag c f.after rest f.usable f.front;
        }) (behind_header (tagged tag) c (cause_of e) a f.after f.front)

    refused_end : (l : Reading) → IsDone l → l.stream.faults ≡ f.handed.stream.faults → RefusesEnd cause_of l e f.left
        → RefusesTree tag (Means c.mode) c e d
    refused_end l o n (left_failed x a) = absurd (not_done l x o)
    refused_end l o n (source_failed s g) = refusals.Refuses.source s (grew_between _ _ _ _ (no_fewer _ _ (n ∙ f.faults_handed)) g f.faults_left)
    refused_end l o n (left_open x a) = absurd (x l.stream.rest (done_here l l.kind refl o))

    refused_content : RefusesContent cause_of view post f.front.tag f.handed e f.left
        → RefusesTree tag (Means c.mode) c e d
    refused_content (by_closure a) = refused_read (answered_reads c.mode f.front.tag f.front.tag f.handed f.left (Err e) a f.hands.mode).refused
    refused_content (unfinished y l a m k z) =
        (let r = answered_reads c.mode f.front.tag f.front.tag f.handed l (Ok y) a f.hands.mode in refused_end l r.done r.no_fault z)

    refused_unmarked : RefusesContent cause_of view post f.front.tag f.handed e f.left → f.left.marked ≡ false
    refused_unmarked (by_closure a) = (answered_reads c.mode f.front.tag f.front.tag f.handed f.left (Err e) a f.hands.mode).marked ∙ f.hands.marked
    refused_unmarked (unfinished y l a m k z) = k ∙ (answered_reads c.mode f.front.tag f.front.tag f.handed l (Ok y) a f.hands.mode).marked ∙ f.hands.marked

  refused_tree : (c d : Reading) → Within c → (e : DecodeError X) → RefusesTake view post None (tagged tag) c e d
      → RefusesTree tag (Means c.mode) c e d
  refused_tree c d w e (by_header h m) = refused_header tag (Means c.mode) c d w e h
  refused_tree c d w e (by_form f a m) = absurd (let y : None ≡ Some f.2.form = f.3 in cc)
  refused_tree c d w e (by_content f) = refused_content c d w e f f.refuses

  -- no mode was changed
  refused_marked : (c d : Reading) → Within c → (e : DecodeError X) → RefusesTake view post None (tagged tag) c e d → d.marked ≡ c.marked
  refused_marked c d w e (by_header h m) = m
  refused_marked c d w e (by_form f a m) = m
  refused_marked c d w e (by_content f) = f.marked ∙ or_false c.marked f.left.marked (refused_unmarked c d w e f f.refuses)

  pub next_tree : (c d : Reading) (r : Result (Option T) (DecodeError X)) → Within c → TakesNext view post None (tagged tag) c r d
      → TakesNextTree tag (Means c.mode) c r d
  next_tree c d (Ok (Some x)) w n = record {
    value = taken c d x n.value;
    no_fault = taken_faults c d x n.value;
    refused = tt;
    mode = n.mode;
    marked = taken_marked c d x n.value;
  }
  next_tree c d (Ok None) w n = no_tree tag (Means c.mode) c d n.mode n.none
  next_tree c d (Err e) w n = record {
    value = tt;
    no_fault = tt;
    refused = (n.failed, refused_tree c d w e n.refused);
    mode = n.mode;
    marked = refused_marked c d w e n.refused;
  }
