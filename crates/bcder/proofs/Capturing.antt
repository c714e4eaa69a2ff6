-- What a capture takes of the source behind, and what is left of it.
use Rattle.std.proofs.Common.{◌≡◌, ◌≢◌, ℕ, ◌-◌, ◌<◌, ◌≤◌, ◌||◌, Bool, true, false, List, ◌++◌, length, take, drop, Option}
use Rattle.std.proofs.Common.{Some, None, refl, sym, ap, ◌∙◌, subst, append_assoc, arith, inl, inr}
use Rattle.std.specs.Prelude.{Result, Ok, Err, ◌↔◌, IsTrue, IfOk, IfErr, OnOk, OnErr}
use Rattle.std.specs.Borrow.{MutBor}
use Rattle.std.proofs.lemmas.Grind.{common_steps}
use Rattle.std.proofs.lemmas.List.{length-append, append_cancel_left, append_cancel_right}
use Rattle.bcder.specs.declared.mode.Mode.{Mode}
use Rattle.bcder.specs.declared.mode.Mode.TheVariants.{Ber}
use Rattle.bcder.specs.declared.decode.content.Kind.{Kind}
use Rattle.bcder.specs.declared.decode.content.State.{State}
use Rattle.bcder.specs.declared.decode.content.State.TheVariants.{Open, Ended}
use Rattle.bcder.specs.declared.decode.error.ContentError.{ContentError}
use Rattle.bcder.specs.declared.decode.error.DecodeError.{DecodeError}
use Rattle.bcder.specs.calls.Cause.{Cause, cause_of, of_source, of_content, of_memory, MatchCause}
use Rattle.bcder.specs.x690.Length.{IsEndOfContents}
use Rattle.bcder.specs.calls.Stream.{Layer, Stream, Grew, cut, past, limited, ahead}
use Rattle.bcder.specs.calls.Captured.{Kept}
use Rattle.bcder.specs.calls.Capturing.{IsCaptureOf, Holds, Captures, RefusesCapture}
use Rattle.bcder.specs.steps.CaptureSteps.{RanFrom, HandsOver, CapturesOver}
use Rattle.bcder.specs.steps.CaptureSteps.{IsMarker, EndsIn}
use Rattle.bcder.specs.calls.Capturing.{RefusesLeft, by_content, by_source, by_memory}
use Rattle.bcder.specs.calls.Content.{Reading, values, Octets, label, Falls, Closes, Moves, Whole}
use Rattle.bcder.specs.laws.Canonical.{AreEncodings-in_ber}
use Rattle.bcder.specs.laws.Lengths.{IsLengthForm-from_length}
use Rattle.bcder.specs.laws.Limits.{first_kept, rest_kept, rest_told_behind, limit_told, limit_told_after}
use Rattle.bcder.proofs.Moving.{moves_still}

-- ---- a capturing source, by what it keeps

-- one that had passed over nothing, and what became of it
module _ (l l' : Option ℕ) (name name' z n : ℕ) (s s' : Stream) (fresh : z ≡ 0)
    (k : (limited l' (ahead name' n s')).kept ≡ (limited l (ahead name z s)).kept) where
  pub capture_name : name' ≡ name
  capture_name = ap (λ (x : Layer). x.number) (first_kept (rest_kept k))

  pub capture_rest : s'.rest ≡ s.rest
  capture_rest = ap (λ (x : Layer). x.octets) (first_kept (rest_kept k))

  pub capture_within : n ≤ length s'.rest
  capture_within = (let e : n - length s'.rest ≡ z - length s.rest = ap (λ (x : Layer). x.number) (first_kept (rest_kept (rest_kept k))) in omega arith)

  pub capture_kept : s'.kept ≡ s.kept
  capture_kept = rest_kept (rest_kept (rest_kept k))

  -- the octets that were passed over are those in front of what follows
  pub capture_passed : (p : List ℕ) → (limited l (ahead name z s)).rest ≡ p ++ (limited l' (ahead name' n s')).rest → s.rest ≡ p ++ drop n s'.rest
  capture_passed p e = sym (rest_told_behind l l' (drop z s.rest) (drop n s'.rest) p (sym e) (first_kept k) ∙ ap (λ y. drop y s.rest) fresh)

-- what ran kept what the source below keeps
pub ran_kept : {C E : Type 0} (why : E → Cause ContentError) (view : C → Reading) (post : MutBor C → Result (Unit {0}) E → MutBor C → Type 0) (s s' : Stream)
    (o o' : Option ℕ) (k : Kind) (st st' : State) (m : Mode) (r : Result (Unit {0}) E) (mark : Bool)
    → RanFrom why view post s o k st m r st' mark s' o' → s'.kept ≡ s.kept
unfolding Moves
ran_kept why view post s s' o o' k st st' m r mark h =
    ap (λ (x : Stream). x.kept) (sym h.left_stream) ∙ h.moves.kept ∙ ap (λ (x : Stream). x.kept) h.from.stream

-- octets of which all were passed that a count says
all_passed : (p behind s v x y : List ℕ) (n : ℕ) → s ≡ p ++ behind → v ≡ s → n ≤ length v → length behind ≡ length v - n → 1 ≤ n
    → x ≡ p ++ y → length y < length x
all_passed p behind s v x y n a b within l some e =
    omega (arith, ap length a, ap length b, within, l, some, ap length e, length-append p behind, length-append p y)

-- ---- what was taken from the source behind

module _ {C X : Type 0} (view : C → Reading) (post : MutBor C → Result (Unit {0}) (DecodeError X) → MutBor C → Type 0) (s v s' : Stream) (o o' : Option ℕ)
    (k : Kind) (st st' : State) (m : Mode) (mark : Bool) (name name' z n : ℕ) (fresh : z ≡ 0) where
  abbrev Ran : Result (Unit {0}) (DecodeError X) → Type 0
  Ran r = RanFrom cause_of view post (limited o (ahead name z s)) o k st m r st' mark (limited o' (ahead name' n v)) o'

  hands_over : (r : Result (Unit {0}) (DecodeError X)) (h : Ran r) → HandsOver s o k st m h.handed
  hands_over r h = record {
    rest = ap (λ (x : Stream). x.rest) h.from.stream ∙ ap (λ y. cut o (drop y s.rest)) fresh;
    faults = ap (λ (x : Stream). x.faults) h.from.stream;
    owed = h.from.owed;
    kind = h.from.kind;
    state = h.from.state;
    mode = h.from.mode;
    marked = h.from.marked;
  }

  left_faults : (r : Result (Unit {0}) (DecodeError X)) (h : Ran r) → h.left.stream.faults ≡ v.faults
  left_faults r h = ap (λ (x : Stream). x.faults) h.left_stream

  same_rest : (r : Result (Unit {0}) (DecodeError X)) → Ran r → v.rest ≡ s.rest
  same_rest r h = capture_rest o o' name name' z n s v fresh (ran_kept _ _ _ _ _ _ _ _ _ _ _ _ _ h)

  same_kept : (r : Result (Unit {0}) (DecodeError X)) → Ran r → v.kept ≡ s.kept
  same_kept r h = capture_kept o o' name name' z n s v fresh (ran_kept _ _ _ _ _ _ _ _ _ _ _ _ _ h)

  -- the octets taken are those that the closure passed
  these_passed : (r : Result (Unit {0}) (DecodeError X)) (h : Ran r) (b : List ℕ) → b ++ s'.rest ≡ v.rest → length b ≡ n
      → h.handed.stream.rest ≡ b ++ h.left.stream.rest
  unfolding Moves
  these_passed r h b e l =
      let p = h.moves.passed in
      let x : (limited o (ahead name z s)).rest ≡ p ++ (limited o' (ahead name' n v)).rest =
      ap (λ (y : Stream). y.rest) (sym h.from.stream) ∙ h.moves.rest ∙ ap (λ (y : Stream). p ++ y.rest) h.left_stream in
      let y : s.rest ≡ p ++ drop n v.rest = capture_passed o o' name name' z n s v fresh (ran_kept _ _ _ _ _ _ _ _ _ _ _ _ _ h) p x in
      let w : drop n v.rest ≡ s'.rest = (let q : drop (length b) (b ++ s'.rest) ≡ s'.rest = grind (arith, common_steps) in
      ap (λ i. drop i v.rest) (sym l) ∙ ap (drop (length b)) (sym e) ∙ q) in
      let same : p ≡ b = append_cancel_right p b s'.rest (ap (λ i. p ++ i) (sym w) ∙ sym y ∙ sym (same_rest r h) ∙ sym e) in
      h.moves.rest ∙ ap (λ i. i ++ h.left.stream.rest) same

  -- so many were passed
  passed_count : (r : Result (Unit {0}) (DecodeError X)) (h : Ran r) → 1 ≤ n → length h.left.stream.rest < length h.handed.stream.rest
  unfolding Moves
  passed_count r h some =
      let p = h.moves.passed in
      let x : (limited o (ahead name z s)).rest ≡ p ++ (limited o' (ahead name' n v)).rest =
      ap (λ (y : Stream). y.rest) (sym h.from.stream) ∙ h.moves.rest ∙ ap (λ (y : Stream). p ++ y.rest) h.left_stream in
      let y : s.rest ≡ p ++ drop n v.rest = capture_passed o o' name name' z n s v fresh (ran_kept _ _ _ _ _ _ _ _ _ _ _ _ _ h) p x in
      let w : n ≤ length v.rest = capture_within o o' name name' z n s v fresh (ran_kept _ _ _ _ _ _ _ _ _ _ _ _ _ h) in
      all_passed p (drop n v.rest) s.rest v.rest h.handed.stream.rest h.left.stream.rest n y (same_rest r h) w
      (let q : length (drop n v.rest) ≡ length v.rest - n = grind (arith, common_steps) in q) some h.moves.rest

  none_taken : (e : DecodeError X) (h : Ran (Ok tt)) (why : Cause ContentError) → cause_of e ≡ why
      → MatchCause why (Grew v.faults s'.faults) ⊥ ((s'.faults ≡ v.faults) × (1 ≤ n)) → RefusesLeft view post h.handed e h.left s'.faults
  none_taken e h of_source is a = by_source h.answers h.usable is (rw (left_faults (Ok tt) h) a)
  none_taken e h (of_content x) is a = absurd a
  none_taken e h of_memory is a = by_memory h.answers h.usable is (passed_count (Ok tt) h a.1) (a.0 ∙ sym (left_faults (Ok tt) h))

  pub took : Ran (Ok tt) → (q : Result (List ℕ) (DecodeError X)) → IfOk q (λ b. b ++ s'.rest ≡ v.rest) → IfOk q (λ b. length b ≡ n)
      → OnOk q (s'.faults ≡ v.faults) → IfErr q (λ e. MatchCause (cause_of e) (Grew v.faults s'.faults) ⊥ ((s'.faults ≡ v.faults) × (1 ≤ n)))
      → OnErr q (s'.rest ≡ v.rest) → s'.kept ≡ v.kept → CapturesOver view post s o k st m q st' mark s'
  took h (Ok b) e l f a r c = record {
    handed = h.handed;
    left = h.left;
    hands = hands_over (Ok tt) h;
    left_state = h.left_state;
    left_marked = h.left_marked;
    moves = h.moves;
    kept = c ∙ same_kept (Ok tt) h;
    takes = record {
      answered = h.answers;
      usable = h.usable;
      rest = sym (same_rest (Ok tt) h) ∙ sym e;
      passed = these_passed (Ok tt) h b e l;
      faults = f ∙ sym (left_faults (Ok tt) h);
    };
    refuses = tt;
  }
  took h (Err x) e l f a r c = record {
    handed = h.handed;
    left = h.left;
    hands = hands_over (Ok tt) h;
    left_state = h.left_state;
    left_marked = h.left_marked;
    moves = h.moves;
    kept = c ∙ same_kept (Ok tt) h;
    takes = tt;
    refuses = record { rest = r ∙ same_rest (Ok tt) h; refuses = none_taken x h (cause_of x) refl a };
  }

  pub took_none : (e : DecodeError X) → Ran (Err e) → s' ≡ v → CapturesOver view post s o k st m (Err e) st' mark s'
  took_none e h same = record {
    handed = h.handed;
    left = h.left;
    hands = hands_over (Err e) h;
    left_state = h.left_state;
    left_marked = h.left_marked;
    moves = h.moves;
    kept = ap (λ (x : Stream). x.kept) same ∙ same_kept (Err e) h;
    takes = tt;
    refuses = record {
      rest = ap (λ (x : Stream). x.rest) same ∙ same_rest (Err e) h;
      refuses = by_content h.refuses (ap (λ (x : Stream). x.faults) same ∙ sym (left_faults (Err e) h));
    };
  }

-- captures over streams and limits that equal those of a run
module _ {C X : Type 0} (view : C → Reading) (post : MutBor C → Result (Unit {0}) (DecodeError X) → MutBor C → Type 0) (s t v w s' t' : Stream)
    (o p o' : Option ℕ) (k : Kind) (st st' : State) (m : Mode) (mark : Bool) (name name' z n i : ℕ) (fresh : z ≡ 0) (is_s : s ≡ t) (is_o : o ≡ p) (is_v : v ≡ w)
    (is_left : s' ≡ t') (r : Result (Unit {0}) (DecodeError X))
    (ran : RanFrom cause_of view post (limited o (ahead name z s)) o k st m r st' mark (limited o' (ahead name' n v)) o') where
  so : (q : Result (List ℕ) (DecodeError X)) → CapturesOver view post s o k st m q st' mark s' → CapturesOver view post t p k st m q st' mark t'
  so q h = subst (λ x. CapturesOver view post t p k st m q st' mark x) is_left
      (subst (λ x. CapturesOver view post t x k st m q st' mark s') is_o (subst (λ x. CapturesOver view post x o k st m q st' mark s') is_s h))

  pub captures_over : (u : Unit {0}) → r ≡ Ok u → n ≡ i → (q : Result (List ℕ) (DecodeError X)) → IfOk q (λ b. b ++ s'.rest ≡ w.rest)
      → IfOk q (λ b. length b ≡ i) → OnOk q (s'.faults ≡ w.faults)
      → IfErr q (λ e. MatchCause (cause_of e) (Grew w.faults s'.faults) ⊥ ((s'.faults ≡ w.faults) × (1 ≤ i))) → OnErr q (s'.rest ≡ w.rest) → s'.kept ≡ w.kept
      → CapturesOver view post t p k st m q st' mark t'
  captures_over u is_ok is_n q e l f a b c =
      so q (took view post s v s' o o' k st st' m mark name name' z n fresh
      (subst (λ x. RanFrom cause_of view post (limited o (ahead name z s)) o k st m x st' mark (limited o' (ahead name' n v)) o') is_ok ran) q
      (rw is_v e) (rw is_n l) (rw is_v f) (rw (is_v, is_n) a) (rw is_v b) (rw is_v c))

  pub captures_none : (e : DecodeError X) → r ≡ Err e → s' ≡ w → CapturesOver view post t p k st m (Err e) st' mark t'
  captures_none e is_err same =
      so (Err e) (took_none view post s v s' o o' k st st' m mark name name' z n fresh e (subst
      (λ x. RanFrom cause_of view post (limited o (ahead name z s)) o k st m x st' mark (limited o' (ahead name' n v)) o') is_err ran) (same ∙ sym is_v))

-- ---- limits and what is owed

-- the octets that were taken behind a limit are those by which it fell
pub falls_behind : (o p : Option ℕ) (xs ys b : List ℕ) → cut o xs ≡ b ++ cut p ys → past p ys ≡ past o xs → Falls o (length b) p
falls_behind None None xs ys b c h = refl
falls_behind None (Some m) xs ys b c h = absurd (let e = ap (λ (y : Layer). y.number) h in omega arith)
falls_behind (Some l) p xs ys b c h =
    let d : cut p ys ≡ drop (length b) (cut (Some l) xs) =
    (let x : drop (length b) (b ++ cut p ys) ≡ cut p ys = grind (arith, common_steps) in sym x ∙ ap (λ z. drop (length b) z) (sym c)) in
    let f : length b ≤ length (cut (Some l) xs) = (let x = ap length c in let y = length-append b (cut p ys) in omega arith) in
    let e : p ≡ Some (l - length b) = limit_told_after l p xs ys (length b) d f h in
    let w : length b ≤ l = (let x : length (take l xs) ≤ l = grind (arith, common_steps) in omega arith) in
    subst (λ z. Falls (Some l) (length b) z) (sym e) (omega arith)

pub falls_once : (o p q : Option ℕ) (k : ℕ) → Falls o k p → Falls o k q → p ≡ q
falls_once None None None k a b = refl
falls_once None (Some m) q k a b = absurd (a refl)
falls_once None None (Some n) k a b = absurd (b refl)
falls_once (Some l) None q k a b = absurd (a refl)
falls_once (Some l) (Some m) None k a b = absurd (b refl)
falls_once (Some l) (Some m) (Some n) k a b = ap Some (let e : m ≡ n = omega arith in e)

-- a limit cuts nothing more where it has cut
pub cut_again : (o : Option ℕ) (xs : List ℕ) → cut o (cut o xs) ≡ cut o xs
cut_again None xs = refl
cut_again (Some n) xs = grind (arith, common_steps)

-- ---- the marker

end_in_ber : (m : Mode) (w : List ℕ) → IsEndOfContents m w → IsEndOfContents Ber w
end_in_ber m w e = record { zero_length = e.zero_length; is = e.is; is_length = IsLengthForm-from_length m 0 e.zero_length e.is_length }

whole_in_ber : (m : Mode) (c d : Reading) (p : List ℕ) → Whole m c p d → Whole Ber c p d
whole_in_ber m c d p w = record {
  trees = w.trees;
  values = w.values;
  close = w.close;
  split = w.split;
  encodes = AreEncodings-in_ber m w.trees w.values w.encodes;
  closes = elim w.closes [ inl x ↦ inl x | inr x ↦ inr (end_in_ber m w.close x.0, x.1, x.2, x.3) ];
}

-- a mark of the content around makes the octets BER too
pub whole_around : (m : Mode) (c d : Reading) (p : List ℕ) (outer inner : Bool) → Whole (label m inner) c p d → Whole (label m (outer || inner)) c p d
whole_around m c d p false inner w = w
whole_around m c d p true true w = w
whole_around m c d p true false w = whole_in_ber m c d p w

-- octets that passed whole in content i did so in content c in equal states
pub whole_of : (m : Mode) (c i d j : Reading) (p : List ℕ) → c.kind ≡ i.kind → c.state ≡ i.state → d.state ≡ j.state → Whole m i p j → Whole m c p d
whole_of m c i d j p k s t w = record {
  trees = w.trees;
  values = w.values;
  close = w.close;
  split = w.split;
  encodes = w.encodes;
  closes = elim w.closes [ inl x ↦ inl (x.0, t ∙ x.1 ∙ sym s) | inr x ↦ inr (x.0, k ∙ x.1, s ∙ x.2, t ∙ x.3) ];
}

-- whether a marker was taken tells what is behind the values
module _ (m : Mode) (c d : Reading) (b : List ℕ) (w : Whole m c b d) where
  marker_is : (f : Bool) → (IsTrue f → (c.state ≡ Open) × (d.state ≡ Ended)) → ((c.state ≡ Open) × (d.state ≡ Ended) → IsTrue f) → Closes m c w.close d
      → IsMarker m f w.close
  marker_is false is so (inl h) = h.0
  marker_is false is so (inr h) = absurd (let x : false ≡ true = so (h.2, h.3) in cc)
  marker_is true is so (inl h) = (let s = is refl in absurd (let x : Open ≡ Ended = sym s.0 ∙ sym h.1 ∙ s.1 in cc))
  marker_is true is so (inr h) = h.0

  pub ends_in : (f : Bool) → IsTrue f ↔ ((c.state ≡ Open) × (d.state ≡ Ended)) → EndsIn m f b w.values
  ends_in f e = record { whole = record { values = w.trees; encode = w.encodes }; close = w.close; split = w.split; is_marker = marker_is f e.0 e.1 w.closes }

  closes_so : (f : Bool) (e : List ℕ) → (IsTrue f → (c.state ≡ Open) × (d.state ≡ Ended)) → ((c.state ≡ Open) × (d.state ≡ Ended) → IsTrue f) → IsMarker m f e
      → Closes m c w.close d → Closes m c e d
  closes_so false e is so h (inl x) = inl (h, x.1)
  closes_so false e is so h (inr x) = absurd (let y : false ≡ true = so (x.2, x.3) in cc)
  closes_so true e is so h (inl x) = (let s = is refl in absurd (let y : Open ≡ Ended = sym s.0 ∙ sym x.1 ∙ s.1 in cc))
  closes_so true e is so h (inr x) = inr (h, x.1, x.2, x.3)

  pub holds : (f : Bool) (front : List ℕ) → IsTrue f ↔ ((c.state ≡ Open) × (d.state ≡ Ended)) → EndsIn m f b front
      → c.stream.rest ≡ b ++ d.stream.rest → Holds c m front d
  holds f front e h r = record {
    whole = h.whole;
    close = h.close;
    rest = r ∙ ap (λ x. x ++ d.stream.rest) h.split ∙ append_assoc front h.close d.stream.rest;
    closes = closes_so f h.close e.0 e.1 h.is_marker w.closes;
  }

-- ---- what a capture did

or_marked : (a b : Bool) → a ≡ true → (a || b) ≡ true
or_marked true b e = refl
or_marked false b e = absurd (let x : false ≡ true = e in cc)

-- what a closure is handed over a source that is limited so, is what it is handed of the content around
pub captured_hands : (c i : Reading) (x : Stream) (o p : Option ℕ) (k : Kind) (st : State) (m : Mode) → c.stream ≡ limited o x → c.owed ≡ o → c.kind ≡ values k
    → c.state ≡ st → c.mode ≡ m → p ≡ o → HandsOver (limited o x) p k st m i → IsCaptureOf c i
captured_hands c i x o p k st m cs co ck ct cm po h = record {
  rest = h.rest ∙ ap (λ z. cut z (cut o x.rest)) po ∙ cut_again o x.rest ∙ ap (λ (z : Stream). z.rest) (sym cs);
  faults = h.faults ∙ ap (λ (z : Stream). z.faults) (sym cs);
  owed = h.owed ∙ po ∙ sym co;
  kind = h.kind ∙ sym ck;
  state = h.state ∙ sym ct;
  mode = h.mode ∙ sym cm;
  marked = h.marked;
}

module _ {C X : Type 0} (view : C → Reading) (post : MutBor C → Result (Unit {0}) (DecodeError X) → MutBor C → Type 0) (c d : Reading) (x y : Stream)
    (o o' p : Option ℕ) (k : Kind) (st st' : State) (m : Mode) (mark : Bool)
    (cs : c.stream ≡ limited o x) (co : c.owed ≡ o) (ck : c.kind ≡ values k) (ct : c.state ≡ st) (cm : c.mode ≡ m)
    (ds : d.stream ≡ limited o' y) (do' : d.owed ≡ o') (dk : d.kind ≡ c.kind) (dm : d.mode ≡ c.mode) (dn : d.name ≡ c.name)
    (dmark : d.marked ≡ (c.marked || mark)) (po : p ≡ o) where
  abbrev Over : Result (List ℕ) (DecodeError X) → Type 0
  Over q = CapturesOver view post (limited o x) p k st m q st' mark (limited o' y)

  module _ (q : Result (List ℕ) (DecodeError X)) (h : Over q) where
    hands : IsCaptureOf c h.handed
    hands = captured_hands c h.handed x o p k st m cs co ck ct cm po h.hands

    same_kept_all : d.stream.kept ≡ c.stream.kept
    same_kept_all = ap (λ (z : Stream). z.kept) ds ∙ h.kept ∙ ap (λ (z : Stream). z.kept) (sym cs)

    marked_all : d.marked ≡ (c.marked || h.left.marked)
    marked_all = rw h.left_marked dmark

    stays_marked : c.marked ≡ true → d.marked ≡ true
    stays_marked e = dmark ∙ or_marked c.marked mark e

    handed_faults : c.stream.faults ≤ h.left.stream.faults
    unfolding Moves
    handed_faults = (let a : h.handed.stream.faults ≤ h.left.stream.faults = h.moves.faults in
        let e : h.handed.stream.faults ≡ c.stream.faults = hands.faults in omega arith)

  module _ (b : List ℕ) (q : Result (List ℕ) (DecodeError X)) (is_ok : q ≡ Ok b) (over : Over q) (dt : d.state ≡ st') where
    done : Over (Ok b)
    done = subst (λ z. Over z) is_ok over

    took_rest : c.stream.rest ≡ b ++ d.stream.rest
    took_rest = ap (λ (z : Stream). z.rest) cs ∙ done.takes.rest ∙ ap (λ (z : Stream). b ++ z.rest) (sym ds)

    left_rest : d.stream.rest ≡ done.left.stream.rest
    left_rest = append_cancel_left b d.stream.rest done.left.stream.rest (sym took_rest ∙ sym (hands (Ok b) done).rest ∙ done.takes.passed)

    left_state : d.state ≡ done.left.state
    left_state = dt ∙ sym done.left_state

    passed_is : (p : List ℕ) → done.handed.stream.rest ≡ p ++ done.left.stream.rest → p ≡ b
    passed_is p e = append_cancel_right p b done.left.stream.rest (sym e ∙ done.takes.passed)

    fell : Falls c.owed (length b) d.owed
    fell = (let f : Falls o (length b) o' = falls_behind o o' x.rest y.rest b done.takes.rest (first_kept done.kept) in rw (co, do') f)

    left_owed : d.owed ≡ done.left.owed
    unfolding Moves
    left_owed =
        let f : Falls c.owed (length b) done.left.owed = subst (λ n. Falls n (length b) done.left.owed) (hands (Ok b) done).owed
        (subst (λ p. Falls done.handed.owed (length p) done.left.owed) (passed_is done.moves.passed done.moves.rest) done.moves.owed) in
        falls_once c.owed d.owed done.left.owed (length b) fell f

    values_kind : done.handed.kind ≢ Octets
    values_kind e = (let z : values k ≡ Octets = sym done.hands.kind ∙ e in cc)

    passed_whole : Whole (label m mark) c b d
    unfolding Moves
    passed_whole =
        let w : Whole (label done.handed.mode done.left.marked) done.handed done.moves.passed done.left = done.moves.whole done.takes.usable values_kind in
        let v : Whole (label m done.left.marked) done.handed b done.left =
        subst (λ p. Whole (label m done.left.marked) done.handed p done.left) (passed_is done.moves.passed done.moves.rest)
        (subst (λ n. Whole (label n done.left.marked) done.handed done.moves.passed done.left) done.hands.mode w) in
        whole_of (label m mark) c done.handed d done.left b (sym (hands (Ok b) done).kind) (sym (hands (Ok b) done).state) left_state
        (subst (λ n. Whole (label m n) done.handed b done.left) done.left_marked v)

    pub captured_moves : Moves c d
    unfolding Moves
    captured_moves = record {
      passed = b;
      rest = took_rest;
      owed = fell;
      kept = same_kept_all (Ok b) done;
      kind = dk;
      mode = λ _. dm;
      name = dn;
      faults = (let a = handed_faults (Ok b) done in
          let e : d.stream.faults ≡ done.left.stream.faults = ap (λ (z : Stream). z.faults) ds ∙ done.takes.faults in omega arith);
      ended = λ e. (let s = done.moves.ended ((hands (Ok b) done).state ∙ e) in (left_state ∙ s.0, sym (passed_is done.moves.passed done.moves.rest) ∙ s.1));
      failed = λ e. left_state ∙ done.moves.failed ((hands (Ok b) done).state ∙ e);
      marked = stays_marked (Ok b) done;
      ends = λ e. elim (done.moves.ends (sym left_state ∙ e))
          [ inl s ↦ inl (sym (hands (Ok b) done).state ∙ s) | inr s ↦ inr (sym (hands (Ok b) done).kind ∙ s) ];
      whole = λ _ _. subst (λ n. Whole (label n d.marked) c b d) (sym cm)
          (subst (λ n. Whole (label m n) c b d) (sym dmark) (whole_around m c d b c.marked mark passed_whole));
    }

    same_states : {f : Bool} → IsTrue f ↔ ((st ≡ Open) × (st' ≡ Ended)) → IsTrue f ↔ ((c.state ≡ Open) × (d.state ≡ Ended))
    same_states e = (λ t. (let s = e.0 t in (ct ∙ s.0, dt ∙ s.1)), λ s. e.1 (sym ct ∙ s.0, sym dt ∙ s.1))

    pub captured_ends : (f : Bool) (n : Mode) → n ≡ label m mark → IsTrue f ↔ ((st ≡ Open) × (st' ≡ Ended)) → (front : List ℕ) × EndsIn n f b front
    captured_ends f n e t = (let w : Whole n c b d = rw e passed_whole in (w.values, ends_in n c d b w f (same_states t)))

    pub captured_what : (kept : Kept) (f : Bool) (n : Mode) → n ≡ label m mark → IsTrue f ↔ ((st ≡ Open) × (st' ≡ Ended)) → EndsIn n f b kept.octets
        → kept.mode ≡ n → kept.start ≡ c.stream.position → Captures view post c kept d
    captured_what kept f n e t i km ks = record {
      handed = done.handed;
      left = done.left;
      hands = hands (Ok b) done;
      answered = done.takes.answered;
      moves = done.moves;
      usable = done.takes.usable;
      rest = left_rest;
      owed = left_owed;
      state = left_state;
      faults = ap (λ (z : Stream). z.faults) ds ∙ done.takes.faults;
      marked = marked_all (Ok b) done;
      holds = rw km (holds n c d b (rw e passed_whole) f kept.octets (same_states t) i took_rest);
      mode = km ∙ e ∙ ap (λ z. label z mark) (sym cm) ∙ ap (λ z. label c.mode z) (sym done.left_marked);
      start = ks;
    }

  module _ (e : DecodeError X) (q : Result (List ℕ) (DecodeError X)) (is_err : q ≡ Err e) (over : Over q) (dt : d.state ≡ c.state) where
    undone : Over (Err e)
    undone = subst (λ z. Over z) is_err over

    kept_limit : o' ≡ o
    kept_limit = limit_told o o' x.rest y.rest undone.refuses.rest (first_kept undone.kept)

    kept_rest : d.stream.rest ≡ c.stream.rest
    kept_rest = ap (λ (z : Stream). z.rest) ds ∙ undone.refuses.rest ∙ ap (λ (z : Stream). z.rest) (sym cs)

    kept_owed : d.owed ≡ c.owed
    kept_owed = do' ∙ kept_limit ∙ sym co

    left_faults_of : (f : ℕ) → RefusesLeft view post undone.handed e undone.left f → undone.left.stream.faults ≤ f
    left_faults_of f (by_content r g) = omega (arith, g)
    left_faults_of f (by_source a u w g) = g.no_smaller
    left_faults_of f (by_memory a u w s g) = omega (arith, g)

    pub refused_moves : Moves c d
    refused_moves =
        let f : c.stream.faults ≤ d.stream.faults = (let a = handed_faults (Err e) undone in let g = left_faults_of _ undone.refuses.refuses in
        let z : d.stream.faults ≡ (limited o' y).faults = ap (λ (z : Stream). z.faults) ds in omega arith) in
        moves_still c d kept_rest (same_kept_all (Err e) undone) f kept_owed dk (λ _. dm) dn dt (stays_marked (Err e) undone)

    pub refused_what : RefusesCapture view post c e d
    refused_what = record {
      handed = undone.handed;
      left = undone.left;
      hands = hands (Err e) undone;
      moves = undone.moves;
      rest = kept_rest;
      owed = kept_owed;
      state = dt;
      marked = marked_all (Err e) undone;
      refuses = subst (λ f. RefusesLeft view post undone.handed e undone.left f) (ap (λ (z : Stream). z.faults) (sym ds)) undone.refuses.refuses;
    }
