-- What is left of a source whose values were decoded.
use Rattle.std.proofs.Common.{◌≡◌, ℕ, ◌≤◌, List, [], ◌++◌, length, refl, sym, ◌∙◌, ap, subst}
use Rattle.std.specs.Prelude.{Option, Some, None, Result, Ok, Err, IfOk, IfErr}
use Rattle.std.specs.Borrow.{MutBor}
use Rattle.bcder.specs.declared.mode.Mode.{Mode}
use Rattle.bcder.specs.calls.Stream.{Stream, Layer, Grew, IsExhausted, cut, past, limited}
use Rattle.bcder.specs.declared.decode.error.ContentError.{ContentError}
use Rattle.bcder.specs.declared.decode.error.DecodeError.{DecodeError}
use Rattle.bcder.specs.declared.decode.error.DecodeError.TheVariants.{Source, Content, NoMemory}
use Rattle.bcder.specs.calls.Cause.{Cause, cause_of, position_of, MatchCause, IsRefusal}
use Rattle.bcder.specs.declared.decode.content.State.TheVariants.{Open}
use Rattle.bcder.specs.declared.decode.content.Kind.TheVariants as kind
use Rattle.bcder.specs.calls.Content.{Reading, Octets, Moves, Falls, Resembles, values}
use Rattle.bcder.specs.steps.Inside.{RunsOver}
use Rattle.bcder.specs.calls.Decoding.{IsAllOf, Decodes, RefusesDecode}
use Rattle.bcder.specs.steps.Inside.{RanOn}
use Rattle.bcder.specs.calls.Decoding.{AnswersToEnd, RefusesToEnd, IsWithin, HandsWithin, DecodesWithin, RefusesWithin}
use Rattle.bcder.specs.calls.Decoding.{RefusesRest, octets_left, source_failed, DecodesWhole, RefusesWhole, by_decoding, by_rest}
use Rattle.bcder.specs.calls.Views.{lent}
use Rattle.bcder.specs.laws.Limits.{first_kept, rest_kept}
use Rattle.bcder.proofs.Entering.{no_fewer}
use Rattle.bcder.proofs.Inner.{layers_eq, indefinite_advances}
use Rattle.bcder.proofs.Moving.{moves_octets}

falls_none : (k : ℕ) (o : Option ℕ) → Falls None k o → o ≡ None
falls_none k None f = refl
falls_none k (Some n) f = absurd (f refl)

-- content without a limit stays so
pub moves_unlimited : (i j : Reading) → Moves i j → i.owed ≡ None → j.owed ≡ None
unfolding Moves
moves_unlimited i j m e = falls_none (length m.passed) j.owed (let f : Falls i.owed (length m.passed) j.owed = m.owed in rw e at f)

pub still_unlimited : (s s' : Stream) (m : Mode) (i j : Reading) (o o' : Option ℕ) → o ≡ None
    → RunsOver (limited o s) o (values kind.Unbounded) m i j (limited o' s') o' → o' ≡ None
still_unlimited s s' m i j o o' n r = sym r.left_owed ∙ moves_unlimited i j r.moves (r.owed ∙ n)

-- a closure got content i over the source s, and left j over s'
pub record HandsAll (s : Stream) (m : Mode) (i j : Reading) (s' : Stream) : Type 0 where
  pub over : IsAllOf s m i
  pub leaves : j.stream ≡ limited None s'
  pub moves : Moves i j

-- what a closure left of content over a source without a limit is over what is left of the source
pub hands_all : (s s' : Stream) (m : Mode) (i j : Reading) (o o' : Option ℕ) → o ≡ None
    → RunsOver (limited o s) o (values kind.Unbounded) m i j (limited o' s') o' → HandsAll s m i j s'
hands_all s s' m i j o o' n r =
    let n' : o' ≡ None = still_unlimited s s' m i j o o' n r in
    record {
      over = record { stream = r.stream ∙ ap (λ x. limited x s) n; owed = r.owed ∙ n; kind = r.kind; state = r.state; mode = r.mode; marked = r.marked };
      leaves = r.left_stream ∙ ap (λ x. limited x s') n';
      moves = r.moves;
    }

module _ {C T E : Type 0} (why : E → Cause ContentError) (view : C → Reading) (post : MutBor C → Result T E → MutBor C → Type 0) (s s' : Stream) (m : Mode)
    (o o' : Option ℕ) (n : o ≡ None) where
  pub decoded : (r : Result T E) → RanOn why view post (limited o s) o m r (limited o' s') o' → IfOk r (λ x. Decodes view post s m x s')
  decoded (Ok x) h =
      let a = hands_all s s' m h.handed h.left o o' n h.runs in
      record { handed = h.handed; left = h.left; over = a.over; leaves = a.leaves; moves = a.moves; answered = h.answers; usable = h.usable }
  decoded (Err e) h = tt

  pub not_decoded : (r : Result T E) → RanOn why view post (limited o s) o m r (limited o' s') o' → IfErr r (λ e. RefusesDecode why view post s m e s')
  not_decoded (Ok x) h = tt
  not_decoded (Err e) h =
      let a = hands_all s s' m h.handed h.left o o' n h.runs in
      record { handed = h.handed; left = h.left; over = a.over; leaves = a.leaves; moves = a.moves; refuses = h.refuses }

  -- a source that was handed over was decoded, whatever is left of it
  pub decoded_once : (t : Stream) → s ≡ t → (r : Result T E) → RanOn why view post (limited o s) o m r (limited o' s') o'
      → IfOk r (λ x. (left : Stream) × Decodes view post t m x left)
  decoded_once t e (Ok x) h = (s', subst (λ y. Decodes view post y m x s') e (decoded (Ok x) h))
  decoded_once t e (Err x) h = tt

  pub not_decoded_once : (t : Stream) → s ≡ t → (r : Result T E) → RanOn why view post (limited o s) o m r (limited o' s') o'
      → IfErr r (λ x. (left : Stream) × RefusesDecode why view post t m x left)
  not_decoded_once t e (Ok x) h = tt
  not_decoded_once t e (Err x) h = (s', subst (λ y. RefusesDecode why view post y m x s') e (not_decoded (Err x) h))

module _ (s s' : Stream) (m : Mode) (i j : Reading) (h : HandsAll s m i j s') where
  pub left_kept : s'.kept ≡ s.kept
  unfolding Moves
  left_kept =
      let k : (limited None s').kept ≡ (limited None s).kept =
      ap (λ (x : Stream). x.kept) (sym h.leaves) ∙ h.moves.kept ∙ ap (λ (x : Stream). x.kept) h.over.stream in
      rest_kept k

  pub left_passed : (passed : List ℕ) × (s.rest ≡ passed ++ s'.rest)
  unfolding Moves
  left_passed = (h.moves.passed, ap (λ (x : Stream). x.rest) (sym h.over.stream) ∙ h.moves.rest ∙ ap (λ (x : Stream). h.moves.passed ++ x.rest) h.leaves)

  pub left_faults : s.faults ≤ s'.faults
  unfolding Moves
  left_faults =
      let a : i.stream.faults ≡ s.faults = ap (λ (x : Stream). x.faults) h.over.stream in
      let b : j.stream.faults ≡ s'.faults = ap (λ (x : Stream). x.faults) h.leaves in
      let f : i.stream.faults ≤ j.stream.faults = h.moves.faults in
      rw b at (rw a at f)

-- what a source behind a borrow keeps tells the borrow, and what the source keeps
module _ {S : Type 0} (stream : S → Stream) (a b : MutBor S) where
  pub same_borrow : (lent stream b).kept ≡ (lent stream a).kept → b.ghost_name ≡ a.ghost_name
  same_borrow e = ap (λ (x : Layer). x.number) (first_kept e)

  pub same_behind : (lent stream b).kept ≡ (lent stream a).kept → (stream b.now).kept ≡ (stream a.now).kept
  same_behind e = rest_kept e

-- ---- nothing left behind the values

-- why a source that was asked whether it is at its end refused that
pub rest_refused : {X : Type 0} (limit : Option ℕ) (s s' : Stream) (e : DecodeError X) → MatchCause (cause_of e) (Grew s.faults s'.faults)
    ((s'.faults ≡ s.faults) × (IsExhausted limit s.rest → ⊥) × IsRefusal e) ⊥ → (IsRefusal e → position_of e ≡ Some s.position) → RefusesRest limit s e s'
rest_refused limit s s' (Source x) g p = source_failed refl g
rest_refused limit s s' (Content error pos) g p = octets_left g.1 g.2 (p g.2) g.0
rest_refused limit s s' NoMemory g p = absurd g

pub rest_faults : {X : Type 0} (limit : Option ℕ) (s s' : Stream) (e : DecodeError X) → RefusesRest limit s e s' → s.faults ≤ s'.faults
rest_faults limit s s' e (octets_left n r q f) = no_fewer s'.faults s.faults f
rest_faults limit s s' e (source_failed r g) = g.no_smaller

none_exhausted : (o : Option ℕ) (xs : List ℕ) → o ≡ None → IsExhausted o xs → xs ≡ []
none_exhausted None xs e h = h
none_exhausted (Some n) xs e h = absurd (let x : Some n ≡ None = e in cc)

module _ {C T X : Type 0} (view : C → Reading) (post : MutBor C → Result T (DecodeError X) → MutBor C → Type 0) (s s' t : Stream) (m : Mode) (o o' : Option ℕ)
    (n : o ≡ None) (e : s ≡ t) (x : T) (h : RanOn cause_of view post (limited o s) o m (Ok x) (limited o' s') o') where
  decodes : Decodes view post t m x s'
  decodes = subst (λ y. Decodes view post y m x s') e (decoded cause_of view post s s' m o o' n (Ok x) h)

  without_limit : o' ≡ None
  without_limit = still_unlimited s s' m h.handed h.left o o' n h.runs

  pub decoded_whole : IsExhausted o' s'.rest → DecodesWhole view post t m x
  decoded_whole z = record { left = s'; decodes = decodes; none_left = none_exhausted o' s'.rest without_limit z }

  pub not_decoded_whole : (later : Stream) (w : DecodeError X) → RefusesRest o' s' w later → RefusesWhole view post t m w
  not_decoded_whole later w r = by_rest x s' later decodes (subst (λ y. RefusesRest y s' w later) without_limit r)

module _ {C T X : Type 0} (view : C → Reading) (post : MutBor C → Result T (DecodeError X) → MutBor C → Type 0) (s s' t : Stream) (m : Mode) (o o' : Option ℕ)
    (n : o ≡ None) (e : s ≡ t) where
  pub not_decoded_at_all : (w : DecodeError X) → RanOn cause_of view post (limited o s) o m (Err w) (limited o' s') o' → RefusesWhole view post t m w
  not_decoded_at_all w h = by_decoding s' (subst (λ y. RefusesDecode cause_of view post y m w s') e (not_decoded cause_of view post s s' m o o' n (Err w) h))

-- a refusal over a stream and in a mode that equal these
pub refuses_same : {C T X : Type 0} (view : C → Reading) (post : MutBor C → Result T (DecodeError X) → MutBor C → Type 0) (s t : Stream) (m n : Mode) → s ≡ t
    → m ≡ n → (r : Result T (DecodeError X)) → IfErr r (λ e. RefusesWhole view post s m e) → IfErr r (λ e. RefusesWhole view post t n e)
refuses_same view post s t m n e f r h = subst (λ x. IfErr r (λ e. RefusesWhole view post x n e)) e
    (subst (λ x. IfErr r (λ e. RefusesWhole view post s x e)) f h)

-- ---- content that was asked for more

-- nothing is left up to a limit where nothing is left of the octets up to it
exhausted_cut : (o : Option ℕ) (xs : List ℕ) → IsExhausted o (cut o xs) → IsExhausted o xs
exhausted_cut None xs z = z
exhausted_cut (Some n) xs z = z

cut_exhausted : (o : Option ℕ) (xs : List ℕ) → IsExhausted o xs → IsExhausted o (cut o xs)
cut_exhausted None xs z = z
cut_exhausted (Some n) xs z = z

pub limited_refused : {X : Type 0} (o p : Option ℕ) (s t : Stream) (e : DecodeError X) → RefusesRest o s e t → RefusesRest o (limited o s) e (limited p t)
limited_refused o p s t e (octets_left n r q f) = octets_left (λ z. n (exhausted_cut o s.rest z)) r q f
limited_refused o p s t e (source_failed r g) = source_failed r g

module _ (c d : Reading) (o p : Option ℕ) (s t : Stream) (cs : c.stream ≡ limited o s) (co : c.owed ≡ o) (ds : d.stream ≡ limited p t) (do' : d.owed ≡ p)
    (e : p ≡ o) (r : t.rest ≡ s.rest) where
  same_rest : d.stream.rest ≡ c.stream.rest
  same_rest = ap (λ (x : Stream). x.rest) ds ∙ ap (λ x. cut x t.rest) e ∙ ap (cut o) r ∙ ap (λ (x : Stream). x.rest) (sym cs)

  pub asked_same : t.kept ≡ s.kept → d.kind ≡ c.kind → d.state ≡ c.state → d.mode ≡ c.mode → d.marked ≡ c.marked → d.name ≡ c.name → Resembles c d
  asked_same k ki st mo ma na = record {
    rest = same_rest;
    kept =
        ap (λ (x : Stream). x.kept) ds
        ∙ layers_eq (past p t.rest) (past o s.rest) t.kept s.kept (ap (λ x. past x t.rest) e ∙ ap (past o) r) k
        ∙ ap (λ (x : Stream). x.kept) (sym cs);
    owed = do' ∙ e ∙ sym co;
    kind = ki;
    state = st;
    mode = mo;
    marked = ma;
    name = na;
  }

pub asked_exhausted : (o p : Option ℕ) (s t : Stream) → p ≡ o → t.rest ≡ s.rest → IsExhausted o s.rest → IsExhausted p (cut p t.rest)
asked_exhausted o p s t e r z =
    let a : IsExhausted o (cut o t.rest) = cut_exhausted o t.rest (subst (λ x. IsExhausted o x) (sym r) z) in
    subst (λ x. IsExhausted x (cut x t.rest)) (sym e) a

-- ---- values within contents octets

-- values that moved within contents octets moved these
pub moves_within : (c d i k : Reading) (m : Mode) → HandsWithin c m i k d → c.kind ≡ Octets → d.kind ≡ Octets → d.mode ≡ c.mode → d.name ≡ c.name
    → d.marked ≡ c.marked → c.state ≡ Open → d.state ≡ Open → Moves c d
unfolding Moves
moves_within c d i k m h ck dk md n g cs ds =
    moves_octets c d h.moves.passed (indefinite_advances c d i k h.over.stream h.over.owed (sym h.stream) (sym h.owed) (dk ∙ sym ck) md n h.moves) g ck cs ds

pub values_within : (c i h : Reading) (m : Mode) → i ≡ h → IsWithin c m h → IsWithin c m i
values_within c i h m e w = subst (λ x. IsWithin c m x) (sym e) w

module _ {C T X : Type 0} (view : C → Reading) (post : MutBor C → Result T (DecodeError X) → MutBor C → Type 0) (c d i k : Reading) (m : Mode)
    (h : HandsWithin c m i k d) where
  pub decoded_within : (r : Result T (DecodeError X)) → IfOk r (λ x. AnswersToEnd view post i x k) → IfOk r (λ x. DecodesWithin view post c m x d)
  decoded_within (Ok x) a = record { handed = i; left = k; hands = h; answers = a }
  decoded_within (Err e) a = tt

  pub refused_within : (r : Result T (DecodeError X)) → IfErr r (λ e. RefusesToEnd view post i e k) → IfErr r (λ e. RefusesWithin view post c m e d)
  refused_within (Ok x) a = tt
  refused_within (Err e) a = record { handed = i; left = k; hands = h; refuses = a }
