-- What single steps over content give.
use Rattle.std.proofs.Common.{◌≡◌, ◌≢◌, ℕ, ◌≤◌, Bool, true, false, List, [], ◌++◌, refl, ap, sym, ◌∙◌, arith, length-append, append_assoc, append-nil, inl, inr}
use Rattle.bcder.specs.declared.decode.content.State.{State}
use Rattle.bcder.specs.declared.decode.content.State.TheVariants.{Open, Ended, Failed}
use Rattle.bcder.specs.x690.Length.{IsEndOfContents}
use Rattle.bcder.specs.x690.Tree.{Tree, no_trees, ◌∷ₜ◌}
use Rattle.bcder.specs.x690.Encoding.{IsEncoding}
use Rattle.bcder.specs.declared.decode.content.Kind.TheVariants as kind
use Rattle.bcder.specs.calls.Content.{Reading, Octets, label, Moves, values}
use Rattle.bcder.specs.steps.Entering.{Advances}
use Rattle.bcder.specs.laws.Lists.{AreEncodings-one}
use Rattle.bcder.specs.laws.Moved.{whole_marked, whole_none, Falls-refl, Falls-trans, untouched_is_moved, moved_twice_is_moved}

-- ---- states and marks

pub open_not_ended : (s : State) → s ≡ Open → s ≢ Ended
open_not_ended s o e = let y : Open ≡ Ended = sym o ∙ e in cc

pub open_not_failed : (s : State) → s ≡ Open → s ≢ Failed
open_not_failed s o e = let y : Open ≡ Failed = sym o ∙ e in cc

pub ruleset moves = (untouched_is_moved, moved_twice_is_moved)

-- ---- single steps

-- no octet passed, and the same state
pub moves_still : (c d : Reading) → d.stream.rest ≡ c.stream.rest → d.stream.kept ≡ c.stream.kept → c.stream.faults ≤ d.stream.faults → d.owed ≡ c.owed
    → d.kind ≡ c.kind → (d.marked ≡ false → d.mode ≡ c.mode) → d.name ≡ c.name → d.state ≡ c.state → (c.marked ≡ true → d.marked ≡ true) → Moves c d
unfolding Moves
moves_still c d r h f o k m n e g = record {
  passed = [];
  rest = sym r;
  owed = rw o (Falls-refl c.owed);
  kept = h;
  kind = k;
  mode = m;
  name = n;
  faults = f;
  ended = λ x. (e ∙ x, refl);
  failed = λ x. e ∙ x;
  marked = g;
  ends = λ x. inl (sym e ∙ x);
  whole = λ _ _. whole_none _ c d e;
}

-- octets passed, and a value is under way or was refused
pub moves_failed : (c d : Reading) (p : List ℕ) → Advances c d p → (c.marked ≡ true → d.marked ≡ true) → c.state ≢ Ended → d.state ≡ Failed → Moves c d
unfolding Moves
moves_failed c d p a g n f = record {
  passed = p;
  rest = a.rest;
  owed = a.owed;
  kept = a.kept;
  kind = a.kind;
  mode = λ _. a.mode;
  name = a.name;
  faults = a.faults;
  ended = λ x. absurd (n x);
  failed = λ _. f;
  marked = g;
  ends = λ x. absurd (let y : Failed ≡ Ended = sym f ∙ x in cc);
  whole = λ x _. absurd (x f);
}

-- the marker ends indefinite content
pub moves_marker : (c d : Reading) (e : List ℕ) → Advances c d e → IsEndOfContents c.mode e → d.marked ≡ c.marked → c.kind ≡ values kind.Indefinite → c.state ≡ Open
    → d.state ≡ Ended → Moves c d
unfolding Moves
moves_marker c d e a t g i s f = record {
  passed = e;
  rest = a.rest;
  owed = a.owed;
  kept = a.kept;
  kind = a.kind;
  mode = λ _. a.mode;
  name = a.name;
  faults = a.faults;
  ended = λ x. absurd (open_not_ended c.state s x);
  failed = λ x. absurd (open_not_failed c.state s x);
  marked = λ x. g ∙ x;
  ends = λ _. inr i;
  whole = λ _ _. whole_marked c.mode c d e false d.marked (λ x. absurd (let y : false ≡ true = x in cc))
      (record { trees = no_trees; values = []; close = e; split = refl; encodes = refl; closes = inr (t, i, s, f) });
}

-- primitive content is any octets
pub moves_octets : (c d : Reading) (p : List ℕ) → Advances c d p → d.marked ≡ c.marked → c.kind ≡ Octets → c.state ≡ Open → d.state ≡ Open → Moves c d
unfolding Moves
moves_octets c d p a g k s e = record {
  passed = p;
  rest = a.rest;
  owed = a.owed;
  kept = a.kept;
  kind = a.kind;
  mode = λ _. a.mode;
  name = a.name;
  faults = a.faults;
  ended = λ x. absurd (open_not_ended c.state s x);
  failed = λ x. absurd (open_not_failed c.state s x);
  marked = λ x. g ∙ x;
  ends = λ x. absurd (open_not_ended d.state e x);
  whole = λ x y. absurd (y k);
}

pub advances_trans : (c d e : Reading) (p q : List ℕ) → Advances c d p → Advances d e q → Advances c e (p ++ q)
advances_trans c d e p q a b = record {
  rest = a.rest ∙ ap (λ x. p ++ x) b.rest ∙ sym (append_assoc p q e.stream.rest);
  owed = rw length-append (Falls-trans c.owed d.owed e.owed _ _ a.owed b.owed);
  kept = b.kept ∙ a.kept;
  faults = (let f : c.stream.faults ≤ d.stream.faults = a.faults in let h : d.stream.faults ≤ e.stream.faults = b.faults in omega arith);
  kind = b.kind ∙ a.kind;
  mode = b.mode ∙ a.mode;
  name = b.name ∙ a.name;
}

-- one whole value was taken; a mark inside it makes it BER
pub moves_value : (c d : Reading) (p : List ℕ) (t : Tree) (inner : Bool) → Advances c d p → IsEncoding (label c.mode inner) t p
    → (c.marked ≡ true → d.marked ≡ true) → (inner ≡ true → d.marked ≡ true) → c.state ≡ Open → d.state ≡ Open → Moves c d
unfolding Moves
moves_value c d p t inner a v g h s e = record {
  passed = p;
  rest = a.rest;
  owed = a.owed;
  kept = a.kept;
  kind = a.kind;
  mode = λ _. a.mode;
  name = a.name;
  faults = a.faults;
  ended = λ x. absurd (open_not_ended c.state s x);
  failed = λ x. absurd (open_not_failed c.state s x);
  marked = g;
  ends = λ x. absurd (open_not_ended d.state e x);
  whole = λ _ _. whole_marked c.mode c d p inner d.marked h (record {
    trees = t ∷ₜ no_trees;
    values = p;
    close = [];
    split = sym (append-nil p);
    encodes = AreEncodings-one (label c.mode inner) t p v;
    closes = inl (refl, e ∙ sym s);
  });
}

-- nothing but a mode was changed
pub moves_changed : (c d : Reading) → d.stream ≡ c.stream → d.owed ≡ c.owed → d.kind ≡ c.kind → d.name ≡ c.name → d.state ≡ c.state
    → d.marked ≡ true → Moves c d
moves_changed c d s o k n e g =
    moves_still c d (ap (λ x. x.rest) s) (ap (λ x. x.kept) s) (omega (arith, ap (λ x. x.faults) s)) o k
    (λ x. absurd (let y : true ≡ false = sym g ∙ x in cc)) n e (λ _. g)

-- nothing was taken, and content has failed
pub moves_refused : (c d : Reading) → d.stream ≡ c.stream → d.owed ≡ c.owed → d.kind ≡ c.kind → d.mode ≡ c.mode → d.name ≡ c.name → d.marked ≡ c.marked
    → c.state ≢ Ended → d.state ≡ Failed → Moves c d
moves_refused c d s o k m n g e f =
    moves_failed c d []
    (record {
      rest = ap (λ x. x.rest) (sym s);
      owed = rw o (Falls-refl c.owed);
      kept = ap (λ x. x.kept) s;
      faults = omega (arith, ap (λ x. x.faults) s);
      kind = k;
      mode = m;
      name = n;
    })
    (λ x. g ∙ x) e f
