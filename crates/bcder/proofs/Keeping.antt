-- What is left of values that are kept, once those at the front were passed.
use Rattle.std.proofs.Common.{◌≡◌, ◌≢◌, ℕ, Bool, true, false, List, [], ◌++◌, length, sym, ap, ◌∙◌, append_assoc, append-nil, subst, arith, inl, inr}
use Rattle.std.specs.Prelude.{Result}
use Rattle.std.specs.Borrow.{MutBor}
use Rattle.std.proofs.lemmas.List.{length-append}
use Rattle.bcder.specs.declared.mode.Mode.{Mode}
use Rattle.bcder.specs.declared.mode.Mode.TheVariants.{Ber}
use Rattle.bcder.specs.declared.decode.content.Constructed.{Constructed}
use Rattle.bcder.specs.declared.decode.content.State.TheVariants.{Failed}
use Rattle.bcder.specs.declared.decode.error.DecodeError.{DecodeError}
use Rattle.bcder.specs.calls.Cause.{cause_of}
use Rattle.bcder.specs.x690.Tree.{Trees, no_trees, ◌∷ₜ◌}
use Rattle.bcder.specs.x690.Encoding.{IsEncoding, AreEncodings}
use Rattle.bcder.specs.calls.Stream.{Stream, borrowed}
use Rattle.bcder.specs.declared.decode.content.Kind.TheVariants as kind
use Rattle.bcder.specs.calls.Content.{Reading, label, Moves, Whole, Closes, Octets, values}
use Rattle.bcder.specs.calls.Decoding.{Decodes, RefusesDecode}
use Rattle.bcder.specs.calls.Captured.{Kept, AreWhole, kept_stream, DecodesFront, RefusesKept, by_decode}
use Rattle.bcder.specs.calls.Views.{of_constructed, lent}
use Rattle.bcder.specs.laws.Complete.{two_octets, one_encoding}
use Rattle.bcder.specs.laws.Canonical.{IsEncoding-in_ber, AreEncodings-in_ber}
use Rattle.bcder.proofs.Decoding.{HandsAll}

-- ---- lists of values

-- a list of values is cut in two between octets v and x
pub record Split (mode : Mode) (us : Trees) (v x : List ℕ) : Type 0 where
  pub left : Trees
  pub front : AreEncodings mode us v
  pub back : AreEncodings mode left x

-- values in front of a list of values cut it in two, also where they were read in BER
pub AreEncodings-split : (mode : Mode) (us ts : Trees) (v x : List ℕ) → AreEncodings Ber us v → AreEncodings mode ts (v ++ x) → Split mode us v x
AreEncodings-split mode no_trees ts v x h k = record { left = ts; front = h; back = subst (λ z. AreEncodings mode ts (z ++ x)) h k }
AreEncodings-split mode (u ∷ₜ us) no_trees v x h k =
    absurd (let two = two_octets Ber u h.0 h.2 in omega (arith, ap length h.4, length-append h.0 h.1, ap length k, length-append v x))
AreEncodings-split mode (u ∷ₜ us) (t ∷ₜ ts) v x h k =
    let e : h.0 ++ (h.1 ++ x) ≡ k.0 ++ k.1 = sym (append_assoc h.0 h.1 x) ∙ ap (λ z. z ++ x) (sym h.4) ∙ k.4 in
    let s = one_encoding Ber u t h.0 k.0 (h.1 ++ x) k.1 h.2 (IsEncoding-in_ber mode t k.0 k.2) e in
    let r = AreEncodings-split mode us ts h.1 x h.3 (subst (λ z. AreEncodings mode ts z) (sym s.rest) k.3) in
    let f : IsEncoding mode u h.0 = subst (λ w. IsEncoding mode u w) (sym s.front) (subst (λ z. IsEncoding mode z k.0) (sym s.tree) k.2) in
    record { left = r.left; front = (h.0, h.1, f, r.front, h.4); back = r.back }

label_in_ber : (m : Mode) (b : Bool) (ts : Trees) (w : List ℕ) → AreEncodings (label m b) ts w → AreEncodings Ber ts w
label_in_ber m false ts w h = AreEncodings-in_ber m ts w h
label_in_ber m true ts w h = h

-- ---- what a closure left of kept values

-- content whose end no marker tells was closed by none
closed_by_none : (m : Mode) (i j : Reading) (e : List ℕ) → i.kind ≡ values kind.Unbounded → Closes m i e j → e ≡ []
closed_by_none m i j e k (inl h) = h.0
closed_by_none m i j e k (inr h) = absurd (let x : values kind.Unbounded ≡ values kind.Indefinite = sym k ∙ h.1 in cc)

unbounded_values : (i : Reading) → i.kind ≡ values kind.Unbounded → i.kind ≢ Octets
unbounded_values i k e = (let x : values kind.Unbounded ≡ Octets = sym k ∙ e in cc)

-- the values whose octets were passed, and those that are left
pub record Parts (mode : Mode) (w x : List ℕ) : Type 0 where
  pub passed : Trees
  pub left : Trees
  pub octets : List ℕ
  pub split : w ≡ octets ++ x
  pub front : AreEncodings mode passed octets
  pub back : AreEncodings mode left x

parts_of : (m : Mode) (i j : Reading) (w x p : List ℕ) → i.kind ≡ values kind.Unbounded → AreWhole m w → w ≡ p ++ x → Whole (label m j.marked) i p j → Parts m w x
parts_of m i j w x p k a e h =
    let n : p ≡ h.values = h.split ∙ ap (λ z. h.values ++ z) (closed_by_none _ i j h.close k h.closes) ∙ append-nil h.values in
    let b : AreEncodings Ber h.trees p = subst (λ z. AreEncodings Ber h.trees z) (sym n) (label_in_ber m j.marked h.trees h.values h.encodes) in
    let s = AreEncodings-split m h.trees a.values p x b (subst (λ z. AreEncodings m a.values z) e a.encode) in
    record { passed = h.trees; left = s.left; octets = p; split = e; front = s.front; back = s.back }

pub parts : (s s' : Stream) (m : Mode) (i j : Reading) → HandsAll s m i j s' → j.state ≢ Failed → AreWhole m s.rest → Parts m s.rest s'.rest
unfolding Moves
parts s s' m i j h u a =
    let e : s.rest ≡ h.moves.passed ++ s'.rest =
    ap (λ (x : Stream). x.rest) (sym h.over.stream) ∙ h.moves.rest ∙ ap (λ (x : Stream). h.moves.passed ++ x.rest) h.leaves in
    let w : Whole (label i.mode j.marked) i h.moves.passed j = h.moves.whole u (unbounded_values i h.over.kind) in
    parts_of m i j s.rest s'.rest h.moves.passed h.over.kind a e (subst (λ z. Whole (label z j.marked) i h.moves.passed j) h.over.mode w)

-- a source over octets at a position is that of what is kept
pub same_stream : (c : Kept) (w : List ℕ) (p : ℕ) → w ≡ c.octets → p ≡ c.start
    → ◌≡◌ {A = Stream} (record { rest = w; avail = length w; faults = 0; position = p; kept = [] }) (kept_stream c)
same_stream c w p e f =
    ap (λ (x : List ℕ). let s : Stream = record { rest = x; avail = length x; faults = 0; position = p; kept = [] } in s) e
    ∙ ap (λ (x : ℕ). let s : Stream = record { rest = c.octets; avail = length c.octets; faults = 0; position = x; kept = [] } in s) f

module _ {S T X : Type 0} (stream : S → Stream) (post : MutBor (Constructed (MutBor S)) → Result T (DecodeError X) → MutBor (Constructed (MutBor S)) → Type 0)
    (c : Kept) (m : Mode) (x : T) (s s' : Stream) (name : ℕ) (here : s ≡ kept_stream c) (is_mode : m ≡ c.mode) (whole : AreWhole c.mode c.octets) where
  decoded_parts : Decodes (of_constructed (lent stream)) post (borrowed name s) m x (borrowed name s') → Parts c.mode c.octets s'.rest
  decoded_parts h =
      let a : AreWhole m s.rest = rw (is_mode, here) whole in
      let p : Parts m s.rest s'.rest = parts (borrowed name s) (borrowed name s') m h.handed h.left (record { over = h.over; leaves = h.leaves; moves = h.moves }) h.usable a in
      subst (λ w. Parts c.mode w s'.rest) (ap (λ (y : Stream). y.rest) here) (subst (λ n. Parts n s.rest s'.rest) is_mode p)

  -- what is left is whole
  pub left_whole : (w : List ℕ) → s'.rest ≡ w → Decodes (of_constructed (lent stream)) post (borrowed name s) m x (borrowed name s') → AreWhole c.mode w
  left_whole w e h = let p = decoded_parts h in record { values = p.left; encode = subst (λ z. AreEncodings c.mode p.left z) e p.back }

  pub front_decoded : (d : Kept) → s' ≡ kept_stream d → d.mode ≡ c.mode → Decodes (of_constructed (lent stream)) post (borrowed name s) m x (borrowed name s')
      → DecodesFront stream post c x d
  front_decoded d e k h =
      let p : Parts c.mode c.octets d.octets = subst (λ w. Parts c.mode c.octets w) (ap (λ (y : Stream). y.rest) e) (decoded_parts h) in
      record {
        name = name;
        decodes = subst (λ z. Decodes (of_constructed (lent stream)) post (borrowed name (kept_stream c)) c.mode x (borrowed name z)) e
            (subst (λ z. Decodes (of_constructed (lent stream)) post (borrowed name z) c.mode x (borrowed name s')) here
            (subst (λ z. Decodes (of_constructed (lent stream)) post (borrowed name s) z x (borrowed name s')) is_mode h));
        mode = k;
        passed = p.passed;
        left = p.left;
        octets = p.octets;
        split = p.split;
        front = p.front;
        back = p.back;
      }

-- what was refused of a source over kept octets
pub refused_at : {S T X : Type 0} (stream : S → Stream)
    (post : MutBor (Constructed (MutBor S)) → Result T (DecodeError X) → MutBor (Constructed (MutBor S)) → Type 0) (c : Kept) (e : DecodeError X)
    (s s' : Stream) → s ≡ kept_stream c → (name : ℕ) (m : Mode)
    → RefusesDecode cause_of (of_constructed (lent stream)) post (borrowed name s) m e (borrowed name s') → m ≡ c.mode → RefusesKept stream post c e
refused_at stream post c e s s' here name m h i =
    by_decode name s' (subst (λ z. RefusesDecode cause_of (of_constructed (lent stream)) post (borrowed name (kept_stream c)) z e (borrowed name s')) i
    (subst (λ z. RefusesDecode cause_of (of_constructed (lent stream)) post (borrowed name z) m e (borrowed name s')) here h))
