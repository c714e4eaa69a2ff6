-- Octets that are asked for at the source of primitive content, and passed.
use Rattle.std.proofs.Common.{◌≡◌, ℕ, ◌-◌, ◌≤◌, length, take, drop, Option, Some, refl, ap, sym, ◌∙◌, arith, subst}
use Rattle.bcder.specs.declared.decode.content.State.TheVariants.{Open}
use Rattle.bcder.specs.calls.Stream.{Stream, IsSound, cut, past, limited}
use Rattle.bcder.specs.calls.Content.{Reading, Octets, Moves, Resembles}
use Rattle.bcder.specs.steps.Entering.{Advances}
use Rattle.bcder.specs.laws.Limits.{limit_told, limit_told_after, first_kept}
use Rattle.bcder.specs.laws.Moved.{moved_twice_is_moved}
use Rattle.bcder.proofs.Moving.{moves_octets}
use Rattle.bcder.proofs.Entering.{advances_by, looked_moves}

-- the limit stays where octets are only asked for
pub limit_stays : (o p : Option ℕ) (s t : Stream) → (limited p t).rest ≡ (limited o s).rest → (limited p t).kept ≡ (limited o s).kept → p ≡ o
limit_stays o p s t r k = limit_told o p s.rest t.rest r (first_kept k)

-- and falls to 0 where all are passed
pub limit_used : (o : Option ℕ) (p : Option ℕ) (n : ℕ) (s t : Stream) → o ≡ Some n → (limited p t).rest ≡ drop n (limited o s).rest
    → (limited p t).kept ≡ (limited o s).kept → n ≤ length (limited o s).rest → p ≡ Some 0
limit_used o p n s t e r k l =
    limit_told_after n p s.rest t.rest n (subst (λ z. cut p t.rest ≡ drop n (cut z s.rest)) e r) (subst (λ z. n ≤ length (cut z s.rest)) e l)
    (subst (λ z. past p t.rest ≡ past z s.rest) e (first_kept k))
    ∙ ap Some (let x : n - n ≡ 0 = omega arith in x)

module _ (c d : Reading) (s t : Stream) (o p : Option ℕ) (cs : c.stream ≡ limited o s) (co : c.owed ≡ o) (ds : d.stream ≡ limited p t) (do' : d.owed ≡ p) where
  asked_resembles : (limited p t).rest ≡ (limited o s).rest → (limited p t).kept ≡ (limited o s).kept → d.kind ≡ c.kind → d.state ≡ c.state → d.mode ≡ c.mode
      → d.marked ≡ c.marked → d.name ≡ c.name → Resembles c d
  asked_resembles r k ki st mo ma na = record {
    rest = ap (λ x. x.rest) ds ∙ r ∙ ap (λ x. x.rest) (sym cs);
    kept = ap (λ x. x.kept) ds ∙ k ∙ ap (λ x. x.kept) (sym cs);
    owed = do' ∙ limit_stays o p s t r k ∙ sym co;
    kind = ki;
    state = st;
    mode = mo;
    marked = ma;
    name = na;
  }

  -- octets were asked for
  pub asked_moves : (limited p t).rest ≡ (limited o s).rest → (limited p t).kept ≡ (limited o s).kept → s.faults ≤ t.faults → d.kind ≡ c.kind
      → d.state ≡ c.state → d.mode ≡ c.mode → d.marked ≡ c.marked → d.name ≡ c.name → Moves c d
  asked_moves r k f ki st mo ma na = looked_moves c d (asked_resembles r k ki st mo ma na) (omega (arith, f, ap (λ x. x.faults) cs, ap (λ x. x.faults) ds))

-- content c over another stream
over : Reading → Stream → Option ℕ → Reading
over c s o = record { stream = s; owed = o; kind = c.kind; state = c.state; mode = c.mode; marked = c.marked; name = c.name }

-- octets were asked for, and then passed
pub passed_moves : (c d : Reading) (s t u : Stream) (o p q : Option ℕ) (n : ℕ) → c.stream ≡ limited o s → c.owed ≡ o → d.stream ≡ limited q u → d.owed ≡ q
    → IsSound t → (limited p t).rest ≡ (limited o s).rest → (limited p t).kept ≡ (limited o s).kept → s.faults ≤ t.faults → n ≤ (limited p t).avail
    → (limited q u).rest ≡ drop n (limited p t).rest → (limited q u).kept ≡ (limited p t).kept → u.faults ≡ t.faults → c.kind ≡ Octets → c.state ≡ Open
    → d.kind ≡ c.kind → d.state ≡ Open → d.mode ≡ c.mode → d.marked ≡ c.marked → d.name ≡ c.name → Moves c d
unfolding over
passed_moves c d s t u o p q n cs co ds do' so r k f a r' k' f' oc op ki st mo ma na =
    let m = over c (limited p t) p in
    let x : Advances m d (take n m.stream.rest) = advances_by m d t u p q n refl refl ds do' so r' f' k' a ki mo na in
    moved_twice_is_moved c m d (asked_moves c m s t o p cs co refl refl r k f refl refl refl refl refl) (moves_octets m d (take n m.stream.rest) x ma oc op st)
