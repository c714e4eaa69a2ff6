-- Contents octets that are taken one by one, or a number of them.
use Rattle.std.proofs.Common.{◌≡◌, ℕ, ◌≤◌, List, [], ◌∷◌, length, take, drop, min, Option, Some, None, refl, ap, sym, ◌∙◌, arith, subst}
use Rattle.std.specs.Prelude.{Result, Ok, Err, IfOk, IfErr, OnOk, OnErr, MatchOption}
use Rattle.std.proofs.lemmas.List.{length-take-le}
use Rattle.std.proofs.lemmas.Grind.{common_steps}
use Rattle.bcder.specs.declared.decode.content.State.TheVariants.{Open}
use Rattle.bcder.specs.declared.decode.error.DecodeError.{DecodeError}
use Rattle.bcder.specs.calls.Cause.{cause_of, MatchCause, IsRefusal}
use Rattle.bcder.specs.calls.Stream.{Stream, IsSound, Grew, cut, capped, limited}
use Rattle.bcder.specs.calls.Content.{Reading, Octets, Falls, Moves}
use Rattle.bcder.specs.steps.Entering.{Advances}
use Rattle.bcder.specs.calls.Readers.{TakesNextOctet, TakesOctet, SkipsOctets}
use Rattle.bcder.proofs.Moving.{moves_octets}
use Rattle.bcder.proofs.Entering.{advances_by, no_fewer, grew_least}
use Rattle.bcder.proofs.Remaining.{limit_stays, asked_moves}

-- a limit caps what is left in the same way as what is at hand
capped_all : (o : Option ℕ) (n : ℕ) (xs : List ℕ) → n ≤ length (cut o xs) → n ≤ capped o (length xs)
capped_all None n xs h = h
capped_all (Some m) n xs h = grind (arith, common_steps)

-- source s with all of its octets at hand
abbrev all_at_hand : Stream → Stream
all_at_hand s = record { rest = s.rest; avail = length s.rest; faults = s.faults; position = s.position; kept = s.kept }

all_sound : (s : Stream) → IsSound s → IsSound (all_at_hand s)
all_sound s h = record { octets = h.octets; size = h.size; at_hand = omega arith }

-- content c over all octets of a source
abbrev with_all : Reading → Stream → Option ℕ → Reading
with_all c s o = record { stream = limited o (all_at_hand s); owed = o; kind = c.kind; state = c.state; mode = c.mode; marked = c.marked; name = c.name }

module _ (c d : Reading) (s u : Stream) (o q : Option ℕ) (cs : c.stream ≡ limited o s) (co : c.owed ≡ o) (ds : d.stream ≡ limited q u) (do' : d.owed ≡ q)
    (so : IsSound s) (k : (limited q u).kept ≡ (limited o s).kept) (oc : c.kind ≡ Octets) (op : c.state ≡ Open) (ki : d.kind ≡ c.kind) (st : d.state ≡ Open)
    (mo : d.mode ≡ c.mode) (ma : d.marked ≡ c.marked) (na : d.name ≡ c.name) where
  module _ (n : ℕ) (r : (limited q u).rest ≡ drop n (limited o s).rest) (l : n ≤ length (limited o s).rest) (f : u.faults ≡ s.faults) where
    advanced : Advances (with_all c s o) d (take n (limited o s).rest)
    advanced = advances_by (with_all c s o) d (all_at_hand s) u o q n refl refl ds do' (all_sound s so) r f k (capped_all o n s.rest l) ki mo na

    advances : Advances c d (take n (limited o s).rest)
    advances = record {
      rest = ap (λ x. x.rest) cs ∙ advanced.rest;
      owed = subst (λ z. Falls z (length (take n (limited o s).rest)) d.owed) (sym co) advanced.owed;
      kept = advanced.kept ∙ ap (λ x. x.kept) (sym cs);
      faults = omega (arith, advanced.faults, ap (λ x. x.faults) cs);
      kind = ki;
      mode = mo;
      name = na;
    }

    passed : Moves c d
    passed = moves_octets c d (take n (limited o s).rest) advances ma oc op st

    falls : Falls c.owed n d.owed
    falls = subst (λ z. Falls c.owed z d.owed) (length-take-le n (limited o s).rest l) advances.owed

  same_faults : u.faults ≡ s.faults → d.stream.faults ≡ c.stream.faults
  same_faults f = ap (λ x. x.faults) ds ∙ f ∙ ap (λ x. x.faults) (sym cs)

  same_rest : (limited q u).rest ≡ (limited o s).rest → d.stream.rest ≡ c.stream.rest
  same_rest r = ap (λ x. x.rest) ds ∙ r ∙ ap (λ x. x.rest) (sym cs)

  same_owed : (limited q u).rest ≡ (limited o s).rest → d.owed ≡ c.owed
  same_owed r = do' ∙ limit_stays o q s u r k ∙ sym co

  more_faults : Grew s.faults u.faults → Grew c.stream.faults d.stream.faults
  more_faults g = subst (λ x. Grew x d.stream.faults) (ap (λ x. x.faults) (sym cs)) (subst (λ x. Grew s.faults x) (ap (λ x. x.faults) (sym ds)) g)

  -- nothing was taken
  stayed : (limited q u).rest ≡ (limited o s).rest → s.faults ≤ u.faults → Moves c d
  stayed r f = asked_moves c d s u o q cs co ds do' r k f ki (st ∙ sym op) mo ma na

  -- ---- what the calls of the source say of the content

  pub next_octet : {E : Type 0} (r : Result (Option ℕ) E)
      → IfOk r (λ x. MatchOption x (((limited o s).rest ≡ []) × ((limited q u).rest ≡ [])) (λ b. (limited o s).rest ≡ b ∷ (limited q u).rest))
      → OnOk r (u.faults ≡ s.faults) → OnErr r (Grew s.faults u.faults) → OnErr r ((limited q u).rest ≡ (limited o s).rest) → Moves c d × TakesNextOctet c r d
  next_octet (Ok (Some b)) e f g r =
      let a : (limited q u).rest ≡ drop 1 (limited o s).rest = sym (ap (drop 1) e) in
      let l : 1 ≤ length (limited o s).rest = (let h = ap length e in omega arith) in (
        passed 1 a l f,
        record {
          value = (ap (λ x. x.rest) cs ∙ e ∙ ap (λ x. b ∷ x.rest) (sym ds), falls 1 a l f);
          no_fault = same_faults f;
          refused = tt;
          mode = mo;
          marked = ma;
        },
      )
  next_octet (Ok None) e f g r =
      let a : (limited q u).rest ≡ (limited o s).rest = e.1 ∙ sym e.0 in (
        stayed a (no_fewer _ _ f),
        record {
          value = (ap (λ x. x.rest) cs ∙ e.0, (same_rest a, same_owed a));
          no_fault = same_faults f;
          refused = tt;
          mode = mo;
          marked = ma;
        },
      )
  next_octet (Err x) e f g r = (
    stayed r (grew_least _ _ g),
    record {
      value = tt;
      no_fault = tt;
      refused = (more_faults g, (same_rest r, same_owed r));
      mode = mo;
      marked = ma;
    },
  )

  pub one_octet : {X : Type 0} (r : Result ℕ (DecodeError X)) → IfOk r (λ b. (limited o s).rest ≡ b ∷ (limited q u).rest) → OnOk r (u.faults ≡ s.faults)
      → IfErr r (λ e. MatchCause (cause_of e) (Grew s.faults u.faults) ((u.faults ≡ s.faults) × ((limited o s).rest ≡ []) × IsRefusal e) ⊥)
      → s.faults ≤ u.faults → OnErr r ((limited q u).rest ≡ (limited o s).rest) → Moves c d × TakesOctet c r d
  one_octet (Ok b) e f g h r =
      let a : (limited q u).rest ≡ drop 1 (limited o s).rest = sym (ap (drop 1) e) in
      let l : 1 ≤ length (limited o s).rest = (let h = ap length e in omega arith) in (
        passed 1 a l f,
        record {
          value = (ap (λ x. x.rest) cs ∙ e ∙ ap (λ x. b ∷ x.rest) (sym ds), falls 1 a l f);
          no_fault = same_faults f;
          refused = tt;
          mode = mo;
          marked = ma;
        },
      )
  one_octet (Err x) e f g h r = (
    stayed r h,
    record {
      value = tt;
      no_fault = tt;
      refused = (
        subst (λ z. MatchCause (cause_of x) (Grew z.faults d.stream.faults) ((d.stream.faults ≡ z.faults) × (z.rest ≡ []) × IsRefusal x) ⊥) (sym cs)
            (subst (λ z. MatchCause (cause_of x) (Grew s.faults z.faults) ((z.faults ≡ s.faults) × ((limited o s).rest ≡ []) × IsRefusal x) ⊥) (sym ds) g),
        (same_rest r, same_owed r),
      );
      mode = mo;
      marked = ma;
    },
  )

  pub some_octets : {E : Type 0} (n : ℕ) (r : Result ℕ E) → IfOk r (λ j. j ≡ min n (length (limited o s).rest))
      → IfOk r (λ j. (limited q u).rest ≡ drop j (limited o s).rest) → OnOk r (u.faults ≡ s.faults) → OnErr r (Grew s.faults u.faults)
      → OnErr r ((limited q u).rest ≡ (limited o s).rest) → Moves c d × SkipsOctets n c r d
  some_octets n (Ok j) e a f g r =
      let l : j ≤ length (limited o s).rest = omega (arith, e) in (
        passed j a l f,
        record {
          value = (
            e ∙ ap (λ x. min n (length x.rest)) (sym cs),
            ap (λ x. x.rest) ds ∙ a ∙ ap (λ x. drop j x.rest) (sym cs),
            falls j a l f,
          );
          no_fault = same_faults f;
          refused = tt;
          mode = mo;
          marked = ma;
        },
      )
  some_octets n (Err x) e a f g r = (
    stayed r (grew_least _ _ g),
    record {
      value = tt;
      no_fault = tt;
      refused = (more_faults g, (same_rest r, same_owed r));
      mode = mo;
      marked = ma;
    },
  )
