-- Fields behind one another.
use Rattle.std.proofs.Common.{◌≡◌, Bool, ◌||◌, refl, ◌∙◌, subst}
use Rattle.std.specs.Prelude.{Ok, Err}
use Rattle.bcder.specs.declared.mode.Mode.{Mode}
use Rattle.bcder.specs.declared.decode.error.DecodeError.{DecodeError}
use Rattle.bcder.specs.x690.Tree.{Trees}
use Rattle.bcder.specs.calls.Content.{Reading}
use Rattle.bcder.proofs.Lemmas.{as_many_are_no_fewer, grew_in_between}
use Rattle.asn1.specs.Types.{Pair, TakesFields, HoldsNoFields, RefusesFields, ReadsFields}
use Rattle.asn1.specs.Types as types
use Rattle.asn1.proofs.Lacking.{first_lacks, second_lacks}

module _ {A B : Type 0} (P : Trees → A → Trees → Type 0) (Q : Trees → B → Trees → Type 0) (l m : Bool) (c d : Reading) where
  both_taken : (e : Reading) (a : A) (b : B) → TakesFields P c a d → TakesFields Q d b e → TakesFields (Pair P Q) c (a, b) e
  both_taken e a b p q = record {
    before = λ us k. let s = q.before us k in let f = p.before s.0 s.1 in (f.0, f.1, record { between = s.0; first = f.2; second = s.2 });
    behind = λ ts us y k g. q.behind g.between us y.1 (p.behind ts g.between y.0 k g.first) g.second;
  }

  first_refused : {X : Type 0} (e : DecodeError X) → RefusesFields P l c e d → RefusesFields (Pair P Q) (l || m) c e d
  first_refused e (types.RefusesFields.source s g) = types.RefusesFields.source s g
  first_refused e (types.RefusesFields.memory s h) = types.RefusesFields.memory s (first_lacks l m h)
  first_refused e (types.RefusesFields.broken n a) = types.RefusesFields.broken (λ ts us y k g. n ts g.between y.0 k g.first) a

  second_refused : {X : Type 0} (f : Reading) (e : DecodeError X) (a : A) → TakesFields P c a d → d.stream.faults ≡ c.stream.faults → RefusesFields Q m d e f
      → RefusesFields (Pair P Q) (l || m) c e f
  second_refused f e a p n (types.RefusesFields.source s g) = types.RefusesFields.source s (grew_in_between _ _ _ _ (as_many_are_no_fewer _ _ n) g refl)
  second_refused f e a p n (types.RefusesFields.memory s h) = types.RefusesFields.memory s (second_lacks l m h)
  second_refused f e a p n (types.RefusesFields.broken k z) =
      types.RefusesFields.broken (λ ts us y h g. k g.between us y.1 (p.behind ts g.between y.0 h g.first) g.second) z

module _ {A B X : Type 0} (P : Mode → Trees → A → Trees → Type 0) (Q : Mode → Trees → B → Trees → Type 0) (l m : Bool) (c d : Reading) where
  pub reads_both : (e : Reading) (a : A) (b : B) → ReadsFields (P c.mode) l {X = X} c (Ok a) d → ReadsFields (Q d.mode) m {X = X} d (Ok b) e
      → ReadsFields (Pair (P c.mode) (Q c.mode)) (l || m) {X = X} c (Ok (a, b)) e
  reads_both e a b p q = record {
    value = both_taken (P c.mode) (Q c.mode) l m c d e a b p.value (subst (λ z. TakesFields (Q z) d b e) p.mode q.value);
    no_fault = q.no_fault ∙ p.no_fault;
    refused = tt;
    mode = q.mode ∙ p.mode;
    marked = q.marked ∙ p.marked;
  }

  pub refuses_first : (e : DecodeError X) → ReadsFields (P c.mode) l c (Err e) d → ReadsFields (Pair (P c.mode) (Q c.mode)) (l || m) c (Err e) d
  refuses_first e p = record { value = tt; no_fault = tt; refused = first_refused (P c.mode) (Q c.mode) l m c d e p.refused; mode = p.mode; marked = p.marked }

  pub refuses_second : (f : Reading) (e : DecodeError X) (a : A) → ReadsFields (P c.mode) l {X = X} c (Ok a) d → ReadsFields (Q d.mode) m d (Err e) f
      → ReadsFields (Pair (P c.mode) (Q c.mode)) (l || m) c (Err e) f
  refuses_second f e a p q = record {
    value = tt;
    no_fault = tt;
    refused = second_refused (P c.mode) (Q c.mode) l m c d f e a p.value p.no_fault (subst (λ z. RefusesFields (Q z) m d e f) p.mode q.refused);
    mode = q.mode ∙ p.mode;
    marked = q.marked ∙ p.marked;
  }

-- ---- what something is seen as

module _ {A V X : Type 0} {lacks : Bool} (P : Trees → A → Trees → Type 0) (view : V → A) (c d : Reading) where
  pub reads_seen : (x : V) → ReadsFields P lacks {X = X} c (Ok (view x)) d
      → ReadsFields (λ (ts : Trees) (y : V) (us : Trees). P ts (view y) us) lacks {X = X} c (Ok x) d
  reads_seen x r =
      let f : TakesFields P c (view x) d = r.value in
      record {
        value = record { before = f.before; behind = λ ts us y k g. f.behind ts us (view y) k g };
        no_fault = r.no_fault;
        refused = tt;
        mode = r.mode;
        marked = r.marked;
      }

  refused_seen : (e : DecodeError X) → RefusesFields P lacks c e d → RefusesFields (λ (ts : Trees) (y : V) (us : Trees). P ts (view y) us) lacks c e d
  refused_seen e (types.RefusesFields.source s g) = types.RefusesFields.source s g
  refused_seen e (types.RefusesFields.memory s l) = types.RefusesFields.memory s l
  refused_seen e (types.RefusesFields.broken n a) = types.RefusesFields.broken (λ ts us y k g. n ts us (view y) k g) a

  pub refuses_seen : (e : DecodeError X) → ReadsFields P lacks c (Err e) d
      → ReadsFields (λ (ts : Trees) (y : V) (us : Trees). P ts (view y) us) lacks c (Err e) d
  refuses_seen e r = record { value = tt; no_fault = tt; refused = refused_seen e r.refused; mode = r.mode; marked = r.marked }
