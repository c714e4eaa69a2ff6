-- Values that may be left out, and then are the default, by values that may be left out.
use Rattle.std.proofs.Common.{◌≡◌, ◌≢◌, Bool, true, ◌||◌, Option, Some, None, refl, sym, ◌∙◌, subst, inl, inr}
use Rattle.std.specs.Prelude.{Ok, Err}
use Rattle.bcder.specs.declared.mode.Mode.{Mode}
use Rattle.bcder.specs.declared.mode.Mode.TheVariants.{Ber}
use Rattle.bcder.specs.declared.decode.error.DecodeError.{DecodeError}
use Rattle.bcder.specs.x690.Identifier.{Tag}
use Rattle.bcder.specs.x690.Tree.{Tree, Trees}
use Rattle.bcder.specs.x690.Encoding.{AreEncodings}
use Rattle.bcder.specs.calls.Cause.{cause_of, of_memory, IsRefusal}
use Rattle.bcder.specs.calls.Content.{Reading}
use Rattle.asn1.specs.Types.{IsMember, BeginWithout, IsOptional, TakesFields, HoldsNoFields, RefusesFields, ReadsFields}
use Rattle.asn1.specs.Types as types
use Rattle.asn1.specs.Defaults.{IsDefaulted}
use Rattle.asn1.specs.Keys.{MeansOne, TakeOne, LeaveEncodings, AreTakenOnce}
use Rattle.asn1.proofs.Lacking.{first_lacks, second_lacks}
use Rattle.asn1.proofs.Members.{begins}
use Rattle.asn1.proofs.Ones.{Once, one_member, member_left, member_once}
use Rattle.asn1.proofs.Reading.{held_once}

module _ {T K : Type 0} (mode : Mode) (Tags : Tag → Type 0) (Means : Tree → T → Type 0) (key : T → K) (default : K) where
  as_optional : (ts us : Trees) (y : T) → IsDefaulted mode Tags Means key default ts y us → (o : Option T) × IsOptional Tags Means ts o us
  as_optional ts us y (inl g) = (Some y, g.0)
  as_optional ts us y (inr g) = (None, (g.0, g.1.0))

  module _ {V : Type 0} (view : V → T) (c d : Reading) where
    abbrev Takes : Trees → V → Trees → Type 0
    Takes ts x us = IsDefaulted mode Tags Means key default ts (view x) us

    given : (x : V) → TakesFields (IsOptional Tags Means) c (Some (view x)) d → (mode ≢ Ber → key (view x) ≢ default) → TakesFields Takes c x d
    given x f n = record {
      before = λ us k. let b = f.before us k in (b.0, b.1, inl (b.2, n));
      behind = λ ts us y k g. let o = as_optional ts us (view y) g in f.behind ts us o.0 k o.1;
    }

    left_out : (x : V) → TakesFields (IsOptional Tags Means) c None d → key (view x) ≡ default → TakesFields Takes c x d
    left_out x f is = record {
      before = λ us k. let b = f.before us k in (b.0, b.1, inr (b.2.0, (b.2.1, is)));
      behind = λ ts us y k g. let o = as_optional ts us (view y) g in f.behind ts us o.0 k o.1;
    }

    written_default : MeansOne Means key → mode ≢ Ber → (x : T) → TakesFields (IsOptional Tags Means) c (Some x) d → key x ≡ default → HoldsNoFields Takes c
    written_default one ne x f is ts us y k (inl g) =
        let b = f.before us (f.behind ts us (Some (view y)) k g.0) in
        let m : IsMember Tags Means ts x us = subst (λ z. IsMember Tags Means z x us) (held_once c b.0 ts b.1 k) b.2 in
        g.1 ne ((one_member Tags Means key one ts us us (view y) x g.0 m).0 ∙ is)
    written_default one ne x f is ts us y k (inr g) =
        let b = f.before us (f.behind ts us None k (g.0, g.1.0)) in
        begins Tags Means ts us x (subst (λ z. IsMember Tags Means z x us) (held_once c b.0 ts b.1 k) b.2) g.0

    -- memory may run out for the value, or for the default
    module _ (l m : Bool) {X : Type 0} where
      refused : (e : DecodeError X) → RefusesFields (IsOptional Tags Means) l c e d → RefusesFields Takes (l || m) c e d
      refused e (types.RefusesFields.source s g) = types.RefusesFields.source s g
      refused e (types.RefusesFields.memory s h) = types.RefusesFields.memory s (first_lacks l m h)
      refused e (types.RefusesFields.broken n a) = types.RefusesFields.broken (λ ts us y k g. let o = as_optional ts us (view y) g in n ts us o.0 k o.1) a

      pub reads_given : (x : V) → ReadsFields (IsOptional Tags Means) l {X = X} c (Ok (Some (view x))) d → (mode ≢ Ber → key (view x) ≢ default)
          → ReadsFields Takes (l || m) {X = X} c (Ok x) d
      reads_given x r n = record { value = given x r.value n; no_fault = r.no_fault; refused = tt; mode = r.mode; marked = r.marked }

      pub reads_left_out : (x : V) → ReadsFields (IsOptional Tags Means) l {X = X} c (Ok None) d → key (view x) ≡ default
          → ReadsFields Takes (l || m) {X = X} c (Ok x) d
      reads_left_out x r is = record { value = left_out x r.value is; no_fault = r.no_fault; refused = tt; mode = r.mode; marked = r.marked }

      pub refuses_default : MeansOne Means key → mode ≢ Ber → (x : T) → ReadsFields (IsOptional Tags Means) l {X = X} c (Ok (Some x)) d → key x ≡ default
          → (e : DecodeError X) → IsRefusal e → ReadsFields Takes (l || m) c (Err e) d
      refuses_default one ne x r is e a = record {
        value = tt;
        no_fault = tt;
        refused = types.RefusesFields.broken (written_default one ne x r.value is) a;
        mode = r.mode;
        marked = r.marked;
      }

      pub no_memory : {o : Option T} → ReadsFields (IsOptional Tags Means) l {X = X} c (Ok o) d → (e : DecodeError X) → cause_of e ≡ of_memory
          → m ≡ true → ReadsFields Takes (l || m) c (Err e) d
      no_memory r e a h = record { value = tt; no_fault = tt; refused = types.RefusesFields.memory a (second_lacks l m h); mode = r.mode; marked = r.marked }

      pub refuses_defaulted : (e : DecodeError X) → ReadsFields (IsOptional Tags Means) l c (Err e) d → ReadsFields Takes (l || m) c (Err e) d
      refuses_defaulted e r = record { value = tt; no_fault = tt; refused = refused e r.refused; mode = r.mode; marked = r.marked }

  -- ---- laws

  pub one_default : MeansOne Means key → TakeOne (IsDefaulted mode Tags Means key default) key
  one_default one ts us vs x y (inl g) (inl h) = one_member Tags Means key one ts us vs x y g.0 h.0
  one_default one ts us vs x y (inl g) (inr h) = absurd (begins Tags Means ts us x g.0 h.0)
  one_default one ts us vs x y (inr g) (inl h) = absurd (begins Tags Means ts vs y h.0 g.0)
  one_default one ts us vs x y (inr g) (inr h) = (g.1.1 ∙ sym h.1.1, g.1.0 ∙ sym h.1.0)

  pub default_left : LeaveEncodings mode (IsDefaulted mode Tags Means key default)
  default_left ts us x v e (inl g) = member_left Tags Means key mode ts us x v e g.0
  default_left ts us x v e (inr g) = (v, subst (λ z. AreEncodings mode z v) (sym g.1.0) e)

  pub default_once : mode ≢ Ber → Once Tags Means key mode → AreTakenOnce mode (IsDefaulted mode Tags Means key default) key
  default_once ne once ts us vs x y v w d e (inl g) (inl h) q = member_once Tags Means key mode once ts us vs vs x y v w d e g.0 h.0 q refl
  default_once ne once ts us vs x y v w d e (inl g) (inr h) q = absurd (g.1 ne (q ∙ h.1.1))
  default_once ne once ts us vs x y v w d e (inr g) (inl h) q = absurd (h.1 ne (sym q ∙ g.1.1))
  default_once ne once ts us vs x y v w d e (inr g) (inr h) q = sym g.1.0 ∙ h.1.0
