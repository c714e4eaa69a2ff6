-- Readers for which memory may run out, or not.
use Rattle.std.proofs.Common.{◌≡◌, Bool, true, false, ◌||◌, Option, refl}
use Rattle.std.specs.Prelude.{Result, Ok, Err, IfErr}
use Rattle.bcder.specs.declared.decode.error.DecodeError.{DecodeError}
use Rattle.bcder.specs.x690.Identifier.{Tag}
use Rattle.bcder.specs.x690.Tree.{Tree, Trees}
use Rattle.bcder.specs.calls.Calls.{RefusesEnd, left_failed, source_failed, left_open}
use Rattle.bcder.specs.calls.Cause.{cause_of, of_memory}
use Rattle.bcder.specs.calls.Content.{Reading, Asked, NothingThere}
use Rattle.asn1.specs.Memory.{refusal_is_not, source_is_not}
use Rattle.asn1.specs.Types.{RefusesFields, RefusesTyped, TakesNextTyped}
use Rattle.bcder.specs.calls.Content.{Refuses}
use Rattle.bcder.specs.calls.Content as refusals
use Rattle.asn1.specs.Types as types

-- ---- of two

pub first_lacks : (l m : Bool) → l ≡ true → (l || m) ≡ true
first_lacks true m h = refl
first_lacks false m h = cc

pub second_lacks : (l m : Bool) → m ≡ true → (l || m) ≡ true
second_lacks true m h = refl
second_lacks false m h = h

-- ---- errors that are not out of memory

module _ {X : Type 0} (e : DecodeError X) (s : cause_of e ≡ of_memory) where
  pub header_is_not : {asked : Asked} {c d : Reading} → Refuses cause_of asked (NothingThere asked) ⊥ c e d → ⊥
  header_is_not (refusals.Refuses.failed q a) = refusal_is_not e s a
  header_is_not (refusals.Refuses.source f g) = source_is_not e s f
  header_is_not (refusals.Refuses.nothing n a) = refusal_is_not e s a.refused
  header_is_not (refusals.Refuses.otherwise n) = absurd n

  pub end_is_not : {c d : Reading} → RefusesEnd cause_of c e d → ⊥
  end_is_not (left_failed q a) = refusal_is_not e s a
  end_is_not (source_failed f g) = source_is_not e s f
  end_is_not (left_open n a) = refusal_is_not e s a

  -- where fields were refused so, it may have run out for them
  pub fields_lack : {T : Type 0} {Takes : Trees → T → Trees → Type 0} {lacks : Bool} {c d : Reading} → RefusesFields Takes lacks c e d → lacks ≡ true
  fields_lack (types.RefusesFields.source f g) = absurd (source_is_not e s f)
  fields_lack (types.RefusesFields.memory f l) = l
  fields_lack (types.RefusesFields.broken n a) = absurd (refusal_is_not e s a)

-- ---- the same reader, where memory runs out only if it may

module _ {T X : Type 0} {lacks : Bool} (Tags : Tag → Type 0) (Means : Tree → T → Type 0) (may : Bool) (c d : Reading) where
  may_refuse : (e : DecodeError X) → (cause_of e ≡ of_memory → lacks ≡ true → may ≡ true) → RefusesTyped Tags Means lacks c e d
      → RefusesTyped Tags Means may c e d
  may_refuse e f (types.RefusesTyped.failed s a) = types.RefusesTyped.failed s a
  may_refuse e f (types.RefusesTyped.source s g) = types.RefusesTyped.source s g
  may_refuse e f (types.RefusesTyped.memory s l h) = types.RefusesTyped.memory s (f s l) h
  may_refuse e f (types.RefusesTyped.broken n a) = types.RefusesTyped.broken n a

  pub next_may : (r : Result (Option T) (DecodeError X)) → IfErr r (λ e. cause_of e ≡ of_memory → lacks ≡ true → may ≡ true)
      → TakesNextTyped Tags Means lacks c r d → TakesNextTyped Tags Means may c r d
  next_may (Ok o) f n = record { value = n.value; none = n.none; no_fault = n.no_fault; refused = tt; failed = tt; mode = n.mode; marked = n.marked }
  next_may (Err e) f n = record {
    value = tt;
    none = tt;
    no_fault = tt;
    refused = may_refuse e f n.refused;
    failed = n.failed;
    mode = n.mode;
    marked = n.marked;
  }
