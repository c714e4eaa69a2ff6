-- Readers that never run out of memory.
use Rattle.std.proofs.Common.{◌≡◌, ◌≢◌, Bool, true, false, Option, sym, ◌∙◌, subst}
use Rattle.std.specs.Prelude.{Result, Ok, Err, IfErr}
use Rattle.bcder.specs.declared.mode.Mode.{Mode}
use Rattle.bcder.specs.declared.decode.error.DecodeError.{DecodeError}
use Rattle.bcder.specs.x690.Identifier.{Tag}
use Rattle.bcder.specs.x690.Tree.{Tree}
use Rattle.bcder.specs.calls.Cause.{cause_of, of_source, of_memory, IsOfContent, IsRefusal}
use Rattle.bcder.specs.calls.Content.{Reading}
use Rattle.bcder.specs.calls.Stream.{Stream}
use Rattle.asn1.specs.Decoded.{RefusesAll}
use Rattle.asn1.specs.Decoded as decoded
use Rattle.asn1.specs.Types.{RefusesTyped, TakesNextTyped}
use Rattle.asn1.specs.Types as types

-- errors that say something else than out of memory
module _ {X : Type 0} (e : DecodeError X) (s : cause_of e ≡ of_memory) where
  pub refusal_is_not : IsRefusal e → ⊥
  refusal_is_not a = subst IsOfContent s a

  pub source_is_not : cause_of e ≡ of_source → ⊥
  source_is_not f = (let x = sym f ∙ s in cc)

never_lacks : ◌≡◌ {A = Bool} false true → ⊥
never_lacks l = cc

-- if memory may not run out, no error of `decode` says that it did
refused_without : {T X : Type 0} (mode : Mode) (Tags : Tag → Type 0) (Means : Tree → T → Type 0) (s : Stream) (e : DecodeError X)
    → RefusesAll mode Tags Means false s e → cause_of e ≢ of_memory
refused_without mode Tags Means s e (decoded.RefusesAll.source later c g) = λ m. source_is_not e m c
refused_without mode Tags Means s e (decoded.RefusesAll.memory c l) = λ m. never_lacks l
refused_without mode Tags Means s e (decoded.RefusesAll.broken n a) = λ m. refusal_is_not e m a

pub decodes_without : {T X : Type 0} (mode : Mode) (Tags : Tag → Type 0) (Means : Tree → T → Type 0) (s : Stream)
    (r : Result T (DecodeError X)) → IfErr r (λ e. RefusesAll mode Tags Means false s e) → IfErr r (λ e. cause_of e ≢ of_memory)
decodes_without mode Tags Means s (Ok x) h = tt
decodes_without mode Tags Means s (Err e) h = refused_without mode Tags Means s e h

-- nor one of a reader of the next value
not_taken_without : {T X : Type 0} (Tags : Tag → Type 0) (Means : Tree → T → Type 0) (c d : Reading) (e : DecodeError X)
    → RefusesTyped Tags Means false c e d → cause_of e ≢ of_memory
not_taken_without Tags Means c d e (types.RefusesTyped.failed q a) = λ m. refusal_is_not e m a
not_taken_without Tags Means c d e (types.RefusesTyped.source f g) = λ m. source_is_not e m f
not_taken_without Tags Means c d e (types.RefusesTyped.memory f l h) = λ m. never_lacks l
not_taken_without Tags Means c d e (types.RefusesTyped.broken n a) = λ m. refusal_is_not e m a

pub takes_without : {T X : Type 0} (Tags : Tag → Type 0) (Means : Tree → T → Type 0) (c d : Reading)
    (r : Result (Option T) (DecodeError X)) → TakesNextTyped Tags Means false c r d → IfErr r (λ e. cause_of e ≢ of_memory)
takes_without Tags Means c d (Ok o) n = tt
takes_without Tags Means c d (Err e) n = not_taken_without Tags Means c d e n.refused
