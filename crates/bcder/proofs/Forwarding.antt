-- A call that hands on content of one form.
use Rattle.std.proofs.Common.{◌≡◌, ◌≢◌, ap, sym, ◌∙◌, inr}
use Rattle.std.specs.Prelude.{Result, Ok, Err, ◌⊎◌, IfOk, IfErr}
use Rattle.std.specs.Borrow.{MutBor}
use Rattle.bcder.specs.declared.decode.content.Primitive.{Primitive}
use Rattle.bcder.specs.declared.decode.content.Constructed.{Constructed}
use Rattle.bcder.specs.declared.decode.content.Content.{Content}
use Rattle.bcder.specs.declared.decode.content.Content.TheVariants as variant
use Rattle.bcder.specs.calls.Content.{Reading, Octets}
use Rattle.bcder.specs.calls.Calls.{Answered}
use Rattle.bcder.specs.calls.Stream.{Stream}
use Rattle.bcder.specs.calls.Views.{of_content}
use Rattle.bcder.proofs.SameBorrow.{primitive_form, constructed_form}

pub primitive_content : {S : Type 0} (stream : S → Stream) (a : Content S) (p : Primitive S) → a ≡ variant.Primitive p → (of_content stream a).kind ≡ Octets
primitive_content stream a p e = ap (λ x. (of_content stream x).kind) e ∙ primitive_form stream p

pub constructed_content : {S : Type 0} (stream : S → Stream) (a : Content S) (p : Constructed S) → a ≡ variant.Constructed p
    → (of_content stream a).kind ≢ Octets
constructed_content stream a p e o = constructed_form stream p (ap (λ x. (of_content stream x).kind) (sym e) ∙ o)

module _ {C T E : Type 0} (view : C → Reading) (post : MutBor C → Result T E → MutBor C → Type 0) (i j : Reading) where
  pub on_ok_on : (r : Result T E) → Answered {R = Result T E} view post i r j → IfOk r (λ x. Answered {R = Result T E} view post i (Ok x) j)
  on_ok_on (Ok x) a = a
  on_ok_on (Err e) a = tt

  pub on_err_on : (P : E → Type 0) (r : Result T E) → Answered {R = Result T E} view post i r j
      → IfErr r (λ e. P e ⊎ Answered {R = Result T E} view post i (Err e) j)
  on_err_on P (Ok x) a = tt
  on_err_on P (Err e) a = inr a
