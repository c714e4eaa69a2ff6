use Rattle.std.proofs.Common.{refl, sym, ◌∙◌, ap, subst}
use Rattle.bcder.specs.calls.Captured.{Kept, AreWhole}
use Rattle.bcder.proofs.Keeping.{same_stream, left_whole, front_decoded, refused_at}
use Rattle.bcder.proofs.Refusing.{residual}
use Rattle.bcder.proofs.captured.Captured.decode_partial.Goals as goal

pub invariant_of-self : goal.invariant_of-self
invariant_of-self g c =
    let kept : Kept = record { mode = c.self.inside.mode; octets = c.self.inside.octets; start = c.self.inside.start } in
    let source = c.with_offset-source.result in
    let here = same_stream kept source.octets source.pos (c.with_offset-source.ensures.octets ∙ c.in-Ok.ensures.cases) c.with_offset-source.ensures.start in
    left_whole _ _ kept _ _ _ _ _ here refl c.self.invariant _ (sym c.into_bytes-left.ensures) c.in_ok-value.ensures.ok.1

pub returns-clause-ok : goal.returns-clause-ok
returns-clause-ok g c =
    let is_mode = ap (λ (k : Kept). k.mode) c.self.view_is in
    let whole = subst (λ (k : Kept). AreWhole k.mode k.octets) c.self.view_is c.self.invariant in
    let left : Kept = record { mode = c.self.inside.mode; octets = c.into_bytes-left.result; start = c.pos-self-inside.result } in
    let source = c.with_offset-source.result in
    let here = same_stream c.args.self.now source.octets source.pos (c.with_offset-source.ensures.octets ∙ c.in-Ok.ensures.cases
    ∙ ap (λ (k : Kept). k.octets) c.self.view_is) (c.with_offset-source.ensures.start ∙ ap (λ (k : Kept). k.start) c.self.view_is) in
    let there = same_stream left c.decode_lent.new.source.octets c.decode_lent.new.source.pos (sym c.into_bytes-left.ensures) (sym c.pos-self-inside.ensures) in
    front_decoded _ _ c.args.self.now _ _ _ _ _ here is_mode whole left there is_mode c.in_ok-value.ensures.ok.1

pub returns-in_err-value-clause-refused : goal.returns-in_err-value-clause-refused
returns-in_err-value-clause-refused g c =
    let is_mode = ap (λ (k : Kept). k.mode) c.self.view_is in
    let source = c.with_offset-source.result in
    let here = same_stream c.args.self.now source.octets source.pos (c.with_offset-source.ensures.octets ∙ c.in-Ok.ensures.cases
    ∙ ap (λ (k : Kept). k.octets) c.self.view_is) (c.with_offset-source.ensures.start ∙ ap (λ (k : Kept). k.start) c.self.view_is) in
    let h = c.in_err-value.ensures.refused in
    residual c.from_residual.result _ _ c.from_residual.ensures.1 (refused_at _ _ c.args.self.now _ _ _ here h.0 _ h.1 is_mode)
