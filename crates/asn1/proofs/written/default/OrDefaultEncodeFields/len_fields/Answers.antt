use Rattle.std.proofs.Common.{◌≡◌, rules, subst}
use Rattle.bcder.specs.calls.Encoders.{SizeOfValues}
use Rattle.asn1.specs.DefaultsWritten.{WritesUnless}
use Rattle.asn1.proofs.DefaultedBack.{size_none, size_some}
use Rattle.asn1.proofs.written.default.OrDefaultEncodeFields.len_fields.Goals as goal

pub returns-then-is_default : goal.returns-then-is_default
returns-then-is_default g c =
    let x = c.args.self.now in
    let P : Type 0 = g.T.Type.key x ≡ g.T.Type.key g.D.DefaultValue.default in
    let p : P = search rules in
    size_none P (g.T.Encode.writes g.T.Type.TAG x c.args.mode) (g.T.Encode.may_lack x c.args.mode) p

pub returns-else-is_default : goal.returns-else-is_default
returns-else-is_default g c =
    let M = λ (v : g.row.T.Denot). g.T.Encode.writes g.T.Type.TAG v c.args.mode in
    let L = λ (v : g.row.T.Denot). g.T.Encode.may_lack v c.args.mode in
    let P : g.row.T.Denot → Type 0 = λ v. g.T.Type.key v ≡ g.T.Type.key g.D.DefaultValue.default in
    let x = c.self.inside.value in
    let n : P x → ⊥ = search rules in
    let r = c.len_fields.result in
    subst (λ v. SizeOfValues (WritesUnless (P v) (M v)) (L v) r) c.self.view_is (size_some (P x) (M x) (L x) n r c.len_fields.ensures)
