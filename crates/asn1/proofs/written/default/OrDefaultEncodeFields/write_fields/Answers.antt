use Rattle.std.proofs.Common.{◌≡◌, rules, subst}
use Rattle.bcder.specs.calls.Meaning.{Encoded}
use Rattle.bcder.specs.calls.Encoders.{Writes}
use Rattle.asn1.specs.DefaultsWritten.{WritesUnless}
use Rattle.asn1.proofs.DefaultedBack.{writes_none, writes_some}
use Rattle.asn1.proofs.written.default.OrDefaultEncodeFields.write_fields.Goals as goal

pub returns-then-is_default : goal.returns-then-is_default
returns-then-is_default g c =
    let x = c.args.self.now in
    let P : Type 0 = g.T.Type.key x ≡ g.T.Type.key g.D.DefaultValue.default in
    let p : P = search rules in
    let old = g.W.Write.contents c.args.target.now in
    writes_none P (g.T.Encode.writes g.T.Type.TAG x c.args.mode) (g.T.Encode.may_lack x c.args.mode) old p

pub returns-else-is_default : goal.returns-else-is_default
returns-else-is_default g c =
    let M = λ (v : g.row.T.Denot). g.T.Encode.writes g.T.Type.TAG v c.args.mode in
    let L = λ (v : g.row.T.Denot). g.T.Encode.may_lack v c.args.mode in
    let P : g.row.T.Denot → Type 0 = λ v. g.T.Type.key v ≡ g.T.Type.key g.D.DefaultValue.default in
    let x = c.self.inside.value in
    let n : P x → ⊥ = search rules in
    let old = g.W.Write.contents c.args.target.now in
    let new = g.W.Write.contents c.write_fields.new.target in
    let r = c.write_fields.result in
    let wrote = writes_some (P x) (M x) (L x) old new r n c.write_fields.ensures in
    subst (λ v. Writes (λ (e : Encoded). e.octets) (WritesUnless (P v) (M v)) (L v) old new r) c.self.view_is wrote
