-- In CER and DER values are their encodings.
use Rattle.std.proofs.Common.{◌≡◌, ◌≢◌, sym, ◌∙◌, subst}
use Rattle.bcder.specs.declared.mode.Mode.{Mode}
use Rattle.bcder.specs.declared.mode.Mode.TheVariants.{Ber}
use Rattle.bcder.specs.x690.Identifier.{Tag}
use Rattle.bcder.specs.x690.Tree.{Tree, no_trees}
use Rattle.bcder.specs.x690.Encoding.{IsEncoding, AreEncodings}
use Rattle.bcder.specs.x690.Grammar.{OneList}
use Rattle.bcder.specs.calls.Meaning.{Meaning, IsLawful}
use Rattle.bcder.specs.laws.Canonical.{one_spelling}
use Rattle.asn1.specs.Writing.{IsReadAs}
use Rattle.asn1.specs.Keys.{IsMeantOnce}
use Rattle.asn1.specs.Canonical.{AreSameWrittenAlike, HaveOneEncoding, IsWrittenAsRead}
use Rattle.asn1.proofs.Members.{cons_first}
use Rattle.asn1.proofs.TakenBack.{alone}

module _ {T K : Type 0} (mode : Mode) (asked : Tag) (Tags : Tag → Tag → Type 0) (Means : Tree → T → Type 0) (key : T → K) where
  module _ (ne : mode ≢ Ber) (once : IsMeantOnce mode Tags Means key) where
    pub one_encoding : HaveOneEncoding mode (Tags asked) Means key
    one_encoding t u x y v w d e p q h k s =
        one_spelling mode ne u v w (subst (λ z. IsEncoding mode z v) (once asked t u x y v w d e p q h k s) d) e

  module _ (Clear : T → Type 0) (writes : T → Meaning → Type 0) (lawful : (x : T) → IsLawful mode (writes x))
      (read : (x : T) → Clear x → IsReadAs (Tags asked) Means key x (writes x)) where
    pub same_written_alike : OneList → AreSameWrittenAlike key Clear writes
    same_written_alike one x y d e cx cy m n q =
        let a = read x cx d m in
        let b = read y cy e n in
        let ts : d.values ≡ e.values =
        one mode d.values e.values e.octets (subst (AreEncodings mode d.values) q ((lawful x).encodes d m)) ((lawful y).encodes e n) in
        let t : a.tree ≡ b.tree = cons_first a.tree b.tree no_trees no_trees (sym a.is ∙ ts ∙ b.is) in
        sym (a.only a.some a.means) ∙ b.only a.some (subst (λ z. Means z a.some) t a.means)

    pub written_as_read : HaveOneEncoding mode (Tags asked) Means key → IsWrittenAsRead mode (Tags asked) Means Clear writes
    written_as_read one t x w e d tagged h c m =
        let a = read x c e m in
        one a.tree t a.some x e.octets w (alone (Tags asked) Means key (key x) mode e ((lawful x).encodes e m) a) d a.tagged tagged a.means h
        (a.only a.some a.means)
