-- Four fields behind one another.
use Rattle.std.proofs.Common.{Bool, ◌||◌}
use Rattle.std.specs.Prelude.{Ok, Err}
use Rattle.bcder.specs.declared.mode.Mode.{Mode}
use Rattle.bcder.specs.declared.decode.error.DecodeError.{DecodeError}
use Rattle.bcder.specs.x690.Tree.{Trees}
use Rattle.bcder.specs.calls.Content.{Reading}
use Rattle.asn1.specs.Types.{ReadsFields}
use Rattle.asn1.specs.Tuples.{SeenAs, first_of_4}
use Rattle.asn1.proofs.Pairs.{reads_both, refuses_first, refuses_second, reads_seen, refuses_seen}
use Rattle.asn1.proofs.Threes.{Both, Three, reads_three, refuses_first_of_3, refuses_second_of_3, refuses_third_of_3}

abbrev pub Four : {A B C D : Type 0} → (Mode → Trees → A → Trees → Type 0) → (Mode → Trees → B → Trees → Type 0) → (Mode → Trees → C → Trees → Type 0)
    → (Mode → Trees → D → Trees → Type 0) → Mode → Trees → A × B × C × D → Trees → Type 0
Four P Q R S = SeenAs first_of_4 (Both P (Three Q R S))

module _ {A B C D X : Type 0} (P : Mode → Trees → A → Trees → Type 0) (Q : Mode → Trees → B → Trees → Type 0)
    (R : Mode → Trees → C → Trees → Type 0) (S : Mode → Trees → D → Trees → Type 0) (k l m n : Bool) (c d : Reading) where
  pub reads_four : (e f g : Reading) (w : A) (x : B) (y : C) (z : D) → ReadsFields (P c.mode) k {X = X} c (Ok w) d
      → ReadsFields (Q d.mode) l {X = X} d (Ok x) e → ReadsFields (R e.mode) m {X = X} e (Ok y) f → ReadsFields (S f.mode) n {X = X} f (Ok z) g
      → ReadsFields (Four P Q R S c.mode) (k || (l || (m || n))) {X = X} c (Ok (w, x, y, z)) g
  reads_four e f g w x y z p q r s =
      reads_seen _ first_of_4 c g (w, x, y, z)
      (reads_both P (Three Q R S) k (l || (m || n)) c d g w (x, y, z) p (reads_three Q R S l m n d e f g x y z q r s))

  pub refuses_first_of_4 : (e : DecodeError X) → ReadsFields (P c.mode) k c (Err e) d → ReadsFields (Four P Q R S c.mode) (k || (l || (m || n))) c (Err e) d
  refuses_first_of_4 e p = refuses_seen _ first_of_4 c d e (refuses_first P (Three Q R S) k (l || (m || n)) c d e p)

  module _ (e : DecodeError X) (w : A) (p : ReadsFields (P c.mode) k {X = X} c (Ok w) d) where
    abbrev behind : (g : Reading) → ReadsFields (Three Q R S d.mode) (l || (m || n)) d (Err e) g
        → ReadsFields (Four P Q R S c.mode) (k || (l || (m || n))) c (Err e) g
    behind g r = refuses_seen _ first_of_4 c g e (refuses_second P (Three Q R S) k (l || (m || n)) c d g e w p r)

    pub refuses_second_of_4 : (f : Reading) → ReadsFields (Q d.mode) l d (Err e) f → ReadsFields (Four P Q R S c.mode) (k || (l || (m || n))) c (Err e) f
    refuses_second_of_4 f q = behind f (refuses_first_of_3 Q R S l m n d f e q)

    pub refuses_third_of_4 : (f g : Reading) (x : B) → ReadsFields (Q d.mode) l {X = X} d (Ok x) f → ReadsFields (R f.mode) m f (Err e) g
        → ReadsFields (Four P Q R S c.mode) (k || (l || (m || n))) c (Err e) g
    refuses_third_of_4 f g x q r = behind g (refuses_second_of_3 Q R S l m n d f g e x q r)

    pub refuses_fourth_of_4 : (f g h : Reading) (x : B) (y : C) → ReadsFields (Q d.mode) l {X = X} d (Ok x) f
        → ReadsFields (R f.mode) m {X = X} f (Ok y) g → ReadsFields (S g.mode) n g (Err e) h
        → ReadsFields (Four P Q R S c.mode) (k || (l || (m || n))) c (Err e) h
    refuses_fourth_of_4 f g h x y q r s = behind h (refuses_third_of_3 Q R S l m n d f g h e x y q r s)
