-- Three fields behind one another.
use Rattle.std.proofs.Common.{Bool, ◌||◌}
use Rattle.std.specs.Prelude.{Ok, Err}
use Rattle.bcder.specs.declared.mode.Mode.{Mode}
use Rattle.bcder.specs.declared.decode.error.DecodeError.{DecodeError}
use Rattle.bcder.specs.x690.Tree.{Trees}
use Rattle.bcder.specs.calls.Content.{Reading}
use Rattle.asn1.specs.Types.{Pair, ReadsFields}
use Rattle.asn1.specs.Tuples.{SeenAs, first_of_3}
use Rattle.asn1.proofs.Pairs.{reads_both, refuses_first, refuses_second, reads_seen, refuses_seen}

abbrev pub Both : {A B : Type 0} → (Mode → Trees → A → Trees → Type 0) → (Mode → Trees → B → Trees → Type 0) → Mode → Trees → A × B → Trees → Type 0
Both P Q mode = Pair (P mode) (Q mode)

abbrev pub Three : {A B C : Type 0} → (Mode → Trees → A → Trees → Type 0) → (Mode → Trees → B → Trees → Type 0) → (Mode → Trees → C → Trees → Type 0)
    → Mode → Trees → A × B × C → Trees → Type 0
Three P Q R = SeenAs first_of_3 (Both P (Both Q R))

module _ {A B C X : Type 0} (P : Mode → Trees → A → Trees → Type 0) (Q : Mode → Trees → B → Trees → Type 0) (R : Mode → Trees → C → Trees → Type 0)
    (l m n : Bool) (c d : Reading) where
  pub reads_three : (e f : Reading) (x : A) (y : B) (z : C) → ReadsFields (P c.mode) l {X = X} c (Ok x) d → ReadsFields (Q d.mode) m {X = X} d (Ok y) e
      → ReadsFields (R e.mode) n {X = X} e (Ok z) f → ReadsFields (Three P Q R c.mode) (l || (m || n)) {X = X} c (Ok (x, y, z)) f
  reads_three e f x y z p q r =
      reads_seen _ first_of_3 c f (x, y, z) (reads_both P (Both Q R) l (m || n) c d f x (y, z) p (reads_both Q R m n d e f y z q r))

  pub refuses_first_of_3 : (e : DecodeError X) → ReadsFields (P c.mode) l c (Err e) d → ReadsFields (Three P Q R c.mode) (l || (m || n)) c (Err e) d
  refuses_first_of_3 e p = refuses_seen _ first_of_3 c d e (refuses_first P (Both Q R) l (m || n) c d e p)

  pub refuses_second_of_3 : (f : Reading) (e : DecodeError X) (x : A) → ReadsFields (P c.mode) l {X = X} c (Ok x) d → ReadsFields (Q d.mode) m d (Err e) f
      → ReadsFields (Three P Q R c.mode) (l || (m || n)) c (Err e) f
  refuses_second_of_3 f e x p q =
      refuses_seen _ first_of_3 c f e (refuses_second P (Both Q R) l (m || n) c d f e x p (refuses_first Q R m n d f e q))

  pub refuses_third_of_3 : (f g : Reading) (e : DecodeError X) (x : A) (y : B) → ReadsFields (P c.mode) l {X = X} c (Ok x) d
      → ReadsFields (Q d.mode) m {X = X} d (Ok y) f → ReadsFields (R f.mode) n f (Err e) g → ReadsFields (Three P Q R c.mode) (l || (m || n)) c (Err e) g
  refuses_third_of_3 f g e x y p q r =
      refuses_seen _ first_of_3 c g e (refuses_second P (Both Q R) l (m || n) c d g e x p (refuses_second Q R m n d f g e y q r))
