-- Fields in a row, as the first and those behind it, or as the first four and those behind them.
use Rattle.bcder.specs.declared.mode.Mode.{Mode}
use Rattle.bcder.specs.x690.Tree.{Trees}

-- what fields take, seen as others
abbrev pub SeenAs : {V A : Type 0} → (V → A) → (Mode → Trees → A → Trees → Type 0) → Mode → Trees → V → Trees → Type 0
SeenAs view Takes mode ts x us = Takes mode ts (view x) us

abbrev pub first_of_3 : {A B C : Type 0} → A × B × C → A × (B × C)
first_of_3 x = (x.0, (x.1, x.2))

abbrev pub first_of_4 : {A B C D : Type 0} → A × B × C × D → A × (B × C × D)
first_of_4 x = (x.0, (x.1, x.2, x.3))

abbrev pub grouped_5 : {A B C D E : Type 0} → A × B × C × D × E → (A × B × C × D) × E
grouped_5 x = ((x.0, x.1, x.2, x.3), x.4)

abbrev pub grouped_6 : {A B C D E F : Type 0} → A × B × C × D × E × F → (A × B × C × D) × (E × F)
grouped_6 x = ((x.0, x.1, x.2, x.3), (x.4, x.5))

abbrev pub grouped_7 : {A B C D E F G : Type 0} → A × B × C × D × E × F × G → (A × B × C × D) × (E × F × G)
grouped_7 x = ((x.0, x.1, x.2, x.3), (x.4, x.5, x.6))

abbrev pub grouped_8 : {A B C D E F G H : Type 0} → A × B × C × D × E × F × G × H → (A × B × C × D) × (E × F × G × H)
grouped_8 x = ((x.0, x.1, x.2, x.3), (x.4, x.5, x.6, x.7))

abbrev pub grouped_9 : {A B C D E F G H I : Type 0} → A × B × C × D × E × F × G × H × I → (A × B × C × D) × (E × F × G × H × I)
grouped_9 x = ((x.0, x.1, x.2, x.3), (x.4, x.5, x.6, x.7, x.8))

abbrev pub grouped_10 : {A B C D E F G H I J : Type 0} → A × B × C × D × E × F × G × H × I × J → (A × B × C × D) × (E × F × G × H × I × J)
grouped_10 x = ((x.0, x.1, x.2, x.3), (x.4, x.5, x.6, x.7, x.8, x.9))

abbrev pub grouped_11 : {A B C D E F G H I J K : Type 0} → A × B × C × D × E × F × G × H × I × J × K
    → (A × B × C × D) × (E × F × G × H × I × J × K)
grouped_11 x = ((x.0, x.1, x.2, x.3), (x.4, x.5, x.6, x.7, x.8, x.9, x.10))

abbrev pub grouped_12 : {A B C D E F G H I J K L : Type 0} → A × B × C × D × E × F × G × H × I × J × K × L
    → (A × B × C × D) × (E × F × G × H × I × J × K × L)
grouped_12 x = ((x.0, x.1, x.2, x.3), (x.4, x.5, x.6, x.7, x.8, x.9, x.10, x.11))
