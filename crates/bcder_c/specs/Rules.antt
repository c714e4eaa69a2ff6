-- The numbers that stand for the sets of rules.
use Rattle.std.specs.Prelude.{◌≡◌, ℕ}
use Rattle.bcder.specs.declared.mode.Mode.{Mode}
use Rattle.bcder.specs.declared.mode.Mode.TheVariants.{Ber, Cer, Der}

abbrev pub number_of : Mode → ℕ
number_of Ber = 0
number_of Cer = 1
number_of Der = 2

-- the number stands for this set of rules
abbrev pub AreRules : ℕ → Mode → Type 0
AreRules n mode = number_of mode ≡ n

-- the number stands for none
abbrev pub AreUnknown : ℕ → Type 0
AreUnknown n = (mode : Mode) → AreRules n mode → ⊥
