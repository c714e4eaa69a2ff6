-- What is gathered of content.
use Rattle.std.specs.Prelude.{◌≡◌, ◌⊎◌, ◌++◌, ℕ, List}
use Rattle.std.specs.Borrow.{MutBor}
use denote.Triple.Both.{Both}
use Rattle.bcder.specs.declared.decode.content.State.TheVariants.{Open}
use Rattle.bcder.specs.declared.decode.error.DecodeError.{DecodeError}
use Rattle.bcder.specs.x690.Preorder.{preorder, preorders}
use Rattle.bcder.specs.calls.Cause.{cause_of, of_memory}
use Rattle.bcder.specs.calls.Content.{any, Reading, IsDone, EndsBefore}
use Rattle.bcder.specs.calls.Content as refusals
use Rattle.bcder.specs.calls.Walking.{HasNoNext, PassesValue, HasValues, RefusesValues}
use Rattle.berlist.specs.Lines.{lines}

-- there was no memory
abbrev pub IsWant : {S : Type 0} → DecodeError S → Type 0
IsWant e = cause_of e ≡ of_memory

-- the next value was passed, and a text grew by the lines of it and of the values inside it
pub record ListsValue (c : Reading) (old new : List ℕ) (d : Reading) : Type 0 where
  pub passes : PassesValue c d
  pub is : new ≡ old ++ lines (preorder passes.tree 0)

-- values stand there up to the end, and the text is the lines of them and of the values inside them
pub record ListsValues (c : Reading) (text : List ℕ) : Type 0 where
  pub values : HasValues c
  pub is : text ≡ lines (preorders values.trees 0)

-- why no lines of the next value were gathered: there was no memory, or there is no such value
abbrev pub RefusesNext : {S : Type 0} → Reading → DecodeError S → Reading → Type 0
RefusesNext c e d = IsWant e ⊎ refusals.Refuses cause_of any HasNoNext ⊥ c e d

-- why no lines of the values up to the end were gathered: there was no memory, or these aren't values
abbrev pub RefusesAll : {S : Type 0} → Reading → DecodeError S → Reading → Type 0
RefusesAll c e d = IsWant e ⊎ RefusesValues cause_of c e d

-- ---- of a parameter, by what its content stands for

module _ {C : Type 0} (view : C → Reading) (c : Both (MutBor C) (MutBor C)) where
  -- its content is left at the end, and its marker taken
  abbrev pub IsLeftDone : Type 0
  IsLeftDone = IsDone (view c.exit.now)

  -- its content was at the end, and is left behind it
  abbrev pub Ends : Type 0
  Ends = EndsBefore (view c.entry.now) (view c.exit.now).stream.rest

  abbrev pub KeepsMode : Type 0
  KeepsMode = (view c.exit.now).mode ≡ (view c.entry.now).mode

  abbrev pub KeepsMark : Type 0
  KeepsMark = (view c.exit.now).marked ≡ (view c.entry.now).marked

  -- a text grew by the lines of its next value
  abbrev pub ListsNext : List ℕ → List ℕ → Type 0
  ListsNext old new = ListsValue (view c.entry.now) old new (view c.exit.now)

  -- the text is the lines of its values, where it was open
  abbrev pub ListsAll : List ℕ → Type 0
  ListsAll text = (view c.entry.now).state ≡ Open → ListsValues (view c.entry.now) text

  -- why no lines of its next value were gathered, or none of all its values
  abbrev pub RefusesOne : {S : Type 0} → DecodeError S → Type 0
  RefusesOne e = RefusesNext (view c.entry.now) e (view c.exit.now)

  abbrev pub Refuses : {S : Type 0} → DecodeError S → Type 0
  Refuses e = RefusesAll (view c.entry.now) e (view c.exit.now)
