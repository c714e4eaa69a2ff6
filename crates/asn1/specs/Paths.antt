-- How the path to a part is shown, and why something was refused there.
use Rattle.std.specs.Prelude.{◌≡◌, ℕ, List, [], ◌∷◌, ◌++◌, Bool, true, false, length, codes, decimal, ◌==◌, ◌&&◌, ◌||◌, not, if◌then◌else◌}
use Rattle.std.specs.Prelude.{Option, Some}
use Rattle.std.specs.List.{list_any}
use Rattle.std.specs.Fmt.{◌++?◌}
use Rattle.bcder.specs.x690.Identifier.{Tag}
use Rattle.bcder.specs.calls.TagText.{tag_text}
use Rattle.bcder.specs.declared.decode.error.ContentError.{ContentError}
use Rattle.bcder.specs.declared.decode.error.DecodeError.{DecodeError}
use Rattle.bcder.specs.declared.decode.error.DecodeError.TheVariants.{Source, Content, NoMemory}
use Rattle.asn1.specs.declared.path.Path.{Path}
use Rattle.asn1.specs.declared.path.Step.{Step}
use Rattle.asn1.specs.declared.path.Step.TheVariants.{Named, Field, Item, First, Second}

-- a step to an alternative without a name isn't shown
abbrev pub is_shown_step : Step → Bool
is_shown_step (Named name) = true
is_shown_step (Field index) = true
is_shown_step (Item index) = true
is_shown_step First = false
is_shown_step Second = false

abbrev pub step_text : Step → List ℕ
step_text (Named name) = codes "." ++ name
step_text (Field index) = codes "." ++ decimal index
step_text (Item index) = codes "[" ++ decimal index ++ codes "]"
step_text First = []
step_text Second = []

-- steps, of which the outermost is the last
abbrev pub steps_text : List Step → List ℕ
steps_text [] = []
steps_text (inner ∷ outer) = steps_text outer ++ step_text inner

abbrev pub path_text : Path → List ℕ
path_text p = p.name ++ steps_text p.steps.items

-- it shows neither a type nor a part
abbrev pub shows_nothing : Path → Bool
shows_nothing p = length p.name == 0 && not (list_any is_shown_step p.steps.items)

-- tags of which one was expected: `INTEGER`, `INTEGER or NULL`, or `INTEGER, NULL or [0]`
abbrev pub tags_text : List Tag → List ℕ
tags_text [] = []
tags_text (t ∷ []) = tag_text t
tags_text (t ∷ u ∷ []) = tag_text t ++ codes " or " ++ tag_text u
tags_text (t ∷ u ∷ v ∷ ts) = tag_text t ++ codes ", " ++ tags_text (u ∷ v ∷ ts)

-- it is known what was expected
abbrev pub knows_expected : Path → Bool
knows_expected p = p.any_expected || not (length p.expected.items == 0)

-- what was expected
abbrev pub expected_text : Path → List ℕ
expected_text p = if p.any_expected then codes "a value" else tags_text p.expected.items

-- all but the name was forgotten, if memory ran out or the part isn't known
pub record IsSettled (is_known : Bool) (p q : Path) : Type 0 where
  pub name : q.name ≡ p.name
  pub cut : q.is_cut ≡ p.is_cut
  pub steps : q.steps.items ≡ (if p.is_cut || not is_known then [] else p.steps.items)
  pub expected : q.expected.items ≡ (if p.is_cut || not is_known then [] else p.expected.items)
  pub any : q.any_expected ≡ (if p.is_cut || not is_known then false else p.any_expected)

-- where something was refused
abbrev pub place_text : Path → List ℕ
place_text p = if shows_nothing p then [] else path_text p ++ codes " "

-- why: what was expected there, and else the text of the error
abbrev pub reason_text : Path → Option (List ℕ) → Option (List ℕ)
reason_text p text = if knows_expected p then Some (codes "expected " ++ expected_text p) else text

-- where and why, if content was refused, and else the text of the error
module _ {X : Type 0} (shown : DecodeError X → Option (List ℕ)) (text : ContentError → Option (List ℕ)) where
  abbrev pub refused_text : Path → DecodeError X → Option (List ℕ)
  refused_text p (Source e) = shown (Source e)
  refused_text p (Content e pos) = Some (place_text p) ++? Some (codes "at octet " ++ decimal pos ++ codes ": ") ++? reason_text p (text e)
  refused_text p NoMemory = shown NoMemory
