-- When rules are kept, and what they refuse where they are not: the list of refusals as a relation.
use Rattle.std.specs.Prelude.{List, [], ◌∷◌, ℕ}
use Rattle.numbers.specs.General.{First, Nowhere}
use Rattle.numbers.specs.declared.Refusal.{Refusal}
use Rattle.recipe.specs.Rules.{Rule}

-- No place breaks any of the rules.
abbrev pub KeepsRules : List Rule → Type 0
KeepsRules [] = Unit
KeepsRules (r ∷ more) = Nowhere r.places r.breaks × KeepsRules more

-- What rules that are tried one after the other refuse: the lowest place that breaks one, where no place breaks any before it.
pub data Refuses : List Rule → Refusal → Type 0 where
  here : {r : Rule} {more : List Rule} {i : ℕ} → First r.places r.breaks i → Refuses (r ∷ more) (r.refusal i)
  later : {r : Rule} {more : List Rule} {why : Refusal} → Nowhere r.places r.breaks → Refuses more why → Refuses (r ∷ more) why
