-- What is left of a walk along the links of somebody's children. Assumes nothing: these are definitions.
use Rattle.std.specs.Prelude.{ℕ, List}
use Rattle.people.specs.declared.walk.Children.{Children}
use Rattle.people.specs.Walks.{met_from}

abbrev pub children_left : Children → List ℕ
children_left walk = met_from walk.memory.now walk.parent walk.link walk.steps
