-- Walking along the links of somebody's children. Assumes nothing: these are definitions.
use Rattle.std.specs.Prelude.{ℕ, zero, suc, cond, List, [], ◌∷◌, nat_lt}
use Rattle.people.specs.Layout.{limit_in, next_link}

-- who is met from a link on, in so many steps at most: up to a link that leads to nobody whom the limit allows
unfoldable pub met_from : List ℕ → ℕ → ℕ → ℕ → List ℕ
met_from ws parent zero steps = []
met_from ws parent (suc child) zero = []
met_from ws parent (suc child) (suc steps) = cond (nat_lt child (limit_in ws)) (child ∷ met_from ws parent (next_link ws parent child) steps) []
