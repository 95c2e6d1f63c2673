-- The orders of succession as the code goes by them. Assumes nothing: these are definitions.
use Rattle.std.specs.Prelude.{◌≡◌, ℕ, zero, suc, ◌-◌, ◌≤◌, Bool, false, cond, List, ◌++◌, length, Some, None, Option}
use Rattle.law.specs.Family.{Family, Part, person, known, has_living_spouse}
use Rattle.theory.specs.Families.{Ranked}
use Rattle.descent.specs.Going.{with_parts}
use Rattle.succession.specs.declared.Order.{Order}
use Rattle.succession.specs.declared.Order.TheVariants.{Children, Parents, Grandparents, Nobody}
use Rattle.succession.specs.declared.Couple.{Couple}

-- the number of an order
abbrev pub order_number : Order → ℕ
order_number Children = 1
order_number Parents = 2
order_number Grandparents = 3
order_number Nobody = 4

-- two forebears, as numbers of those who are known
abbrev pub forebears : Couple → List ℕ
forebears c = known c.mother ++ known c.father

-- the line of somebody, given as 0 or one more than a number, is in the set
abbrev pub line_in : (ℕ → Bool) → ℕ → Bool
line_in s zero = false
line_in s (suc p) = s p

-- somebody's parents, given likewise
abbrev pub parents_at : Family → ℕ → Couple
parents_at f zero = record { mother = 0; father = 0 }
parents_at f (suc p) = record { mother = (person f p).mother; father = (person f p).father }

-- somebody's living spouse
abbrev pub spouse_in : Family → ℕ → Option ℕ
spouse_in f d = cond (has_living_spouse f d) (Some ((person f d).spouse - 1)) None

-- parts in memory, behind which others are put
pub record Begun (ws : List ℕ) (n : ℕ) (f : Family) (rk : ℕ → ℕ) (ps : List Part) (spare rest : List ℕ) (count : ℕ) : Type 0 where
  pub words : ws ≡ with_parts n f ps spare rest
  pub parts : length ps ≡ count
  pub few : length ps ≤ 4096
  pub room : length f ≤ n
  pub ranked : Ranked f rk
