-- The calls that build a family: births, then weddings, then deaths, each by number. Assumes nothing: these are definitions.
use Rattle.std.specs.Prelude.{◌≡◌, ℕ, suc, ◌-◌, cond, List, [], ◌∷◌, ◌++◌, nat_lt}
use Rattle.law.specs.Family.{Family}
use Rattle.law.specs.Calls.{Call, born, wed, dies, Limits, refusal, after}
use Rattle.law.specs.Promise.{ran, all_calls}
use Rattle.text.specs.Households.{ValidFamily}

abbrev pub births : Family → List Call
births [] = []
births (p ∷ ps) = born p.mother p.father ∷ births ps

-- of persons from k on: each weds the spouse who has a larger number
abbrev pub weddings : ℕ → Family → List Call
weddings k [] = []
weddings k (p ∷ ps) = cond (nat_lt (suc k) p.spouse) (wed k (p.spouse - 1) ∷ weddings (suc k) ps) (weddings (suc k) ps)

abbrev pub deaths : ℕ → Family → List Call
deaths k [] = []
deaths k (p ∷ ps) = cond p.lives (deaths (suc k) ps) (dies k ∷ deaths (suc k) ps)

unfoldable pub calls_of : Family → List Call
calls_of f = births f ++ (weddings 0 f ++ deaths 0 f)

abbrev pub family_limits : Limits
family_limits = record { calls_can = all_calls; persons = 64 }

-- none of the calls is refused
unfoldable pub all_taken : Limits → Family → List Call → Type 0
all_taken l f [] = Unit {0}
all_taken l f (c ∷ cs) = (refusal l f c ≡ 0) × all_taken l (after l f c) cs

abbrev pub BuiltByCalls : Family → Type 0
BuiltByCalls f = all_taken family_limits [] (calls_of f) × (ran family_limits [] (calls_of f) ≡ f)

-- A valid family is what its calls build in a register without persons, each of them taken.
unfoldable pub Built : Type 0
Built = (f : Family) → ValidFamily f → BuiltByCalls f
