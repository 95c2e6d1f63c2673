-- A family, and two estates in it. Assumes nothing: these are definitions.
use Rattle.std.specs.Prelude.{List, [], ◌∷◌, ◌++◌}
use Rattle.law.specs.Calls.{Call, born, wed, dies, estate_of, shares, Limits, right}
use Rattle.law.specs.Promise.{ran, all_calls}

abbrev pub limits : Limits
limits = record { calls_can = all_calls; persons = 64 }

-- 0 and 1 are the parents of 2 and 3; 2 and 4 those of 5 and 6; 7 is the spouse of 5.
abbrev pub calls : List Call
calls = born 0 0 ∷ born 0 0 ∷ born 1 2 ∷ born 1 2 ∷ born 0 0 ∷ born 3 5 ∷ born 3 5 ∷ born 0 0 ∷ wed 5 7 ∷ []

-- Of the estate of 5 the parents have a quarter each, and the spouse a half.
unfoldable pub FirstFamily : Type 0
FirstFamily =
    right limits (ran limits [] calls) (estate_of 5)
    (shares (record { who = 2; up = 1; down = 4 } ∷ record { who = 4; up = 1; down = 4 } ∷ record { who = 7; up = 1; down = 2 } ∷ []))

-- When 2 is dead, 6 has the quarter of 2's line.
unfoldable pub SecondFamily : Type 0
SecondFamily =
    right limits (ran limits [] (calls ++ dies 2 ∷ [])) (estate_of 5)
    (shares (record { who = 4; up = 1; down = 4 } ∷ record { who = 6; up = 1; down = 4 } ∷ record { who = 7; up = 1; down = 2 } ∷ []))
