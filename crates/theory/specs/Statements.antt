-- What holds of estates, said as strongly as it holds: of every family with a rank, and without what need not be asked. Assumes nothing: these are definitions.
use Rattle.std.specs.Prelude.{◌≡◌, ℕ, suc, ◌*◌, ◌<◌, ◌≤◌, true, false, cond, ◌≢◌, List, [], ◌∷◌, ◌++◌, length, ◌==◌}
use Rattle.std.specs.List.{flat_map, AllByRecursion}
use Rattle.law.specs.Family.{Person, person, Family, line_lives, Part, line_parts, order, has_living_spouse, estate}
use Rattle.law.specs.Calls.{born, dies, Limits, after, divides_all, pieces, all_pieces}
use Rattle.law.specs.Promise.{Reached, all_heirs}
use Rattle.theory.specs.Families.{Ranked, WellFormed}
use Rattle.theory.specs.Decedent.{with_dead}

-- Parts add up, whoever the decedent is.
unfoldable pub AddsUpByRank : Type 0
AddsUpByRank =
    (f : Family) (rk : ℕ → ℕ) (d n : ℕ) → Ranked f rk → divides_all n (estate f d) ≡ true → (order f d ≡ 4 → has_living_spouse f d ≡ true) → all_pieces n (estate f d) ≡ n

-- Every heir is there, lives, and is not the decedent.
unfoldable pub HeirsAreThere : Type 0
HeirsAreThere =
    (f : Family) (d : ℕ) → WellFormed f → AllByRecursion (λ (q : Part). (q.who < length f) × ((person f q.who).lives ≡ true) × (q.who ≢ d)) (estate f d)

-- One more person who does not live changes nobody's part; so neither does a birth and that child's death, whether they are taken or refused.
unfoldable pub DeadPersonChangesNothing : Type 0
DeadPersonChangesNothing =
    (f : Family) (rk : ℕ → ℕ) (x : Person) (d : ℕ) → Ranked f rk → x.mother ≤ length f → x.father ≤ length f → x.lives ≡ false → d < length f →
    estate (f ++ x ∷ []) d ≡ estate f d

unfoldable pub DeadChildChangesNothing : Type 0
DeadChildChangesNothing =
    (l : Limits) (f : Family) (rk : ℕ → ℕ) (d m e : ℕ) → Ranked f rk → d < length f → l.calls_can 3 ≡ true →
    estate (after l (after l f (born m e)) (dies (length f))) d ≡ estate f d

-- Where a child's line lives, all heirs descend from the decedent, or are the spouse, in any family.
unfoldable pub FirstOrderOnly : Type 0
FirstOrderOnly = (f : Family) (d : ℕ) → order f d ≡ 1 → all_heirs f d (estate f d)

-- a part, or what the line of p has of it if it is p's
abbrev pub line_instead : Family → ℕ → ℕ → Part → List Part
line_instead g d p q = cond (q.who == p) (line_parts g d p q.by) (q ∷ [])

-- Where p, who is not the decedent's spouse, is marked dead and their line lives on, their line has each part that p had, and others have what they had.
unfoldable pub LineHasInstead : Type 0
LineHasInstead =
    (f : Family) (rk : ℕ → ℕ) (d p : ℕ) → Ranked f rk → p ≢ d → (person f d).spouse ≢ suc p → line_lives (with_dead f p) d p ≡ true →
    estate (with_dead f p) d ≡ flat_map (line_instead (with_dead f p) d p) (estate f d)

-- The line stands for who dies: if somebody without a spouse dies whose line lives on, it has each of their parts instead, and together just what that was.
unfoldable pub LineStandsFor : Type 0
LineStandsFor =
    (l : Limits) (f : Family) (d p : ℕ) → Reached l f → p ≢ d → (person f p).lives ≡ true → (person f p).spouse ≡ 0 → l.calls_can 3 ≡ true →
    line_lives (after l f (dies p)) d p ≡ true →
    (estate (after l f (dies p)) d ≡ flat_map (line_instead (after l f (dies p)) d p) (estate f d))
    × ((n b : ℕ) → divides_all n (line_parts (after l f (dies p)) d p b) ≡ true → all_pieces n (line_parts (after l f (dies p)) d p b) * b ≡ n)

-- Nobody else has less, whether the death is taken or refused, and whichever number of pieces the estate is.
unfoldable pub NobodyElseHasLess : Type 0
NobodyElseHasLess =
    (l : Limits) (f : Family) (rk : ℕ → ℕ) (d p n w : ℕ) → Ranked f rk → p ≢ d → (person f d).spouse ≢ suc p → line_lives (after l f (dies p)) d p ≡ true → w ≢ p →
    pieces n (estate f d) w ≤ pieces n (estate (after l f (dies p)) d) w
