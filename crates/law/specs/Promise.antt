-- What is promised of a register, and what holds of every estate. Each is a statement: a type whose proof is owed wherever a contract names it. Assumes nothing.
use Rattle.std.specs.Prelude.{◌≡◌, ℕ, suc, ◌<◌, ◌≤◌, Bool, true, not, ◌&&◌, ◌||◌, ◌≢◌, ◌⊎◌, List, [], ◌∷◌, length, ◌==◌, nat_le}
use Rattle.law.specs.Family.{person, Family, is_child, line_lives, Part, order, has_living_spouse, estate}
use Rattle.law.specs.Calls.{Call, born, dies, Share, Answer, Limits, refusal, after, divides_all, pieces, all_pieces, as_parts, right}

-- A register's memory, as the words that it lies in.
pub record Memory : Type 0 where
  pub words : List ℕ

-- A desk: what opening leaves in memory, and what a call leaves there and says.
pub record Desk : Type 0 where
  pub opened : Limits → Memory
  pub next : Memory → Call → Memory
  pub says : Memory → Call → Answer

-- THE MAIN PROMISE. For every list of calls, each answer is right for the family that the calls before it left: each call is taken by the rules or turned away by the
-- first refusal that applies, and each estate names every heir once with an exact share in lowest terms, leaving nobody out.
unfoldable pub all_right : Desk → Limits → Memory → Family → List Call → Type 0
all_right d l m f [] = ℕ
all_right d l m f (c ∷ cs) = right l f c (d.says m c) × all_right d l (d.next m c) (after l f c) cs

unfoldable pub Right : (ℕ → Bool) → Desk → Type 0
Right can d = (l : Limits) (cs : List Call) → l.persons ≤ 4096 → l.calls_can ≡ can → all_right d l (d.opened l) [] cs

-- families that calls can lead to
unfoldable pub ran : Limits → Family → List Call → Family
ran l f [] = f
ran l f (c ∷ cs) = ran l (after l f c) cs

abbrev pub Reached : Limits → Family → Type 0
Reached l f = (cs : List Call) × (ran l [] cs ≡ f)

-- A call that is turned away changes nothing in memory.
unfoldable pub left_by : Desk → Memory → List Call → Memory
left_by d m [] = m
left_by d m (c ∷ cs) = left_by d (d.next m c) cs

unfoldable pub RefusalKeeps : (ℕ → Bool) → Desk → Type 0
RefusalKeeps can d =
    (l : Limits) (cs : List Call) (c : Call) → l.persons ≤ 4096 → l.calls_can ≡ can → 0 < refusal l (ran l [] cs) c →
    d.next (left_by d (d.opened l) cs) c ≡ left_by d (d.opened l) cs

-- Stages: births and deaths; those and estates, without marriages; all calls.
abbrev pub births_and_deaths : ℕ → Bool
births_and_deaths k = k == 0 || k == 3

abbrev pub without_marriages : ℕ → Bool
without_marriages k = k == 0 || nat_le 3 k

abbrev pub all_calls : ℕ → Bool
all_calls k = true

-- Parts add up: if anybody inherits, all parts together are the estate.
unfoldable pub AddsUp : Type 0
AddsUp =
    (l : Limits) (f : Family) (d n : ℕ) → Reached l f → d < length f → divides_all n (estate f d) ≡ true → (order f d ≡ 4 → has_living_spouse f d ≡ true) →
    all_pieces n (estate f d) ≡ n

-- Only the living inherit, and not the decedent.
unfoldable pub heirs_live : Family → ℕ → List Part → Bool
heirs_live f d [] = true
heirs_live f d (p ∷ ps) = ((person f p.who).lives && not (p.who == d)) && heirs_live f d ps

unfoldable pub OnlyLiving : Type 0
OnlyLiving = (l : Limits) (f : Family) (d : ℕ) → Reached l f → d < length f → heirs_live f d (estate f d) ≡ true

-- A dead line changes nothing: a child that is born and dies without a child changes nobody's part.
unfoldable pub DeadLines : Type 0
DeadLines =
    (l : Limits) (f : Family) (d m e : ℕ) → Reached l f → d < length f → refusal l f (born m e) ≡ 0 → l.calls_can 3 ≡ true → m ≤ length f → e ≤ length f →
    estate (after l (after l f (born m e)) (dies (length f))) d ≡ estate f d

-- Who lives stands for their line: if somebody without a spouse dies whose line lives on, nobody else has less.
unfoldable pub StandsFor : Type 0
StandsFor =
    (l : Limits) (f : Family) (d p n : ℕ) → Reached l f → d < length f → p < length f → p ≢ d → (person f p).lives ≡ true → (person f p).spouse ≡ 0 →
    line_lives (after l f (dies p)) d p ≡ true → l.calls_can 3 ≡ true → 0 < n → divides_all n (estate f d) ≡ true → divides_all n (estate (after l f (dies p)) d) ≡ true →
    (w : ℕ) → w ≢ p → pieces n (estate f d) w ≤ pieces n (estate (after l f (dies p)) d) w

-- Nearer orders shut out farther ones: where a child's line lives, all heirs descend from the decedent, or are the spouse.
unfoldable pub descends_by : Family → ℕ → List ℕ → ℕ → Type 0
descends_by f p [] w = p ≡ w
descends_by f p (x ∷ xs) w = (is_child f p x ≡ true) × descends_by f x xs w

unfoldable pub OfLine : Family → ℕ → ℕ → Type 0
OfLine f p w = (xs : List ℕ) × descends_by f p xs w

unfoldable pub all_heirs : Family → ℕ → List Part → Type 0
all_heirs f d [] = ℕ
all_heirs f d (p ∷ ps) = (OfLine f d p.who ⊎ (suc p.who ≡ (person f d).spouse)) × all_heirs f d ps

unfoldable pub NearerFirst : Type 0
NearerFirst = (l : Limits) (f : Family) (d : ℕ) → Reached l f → d < length f → order f d ≡ 1 → all_heirs f d (estate f d)

-- There is just one answer: one row of shares is as the parts are.
unfoldable pub JustOne : Type 0
JustOne = (ps : List Part) (n : ℕ) (ss ts : List Share) → 0 < n → divides_all n ps ≡ true → as_parts ps ss → as_parts ps ts → ss ≡ ts
