-- Somebody's children as links in words: four for each person, every one of them a function of the family. Assumes nothing: these are definitions.
use Rattle.std.specs.Prelude.{◌≡◌, ℕ, zero, suc, ◌+◌, ◌-◌, ◌*◌, ◌<◌, Bool, cond, ◌||◌, List, [], ◌∷◌, ◌==◌, slice_index, slice_set}
use Rattle.std.specs.List.{AllByRecursion}
use Rattle.law.specs.Family.{Person, person, Family, children}

-- A link is 0 where there is nobody, else one more than a number: to the first of a list, to the last, and to who comes behind c.
unfoldable pub first_of : List ℕ → ℕ
first_of [] = 0
first_of (x ∷ xs) = suc x

unfoldable pub last_of : List ℕ → ℕ
last_of [] = 0
last_of (x ∷ []) = suc x
last_of (x ∷ (y ∷ ys)) = last_of (y ∷ ys)

unfoldable pub successor : List ℕ → ℕ → ℕ
successor [] c = 0
successor (x ∷ xs) c = cond (x == c) (first_of xs) (successor xs c)

-- each number is below those behind it
unfoldable pub Ascending : List ℕ → Type 0
Ascending [] = Unit {0}
Ascending (x ∷ xs) = AllByRecursion (λ y. x < y) xs × Ascending xs

-- the child behind c of a parent of c, who is given as 0 or one more than a number
unfoldable pub behind : Family → ℕ → ℕ → ℕ
behind f zero c = 0
behind f (suc p) c = successor (children f p) c

-- The four words of p: the first child, the last, the next child of p's mother behind p, and the next of p's father.
abbrev pub link_row : Family → ℕ → List ℕ
link_row f p =
    first_of (children f p) ∷ (last_of (children f p) ∷ (behind f (person f p).mother p ∷ (behind f (person f p).father p ∷ [])))

-- somebody has p as mother or father
abbrev pub has_parent : Person → ℕ → Bool
has_parent x p = x.mother == suc p || x.father == suc p

-- p is the mother of c; of a child c of p, else the father
abbrev pub is_mother : Family → ℕ → ℕ → Bool
is_mother f p c = (person f c).mother == suc p

-- by_mother says of a parent, who is given as 0 or one more than a number, whether they are the mother of their last child so far
abbrev pub OfLast : Family → ℕ → Bool → Type 0
OfLast f m by_mother = (p c : ℕ) → m ≡ suc p → last_of (children f p) ≡ suc c → by_mother ≡ is_mother f p c

-- nobody's mother is the father
abbrev pub TwoParents : Family → Type 0
TwoParents f = (c : ℕ) → (person f c).mother ≡ (person f c).father → (person f c).mother ≡ 0

-- the place of the link from a child to the next of its mother, or of its father
abbrev pub next_place : ℕ → Bool → ℕ
next_place child by_mother = 4 * child + cond by_mother 2 3

-- the place of the link to a child that becomes the last of a parent: the parent's first where there is no child yet, else the link behind the last so far
abbrev pub end_place : List ℕ → ℕ → Bool → ℕ
end_place links parent by_mother =
    cond (slice_index links (4 * parent + 1) == 0) (4 * parent) (next_place (slice_index links (4 * parent + 1) - 1) by_mother)

-- links with a child behind the last of a parent; a link that lies beyond the words is not written
abbrev pub appended : List ℕ → ℕ → ℕ → Bool → List ℕ
appended links parent child by_mother = slice_set (slice_set links (end_place links parent by_mother) (child + 1)) (4 * parent + 1) (child + 1)

-- the same for a parent who is given as 0 or one more than a number
unfoldable pub filed : List ℕ → ℕ → ℕ → Bool → List ℕ
filed links zero child by_mother = links
filed links (suc p) child by_mother = appended links p child by_mother
