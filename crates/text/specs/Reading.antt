-- Which family a text is, or which line is refused, and why. Assumes nothing: these are definitions.
use Rattle.std.specs.Prelude.{ℕ, zero, suc, ◌-◌, Bool, cond, not, ◌&&◌, List, [], ◌∷◌, ◌++◌, map, length, is_some, Some, None, Ok, Err, Option, Result, ◌==◌, nat_lt, slice_set}
use Rattle.std.specs.Option.{option_map}
use Rattle.std.specs.Str.{bytes_eq}
use Rattle.law.specs.Family.{Person, person, Family}
use Rattle.law.specs.Calls.{with_spouse}
use Rattle.lines.specs.Words.{Halves, cut}
use Rattle.lines.specs.Grammar.{Line, said_by, read_line}
use Rattle.lines.specs.declared.Entry.{Entry}
use Rattle.text.specs.declared.Reason.{Reason}
use Rattle.text.specs.declared.Reason.TheVariants.{Unreadable, NoNewline, TooMany, NameTwice, ParentNotThere, LaterParent, OwnParent, SameParents, SpouseNotThere, OwnSpouse, SecondSpouse}
use Rattle.text.specs.declared.Fault.{Fault}
use Rattle.text.specs.Households.{Household}

abbrev pub fault : ℕ → Reason → Fault
fault i r = record { line = i; reason = r }

abbrev pub names_of : List Line → List (List ℕ)
names_of ls = map (λ l. l.name) ls

abbrev pub said_in : List Entry → List Line
said_in es = map (λ e. said_by e) es

-- the number of whoever has this name
abbrev pub place_of : List ℕ → List (List ℕ) → Option ℕ
place_of n [] = None
place_of n (x ∷ xs) = cond (bytes_eq x n) (Some 0) (option_map suc (place_of n xs))

-- LINES, each with a newline at its end. The next one behind those before it, and the bytes behind it.
pub record Next : Type 0 where
  pub line : Line
  pub rest : List ℕ

abbrev pub unused : List Line → List ℕ → Option Line → Result Next Reason
unused ls rest None = Err Unreadable
unused ls rest (Some l) = cond (is_some (place_of l.name (names_of ls))) (Err NameTwice) (Ok (record { line = l; rest = rest }))

abbrev pub readable : List Line → Option Halves → Result Next Reason
readable ls None = Err NoNewline
readable ls (Some h) = unused ls h.behind (read_line h.before)

unfoldable pub next_line : List Line → List ℕ → Result Next Reason
next_line ls bs = cond (nat_lt (length ls) 64) (readable ls (cut (10 ∷ []) bs)) (Err TooMany)

-- All lines to the end, behind those before. There are 64 at most, so that 65 steps are enough.
unfoldable pub lines_in : ℕ → List ℕ → List Line → Result (List Line) Fault
lines_in n [] ls = Ok ls
lines_in zero (b ∷ bs) ls = Ok ls
lines_in (suc n) (b ∷ bs) ls = elim (next_line ls (b ∷ bs)) [ Ok x ↦ lines_in n x.rest (ls ++ (x.line ∷ [])) | Err r ↦ Err (fault (length ls) r) ]

-- PERSONS. A parent has an earlier line, and the spouse another line; 0 where none is named, else one more than a number.
abbrev pub parent_at : ℕ → Option ℕ → Result ℕ Reason
parent_at i None = Err ParentNotThere
parent_at i (Some p) = cond (nat_lt p i) (Ok (suc p)) (cond (p == i) (Err OwnParent) (Err LaterParent))

abbrev pub parent_in : List (List ℕ) → ℕ → Option (List ℕ) → Result ℕ Reason
parent_in ns i None = Ok 0
parent_in ns i (Some n) = parent_at i (place_of n ns)

abbrev pub spouse_at : ℕ → Option ℕ → Result ℕ Reason
spouse_at i None = Err SpouseNotThere
spouse_at i (Some p) = cond (p == i) (Err OwnSpouse) (Ok (suc p))

abbrev pub spouse_of : List (List ℕ) → ℕ → Option (List ℕ) → Result ℕ Reason
spouse_of ns i None = Ok 0
spouse_of ns i (Some n) = spouse_at i (place_of n ns)

abbrev pub person_with : ℕ → ℕ → Bool → Result ℕ Reason → Result Person Reason
person_with m f died (Err r) = Err r
person_with m f died (Ok s) = Ok (record { mother = m; father = f; lives = not died; spouse = s })

abbrev pub person_made : Result ℕ Reason → Result ℕ Reason → Bool → Result ℕ Reason → Result Person Reason
person_made (Err r) f died s = Err r
person_made (Ok m) (Err r) died s = Err r
person_made (Ok m) (Ok f) died s = cond (not (m == 0) && m == f) (Err SameParents) (person_with m f died s)

unfoldable pub person_of : List (List ℕ) → ℕ → Line → Result Person Reason
person_of ns i l = person_made (parent_in ns i l.mother) (parent_in ns i l.father) l.died (spouse_of ns i l.spouse)

-- the persons of all lines, behind those before
unfoldable pub persons_in : List (List ℕ) → List Line → Family → Result Family Fault
persons_in ns [] f = Ok f
persons_in ns (l ∷ ls) f = elim (person_of ns (length f) l) [ Ok p ↦ persons_in ns ls (f ++ (p ∷ [])) | Err r ↦ Err (fault (length f) r) ]

-- SPOUSES. Whoever is named as a spouse has whoever names them as a spouse, unless they have another.
abbrev pub answered_by : Family → ℕ → ℕ → Result Family Reason
answered_by f i s =
    cond (s == 0) (Ok f)
    (cond ((person f (s - 1)).spouse == 0) (Ok (slice_set f (s - 1) (with_spouse (person f (s - 1)) (suc i))))
    (cond ((person f (s - 1)).spouse == suc i) (Ok f) (Err SecondSpouse)))

unfoldable pub answered : Family → ℕ → Result Family Reason
answered f i = answered_by f i (person f i).spouse

-- so for all persons from i on, of whom there are n
unfoldable pub agreed : ℕ → ℕ → Family → Result Family Fault
agreed zero i f = Ok f
agreed (suc n) i f = elim (answered f i) [ Ok g ↦ agreed n (suc i) g | Err r ↦ Err (fault i r) ]

-- THE FAMILY THAT A TEXT IS, or the first line that is refused: by what it says alone, then by its parents and the name of the spouse, then by the spouse's line.
abbrev pub with_names : List (List ℕ) → Result Family Fault → Result Household Fault
with_names ns (Err e) = Err e
with_names ns (Ok f) = Ok (record { names = ns; family = f })

abbrev pub with_spouses : Result Family Fault → Result Family Fault
with_spouses (Err e) = Err e
with_spouses (Ok f) = agreed (length f) 0 f

abbrev pub persons_of : List Line → Result Household Fault
persons_of ls = with_names (names_of ls) (with_spouses (persons_in (names_of ls) ls []))

abbrev pub with_persons : Result (List Line) Fault → Result Household Fault
with_persons (Err e) = Err e
with_persons (Ok ls) = persons_of ls

unfoldable pub read_family : List ℕ → Result Household Fault
read_family bs = with_persons (lines_in 65 bs [])
