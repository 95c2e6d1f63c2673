-- What is told of a line that is refused. Assumes nothing: these are definitions.
use Rattle.std.specs.Prelude.{ℕ, zero, suc, List, [], ◌++◌, Some, None, codes, decimal, Option}
use Rattle.lines.specs.Words.{Halves, cut}
use Rattle.text.specs.declared.Fault.{Fault}
use Rattle.text.specs.declared.Failure.{Failure}
use Rattle.text.specs.declared.Failure.TheVariants.{Line, NoMemory}
use Rattle.text.specs.declared.Reason.{Reason}
use Rattle.text.specs.declared.Reason.TheVariants.{Unreadable, NoNewline, TooMany, NameTwice, ParentNotThere, LaterParent, OwnParent, SameParents, SpouseNotThere, OwnSpouse, SecondSpouse}

-- the reason in words
abbrev pub reason_words : Reason → List ℕ
reason_words Unreadable = codes "the line can't be read"
reason_words NoNewline = codes "the line has no newline at its end"
reason_words TooMany = codes "there are more than 64 persons"
reason_words NameTwice = codes "an earlier line has this name"
reason_words ParentNotThere = codes "a parent is not there"
reason_words LaterParent = codes "a parent stands in a later line"
reason_words OwnParent = codes "somebody is their own parent"
reason_words SameParents = codes "the mother is the father"
reason_words SpouseNotThere = codes "the spouse is not there"
reason_words OwnSpouse = codes "somebody is their own spouse"
reason_words SecondSpouse = codes "the spouse has another spouse"

-- the line by its number, and the reason
abbrev pub fault_words : Fault → List ℕ
fault_words e = codes "refused 1 at " ++ (decimal e.line ++ (codes ": " ++ reason_words e.reason))

abbrev pub failure_words : Failure → List ℕ
failure_words (Line e) = fault_words e
failure_words NoMemory = codes "not enough memory"

-- the line with a number, from 0, without its end
abbrev pub behind_of : Option Halves → List ℕ
behind_of None = []
behind_of (Some h) = h.behind

abbrev pub behind_line : List ℕ → List ℕ
behind_line bs = behind_of (cut (codes "\n") bs)

abbrev pub first_of : List ℕ → Option Halves → List ℕ
first_of bs None = bs
first_of bs (Some h) = h.before

unfoldable pub line_at : ℕ → List ℕ → List ℕ
line_at zero bs = first_of bs (cut (codes "\n") bs)
line_at (suc n) bs = line_at n (behind_line bs)
