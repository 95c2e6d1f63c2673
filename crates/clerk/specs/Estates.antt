-- The lines that answer who would inherit of a family in a text. Assumes nothing: these are definitions.
use Rattle.std.specs.Prelude.{◌≡◌, ℕ, List, [], ◌∷◌, ◌++◌, Some, None, Ok, Err, string_bytes, codes, decimal, Option, Result, String, slice_index_or}
use Rattle.std.specs.List.{flat_map}
use Rattle.std.specs.declared.alloc.Global.{Global}
use Rattle.law.specs.Calls.{Share, Answer, refused, number, shares, estate_of, right}
use Rattle.theory.specs.Answers.{answer_to}
use Rattle.report.specs.Lines.{answer_by}
use Rattle.text.specs.declared.Fault.{Fault}
use Rattle.text.specs.Households.{Household}
use Rattle.text.specs.Building.{family_limits}
use Rattle.text.specs.Reading.{place_of, read_family}
use Rattle.text.specs.declared.Failure as text
use Rattle.text.specs.declared.Failure.TheVariants as text_failure
use Rattle.text.specs.Messages.{fault_words}
use Rattle.clerk.specs.declared.Failure.{Failure}
use Rattle.clerk.specs.declared.Failure.TheVariants.{Line, NotThere, NoMemory}

-- The name of a person: nothing past the last.
abbrev pub name_in : List (List ℕ) → ℕ → List ℕ
name_in ns who = slice_index_or ns who []

-- The lines of an answer, in which heirs are called by their names: a refusal as it is.
abbrev pub named_text : List (List ℕ) → Answer → List ℕ
named_text ns a = answer_by (name_in ns) a

-- why no family is read, and why nothing is said of an estate
abbrev pub failure_of : text.Failure → Failure
failure_of (text_failure.Line e) = Line e
failure_of text_failure.NoMemory = NoMemory

abbrev pub failure_words : Failure → List ℕ
failure_words (Line e) = fault_words e
failure_words NotThere = codes "nobody has this name"
failure_words NoMemory = codes "not enough memory"

-- THE ESTATE OF SOMEBODY BY NAME, of the family that a text is.
abbrev pub estate_in : Household → Option ℕ → Result (List ℕ) Failure
estate_in h None = Err NotThere
estate_in h (Some p) = Ok (named_text h.names (answer_to family_limits h.family (estate_of p)))

abbrev pub estate_from : Result Household Fault → List ℕ → Result (List ℕ) Failure
estate_from (Err e) n = Err (Line e)
estate_from (Ok h) n = estate_in h (place_of n h.names)

unfoldable pub estate_text : List ℕ → List ℕ → Result (List ℕ) Failure
estate_text bs n = estate_from (read_family bs) n

-- The answer whose lines these are is right by the rules for the family that the text is.
unfoldable pub AnsweredRightly : List ℕ → List ℕ → Type 0
AnsweredRightly bs n =
    (h : Household) (p : ℕ) → read_family bs ≡ Ok h → place_of n h.names ≡ Some p →
    right family_limits h.family (estate_of p) (answer_to family_limits h.family (estate_of p))

-- the result of the code is what r says; for want of memory nothing is said
abbrev pub LinesSaid : Result (String Global) Failure → Result (List ℕ) Failure → Type 0
LinesSaid (Ok s) r = Ok (string_bytes s) ≡ r
LinesSaid (Err (Line e)) r = Err (Line e) ≡ r
LinesSaid (Err NotThere) r = Err NotThere ≡ r
LinesSaid (Err NoMemory) r = Unit {0}
