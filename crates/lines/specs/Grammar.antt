-- What a line of a family says, which rows of bytes are such a line, and what is printed. Assumes nothing: these are definitions.
use Rattle.std.specs.Prelude.{◌≡◌, ℕ, Bool, true, false, cond, ◌&&◌, List, [], ◌∷◌, ◌++◌, Some, None, codes, Option}
use Rattle.std.specs.Option.{option_map}
use Rattle.std.specs.Str.{bytes_eq}
use Rattle.lines.specs.Words.{Halves, cut, split_off}
use Rattle.lines.specs.Names.{unknown, is_name, name_in}
use Rattle.lines.specs.declared.Entry.{Entry}
use Rattle.lines.specs.declared.Parents as code

-- What a line says of a person: names, as bytes, and whether they died.
pub record Line : Type 0 where
  pub name : List ℕ
  pub mother : Option (List ℕ)
  pub father : Option (List ℕ)
  pub died : Bool
  pub spouse : Option (List ℕ)

-- what an entry of the code says
abbrev pub said_by : Entry → Line
said_by e = record { name = e.name.now; mother = option_map (λ x. x.now) e.mother; father = option_map (λ x. x.now) e.father; died = e.died; spouse = option_map (λ x. x.now) e.spouse }

-- THE TEXT OF A LINE: Carl, of Berta and Dan, died, spouse of Eva. Without the end of the line.
abbrev pub parents_text : Option (List ℕ) → Option (List ℕ) → List ℕ
parents_text None None = []
parents_text (Some m) None = codes ", of " ++ m
parents_text None (Some f) = codes ", of " ++ (unknown ++ (codes " and " ++ f))
parents_text (Some m) (Some f) = codes ", of " ++ (m ++ (codes " and " ++ f))

abbrev pub died_text : Bool → List ℕ
died_text false = []
died_text true = codes ", died"

abbrev pub spouse_text : Option (List ℕ) → List ℕ
spouse_text None = []
spouse_text (Some s) = codes ", spouse of " ++ s

abbrev pub line_text : Line → List ℕ
line_text l = l.name ++ (parents_text l.mother l.father ++ (died_text l.died ++ spouse_text l.spouse))

-- all names in it are names
abbrev pub names_maybe : Option (List ℕ) → Bool
names_maybe None = true
names_maybe (Some bs) = is_name bs

abbrev pub all_names : Line → Bool
all_names l = is_name l.name && (names_maybe l.mother && (names_maybe l.father && names_maybe l.spouse))

-- READING. The line is cut at the words in front of the spouse, of the death and of the parents; what is left must be names.
pub record Parents : Type 0 where
  pub mother : Option (List ℕ)
  pub father : Option (List ℕ)

abbrev pub spouse_in : Option (List ℕ) → Option (Option (List ℕ))
spouse_in None = Some None
spouse_in (Some bs) = option_map Some (name_in bs)

-- nothing stands behind the word died
abbrev pub died_in : Option (List ℕ) → Option Bool
died_in None = Some false
died_in (Some []) = Some true
died_in (Some (b ∷ bs)) = None

-- a mother beside a father: a name, or unknown
abbrev pub mother_in : List ℕ → Option (Option (List ℕ))
mother_in bs = cond (bytes_eq bs unknown) (Some None) (option_map Some (name_in bs))

abbrev pub with_father : Option (List ℕ) → Option (List ℕ) → Option Parents
with_father m None = None
with_father m (Some f) = Some (record { mother = m; father = Some f })

abbrev pub both_parents : Option (Option (List ℕ)) → Option (List ℕ) → Option Parents
both_parents None f = None
both_parents (Some m) f = with_father m f

abbrev pub mother_alone : Option (List ℕ) → Option Parents
mother_alone None = None
mother_alone (Some m) = Some (record { mother = Some m; father = None })

abbrev pub parents_cut : List ℕ → Option Halves → Option Parents
parents_cut bs None = mother_alone (name_in bs)
parents_cut bs (Some h) = both_parents (mother_in h.before) (name_in h.behind)

abbrev pub parents_in : Option (List ℕ) → Option Parents
parents_in None = Some (record { mother = None; father = None })
parents_in (Some bs) = parents_cut bs (cut (codes " and ") bs)

abbrev pub joined_up : Option (List ℕ) → Option Parents → Option Bool → Option (Option (List ℕ)) → Option Line
joined_up None p d s = None
joined_up (Some n) None d s = None
joined_up (Some n) (Some p) None s = None
joined_up (Some n) (Some p) (Some d) None = None
joined_up (Some n) (Some p) (Some d) (Some s) = Some (record { name = n; mother = p.mother; father = p.father; died = d; spouse = s })

abbrev pub before_spouse : List ℕ → List ℕ
before_spouse bs = (split_off (codes ", spouse of ") bs).front

abbrev pub before_death : List ℕ → List ℕ
before_death bs = (split_off (codes ", died") (before_spouse bs)).front

abbrev pub before_parents : List ℕ → List ℕ
before_parents bs = (split_off (codes ", of ") (before_death bs)).front

unfoldable pub read_line : List ℕ → Option Line
read_line bs =
    joined_up (name_in (before_parents bs)) (parents_in (split_off (codes ", of ") (before_death bs)).rest)
    (died_in (split_off (codes ", died") (before_spouse bs)).rest) (spouse_in (split_off (codes ", spouse of ") bs).rest)

-- A row of bytes is a line exactly if it is the text of what it says, with names where names stand. So nothing is written in two ways, or read in two.
unfoldable pub OneForm : Type 0
OneForm =
    ((l : Line) → all_names l ≡ true → read_line (line_text l) ≡ Some l)
    × ((bs : List ℕ) (l : Line) → read_line bs ≡ Some l → (all_names l ≡ true) × (line_text l ≡ bs))

-- what is told of bytes that are no name, or no line
abbrev pub unreadable_words : List ℕ
unreadable_words = codes "it can't be read"

-- what the code's parents are
abbrev pub parents : code.Parents → Parents
parents p = record { mother = option_map (λ x. x.now) p.mother; father = option_map (λ x. x.now) p.father }
