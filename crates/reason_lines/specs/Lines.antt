-- The lines that say why somebody has a share. Assumes nothing: these are definitions.
use Rattle.std.specs.Prelude.{ℕ, List, [], ◌∷◌, ◌++◌, map, vec_items, codes, decimal, slice_index_or, Ok, Err, Result}
use Rattle.std.specs.Borrow.{Bor}
use Rattle.std.specs.List.{flat_map}
use Rattle.kinship.specs.declared.Cause.{Cause}
use Rattle.kinship.specs.Causes.{cause_words}
use Rattle.why.specs.Explained.{LinePart, explanations}
pub use Rattle.why.specs.Explained.{fraction_text}
use Rattle.why.specs.declared.Fraction.{Fraction}
use Rattle.why.specs.declared.Answer.{Answer}
use Rattle.why.specs.declared.Answer.TheVariants.{Heir, NoShare}
use Rattle.reasons.specs.declared.Refusal.{Refusal}
use Rattle.reasons.specs.declared.Refusal.TheVariants.{NotThere, BeyondLimit, NoMemory}

-- Names, by number, as bytes. Who has none is written by their number.
abbrev pub names_of : List (Bor (List ℕ)) → List (List ℕ)
names_of ns = map (λ x. x.now) ns

abbrev pub person_text : List (List ℕ) → ℕ → List ℕ
person_text ns w = slice_index_or ns w (decimal w)

-- the persons of a line; a spouse's part came by nobody's
abbrev pub more_persons : List (List ℕ) → List ℕ → List ℕ
more_persons ns ps = flat_map (λ p. codes ", " ++ person_text ns p) ps

abbrev pub line_text : List (List ℕ) → List ℕ → List ℕ
line_text ns [] = codes " as spouse"
line_text ns (p ∷ ps) = codes " by " ++ (person_text ns p ++ more_persons ns ps)

-- `1/32 by Anna, Karl, Otto`
abbrev pub part_line : List (List ℕ) → LinePart → List ℕ
part_line ns x = fraction_text x.part ++ (line_text ns x.line ++ (10 ∷ []))

-- the parts, and the sum last
abbrev pub reasons_text : List (List ℕ) → List LinePart → Fraction → List ℕ
reasons_text ns xs sum = flat_map (part_line ns) xs ++ (fraction_text sum ++ (codes " in all" ++ (10 ∷ [])))

abbrev pub cause_text : Cause → List ℕ
cause_text c = codes "no share: " ++ (cause_words c ++ (10 ∷ []))

-- the reasons for a share, or the cause why there is none
abbrev pub share_lines : List (List ℕ) → Answer → List ℕ
share_lines ns (Heir r) = reasons_text ns (explanations (vec_items r.parts)) r.sum
share_lines ns (NoShare c) = cause_text c

-- The refusal of an estate. Lack of memory has no line.
abbrev pub refusal_line : Refusal → List ℕ
refusal_line NotThere = codes "refused 4 at 0" ++ (10 ∷ [])
refusal_line BeyondLimit = codes "refused 6 at 0" ++ (10 ∷ [])
refusal_line NoMemory = []

-- An answer: the refusal of the estate, the reasons, or the cause.
abbrev pub answer_lines : List (List ℕ) → Result Answer Refusal → List ℕ
answer_lines ns (Ok a) = share_lines ns a
answer_lines ns (Err r) = refusal_line r
