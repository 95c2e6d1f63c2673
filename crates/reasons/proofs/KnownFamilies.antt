-- What is known of a family once its living lines are found. Assumes nothing.
use Rattle.std.proofs.Common.{◌≡◌, ℕ, ◌<◌, Bool, List, map, length, sym, ap, ◌∙◌, arith}
use Rattle.std.specs.List.{range_with_len}
use Rattle.std.proofs.lemmas.List.{length-map}
use Rattle.law.specs.Family.{line_lives}
use Rattle.theory.specs.Families.{Ranked}
use Rattle.people.specs.Persons.{law_person}
use Rattle.people.specs.declared.Person.{Person}
use Rattle.ways.specs.Rows.{family_of, in_row}
use Rattle.ways.proofs.Marks.{row_right}
use Rattle.reasons.specs.Estates.{Known}

-- a row of living lines, and somebody who is there
pub known_by : (ps : List Person) (d : ℕ) (rk : ℕ → ℕ) (row lives : List Bool) → Ranked (family_of ps) rk → d < length ps → row ≡ lives →
    lives ≡ map (line_lives (family_of ps) d) (range_with_len 0 (length ps)) → Known (family_of ps) rk d (in_row row)
known_by ps d rk row lives s h e made =
    let size = length-map ps law_person in
    record {
      ranked = s;
      there = omega arith;
      marks = row_right (family_of ps) d s row (e ∙ made ∙ ap (λ n. map (line_lives (family_of ps) d) (range_with_len 0 n)) (sym size));
    }
