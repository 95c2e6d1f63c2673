-- The table of an estate: all heirs with their shares, and under each the lines of the parts. Assumes nothing: these are definitions.
use Rattle.std.specs.Prelude.{◌≡◌, ℕ, ◌<◌, true, cond, List, [], ◌∷◌, ◌++◌, length, codes, ◌==◌, nat_lt}
use Rattle.std.specs.List.{range_with_len, flat_map}
use Rattle.law.specs.Family.{Family, estate}
use Rattle.law.specs.Calls.{common_multiple}
use Rattle.theory.specs.Families.{WellFormed}
use Rattle.theory.specs.Shares.{shares_of}
use Rattle.shares.specs.Parts.{dividable}
use Rattle.shares.specs.Together.{all_shares}
use Rattle.ways.specs.Ways.{estate_ways}
use Rattle.why.specs.Explained.{LinePart, ways_to, share_for}
use Rattle.why.specs.declared.Fraction.{Fraction}
use Rattle.reason_lines.specs.Lines.{person_text, fraction_text, part_line}

-- the line of a part, under its heir
abbrev pub under_line : List (List ℕ) → LinePart → List ℕ
under_line ns x = codes "  " ++ part_line ns x

-- Somebody's name and share, and under them the lines of their parts; nothing for who has none.
abbrev pub heir_lines : List (List ℕ) → ℕ → Fraction → List LinePart → List ℕ
heir_lines ns w share [] = []
heir_lines ns w share (x ∷ xs) = person_text ns w ++ (codes " " ++ (fraction_text share ++ ((10 ∷ []) ++ flat_map (under_line ns) (x ∷ xs))))

-- all heirs among so many persons, by number
abbrev pub heirs_lines : List (List ℕ) → Family → ℕ → ℕ → List ℕ
heirs_lines ns f d m = flat_map (λ w. heir_lines ns w (share_for f d w) (ways_to f d w)) (range_with_len 0 m)

-- the last line
abbrev pub end_line : ℕ → List ℕ
end_line n = cond (n == 0) (codes "no heirs" ++ (10 ∷ [])) (codes "all shares together are 1/1" ++ (10 ∷ []))

abbrev pub table_text : List (List ℕ) → Family → ℕ → List ℕ
table_text ns f d = heirs_lines ns f d (length f) ++ end_line (length (estate_ways f d))

-- the table, or the refusal of the estate
abbrev pub table_said : List (List ℕ) → Family → ℕ → List ℕ
table_said ns f d =
    cond (nat_lt d (length f)) (cond (dividable (estate f d)) (table_text ns f d) (codes "refused 6 at 0" ++ (10 ∷ []))) (codes "refused 4 at 0" ++ (10 ∷ []))

-- The last line is right: where anybody inherits, all shares of an estate that can be divided are the whole, if that is as many pieces as all parts divide.
unfoldable pub SharesAreOne : Type 0
SharesAreOne =
    (f : Family) (d : ℕ) → WellFormed f → dividable (estate f d) ≡ true → 0 < length (estate_ways f d) →
    all_shares (common_multiple (estate f d) 1) (shares_of (estate f d)) ≡ common_multiple (estate f d) 1
