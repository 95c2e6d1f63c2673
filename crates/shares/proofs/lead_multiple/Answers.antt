-- The least number that one part divides, or none. Assumes nothing.
use Rattle.std.proofs.Common.{rules, ◌≡◌, ℕ, Some, None, Option, MatchOption, sym, ap, ◌∙◌}
use Rattle.law.specs.Calls.{common_multiple}
use Rattle.shares.specs.Parts.{law_part, lead_parts, word_number}
use Rattle.shares.specs.declared.Part.{Part}
use Rattle.theory.specs.Multiples.{lcm}
use Rattle.shares.proofs.Multiples.{multiple_one, multiple_end}
use Rattle.shares.proofs.lead_multiple.Goals as goal

-- of whether there is one
multiple_of : (lead : Option Part) (r : Option ℕ) → MatchOption lead (r ≡ Some 1) (λ p. r ≡ word_number (lcm 1 p.by)) → r ≡ word_number (common_multiple (lead_parts lead) 1)
multiple_of None r e = e ∙ ap word_number (sym (multiple_end 1))
multiple_of (Some p) r e = e ∙ sym (multiple_one (law_part p))

pub returns : goal.returns
returns c = let l = multiple_of c.args.lead c.map_or.result in search rules
