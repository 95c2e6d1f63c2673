use Rattle.std.proofs.Common.{◌≡◌, ℕ, ◌&&◌, ltb, length, refl, rules}
use borrow.Author.Tests.{tests}
use Rattle.std.proofs.lemmas.Iterator.{YieldsList-from_range, cases_from_all}
use Rattle.living.specs.Marks.{supported}
use Rattle.inspection.proofs.Scans.{below_from_all, all_from_below}
use Rattle.inspection.proofs.marks_fit.Goals as goal

pub returns-clause-yes : goal.returns-clause-yes
returns-clause-yes c n f s work rest held =
    let Yes : ℕ → Type 0 = λ p. s p ≡ (ltb p (length f) && supported f s p) in
    let No : ℕ → Type 0 = λ p. s p ≡ (ltb p (length f) && supported f s p) → ⊥ in
    below_from_all Yes No 4096 c.all.result
    (cases_from_all c.all.new.self _ c.all.result Yes No c.all.ensures.ran (YieldsList-from_range 0 4096 4096 refl refl) (λ x q call. search (rules, tests))
    (λ x q call. search (rules, tests)))

pub returns-clause-no : goal.returns-clause-no
returns-clause-no c n f s work rest held right =
    let Yes : ℕ → Type 0 = λ p. s p ≡ (ltb p (length f) && supported f s p) in
    let No : ℕ → Type 0 = λ p. s p ≡ (ltb p (length f) && supported f s p) → ⊥ in
    all_from_below Yes No 4096 c.all.result
    (cases_from_all c.all.new.self _ c.all.result Yes No c.all.ensures.ran (YieldsList-from_range 0 4096 4096 refl refl) (λ x q call. search (rules, tests))
    (λ x q call. search (rules, tests)))
    (λ p yes no. no yes) right
