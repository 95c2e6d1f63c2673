use Rattle.std.proofs.Common.{◌≡◌, ℕ, true, false, refl, arith, rules}
use borrow.Author.Tests.{tests}
use Rattle.std.proofs.lemmas.Iterator.{YieldsList-from_range, cases_from_all}
use Rattle.people.specs.Layout.{count_in}
use Rattle.inspection.specs.Words.{row_fits}
use Rattle.inspection.proofs.Scans.{below_from_all}
use Rattle.inspection.proofs.rows_fit.Goals as goal

pub returns-clause-yes : goal.returns-clause-yes
returns-clause-yes c =
    let ws = c.args.memory.now in
    let k = count_in ws in
    let Yes : ℕ → Type 0 = λ p. row_fits ws p ≡ true in
    let No : ℕ → Type 0 = λ p. row_fits ws p ≡ false in
    below_from_all Yes No k c.all.result
    (cases_from_all c.all.new.self _ c.all.result Yes No c.all.ensures.ran (YieldsList-from_range 0 k k refl (omega arith)) (λ x q call. search (rules, tests))
    (λ x q call. search (rules, tests)))
