use Rattle.std.proofs.Common.{◌≡◌, ℕ, suc, ◌<◌, ◌⊎◌, Option, Some, None, MatchOption, ap, ◌∙◌, ⊎_elim, arith}
use Rattle.passes.proofs.Rows.{rowed_limit}
use Rattle.passes.proofs.listed_at.Goals as goal

-- whom a link leads to
led_to : (limit link q : ℕ) (r : Option ℕ) → MatchOption r ((link ≡ 0) ⊎ (limit < link)) (λ p. (link ≡ suc p) × (p < limit)) → link ≡ suc q → q < limit → r ≡ Some q
led_to limit link q None none is there = absurd (⊎_elim (λ z. omega arith) (λ z. omega arith) none)
led_to limit link q (Some p) some is there = let e = some.0 in ap (λ k. Some k) (let z : p ≡ q = omega arith in z)

pub returns-clause-value : goal.returns-clause-value
returns-clause-value c n f ps rows spare rest q held listed there =
    let l = rowed_limit held in
    led_to _ _ q c.somebody.result c.somebody.ensures.cases (c.word_at.ensures.value n f ps rows spare rest held ∙ listed) (omega arith)
