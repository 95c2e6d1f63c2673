use Rattle.std.proofs.Common.{◌≡◌, ℕ, suc, ◌-◌, Bool, true, false, cond, length, Some, None, sym, refl, ap, ◌∙◌, ⊎_elim, arith}
use Rattle.std.specs.Bool.{then_some}
use Rattle.std.proofs.lemmas.Bool.{cond-false}
use Rattle.children.specs.Links.{link_row}
use Rattle.people.specs.Layout.{person_row}
use Rattle.people.proofs.Layouts.{limit_laid}
use Rattle.living.specs.Marks.{unsupported}
use Rattle.living.proofs.if_unsupported.Goals as goal

pub returns-in_err-who-clause-value : goal.returns-in_err-who-clause-value
returns-in_err-who-clause-value c n f s work rest held room =
    let l = limit_laid c.args.memory.now n (length f) (person_row f) (link_row f) s work rest held.0 in
    let none : c.args.link ≡ 0 = ⊎_elim (λ z. z) (λ z. absurd (omega arith)) c.in_err-who.ensures.cases in
    c.from_residual.ensures ∙ sym (cond-false (unsupported f s c.args.link) (Some (c.args.link - 1)) None (ap (λ k. unsupported f s k) none))

some_if : (b : Bool) (x : ℕ) → then_some b x ≡ cond b (Some x) None
some_if true x = refl
some_if false x = refl

pub returns-clause-value : goal.returns-clause-value
returns-clause-value c n f s work rest held room =
    let some : c.args.link ≡ suc c.in_ok-who.who = c.in_ok-who.ensures.cases.0 in
    let who : c.in_ok-who.who ≡ c.args.link - 1 = omega arith in
    let is : c.is_unsupported.result ≡ unsupported f s c.args.link = c.is_unsupported.ensures.value n f s work rest held ∙ ap (λ k. unsupported f s k) (sym some) in
    c.then_some.ensures ∙ some_if c.is_unsupported.result c.in_ok-who.who ∙ (λ i. cond (is i) (Some (who i)) None)
