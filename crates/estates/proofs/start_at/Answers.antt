use Rattle.std.proofs.Common.{◌≡◌, MatchOption, get_or, sym, ap, ◌∙◌, subst, arith}
use Rattle.std.specs.Bool.{then_some}
use Rattle.std.proofs.lemmas.Bool.{lt-ltb}
use Rattle.law.specs.Family.{Part}
use Rattle.shares.specs.Parts.{law_part}
use Rattle.passes.proofs.Rows.{rowed_limit}
use Rattle.estates.proofs.Areas.{start_read}
use Rattle.estates.proofs.start_at.Goals as goal

pub returns-clause-value : goal.returns-clause-value
returns-clause-value c n f ps rows spare rest none held h there =
    let start = c.part_at-start.result in
    let l = rowed_limit held in
    let read : law_part start ≡ get_or ps c.args.index none = c.part_at-start.ensures.value ∙ start_read held c.args.index c.work_at-at.result none h (omega (arith, c.work_at-at.ensures.value)) in
    let who = ap (λ (q : Part). q.who) read in
    subst (λ o. MatchOption o ⊥ (λ p. law_part p ≡ get_or ps c.args.index none)) (sym (c.then_some.ensures ∙ ap (λ b. then_some b start) (lt-ltb start.who _ (omega arith)))) read
