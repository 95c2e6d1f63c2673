-- The first of the shares that are left. Assumes nothing.
use Rattle.std.proofs.Common.{◌≡◌, ◌∷◌, length, ap, ◌∙◌, sym, arith}
use Rattle.wire.specs.Bytes.{law_share, shares_left}
use Rattle.wire.proofs.ReadBack.{shares_none, shares_first}
use Rattle.wire.proofs.SharesInIterator.next.Goals as goal

pub returns-in_err-first-clause-steps : goal.returns-in_err-first-clause-steps
returns-in_err-first-clause-steps c =
    let none = shares_none c.args.self.now.rest.now (omega (arith, c.in_err-first.ensures.cases)) in
    rw c.from_residual.ensures (none, none)

pub returns : goal.returns
returns c =
    let cut = c.in_ok-first.ensures.cases in
    let steps : shares_left c.args.self.now ≡ law_share c.share_at.result ∷ shares_left (record { rest = c.in_ok-first.rest }) =
    shares_first c.args.self.now.rest.now c.in_ok-first.first.now c.in_ok-first.rest.now cut.0 cut.1 cut.2
    ∙ ap (λ s. s ∷ shares_left (record { rest = c.in_ok-first.rest })) (sym c.share_at.ensures.value)
    in
    record { steps = steps; goes = record { on = λ f. (tt, tt, omega (arith, ap length steps)); keeps = tt; rests = λ f. tt } }
