-- The first of the rows that are left. Assumes nothing.
use Rattle.std.proofs.Common.{◌≡◌, ◌∷◌, take, drop, length, sym, ap, ◌∙◌, arith}
use Rattle.std.proofs.lemmas.Bool.{eqb-true, eqb-false}
use Rattle.wire.specs.Bytes.{read}
use Rattle.report.specs.Lines.{row_size, file_calls, calls_left}
use Rattle.report.proofs.Files.{calls_none, calls_more}
use Rattle.report.proofs.RowsIterator.next.Goals as goal

pub returns-then-is_empty-clause-steps : goal.returns-then-is_empty-clause-steps
returns-then-is_empty-clause-steps c =
    let e = eqb-true _ _ (sym c.is_empty.ensures ∙ c.if-is_empty.true) in
    let none = calls_none c.args.self.now.rest.now (omega arith) in
    (none, none)

pub returns : goal.returns
returns c =
    let bs = c.args.self.now.rest.now in
    let e = eqb-false _ _ (sym c.is_empty.ensures ∙ c.if-is_empty.false) in
    let row : c.split_at.result.0.now ≡ take (row_size bs) bs = c.split_at.ensures.front ∙ ap (λ n. take n bs) c.row_size.ensures.value in
    let rest : c.split_at.result.1.now ≡ drop (row_size bs) bs = c.split_at.ensures.back ∙ ap (λ n. drop n bs) c.row_size.ensures.value in
    let steps : calls_left c.args.self.now ≡ read c.split_at.result.0.now ∷ calls_left (record { rest = c.split_at.result.1 }) =
    calls_more bs (omega arith) ∙ (λ i. read (sym row i) ∷ file_calls (sym rest i))
    in
    record { steps = steps; goes = record { on = λ f. (tt, tt, omega (arith, ap length steps)); keeps = tt; rests = λ f. tt } }
