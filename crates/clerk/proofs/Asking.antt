-- A register in which a family came about answers by that family. Assumes nothing.
use Rattle.std.proofs.Common.{◌≡◌, ℕ, List, [], length, drop, ap, ◌∙◌, arith}
use Rattle.std.proofs.lemmas.List.{drop_all}
use Rattle.law.specs.Family.{Family}
use Rattle.law.specs.Calls.{Call}
use Rattle.law.specs.Promise.{Memory, ran, left_by, all_calls}
use Rattle.theory.specs.Answers.{answer_to}
use Rattle.people.specs.Layout.{image}
use Rattle.service.specs.Desks.{desk, state, says}
use Rattle.register.proofs.Promises.{own_left, own_said}
use Rattle.report.specs.Lines.{file_limits}
use Rattle.text.specs.Households.{ValidFamily}
use Rattle.text.specs.Building.{calls_of, family_limits, Built}
use Rattle.text.proofs.Builds.{built}

-- what a register says after the calls of a valid family, if it was opened in just as many words as it asks for
pub answers_by : (ws : List ℕ) (f : Family) (m before : Memory) (c : Call) → ValidFamily f → length ws ≡ 25600 → before ≡ (desk all_calls (drop 25600 ws)).opened (file_limits all_calls) →
    m ≡ left_by (desk all_calls []) before (calls_of f) → says all_calls m c ≡ answer_to family_limits f c
unfolding Built
answers_by ws f m before c valid long e q =
    let all = calls_of f in
    let start : before ≡ state (image 64 [] []) = e ∙ ap (λ (rest : List ℕ). (desk all_calls rest).opened (file_limits all_calls)) (drop_all 25600 ws (omega arith)) in
    let left = own_left all_calls [] 64 [] all (omega arith) in
    let same : ran family_limits [] all ≡ f = (built f valid).1 in
    let here : m ≡ state (image 64 f []) = q ∙ (ap (λ (u : Memory). left_by (desk all_calls []) u all) start ∙ (left.0 ∙ ap (λ (g : Family). state (image 64 g [])) same)) in
    ap (λ (u : Memory). says all_calls u c) here ∙ own_said all_calls [] 64 f c valid.few
