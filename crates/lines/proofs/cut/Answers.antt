-- What is before and behind a word. Assumes nothing.
use Rattle.std.proofs.Common.{rules, ℕ, ◌+◌, ◌≤◌, List, length, take, drop, Some, ap, ◌∙◌, arith}
use Rattle.std.specs.Option.{option_map}
use Rattle.std.proofs.lemmas.List.{length-drop, take_rest}
use Rattle.lines.specs.Words.{halves, StandsFirst}
use Rattle.lines.proofs.Cuts.{begins_long, cut_nowhere, cut_first}
use Rattle.lines.proofs.cut.Goals as goal

pub returns-in_err-at : goal.returns-in_err-at
returns-in_err-at c =
    record { value = ap (option_map halves) c.from_residual.ensures ∙ cut_nowhere c.args.word.now c.args.text.now c.in_err-at.ensures.cases }

-- the word fits where it stands
fits : (w bs : List ℕ) (at : ℕ) → StandsFirst w bs at → at + length w ≤ length bs
fits w bs at h = omega (arith, begins_long w (drop at bs) h.here, length-drop at bs, h.inside)

pub slice_bounds-result-end : goal.slice_bounds-result-end
slice_bounds-result-end c = let h = c.in_ok-at.ensures.cases.inside in search rules

pub overflow_add-result : goal.overflow_add-result
overflow_add-result c = let h = fits _ _ _ c.in_ok-at.ensures.cases in search rules

pub slice_bounds-result-count : goal.slice_bounds-result-count
slice_bounds-result-count c = omega (arith, fits _ _ _ c.in_ok-at.ensures.cases)

pub slice_bounds-result-start : goal.slice_bounds-result-start
slice_bounds-result-start c = let h = fits _ _ _ c.in_ok-at.ensures.cases in search rules

pub returns : goal.returns
returns c =
    let bs = c.args.text.now in
    let w = c.args.word.now in
    let at = c.in_ok-at.at in
    record {
      value =
          ap (λ (xs : List ℕ). Some (record { before = take at bs; behind = xs })) (take_rest bs (at + length w))
          ∙ cut_first w bs at c.in_ok-at.ensures.cases;
    }
