use Rattle.std.proofs.Common.{[], ◌∷◌, ◌++◌, vec_items, sym, ap, ◌∙◌}
use Rattle.std.proofs.lemmas.List.{append-nil, map-append}
use Rattle.why.specs.Explained.{LinePart, explanation, explanations, parts_to, lowest_terms}
use Rattle.why.proofs.Heirs.{so_far_none, so_far_all, found_here, found_elsewhere}
use Rattle.why.proofs.put_ways.Goals as goal
use Rattle.why.proofs.put_ways.Goals.{then-way-heir+in_ok-explain+in_ok-push, else-way-heir}

pub loop-way-init : goal.loop-way-init
loop-way-init c =
    sym (append-nil (explanations (vec_items c.args.found.now)))
    ∙ ap (λ rs. explanations (vec_items c.args.found.now) ++ parts_to c.args.heir rs) (sym (so_far_none c.args.up c.args.ways.now))

pub loop-way-preserved : goal.loop-way-preserved
loop-way-preserved c =
    let entry = explanations (vec_items c.args.found.now) in
    let before = explanations (vec_items c.loop-way.found) in
    let x = c.way-item.result in
    elim c.if-way-heir.branch [
      | then-way-heir+in_ok-explain+in_ok-push w ↦
          found_here c.args.up c.args.ways.now c.args.heir c.loop-way.way-index x entry before (explanations (vec_items c.if-way-heir.found)) c.loop-way-test.true c.way-item.is
          w.if-way-heir.true c.loop-way.invariant
          (ap (λ v. explanations (vec_items v)) w.found-is ∙ ap explanations w.in_ok-push.ensures.items
          ∙ map-append explanation (vec_items c.loop-way.found) (_ ∷ [])
          ∙ ap (λ (e : LinePart). before ++ (e ∷ []))
          (w.in_ok-explain.ensures.value ∙ ap (λ l. record { line = l; part = lowest_terms c.args.up x.by }) w.deref.ensures.value))
      | else-way-heir w ↦
          ap (λ v. explanations (vec_items v)) w.found-is
          ∙ found_elsewhere c.args.up c.args.ways.now c.args.heir c.loop-way.way-index x entry before c.loop-way-test.true c.way-item.is w.if-way-heir.false c.loop-way.invariant
    ]

pub returns : goal.returns
returns c =
    record {
      value =
          c.loop-way.invariant
          ∙ ap (λ rs. explanations (vec_items c.args.found.now) ++ parts_to c.args.heir rs) (so_far_all c.args.up c.args.ways.now c.loop-way.way-index c.loop-way-test.false);
    }
