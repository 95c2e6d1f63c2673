use Rattle.std.proofs.Common.{rules, ◌≡◌, ◌<◌, [], ◌∷◌, ◌++◌, length, sym, refl, ap, ◌∙◌, subst, arith}
use Rattle.std.specs.List.{AllByRecursion}
use Rattle.std.specs.Array.Iter.{array_into_iter_items}
use Rattle.std.specs.Iterator.Adapters.{flatten_source, flatten_front, flatten_back, flatten_done}
use Rattle.law.specs.Family.{line_parts}
use Rattle.amounts.specs.Lines.{starts_parts}
use Rattle.shares.specs.Parts.{law_part}
use Rattle.people.specs.Layout.{limit_in}
use Rattle.descent.specs.Going.{with_parts, Small, Gone}
use Rattle.descent.proofs.Going.{stopped_below, gone_more}
use Rattle.succession.specs.Starts.{starts_row}
use Rattle.succession.proofs.Walks.{walk_begun, walk_met, walk_more, walk_ended, places_given, all_met, parts_met, parts_more, ready_met}
use Rattle.succession.proofs.relatives.Goals as goal

pub loop-start-init : goal.loop-start-init
loop-start-init c =
    let flat = c.flatten-start-items.ensures in
    let is = c.into_iter-start-iterator.ensures.into_iter_gives in
    let it = c.into_iter-start-iterator.result in
    let source = ap (λ z. array_into_iter_items (flatten_source z)) is ∙ ap array_into_iter_items flat.source ∙ c.into_iter.ensures.into_iter_gives.0 in (
      search rules,
      tt,
      refl,
      refl,
      omega arith,
      (
        walk_begun it (places_given _ (λ x j b. b.0) c.args.starts it source (ap flatten_front is ∙ flat.front) (ap flatten_back is ∙ flat.back) (ap flatten_done is ∙ flat.done)),
        λ n f rk spare rest begun there. (begun.words, refl, tt),
      ),
    )

pub line-requires-clause-there : goal.line-requires-clause-there
line-requires-clause-there c =
    let met = walk_met c.loop-start.start-iterator c.next.new.self c.in-Some.start c.loop-start.invariant.5.0 c.in-Some.ensures.steps in
    subst (λ n. c.in-Some.start.who < n) (sym c.loop-start.invariant.2)
    (all_met (λ q. q.who < limit_in c.args.memory.now) c.loop-start.invariant.5.0.done met.0 (starts_row c.args.starts) (law_part c.in-Some.start) met.1 c.requires.there)

pub returns-in_err-count-clause-gone : goal.returns-in_err-count-clause-gone
returns-in_err-count-clause-gone c = λ n f rk spare rest begun there.
    let x = c.in-Some.start in
    let w = c.loop-start.invariant.5.0 in
    let met = walk_met c.loop-start.start-iterator c.next.new.self x w c.in-Some.ensures.steps in
    let ready = ready_met c.args.memory.now c.loop-start.memory n f rk (starts_row c.args.starts) w.done met.0 (law_part x) spare rest c.loop-start.count begun there met.1 c.loop-start.invariant.4
    (c.loop-start.invariant.5.1 n f rk spare rest begun there) in
    subst (Gone n f spare rest [] (starts_parts f (starts_row c.args.starts)) c.line.new.memory) (sym c.from_residual.ensures)
    (stopped_below n f spare rest [] (line_parts f (length f) x.who x.by) (starts_parts f w.done) (starts_parts f met.0) (starts_parts f (starts_row c.args.starts)) c.line.new.memory
    (parts_met f w.done met.0 (starts_row c.args.starts) (law_part x) met.1) (c.in_err-count.ensures.gone n f rk (starts_parts f w.done) spare rest ready))

pub loop-start-preserved : goal.loop-start-preserved
loop-start-preserved c =
    let x = c.in-Some.start in
    let inv = c.loop-start.invariant in
    let w = inv.5.0 in
    let met = walk_met c.loop-start.start-iterator c.next.new.self x w c.in-Some.ensures.steps in (
      search rules,
      tt,
      c.line.ensures.limit ∙ inv.2,
      c.line.ensures.count ∙ inv.3,
      c.in_ok-count.ensures.within inv.4,
      (
        walk_more c.loop-start.start-iterator c.next.new.self x w c.in-Some.ensures.steps,
        λ n f rk spare rest begun there.
            let ready = ready_met c.args.memory.now c.loop-start.memory n f rk (starts_row c.args.starts) w.done met.0 (law_part x) spare rest c.loop-start.count begun there met.1 inv.4
            (inv.5.1 n f rk spare rest begun there) in
            let g = gone_more c.line.new.memory n f [] (starts_parts f w.done) (line_parts f (length f) x.who x.by) (starts_parts f (w.done ++ (law_part x ∷ []))) spare rest c.in_ok-count.count
            (parts_more f w.done (law_part x)) (c.in_ok-count.ensures.gone n f rk (starts_parts f w.done) spare rest ready) (inv.5.1 n f rk spare rest begun there).2 in
            (g.0, omega (arith, g.1), g.3),
      ),
    )

pub returns-clause-gone : goal.returns-clause-gone
returns-clause-gone c = λ n f rk spare rest begun there.
    let w = c.loop-start.invariant.5.0 in
    let i = c.loop-start.invariant.5.1 n f rk spare rest begun there in
    let all : starts_parts f w.done ≡ starts_parts f (starts_row c.args.starts) = ap (starts_parts f) (walk_ended c.loop-start.start-iterator c.next.new.self w c.in-None.ensures.steps) in
    let few = c.loop-start.invariant.4 in
    (omega (arith, i.1, ap length all), omega (arith, i.1, ap length all), i.0 ∙ ap (λ r. with_parts n f r spare rest) all, subst (AllByRecursion Small) all i.2)
