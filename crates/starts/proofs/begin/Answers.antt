use Rattle.std.proofs.Common.{rules, ◌≡◌, ℕ, ◌+◌, ◌-◌, ◌*◌, List, [], ◌∷◌, length, get_or, refl, ap, ◌∙◌, arith}
use Rattle.std.specs.Array.Iter.{array_into_iter_items}
use Rattle.std.specs.Iterator.Adapters.{flatten_source, flatten_front, flatten_back, flatten_done}
use Rattle.std.proofs.lemmas.List.{length-append}
use Rattle.rows.proofs.Written.{get_or-written_before}
use Rattle.theory.specs.Living.{alive}
use Rattle.bits.specs.Sets.{no_member}
use Rattle.children.specs.Links.{link_row}
use Rattle.shares.specs.Parts.{law_part}
use Rattle.shares.specs.Work.{work_of, no_pieces}
use Rattle.people.specs.Layout.{person_row}
use Rattle.people.proofs.Layouts.{limit_laid}
use Rattle.descent.specs.Going.{with_parts}
use Rattle.descent.proofs.Rows.{work_written, part_put}
use Rattle.succession.specs.Starts.{starts_row}
use Rattle.succession.proofs.Settling.{there_more}
use Rattle.succession.proofs.Walks.{walk_begun, walk_met, walk_more, walk_ended, places_given, length-starts, done_fewer}
use Rattle.starts.proofs.begin.Goals as goal

pub loop-start-init : goal.loop-start-init
loop-start-init c =
    let flat = c.flatten-start-items.ensures in
    let is = c.into_iter-start-iterator.ensures.into_iter_gives in
    let it = c.into_iter-start-iterator.result in
    let source = ap (λ z. array_into_iter_items (flatten_source z)) is ∙ ap array_into_iter_items flat.source ∙ c.into_iter.ensures.into_iter_gives.0 in
    let four : length c.starts_of-starts.result ≡ 4 = search rules in (
      search rules,
      tt,
      refl,
      refl,
      omega (arith, length-starts c.starts_of-starts.result, ap (λ z. length (starts_row z)) source, four),
      (
        walk_begun it (places_given _ (λ x j b. b.0) _ it refl (ap flatten_front is ∙ flat.front) (ap flatten_back is ∙ flat.back) (ap flatten_done is ∙ flat.done)),
        refl,
        λ n f rk spare rest begun. begun.words,
      ),
    )

pub put_part-requires : goal.put_part-requires
put_part-requires c =
    let met = walk_met c.loop-start.start-iterator c.next.new.self c.in-Some.start c.loop-start.invariant.5.0 c.in-Some.ensures.steps in
    let fewer = done_fewer c.loop-start.invariant.5.0.done met.0 _ (law_part c.in-Some.start) met.1 in
    let count = c.loop-start.invariant.5.1 in
    let few = c.loop-start.invariant.4 in
    search rules

pub overflow_add-count : goal.overflow_add-count
overflow_add-count c =
    let met = walk_met c.loop-start.start-iterator c.next.new.self c.in-Some.start c.loop-start.invariant.5.0 c.in-Some.ensures.steps in
    let fewer = done_fewer c.loop-start.invariant.5.0.done met.0 _ (law_part c.in-Some.start) met.1 in
    let count = c.loop-start.invariant.5.1 in
    let few = c.loop-start.invariant.4 in
    search rules

pub loop-start-preserved : goal.loop-start-preserved
loop-start-preserved c =
    let x = c.in-Some.start in
    let inv = c.loop-start.invariant in
    let w = inv.5.0 in
    let mem = c.loop-start.memory in
    let at = c.work_at-at.result in
    let begins = c.work_at-at.ensures.value in
    let met = walk_met c.loop-start.start-iterator c.next.new.self x w c.in-Some.ensures.steps in
    let fewer = done_fewer w.done met.0 _ (law_part x) met.1 in
    let few = inv.4 in
    let q : List ℕ = x.who ∷ (x.by ∷ []) in
    let put = work_written mem c.put_part.new.work q at (length mem - at) (2 * c.loop-start.count) (omega (arith, begins)) c.put_part.ensures.left in (
      search rules,
      tt,
      ap (λ u. get_or u 0 0) put ∙ get_or-written_before (at + 2 * c.loop-start.count) 0 q mem 0 (omega (arith, begins)) ∙ inv.2,
      ap (λ u. get_or u 1 0) put ∙ get_or-written_before (at + 2 * c.loop-start.count) 1 q mem 0 (omega (arith, begins)) ∙ inv.3,
      inv.4,
      (
        walk_more c.loop-start.start-iterator c.next.new.self x w c.in-Some.ensures.steps,
        omega (arith, inv.5.1, length-append w.done (law_part x ∷ [])),
        λ n f rk spare rest begun.
            let l = limit_laid c.args.memory.now n (length f) (person_row f) (link_row f) (alive f) (work_of n [] no_member no_pieces spare) rest begun.words in
            put ∙ part_put mem n f w.done spare rest (law_part x) at c.loop-start.count (inv.5.2 n f rk spare rest begun) (omega (arith, begins)) inv.5.1 (omega arith),
      ),
    )

pub returns-clause-limit : goal.returns-clause-limit
returns-clause-limit c = c.loop-start.invariant.2

pub returns-clause-count : goal.returns-clause-count
returns-clause-count c = c.loop-start.invariant.3

pub returns-clause-within : goal.returns-clause-within
returns-clause-within c =
    let w = c.loop-start.invariant.5.0 in
    let few = c.loop-start.invariant.4 in
    omega (arith, c.loop-start.invariant.5.1, ap length w.cut, length-append w.done w.left)

pub returns-clause-put : goal.returns-clause-put
returns-clause-put c = λ n f rk spare rest begun there h o.
    let w = c.loop-start.invariant.5.0 in
    let source =
    ap (λ z. array_into_iter_items (flatten_source z)) c.into_iter-start-iterator.ensures.into_iter_gives ∙ ap array_into_iter_items c.flatten-start-items.ensures.source
    ∙ c.into_iter.ensures.into_iter_gives.0 in
    let all = walk_ended c.loop-start.start-iterator c.next.new.self w c.in-None.ensures.steps in
    let row = all ∙ ap starts_row source ∙ c.starts_of-starts.ensures.value n f (work_of n [] no_member no_pieces spare) rest begun.words (there_more f n begun.room there) o in
    record {
      words = c.loop-start.invariant.5.2 n f rk spare rest begun ∙ ap (λ r. with_parts n f r spare rest) row;
      next = omega (arith, c.loop-start.invariant.5.1, ap length row);
    }
