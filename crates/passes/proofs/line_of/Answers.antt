use Rattle.std.proofs.Common.{◌≡◌, ◌<◌, [], ◌∷◌, length, get_or, sum_by, length-append, unwrap_or, sym, refl, ap, ◌∙◌, subst, arith}
use Rattle.law.specs.Calls.{common_multiple}
use Rattle.amounts.specs.Passes.{few, numbered}
use Rattle.living.specs.Places.{Held}
use Rattle.theory.specs.Living.{alive}
use Rattle.people.specs.Layout.{limit_in}
use Rattle.amounts.specs.Lines.{divided_among}
use Rattle.passes.specs.Rows.{rows_area}
use Rattle.passes.specs.Walking.{Ahead}
use Rattle.passes.specs.declared.Lines.{Lines}
use Rattle.passes.proofs.Walks.{all_walked}
use Rattle.passes.proofs.Steps.{parts_more, common_more, common_none, parts_all, common_all}
use Rattle.passes.proofs.line_of.Goals as goal

pub loop-child-init : goal.loop-child-init
loop-child-init c =
    record {
      can = tt;
      finite = tt;
      words = ap (λ (s : Lines). s.memory.now) c.into_iter-child-iterator.ensures.into_iter_gives ∙ c.lines_below-child-items.ensures.words;
      lines = refl;
      fits = omega arith;
      value = λ n f ps rows spare rest held. (refl, sym common_none);
    }

pub entry-requires-clause-there : goal.entry-requires-clause-there
entry-requires-clause-there c = subst (λ ws. c.in-Some.child < limit_in ws) c.loop-child.invariant.words c.in-Some.ensures.steps.1.within

pub loop-child-preserved : goal.loop-child-preserved
loop-child-preserved c =
    let child = c.in-Some.child in
    let inv = c.loop-child.invariant in
    let fewer = c.in-Some.ensures.steps.1.fewer in
    record {
      can = tt;
      finite = tt;
      words = c.next.ensures.steps.0 ∙ inv.words;
      lines = omega (arith, length-append c.loop-child.yielded (child ∷ []));
      fits = omega arith;
      value = λ n f ps rows spare rest held.
          let all = inv.value n f ps rows spare rest held in
          let line = c.entry.ensures.value n f ps rows spare rest held in (
            parts_more rows.counts c.loop-child.yielded child _ _ _ all.0 line.0 c.together-all.ensures.parts,
            common_more rows.multiples c.loop-child.yielded child _ _ _ all.1 line.1 c.together-all.ensures.multiple,
          );
    }

pub returns : goal.returns
returns c =
    record {
      value = λ n f ps rows spare rest held.
          let ds = divided_among f c.args.who in
          let work = rows_area ps rows spare in
          let begun = c.into_iter-child-iterator.ensures.into_iter_gives in
          let words = ap (λ (s : Lines). s.memory.now) begun ∙ c.lines_below-child-items.ensures.words in
          let inv = c.loop-child.invariant in
          let is : c.loop-child.yielded ≡ ds =
          all_walked (λ (s : Lines). s.memory.now) (λ (s : Lines). s.walk) f n work rest c.loop-child.yielded ds c.into_iter-child-iterator.result c.loop-child.child-iterator c.next.new.self
          c.loop-child.yielded_by c.in-None.ensures.steps (subst (λ ws. Held ws n f (alive f) work rest) (sym words) (held.words, held.room))
          (subst (λ (s : Lines). Ahead f s.walk ds) (sym begun) (c.lines_below-child-items.ensures.start n f work rest (held.words, held.room))) in
          let all = inv.value n f ps rows spare rest held in
          let lines : c.loop-child.lines ≡ length ds = inv.lines ∙ ap length is in (
            c.divided.ensures.parts ∙ parts_all rows.counts ds c.loop-child.lines c.loop-child.all.parts lines (all.0 ∙ ap (λ xs. few (sum_by (λ p. get_or rows.counts p 0) xs)) is),
            c.divided.ensures.multiple
                ∙ common_all rows.multiples ds c.loop-child.lines (unwrap_or c.loop-child.all.multiple 0) lines (all.1 ∙ ap (λ xs. common_multiple (numbered rows.multiples xs) 1) is),
          );
    }
