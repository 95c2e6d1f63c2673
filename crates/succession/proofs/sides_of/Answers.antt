use Rattle.std.proofs.Common.{◌+◌, ◌≤◌, ltb, length, filter, sym, ◌∙◌, subst, arith}
use Rattle.std.specs.Int.{from_bool}
use Rattle.law.specs.Family.{side_lives}
use Rattle.theory.specs.Living.{alive}
use Rattle.succession.specs.Orders.{forebears}
use Rattle.succession.proofs.Lines.{at_most_one, length-forebears, parents_within}
use Rattle.succession.proofs.Grandparents.{side_in}
use Rattle.succession.proofs.sides_of.Goals as goal

pub returns : goal.returns
returns c =
    let one = c.from.ensures in
    let two = c.from-2.ensures in
    let a = c.args.two.mother in
    let b = c.args.two.father in
    record {
      few = omega (arith, one, two, at_most_one (ltb 0 c.living_lines.result), at_most_one (ltb 0 c.living_lines-2.result));
      value = λ n f work rest e there m d.
          let mother = c.parents_of-mother.ensures.value n (length f) f (alive f) work rest e m in
          let father = c.parents_of-father.ensures.value n (length f) f (alive f) work rest e d in
          let ms = parents_within f n a there in
          let ds = parents_within f n b there in
          let k = c.living_lines.ensures.value n (length f) f (alive f) work rest e (subst (λ x. x.mother ≤ n) (sym mother) ms.0) (subst (λ x. x.father ≤ n) (sym mother) ms.1) in
          let j = c.living_lines-2.ensures.value n (length f) f (alive f) work rest e (subst (λ x. x.mother ≤ n) (sym father) ds.0) (subst (λ x. x.father ≤ n) (sym father) ds.1) in (
            mother,
            father,
            (λ i. one i + two i)
                ∙ (λ i. from_bool (ltb 0 (k i)) + from_bool (ltb 0 (j i)))
                ∙ (λ i. from_bool (ltb 0 (length (filter (alive f) (forebears (mother i))))) + from_bool (ltb 0 (length (filter (alive f) (forebears (father i))))))
                ∙ (λ i. from_bool (side_in f a i) + from_bool (side_in f b i))
                ∙ sym (length-forebears (λ p. side_lives f (length f) p) a b),
          );
    }
