use Rattle.std.proofs.Common.{◌<◌, ◌≤◌, length, filter, sym, ap, ◌∙◌, subst, add-one, arith}
use Rattle.law.specs.Family.{side_lives}
use Rattle.theory.specs.Living.{alive}
use Rattle.children.specs.Links.{link_row}
use Rattle.people.specs.Layout.{person_row}
use Rattle.people.proofs.Layouts.{limit_laid}
use Rattle.succession.specs.Orders.{forebears, parents_at}
use Rattle.succession.proofs.Inheriting.{order_second, order_third, order_nobody}
use Rattle.succession.proofs.order_of.Goals as goal

pub returns-then-living_lines-gt0 : goal.returns-then-living_lines-gt0
returns-then-living_lines-gt0 c =
    let ws = c.args.memory.now in
    let who = c.args.who in
    record {
      value = λ n f work rest e there.
          let l = limit_laid ws n (length f) (person_row f) (link_row f) (alive f) work rest e in
          let dead = sym (c.lives.ensures.value n (length f) f (alive f) work rest e) ∙ c.if-lives.false in
          let two = c.parents_of-two.ensures.value n (length f) f (alive f) work rest e (omega arith) ∙ ap (λ z. parents_at f z) (add-one who) in
          let k = c.living_lines.ensures.value n (length f) f (alive f) work rest e (subst (λ x. x.mother ≤ n) (sym two) (there who).0) (subst (λ x. x.father ≤ n) (sym two) (there who).1) in
          let lines = k ∙ ap (λ x. length (filter (alive f) (forebears x))) two in
          order_second f who dead (subst (λ j. 0 < j) lines c.if-living_lines-gt0.true);
    }

pub returns-then-sides_of-gt0 : goal.returns-then-sides_of-gt0
returns-then-sides_of-gt0 c =
    let ws = c.args.memory.now in
    let who = c.args.who in
    record {
      value = λ n f work rest e there.
          let l = limit_laid ws n (length f) (person_row f) (link_row f) (alive f) work rest e in
          let dead = sym (c.lives.ensures.value n (length f) f (alive f) work rest e) ∙ c.if-lives.false in
          let two = c.parents_of-two.ensures.value n (length f) f (alive f) work rest e (omega arith) ∙ ap (λ z. parents_at f z) (add-one who) in
          let m = subst (λ x. x.mother ≤ n) (sym two) (there who).0 in
          let d = subst (λ x. x.father ≤ n) (sym two) (there who).1 in
          let lines = c.living_lines.ensures.value n (length f) f (alive f) work rest e m d ∙ ap (λ x. length (filter (alive f) (forebears x))) two in
          let sides = (c.sides_of.ensures.value n f work rest e there m d).2 ∙ ap (λ x. length (filter (λ p. side_lives f (length f) p) (forebears x))) two in
          order_third f who dead (let z = c.if-living_lines-gt0.false in omega (arith, lines)) (subst (λ j. 0 < j) sides c.if-sides_of-gt0.true);
    }

pub returns : goal.returns
returns c =
    let ws = c.args.memory.now in
    let who = c.args.who in
    record {
      value = λ n f work rest e there.
          let l = limit_laid ws n (length f) (person_row f) (link_row f) (alive f) work rest e in
          let dead = sym (c.lives.ensures.value n (length f) f (alive f) work rest e) ∙ c.if-lives.false in
          let two = c.parents_of-two.ensures.value n (length f) f (alive f) work rest e (omega arith) ∙ ap (λ z. parents_at f z) (add-one who) in
          let m = subst (λ x. x.mother ≤ n) (sym two) (there who).0 in
          let d = subst (λ x. x.father ≤ n) (sym two) (there who).1 in
          let lines = c.living_lines.ensures.value n (length f) f (alive f) work rest e m d ∙ ap (λ x. length (filter (alive f) (forebears x))) two in
          let sides = (c.sides_of.ensures.value n f work rest e there m d).2 ∙ ap (λ x. length (filter (λ p. side_lives f (length f) p) (forebears x))) two in
          order_nobody f who dead (let z = c.if-living_lines-gt0.false in omega (arith, lines)) (let z = c.if-sides_of-gt0.false in omega (arith, sides));
    }
