use Rattle.std.proofs.Common.{◌≡◌, ◌+◌, length, None, refl, sym, subst, ◌∙◌, inl, inr, ⊎_elim, arith}
use Rattle.theory.specs.Living.{alive}
use Rattle.children.specs.Links.{link_row}
use Rattle.children.proofs.Walks.{walk_next}
use Rattle.people.specs.Layout.{person_row}
use Rattle.people.proofs.Layouts.{limit_laid}
use Rattle.passes.specs.Walking.{Passed}
use Rattle.passes.proofs.Walks.{before_none, before_some, before_next}
use Rattle.passes.proofs.Walk.child.Goals as goal

pub returns-in_err-child : goal.returns-in_err-child
returns-in_err-child c =
    let ws = c.args.memory.now in
    let w = c.args.self.now in
    let stays : Passed ws w None w =
    record {
      who = refl;
      within = tt;
      fewer = tt;
      next = λ n f work rest j held b.
          let l = limit_laid ws n (length f) (person_row f) (link_row f) (alive f) work rest held.0 in
          before_none f n w j held.1 b (⊎_elim (λ z. inl z) (λ z. inr (omega arith)) c.in_err-child.ensures.cases);
    } in
    record { step = subst (λ r. Passed ws w r w) (sym c.from_residual.ensures) stays }

pub returns : goal.returns
returns c =
    let w = c.args.self.now in
    let child = c.in_ok-child.child in
    let met = c.in_ok-child.ensures.cases in
    let took = c.in_ok-self.ensures in
    let fewer : c.in_ok-self.field-0 + 1 ≡ w.turns = omega arith in
    record {
      step =
          record {
            who = refl;
            within = met.1;
            fewer = fewer;
            next = λ n f work rest j held b.
                let first = before_some f w j child b met.0 in (
                  first,
                  before_next f w _ child j b refl fewer first
                      (c.next_child-self.ensures.value n (length f) f (alive f) work rest held.0 ∙ walk_next n f w.who j w.link child _ held.1 b.link met.0 refl),
                );
          };
    }
