use Rattle.std.proofs.Common.{refl, sym, ◌∙◌, arith}
use Rattle.theory.specs.Living.{alive}
use Rattle.passes.proofs.Walks.{ahead_lives, ahead_passed, ahead_over}
use Rattle.passes.proofs.Walk.next.Goals as goal

pub loop-child-init : goal.loop-child-init
loop-child-init c = record { who = refl; turns = omega arith; ahead = λ n f work rest ds held a. a }

pub child-requires-clause-there : goal.child-requires-clause-there
child-requires-clause-there c = omega (arith, c.loop-child.invariant.who, c.requires.there)

pub returns-then-lives : goal.returns-then-lives
returns-then-lives c =
    let inv = c.loop-child.invariant in
    let step = c.in-Some.ensures.step in
    record {
      step =
          record {
            who = step.who ∙ inv.who;
            within = step.within;
            fewer = omega (arith, step.fewer, inv.turns);
            next = λ n f work rest ds held a.
                let now = inv.ahead n f work rest ds held a in
                let on = step.next n f work rest now.left.0 held now.left.1 in
                ahead_lives f c.loop-child.self c.child.new.self ds c.in-Some.child now step.who on.0 on.1 (sym (c.lives.ensures.value n _ f (alive f) work rest held.0) ∙ c.if-lives.true);
          };
    }

pub loop-child-preserved : goal.loop-child-preserved
loop-child-preserved c =
    let inv = c.loop-child.invariant in
    let step = c.in-Some.ensures.step in
    record {
      who = step.who ∙ inv.who;
      turns = omega (arith, step.fewer, inv.turns);
      ahead = λ n f work rest ds held a.
          let now = inv.ahead n f work rest ds held a in
          let on = step.next n f work rest now.left.0 held now.left.1 in
          ahead_passed f c.loop-child.self c.child.new.self ds c.in-Some.child now step.who on.0 on.1 (sym (c.lives.ensures.value n _ f (alive f) work rest held.0) ∙ c.if-lives.false);
    }

pub returns : goal.returns
returns c =
    let inv = c.loop-child.invariant in
    let step = c.in_default.ensures.step in
    record {
      step =
          record {
            who = step.who ∙ inv.who;
            within = tt;
            fewer = tt;
            next = λ n f work rest ds held a.
                let now = inv.ahead n f work rest ds held a in
                ahead_over f c.loop-child.self ds now (step.next n f work rest now.left.0 held now.left.1);
          };
    }
