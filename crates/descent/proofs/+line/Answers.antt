use Rattle.std.proofs.Common.{◌≡◌, ℕ, ◌+◌, ◌*◌, ◌<◌, ◌≤◌, true, ◌⊎◌, List, ◌++◌, length, take, drop, Some, sym, refl, ap, ◌∙◌, subst, inl, inr, ⊎_elim, arith, IfSome}
use Rattle.std.specs.List.{AllByRecursion}
use Rattle.std.proofs.lemmas.List.{take_all}
use Rattle.law.specs.Family.{Family, Part, children, line_parts}
use Rattle.theory.specs.Living.{alive}
use Rattle.bits.specs.Sets.{no_member}
use Rattle.children.specs.Links.{link_row, first_of}
use Rattle.children.proofs.Walks.{walk_child, walk_next}
use Rattle.shares.specs.Work.{work_of, no_pieces}
use Rattle.people.specs.Layout.{person_row, limit_in, count_in}
use Rattle.people.specs.Persons.{law_person}
use Rattle.people.proofs.Layouts.{limit_laid, laid_count}
use Rattle.living.proofs.Scans.{walk_all}
use Rattle.descent.specs.Going.{with_parts, Small, Gone, parts_below}
use Rattle.descent.proofs.Going.{below_more, below_same, below_split, read_lives, divided, line_too_large, line_standing, stopped_below, ready_child, gone_more}
use Rattle.descent.proofs.+line.Goals as goal
use Rattle.descent.proofs.+line.Goals.{then-lives+in_ok-at, else-lives}

pub returns-then-steps-eq0 : goal.returns-then-steps-eq0
returns-then-steps-eq0 t c =
    record {
      limit = refl;
      count = refl;
      within = λ h. h;
      gone = λ n f rk ps spare rest ready. let w = ready.ranked.within c.args.who ready.there in absurd (omega (arith, ready.enough, c.if-steps-eq0.true));
    }

pub returns-then-read : goal.returns-then-read
returns-then-read t c =
    let ws = c.args.memory.now in
    record {
      limit = c.put_heir.ensures.limit;
      count = c.put_heir.ensures.count;
      within = c.put_heir.ensures.within;
      gone = λ n f rk ps spare rest ready.
          subst (λ row. Gone n f spare rest ps row c.put_heir.new.memory c.put_heir.result)
          (sym (line_standing ready.ranked c.args.who c.args.by (read_lives ready (law_person c.read.result) c.read.ensures.value ∙ c.if-read.true)))
          (c.put_heir.ensures.gone n f ps spare rest ready.words ready.parts ready.few);
    }

pub returns-in_err-each : goal.returns-in_err-each
returns-in_err-each t c =
    let ws = c.args.memory.now in
    record {
      limit = refl;
      count = refl;
      within = λ h. subst (λ r. IfSome r (λ k. k ≤ 4096)) (sym c.from_residual.ensures) tt;
      gone = λ n f rk ps spare rest ready.
          let large : 4294967296 ≤ c.args.by * c.living_children.result = omega (arith, c.in_err-each.ensures) in
          let k = c.living_children.ensures.value n f (alive f) (work_of n ps no_member no_pieces spare) rest (ready.words, ready.room) in
          subst (Gone n f spare rest ps (line_parts f (length f) c.args.who c.args.by) ws) (sym c.from_residual.ensures) (
            inr (line_too_large ready.ranked c.args.who c.args.by (read_lives ready (law_person c.read.result) c.read.ensures.value ∙ c.if-read.false)
                (subst (λ j. 4294967296 ≤ c.args.by * j) k large)),
            (ps, ready.few, ready.words),
          );
    }

pub returns-in_err-at : goal.returns-in_err-at
returns-in_err-at t c =
    let ws = c.args.memory.now in
    let who = c.args.who in
    let each = c.in_ok-each.each in
    let i = c.loop-turn.turn in
    let child = c.in-Some.child in
    let met = c.in-Some.ensures.cases in
    record {
      limit = c.line.ensures.limit ∙ c.loop-turn.invariant.0;
      count = c.line.ensures.count ∙ c.loop-turn.invariant.1;
      within = λ h. subst (λ r. IfSome r (λ k. k ≤ 4096)) (sym c.from_residual-in_err-at.ensures) tt;
      gone = λ n f rk ps spare rest ready.
          let cs = children f who in
          let xs = parts_below f each (take i cs) in
          let inv = c.loop-turn.invariant.3 n f rk ps spare rest ready in
          let walk = walk_child f who i c.loop-turn.link child inv.0 met.0 in
          let lives : alive f child ≡ true = sym (c.if-lives.ensures.value n (length f) f (alive f) (work_of n (ps ++ xs) no_member no_pieces spare) rest inv.1) in
          let row =
          divided ready (law_person c.read.result) c.read.ensures.value c.args.by each c.living_children.result c.if-read.false c.living_children.ensures.value c.in_ok-each.ensures.1 in
          subst (Gone n f spare rest ps (line_parts f (length f) who c.args.by) c.line.new.memory) (sym c.from_residual-in_err-at.ensures)
          (stopped_below n f spare rest ps (line_parts f (length f) child each) xs (parts_below f each (drop (i + 1) cs)) (line_parts f (length f) who c.args.by) c.line.new.memory
          (row ∙ below_split f each cs i child walk.0 walk.1 lives)
          (c.in_err-at.ensures.gone n f rk (ps ++ xs) spare rest
          (ready_child ws c.loop-turn.memory n f rk ps xs spare rest c.args.steps who c.args.count child c.loop-turn.at ready inv.1 inv.2 inv.3 (walk.2, walk.3) c.if-steps-eq0.false)));
    }

pub loop-turn-preserved : goal.loop-turn-preserved
loop-turn-preserved t c =
    let ws = c.args.memory.now in
    let who = c.args.who in
    let each = c.in_ok-each.each in
    let i = c.loop-turn.turn in
    let child = c.in-Some.child in
    let met = c.in-Some.ensures.cases in (
      elim c.if-lives.branch
          [ then-lives+in_ok-at w ↦ ap limit_in w.memory-is ∙ w.line.ensures.limit ∙ c.loop-turn.invariant.0 | else-lives w ↦ ap limit_in w.memory-is ∙ c.loop-turn.invariant.0 ],
      elim c.if-lives.branch
          [ then-lives+in_ok-at w ↦ ap count_in w.memory-is ∙ w.line.ensures.count ∙ c.loop-turn.invariant.1 | else-lives w ↦ ap count_in w.memory-is ∙ c.loop-turn.invariant.1 ],
      λ h.
          elim c.if-lives.branch [
            | then-lives+in_ok-at w ↦ subst (λ k. k ≤ 4096) (sym w.at-is) (w.in_ok-at.ensures.within (c.loop-turn.invariant.2 h))
            | else-lives w ↦ subst (λ k. k ≤ 4096) (sym w.at-is) (c.loop-turn.invariant.2 h)
          ],
      λ n f rk ps spare rest ready.
          let cs = children f who in
          let xs = parts_below f each (take i cs) in
          let ys = parts_below f each (take (i + 1) cs) in
          let inv = c.loop-turn.invariant.3 n f rk ps spare rest ready in
          let walk = walk_child f who i c.loop-turn.link child inv.0 met.0 in
          let lives = c.lives.ensures.value n (length f) f (alive f) (work_of n (ps ++ xs) no_member no_pieces spare) rest inv.1 in
          let more : (c.if-lives.memory ≡ with_parts n f (ps ++ ys) spare rest) × (c.if-lives.at ≡ length ps + length ys) × (c.if-lives.at ≤ 4096) × AllByRecursion Small ys =
          elim c.if-lives.branch [
            | then-lives+in_ok-at w ↦
                let g =
                gone_more w.line.new.memory n f ps xs (line_parts f (length f) child each) ys spare rest w.in_ok-at.at
                (below_more f each cs i child walk.0 walk.1 (sym lives ∙ w.if-lives.true))
                (w.in_ok-at.ensures.gone n f rk (ps ++ xs) spare rest
                (ready_child ws c.loop-turn.memory n f rk ps xs spare rest c.args.steps who c.args.count child c.loop-turn.at ready inv.1 inv.2 inv.3 (walk.2, walk.3)
                c.if-steps-eq0.false))
                inv.4 in
                (w.memory-is ∙ g.0, w.at-is ∙ g.1, subst (λ k. k ≤ 4096) (sym w.at-is) g.2, g.3)
            | else-lives w ↦
                let same = below_same f each cs i child walk.0 walk.1 (sym lives ∙ w.if-lives.false) in (
                  w.memory-is ∙ inv.1 ∙ ap (λ r. with_parts n f (ps ++ r) spare rest) (sym same),
                  w.at-is ∙ inv.2 ∙ ap (λ r. length ps + length r) (sym same),
                  subst (λ k. k ≤ 4096) (sym w.at-is) inv.3,
                  subst (AllByRecursion Small) (sym same) inv.4,
                )
          ] in (
            c.next_child-link.ensures.value n (length f) f (alive f) (work_of n (ps ++ ys) no_member no_pieces spare) rest more.0
                ∙ walk_next n f who i c.loop-turn.link child _ ready.room inv.0 met.0 refl,
            more.0,
            more.1,
            more.2,
            more.3,
          ),
    )

-- all children were gone down
ended :
    (n : ℕ) (f : Family) (rk : ℕ → ℕ) (ps : List Part) (spare rest : List ℕ) (who by each turn link at : ℕ) (mem : List ℕ) (row : List Part) → length f ≤ n →
    row ≡ parts_below f each (children f who) → link ≡ first_of (drop turn (children f who)) → (length f ≤ turn) ⊎ ((link ≡ 0) ⊎ (n < link)) →
    mem ≡ with_parts n f (ps ++ parts_below f each (take turn (children f who))) spare rest → at ≡ length ps + length (parts_below f each (take turn (children f who))) → at ≤ 4096 →
    AllByRecursion Small (parts_below f each (take turn (children f who))) → Gone n f spare rest ps row mem (Some at)
ended n f rk ps spare rest who by each turn link at mem row room is inv end e long few small =
    let all : parts_below f each (take turn (children f who)) ≡ row =
    ap (λ xs. parts_below f each xs) (take_all turn (children f who) (walk_all f who turn n link room inv end)) ∙ sym is in
    let same : length (parts_below f each (take turn (children f who))) ≡ length row = ap length all in
    (omega arith, omega arith, e ∙ ap (λ r. with_parts n f (ps ++ r) spare rest) all, subst (AllByRecursion Small) all small)

pub returns-after-loop-turn : goal.returns-after-loop-turn
returns-after-loop-turn t c =
    let ws = c.args.memory.now in
    let who = c.args.who in
    record {
      limit = c.loop-turn.invariant.0;
      count = c.loop-turn.invariant.1;
      within = c.loop-turn.invariant.2;
      gone = λ n f rk ps spare rest ready.
          let inv = c.loop-turn.invariant.3 n f rk ps spare rest ready in
          let count : count_in ws ≡ length f = ap count_in ready.words ∙ laid_count n (length f) (person_row f) (link_row f) (alive f) (work_of n ps no_member no_pieces spare) rest in
          ended n f rk ps spare rest who c.args.by c.in_ok-each.each c.loop-turn.turn c.loop-turn.link c.loop-turn.at c.loop-turn.memory _ ready.room
          (divided ready (law_person c.read.result) c.read.ensures.value c.args.by c.in_ok-each.each c.living_children.result c.if-read.false c.living_children.ensures.value c.in_ok-each.ensures.1)
          inv.0 (inl (omega arith)) inv.1 inv.2 inv.3 inv.4;
    }

pub returns-in_default : goal.returns-in_default
returns-in_default t c =
    let ws = c.args.memory.now in
    let who = c.args.who in
    record {
      limit = c.loop-turn.invariant.0;
      count = c.loop-turn.invariant.1;
      within = c.loop-turn.invariant.2;
      gone = λ n f rk ps spare rest ready.
          let inv = c.loop-turn.invariant.3 n f rk ps spare rest ready in
          let l = limit_laid ws n (length f) (person_row f) (link_row f) (alive f) (work_of n ps no_member no_pieces spare) rest ready.words in
          ended n f rk ps spare rest who c.args.by c.in_ok-each.each c.loop-turn.turn c.loop-turn.link c.loop-turn.at c.loop-turn.memory _ ready.room
          (divided ready (law_person c.read.result) c.read.ensures.value c.args.by c.in_ok-each.each c.living_children.result c.if-read.false c.living_children.ensures.value c.in_ok-each.ensures.1)
          inv.0 (inr (⊎_elim (λ z. inl z) (λ z. inr (omega (arith, c.loop-turn.invariant.0))) c.in_default.ensures.cases)) inv.1 inv.2 inv.3 inv.4;
    }
