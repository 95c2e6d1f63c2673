use Rattle.std.proofs.Common.{◌≡◌, ℕ, ◌-◌, length, get_or, Some, None, refl, ap, ◌∙◌, arith}
use Rattle.std.proofs.lemmas.List.{get_or-set_other}
use Rattle.law.specs.Family.{Person, person}
use Rattle.bits.specs.Sets.{without_member}
use Rattle.children.specs.Links.{link_row}
use Rattle.people.specs.Layout.{person_row, laid}
use Rattle.people.specs.Persons.{law_person}
use Rattle.children.proofs.Links.{links_wide}
use Rattle.people.proofs.Layouts.{person_laid, limit_laid}
use Rattle.living.specs.Marks.{parents_out}
use Rattle.living.specs.Places.{first_unsupported}
use Rattle.living.proofs.Bits.{changed_laid, lowered_none, some_out, parents_none, parents_more, parents_both, parents_stop}
use Rattle.living.proofs.+lower.Goals as goal

pub returns-then-steps-eq0 : goal.returns-then-steps-eq0
returns-then-steps-eq0 t c =
    record {
      limit = refl;
      count = refl;
      left = λ n f s work rest held there.
          held.0 ∙ ap (λ u. laid n (length f) (person_row f) (link_row f) u work rest) (lowered_none c.args.steps f c.args.who s c.if-steps-eq0.true);
    }

pub loop-turn-init : goal.loop-turn-init
loop-turn-init t c = (
  refl,
  refl,
  λ n f s work rest held there. held.0 ∙ ap (λ u. laid n (length f) (person_row f) (link_row f) u work rest) (parents_none (c.args.steps - 1) f c.args.who s),
)

pub returns-in_default : goal.returns-in_default
returns-in_default t c =
    record {
      limit = c.loop-turn.invariant.0;
      count = c.loop-turn.invariant.1;
      left = λ n f s work rest held there.
          let who = c.args.who in
          let l = limit_laid c.args.memory.now n (length f) (person_row f) (link_row f) s work rest held.0 in
          let q : law_person c.read-someone.result ≡ person f who =
          c.read-someone.ensures.value ∙ person_laid c.args.memory.now n (length f) f (link_row f) s work rest who held.0 (omega arith) in
          let m : c.read-someone.result.mother ≡ (person f who).mother = ap (λ (x : Person). x.mother) q in
          let d : c.read-someone.result.father ≡ (person f who).father = ap (λ (x : Person). x.father) q in
          let now = c.loop-turn.invariant.2 n f s work rest held there in
          let u = parents_out c.loop-turn.turn (c.args.steps - 1) f who s in
          let none : None ≡ first_unsupported f u (person f who).mother (person f who).father =
          c.in_default.ensures.value n f u work rest (now, held.1) (omega (arith, (there who).0)) (omega (arith, (there who).1)) ∙ (λ i. first_unsupported f u (m i) (d i)) in
          now ∙ ap (λ v. laid n (length f) (person_row f) (link_row f) v work rest) (parents_stop c.loop-turn.turn c.args.steps f who s c.if-steps-eq0.false c.loop-turn-test.true none);
    }

pub loop-turn-preserved : goal.loop-turn-preserved
loop-turn-preserved t c =
    let ws = c.loop-turn.memory in
    let limits = c.lower.ensures.limit ∙ ap (λ u. get_or u 0 0) c.remove.ensures.left ∙ get_or-set_other ws _ 0 _ 0 (λ z. omega arith) ∙ c.loop-turn.invariant.0 in (
      limits,
      c.lower.ensures.count ∙ ap (λ u. get_or u 1 0) c.remove.ensures.left ∙ get_or-set_other ws _ 1 _ 0 (λ z. omega arith) ∙ c.loop-turn.invariant.1,
      λ n f s work rest held there.
          let who = c.args.who in
          let steps : ℕ = c.args.steps - 1 in
          let l = limit_laid c.args.memory.now n (length f) (person_row f) (link_row f) s work rest held.0 in
          let q : law_person c.read-someone.result ≡ person f who =
          c.read-someone.ensures.value ∙ person_laid c.args.memory.now n (length f) f (link_row f) s work rest who held.0 (omega arith) in
          let m : c.read-someone.result.mother ≡ (person f who).mother = ap (λ (x : Person). x.mother) q in
          let d : c.read-someone.result.father ≡ (person f who).father = ap (λ (x : Person). x.father) q in
          let now = c.loop-turn.invariant.2 n f s work rest held there in
          let u = parents_out c.loop-turn.turn steps f who s in
          let p = c.in-Some.parent in
          let some : Some p ≡ first_unsupported f u (person f who).mother (person f who).father =
          c.in-Some.ensures.value n f u work rest (now, held.1) (omega (arith, (there who).0)) (omega (arith, (there who).1)) ∙ (λ i. first_unsupported f u (m i) (d i)) in
          let out : c.remove.new.memory ≡ laid n (length f) (person_row f) (link_row f) (without_member u p) work rest =
          changed_laid ws c.remove.new.memory n (length f) f (link_row f) u work rest c.marks_at-at.result p (λ v. without_member v p) now (links_wide f)
          (omega (arith, c.marks_at-at.ensures.value, c.loop-turn.invariant.0)) (omega (arith, c.in-Some.ensures.within, c.loop-turn.invariant.0)) c.remove.ensures.sets in
          c.lower.ensures.left n f (without_member u p) work rest (out, held.1) there
          ∙ ap (λ v. laid n (length f) (person_row f) (link_row f) v work rest) (some_out steps f who p u some ∙ parents_more c.loop-turn.turn steps f who s),
    )

pub returns : goal.returns
returns t c =
    record {
      limit = c.loop-turn.invariant.0;
      count = c.loop-turn.invariant.1;
      left = λ n f s work rest held there.
          let two : c.loop-turn.turn ≡ 2 = omega arith in
          c.loop-turn.invariant.2 n f s work rest held there
          ∙ ap (λ v. laid n (length f) (person_row f) (link_row f) v work rest) (parents_both c.loop-turn.turn c.args.steps f c.args.who s c.if-steps-eq0.false two);
    }
