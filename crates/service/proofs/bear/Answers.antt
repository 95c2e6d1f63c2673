use Rattle.std.proofs.Common.{◌≡◌, ℕ, ◌≤◌, true, not, ◌&&◌, ◌||◌, eqb, leb, sym, ap, ◌∙◌, subst, arith}
use Rattle.std.proofs.lemmas.Bool.{and_parts, ltb-true, leb-true}
use Rattle.law.specs.Family.{Person}
use Rattle.law.specs.Calls.{newborn}
use Rattle.people.specs.Layout.{count_in, parents_fit}
use Rattle.people.specs.Persons.{law_person}
use Rattle.service.proofs.Births.{born_not_there, born_beyond, born_taken}
use Rattle.service.proofs.bear.Goals as goal

pub returns-in_default : goal.returns-in_default
returns-in_default c = record { served = λ ok. born_not_there c.args.memory.now c.args.mother c.args.father ok c.in_default.ensures.cases }

pub returns-in_default-below : goal.returns-in_default-below
returns-in_default-below c =
    record { served = λ ok. born_beyond c.args.memory.now c.args.mother c.args.father ok c.in-Some.ensures.cases.0 c.in_default-below.ensures.cases }

-- the parents of a newborn whom they may have are there
parents_there : (k m d : ℕ) (q : Person) → parents_fit k m d ≡ true → q ≡ newborn m d → (q.mother ≤ k) × (q.father ≤ k)
parents_there k m d q fit is =
    let u = and_parts (leb m k) (leb d k && (eqb m 0 || not (eqb m d))) fit in (
      subst (λ (x : Person). x.mother ≤ k) (sym is) (leb-true m k u.0),
      subst (λ (x : Person). x.father ≤ k) (sym is) (leb-true d k (and_parts (leb d k) (eqb m 0 || not (eqb m d)) u.1).0),
    )

pub add-requires : goal.add-requires
add-requires c =
    let child = c.in-Some.ensures.cases in
    let there = parents_there (count_in c.args.memory.now) c.args.mother c.args.father (law_person c.in-Some.child) child.0 child.1 in
    record {
      room = c.requires.room;
      free = ltb-true _ _ c.in-Some-below.ensures.cases.0;
      mother = there.0;
      father = there.1;
    }

pub begins-requires : goal.begins-requires
begins-requires c =
    let free = ltb-true _ _ c.in-Some-below.ensures.cases.0 in
    record {
      room = (omega (arith, c.add.ensures.limit), omega (arith, c.add.ensures.limit, c.add.ensures.count), omega (arith, c.add.ensures.limit));
      there = omega (arith, c.add.ensures.limit, c.in-Some-below.ensures.cases.1);
    }

pub returns : goal.returns
returns c =
    let child = c.in-Some.ensures.cases in
    let free = c.in-Some-below.ensures.cases in
    let m : c.in-Some.child.mother ≡ c.args.mother = ap (λ (x : Person). x.mother) child.1 in
    let d : c.in-Some.child.father ≡ c.args.father = ap (λ (x : Person). x.father) child.1 in
    record {
      served =
          λ ok.
          born_taken c.args.memory.now c.add.new.memory c.begins.new.memory c.args.mother c.args.father (law_person c.in-Some.child) c.in-Some-below.number ok
          child.0 free.0 child.1 free.1
          (λ n f s work rest e two other new.
          c.add.ensures.left n f s work rest e two (λ z. m ∙ other (sym m ∙ z ∙ d)) (new ∙ (λ i. newborn (sym m i) (sym d i))))
          c.begins.ensures.left;
    }
