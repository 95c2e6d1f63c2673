use Rattle.std.proofs.Common.{◌≡◌, ℕ, ◌-◌, ◌<◌, true, get_or, sym, refl, ap, ◌∙◌, inl, inr, ⊎_elim, arith}
use Rattle.std.proofs.lemmas.List.{get_or-set_other}
use Rattle.law.specs.Family.{Person, person}
use Rattle.bits.specs.Sets.{with_member}
use Rattle.people.specs.Layout.{person_row, laid}
use Rattle.people.specs.Persons.{law_person}
use Rattle.people.proofs.Layouts.{person_laid, limit_laid}
use Rattle.living.specs.Marks.{raised}
use Rattle.living.proofs.Bits.{member_laid, changed_laid, raised_none, raised_in, raised_more}
use Rattle.living.proofs.+raise.Goals as goal

pub returns-then-steps-eq0 : goal.returns-then-steps-eq0
returns-then-steps-eq0 t c =
    record {
      limit = refl;
      count = refl;
      left = λ n k f links s work rest e wide there le.
          e ∙ ap (λ u. laid n k (person_row f) links u work rest) (raised_none c.args.steps f c.args.link s (inl c.if-steps-eq0.true));
    }

pub returns-in_default : goal.returns-in_default
returns-in_default t c =
    record {
      limit = refl;
      count = refl;
      left = λ n k f links s work rest e wide there le.
          let l = limit_laid c.args.memory.now n k (person_row f) links s work rest e in
          e ∙ ap (λ u. laid n k (person_row f) links u work rest)
          (raised_none c.args.steps f c.args.link s (inr (⊎_elim (λ z. z) (λ z. absurd (omega arith)) c.in_default.ensures.cases)));
    }

pub returns-then-contains : goal.returns-then-contains
returns-then-contains t c =
    let found = c.in-Some.ensures.cases in
    record {
      limit = refl;
      count = refl;
      left = λ n k f links s work rest e wide there le.
          let h : true ≡ s c.in-Some.who =
          member_laid c.args.memory.now n k f links s work rest c.marks_at-at.result c.in-Some.who true e wide c.marks_at-at.ensures.value (omega (arith, found.1))
          c.if-contains.ensures.sets in
          e ∙ ap (λ u. laid n k (person_row f) links u work rest) (raised_in c.args.steps f c.args.link c.in-Some.who s found.0 (sym h));
    }

pub returns : goal.returns
returns t c =
    let found = c.in-Some.ensures.cases in
    let ws = c.args.memory.now in
    let who = c.in-Some.who in
    record {
      limit = c.raise-2.ensures.limit ∙ c.raise.ensures.limit ∙ ap (λ u. get_or u 0 0) c.insert.ensures.left ∙ get_or-set_other ws _ 0 _ 0 (λ z. omega arith);
      count = c.raise-2.ensures.count ∙ c.raise.ensures.count ∙ ap (λ u. get_or u 1 0) c.insert.ensures.left ∙ get_or-set_other ws _ 1 _ 0 (λ z. omega arith);
      left = λ n k f links s work rest e wide there le.
          let small : who < 4096 = omega (arith, found.1) in
          let h : c.contains.result ≡ s who =
          member_laid ws n k f links s work rest c.marks_at-at.result who c.contains.result e wide c.marks_at-at.ensures.value small c.contains.ensures.sets in
          let put : c.insert.new.memory ≡ laid n k (person_row f) links (with_member s who) work rest =
          changed_laid ws c.insert.new.memory n k f links s work rest c.marks_at-at.result who (λ u. with_member u who) e wide c.marks_at-at.ensures.value small c.insert.ensures.sets in
          let l = limit_laid ws n k (person_row f) links s work rest e in
          let p : law_person c.read-someone.result ≡ person f who =
          c.read-someone.ensures.value ∙ person_laid c.insert.new.memory n k f links (with_member s who) work rest who put (omega (arith, found.1)) in
          let m : c.read-someone.result.mother ≡ (person f who).mother = ap (λ (q : Person). q.mother) p in
          let d : c.read-someone.result.father ≡ (person f who).father = ap (λ (q : Person). q.father) p in
          let steps : ℕ = c.args.steps - 1 in
          let first = c.raise.ensures.left n k f links (with_member s who) work rest put wide there (omega (arith, (there who).0)) in
          let second = c.raise-2.ensures.left n k f links _ work rest first wide there (omega (arith, (there who).1)) in
          second
          ∙ (λ i. laid n k (person_row f) links (raised steps f (d i) (raised steps f (m i) (with_member s who))) work rest)
          ∙ ap (λ u. laid n k (person_row f) links u work rest) (raised_more c.args.steps f c.args.link who s c.if-steps-eq0.false found.0 (sym h ∙ c.if-contains.false));
    }
