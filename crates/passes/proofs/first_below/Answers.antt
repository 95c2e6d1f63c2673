use Rattle.std.proofs.Common.{◌≡◌, [], length, drop, filter, sym, ap, ◌∙◌, arith}
use Rattle.std.proofs.lemmas.Bool.{cond-true, cond-false}
use Rattle.std.proofs.lemmas.List.{drop_all}
use Rattle.law.specs.Family.{Person, person, children}
use Rattle.theory.specs.Living.{alive, lines_below}
use Rattle.children.specs.Links.{link_row, first_of}
use Rattle.people.specs.Layout.{person_row}
use Rattle.people.specs.Persons.{law_person}
use Rattle.people.proofs.Layouts.{limit_laid, person_laid}
use Rattle.passes.proofs.Walks.{first_none}
use Rattle.passes.proofs.first_below.Goals as goal

pub returns-then-read : goal.returns-then-read
returns-then-read c =
    let ws = c.args.memory.now in
    let who = c.args.who in
    record {
      value = λ n f work rest held.
          let l = limit_laid ws n (length f) (person_row f) (link_row f) (alive f) work rest held.0 in
          let cs = children f who in
          let q : law_person c.read.result ≡ person f who =
          c.read.ensures.value ∙ person_laid ws n (length f) f (link_row f) (alive f) work rest who held.0 (omega arith) in
          let none : drop (length cs) cs ≡ [] = drop_all (length cs) cs (omega arith) in (
            length cs,
            sym (ap first_of none ∙ first_none),
            cond-true (person f who).lives [] (lines_below f (length f) who) (sym (ap (λ (x : Person). x.lives) q) ∙ c.if-read.true) ∙ sym (ap (filter (alive f)) none),
          );
    }

pub returns : goal.returns
returns c =
    let ws = c.args.memory.now in
    let who = c.args.who in
    record {
      value = λ n f work rest held.
          let l = limit_laid ws n (length f) (person_row f) (link_row f) (alive f) work rest held.0 in
          let q : law_person c.read.result ≡ person f who =
          c.read.ensures.value ∙ person_laid ws n (length f) f (link_row f) (alive f) work rest who held.0 (omega arith) in (
            0,
            c.first_child.ensures.value n (length f) f (alive f) work rest held.0,
            cond-false (person f who).lives [] (lines_below f (length f) who) (sym (ap (λ (x : Person). x.lives) q) ∙ c.if-read.false),
          );
    }
