use Rattle.std.proofs.Common.{◌≡◌, ◌||◌, length, sym, ap, ◌∙◌, arith, rules}
use Rattle.std.proofs.lemmas.Iterator.Consumers.{YieldsList-from_first}
use Rattle.std.proofs.lemmas.Iterator.Search.{any_from_yields_List}
use Rattle.law.specs.Family.{Person, person, children, some_of}
use Rattle.children.specs.Links.{link_row}
use Rattle.people.specs.Layout.{person_row}
use Rattle.people.specs.Persons.{law_person}
use Rattle.people.specs.Walking.{children_left}
use Rattle.people.proofs.Layouts.{limit_laid, person_laid}
use Rattle.living.proofs.Raising.{support_lives}
use Rattle.living.proofs.Scans.{some_any}
use Rattle.living.proofs.is_supported.Goals as goal

pub returns-then-read : goal.returns-then-read
returns-then-read c =
    let ws = c.args.memory.now in
    let p = c.args.who in
    record {
      value = λ n f s work rest held.
          let l = limit_laid ws n (length f) (person_row f) (link_row f) s work rest held.0 in
          let q : law_person c.read.result ≡ person f p = c.read.ensures.value ∙ person_laid ws n (length f) f (link_row f) s work rest p held.0 (omega (arith, c.requires.there)) in
          c.if-read.true ∙ sym (support_lives f s p (sym (ap (λ (x : Person). x.lives) q) ∙ c.if-read.true));
    }

pub returns-else-read : goal.returns-else-read
returns-else-read c =
    let ws = c.args.memory.now in
    let p = c.args.who in
    record {
      value = λ n f s work rest held.
          let e = held.0 in
          let l = limit_laid ws n (length f) (person_row f) (link_row f) s work rest e in
          let q : law_person c.read.result ≡ person f p = c.read.ensures.value ∙ person_laid ws n (length f) f (link_row f) s work rest p e (omega (arith, c.requires.there)) in
          any_from_yields_List s c.any.new.self _ c.any.result c.any.ensures.ran
          (YieldsList-from_first (λ x. x) children_left {s = c.of.result} (children f p) (c.of.ensures.value n f s work rest e held.1)) (λ x b q k. search rules)
          ∙ some_any s (children f p) ∙ ap (λ b. b || some_of s (children f p)) (sym (sym (ap (λ (x : Person). x.lives) q) ∙ c.if-read.false));
    }
