use Rattle.std.proofs.Common.{◌≡◌, ℕ, ◌+◌, ◌*◌, ◌<◌, ◌≤◌, ltb, List, length, Some, None, Option, sym, ◌∙◌, arith, rules}
use Rattle.std.specs.Option.{IfSome, MatchOption, is_some}
use Rattle.std.proofs.lemmas.Bool.{ltb-true, ltb-false}
use Rattle.std.proofs.lemmas.Option.{IfSome_then}
use Rattle.law.specs.Family.{person}
use Rattle.people.specs.declared.Person.{Person}
use Rattle.people.specs.Layout.{person_at, count_in, family_in}
use Rattle.people.specs.Persons.{law_person}
use Rattle.people.proofs.Layouts.{length-family, person_found}
use Rattle.people.proofs.find.Goals as goal

found :
    (ws : List ℕ) (who : ℕ) (r : Option Person) → is_some r ≡ ltb who (count_in ws) → IfSome r (λ e. law_person e ≡ person_at ws (2 + 4 * who)) →
    MatchOption r (length (family_in ws) ≤ who) (λ e. (who < length (family_in ws)) × (law_person e ≡ person (family_in ws) who))
found ws who None there is = let h = ltb-false who (count_in ws) (sym there) in omega (arith, length-family ws)
found ws who (Some e) there is =
    let h : who < count_in ws = ltb-true who (count_in ws) (sym there) in (omega (arith, length-family ws), is ∙ sym (person_found ws who h))

pub returns : goal.returns
returns c =
    record { cases = found c.args.memory.now c.args.who c.then.result c.then.ensures.variant (IfSome_then c.then.result c.then.ensures.some (λ e h. search rules)) }
