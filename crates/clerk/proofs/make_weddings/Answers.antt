-- All weddings. Assumes nothing.
use Rattle.law.specs.Promise.{all_calls}
use Rattle.service.specs.declared.stage.AllCalls.{AllCalls}
use Rattle.std.proofs.Common.{◌-◌, sym, ap, ◌∙◌, arith}
use Rattle.std.proofs.lemmas.List.{length-map}
use Rattle.law.specs.Family as law
use Rattle.law.specs.Calls.{wed}
use Rattle.people.specs.Persons.{law_person}
use Rattle.text.specs.declared.Member.{Member}
use Rattle.text.specs.Households.{persons_of}
use Rattle.service.specs.Desks.{next}
use Rattle.register.specs.declared.session.Register.{Register}
use Rattle.report.specs.Lines.{memory_of}
use Rattle.text.proofs.Spouses.{person_there}
use Rattle.clerk.proofs.Calling.{weddings_more, weddings_none, weddings_all}
use Rattle.clerk.proofs.make_weddings.Goals as goal
use Rattle.clerk.proofs.make_weddings.Goals.{then-place-spouse, else-place-spouse}

pub loop-place-preserved : goal.loop-place-preserved
loop-place-preserved c =
    let ms = c.args.members.now in
    let i = c.loop-place.place in
    let m = memory_of c.loop-place.register in
    let later = memory_of c.if-place-spouse.register in
    let there = person_there ms i in
    let spouse = ap (λ (p : law.Person). p.spouse) there in
    let long = length-map ms (λ (m : Member). law_person m.person) in
    elim c.if-place-spouse.branch [
      | then-place-spouse w ↦ (
        weddings_more (persons_of ms) i m later _ (omega arith) (omega (arith, w.if-place-spouse.true))
            (ap memory_of w.register-is ∙ (w.make.ensures.left ∙ ap (λ (p : law.Person). next all_calls m (wed i (p.spouse - 1))) (sym there))) c.loop-place.invariant.0,
        ap (λ (r : Register AllCalls). r.store.now.memory.ghost_name) w.register-is ∙ (w.make.ensures.words ∙ c.loop-place.invariant.1),
        ap (λ (r : Register AllCalls). r.store.now.answer.ghost_name) w.register-is ∙ (w.make.ensures.bytes ∙ c.loop-place.invariant.2),
      )
      | else-place-spouse w ↦ (
        weddings_none (persons_of ms) i m later _ (omega arith) (omega (arith, w.if-place-spouse.false)) (ap memory_of w.register-is) c.loop-place.invariant.0,
        ap (λ (r : Register AllCalls). r.store.now.memory.ghost_name) w.register-is ∙ c.loop-place.invariant.1,
        ap (λ (r : Register AllCalls). r.store.now.answer.ghost_name) w.register-is ∙ c.loop-place.invariant.2,
      )
    ]

pub returns : goal.returns
returns c =
    let ms = c.args.members.now in
    record {
      left = weddings_all (persons_of ms) c.loop-place.place (memory_of c.loop-place.register) _ (omega (arith, length-map ms (λ (m : Member). law_person m.person))) c.loop-place.invariant.0;
      words = c.loop-place.invariant.1;
      bytes = c.loop-place.invariant.2;
    }
